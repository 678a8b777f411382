-- The shift that takes an element to 0: there is one and no other. Assumes nothing.
use Prim.Native.Nat.{ℕ, ◌+◌, ◌-◌, ◌%◌, ◌≤◌, ◌<◌}
use mathlib.Core.Bool.{false}
use mathlib.Core.Path.{◌≡◌, sym, ap, subst, ◌∙◌}
use native.Mathlib.Nat.{mod-lt, mod_self, add-mod-mod}
use native.Mathlib.Omega.{arith}
use lib.Dec.{eqb}
use borrow.Author.Tests.{eq-eqb, ne_eqb}
use Rattle.algebra.specs.Groups.{Group}
use Rattle.algebra.proofs.Groups.{less, less-closed, reaches, same_shift}
use Rattle.algebra.proofs.Tests.{first-is}
use Rattle.records.specs.declared.Head.{Head}
use Rattle.meaning.specs.Design.{by_field, plus}
use Rattle.design.specs.Addition.{back}

module _ (h : Head) (g : Group h.n (plus h)) where
  -- a shift that takes x to 0 is the one
  pub back_is : (x s : ℕ) → x < h.n → s < h.n → plus h x s ≡ 0 → back h x ≡ s
  unfolding back
  back_is x s l m e = first-is (λ s. eqb (plus h x s) 0) 0 h.n s (omega arith) (omega arith) before (eq-eqb (plus h x s) 0 e)
    where
      apart : (j : ℕ) → j < s → j ≡ s → ⊥
      apart j o q = omega arith

      before : (j : ℕ) → 0 ≤ j → j < s → eqb (plus h x j) 0 ≡ false
      before j u o = ne_eqb (plus h x j) 0 (λ z. apart j o (same_shift h.n (plus h) g x j s l (omega arith) m (z ∙ sym e)))

  -- it is 0 less x
  pub back-less : (x : ℕ) → x < h.n → back h x ≡ less h.n (plus h) g 0 x
  back-less x l = back_is x (less h.n (plus h) g 0 x) l (less-closed h.n (plus h) g 0 x (omega arith) l) (reaches h.n (plus h) g 0 x (omega arith) l)

  -- it is a shift
  pub back_below : (x : ℕ) → x < h.n → back h x < h.n
  back_below x l = subst (λ (s : ℕ). s < h.n) (sym (back-less x l)) (less-closed h.n (plus h) g 0 x (omega arith) l)

  -- of a residue it is n less x
  pub back_residue : by_field h ≡ false → (x : ℕ) → x < h.n → (h.n - x) % h.n ≡ back h x
  unfolding plus
  back_residue f x l = sym (back_is x ((h.n - x) % h.n) l (mod-lt (h.n - x) (omega arith)) zero)
    where
      whole : x + (h.n - x) ≡ h.n
      whole = omega arith

      zero : plus h x ((h.n - x) % h.n) ≡ 0
      zero = rw f (add-mod-mod x (h.n - x) h.n ∙ ap (λ (k : ℕ). k % h.n) whole ∙ mod_self h.n)
