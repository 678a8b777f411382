-- A byte stands among some where it stands there at least once. Assumes nothing.
use Prim.Native.Nat.{ℕ, ◌+◌}
use mathlib.Core.Path.{◌≡◌, refl, sym}
use mathlib.Core.List.{List, [], ◌∷◌}
use native.Mathlib.Decide.{ℕ_discrete}
use native.Mathlib.Nat.{zero-add}
use native.Mathlib.Omega.{arith}
use borrow.Author.Tests.{eq-eqb, ne_eqb, lt-ltb}
use lib.Dec.{eqb, ltb}
use Rattle.std.specs.List.{list_any}
use Rattle.meaning.specs.Design.{occ}

pub any-occurs : (x : ℕ) (xs : List ℕ) → list_any (λ y. eqb y x) xs ≡ ltb 0 (occ x xs)
unfolding occ
any-occurs x [] = refl
any-occurs x (y ∷ ys) = go (any-occurs x ys) (ℕ_discrete x y)
  where
    go : list_any (λ z. eqb z x) ys ≡ ltb 0 (occ x ys) → Dec (x ≡ y) → list_any (λ z. eqb z x) (y ∷ ys) ≡ ltb 0 (occ x (y ∷ ys))
    go later (yes e) = rw (eq-eqb y x (sym e), eq-eqb x y e) (sym (lt-ltb 0 (1 + occ x ys) (omega arith)))
    go later (no n) = rw (ne_eqb y x (λ e. n (sym e)), ne_eqb x y n, zero-add) later
