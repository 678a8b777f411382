-- A test of each element of a part of a list, and of each of so many places. Assumes nothing.
use Prim.Native.Nat.{ℕ, zero, suc, ◌+◌, ◌-◌, ◌≤◌}
use mathlib.Core.Path.{◌≡◌, refl, sym, ap, ap₂, ◌∙◌}
use mathlib.Core.Bool.{Bool, true, false, ◌&&◌}
use mathlib.Core.List.{List}
use native.Mathlib.Numerals.{add-one}
use native.Mathlib.Omega.{arith}
use lib.ListN.{length, get_or, take, drop}
use Rattle.std.proofs.Common.{length-drop}
use native.Mathlib.Nat.{add_comm}
use Rattle.std.specs.List.{list_all}
use Rattle.std.proofs.lemmas.List.{get_or-drop}
use Rattle.std.proofs.lemmas.List.Folds.{list_all_more}
use Rattle.algebra.specs.Ranges.{all}
use Rattle.algebra.proofs.Tests.{all_cong}

swapped : (a b : Bool) → (a && b) ≡ (b && a)
swapped true true = refl
swapped true false = refl
swapped false true = refl
swapped false false = refl

crossed : (a b c d : Bool) → ((a && b) && (c && d)) ≡ ((a && c) && (b && d))
crossed true b true d = refl
crossed true true false d = refl
crossed true false false d = refl
crossed false b c d = refl

-- the first n elements pass a test where each of the first n places does
pub all-first : (p : ℕ → Bool) (ys : List ℕ) (n : ℕ) → n ≤ length ys → list_all p (take n ys) ≡ all n (λ k. p (get_or ys k 0))
all-first p ys zero h = refl
all-first p ys (suc n) h =
    ap (λ (m : ℕ). list_all p (take m ys)) (sym (add-one n)) ∙ list_all_more p ys n 0 (omega arith) ∙ swapped (list_all p (take n ys)) (p (get_or ys n 0))
    ∙ ap (λ (b : Bool). p (get_or ys n 0) && b) (all-first p ys n (omega arith))

-- two tests of the same places are one
pub all-both : (n : ℕ) (p q : ℕ → Bool) → (all n p && all n q) ≡ all n (λ k. p k && q k)
all-both zero p q = refl
all-both (suc n) p q = crossed (p n) (all n p) (q n) (all n q) ∙ ap (λ (b : Bool). (p n && q n) && b) (all-both n p q)

-- the elements of a part pass one test, and those of the same part of another list a second
pub both-parts : (p q : ℕ → Bool) (xs ys : List ℕ) (from count : ℕ) → from + count ≤ length xs → from + count ≤ length ys
    → (list_all p (take (from + count - from) (drop from xs)) && list_all q (take (from + count - from) (drop from ys)))
    ≡ all count (λ k. p (get_or xs (k + from) 0) && q (get_or ys (k + from) 0))
both-parts p q xs ys from count h g =
    ap₂ ◌&&◌ (part p xs h) (part q ys g) ∙ all-both count (λ k. p (get_or xs (k + from) 0)) (λ k. q (get_or ys (k + from) 0))
  where
    part : (t : ℕ → Bool) (zs : List ℕ) → from + count ≤ length zs
        → list_all t (take (from + count - from) (drop from zs)) ≡ all count (λ k. t (get_or zs (k + from) 0))
    part t zs l =
        let e : from + count - from ≡ count = omega arith in
        rw e (all-first t (drop from zs) count (omega (arith, length-drop from zs))
        ∙ all_cong count _ _ (λ k m. ap t (get_or-drop from zs k 0 ∙ ap (λ (i : ℕ). get_or zs i 0) (add_comm from k))))
