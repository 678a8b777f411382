-- Worked rows that pin the definitions of ranges and of buffers: a definition that computes anything else is refused here. Assumes nothing.
use Prim.Native.Nat.{ℕ, ◌+◌, ◌*◌}
use mathlib.Core.Bool.{Bool, true, false, not, ◌&&◌}
use mathlib.Core.List.{List, [], ◌∷◌}
use mathlib.Core.Path.{◌≡◌, refl}
use lib.Dec.{eqb, ltb}
use lib.IntN.{pos, negsuc, neg_ℤ}
use Rattle.algebra.specs.Ranges.{sum, sum_ℕ, all, first_from, eq_z}
use Rattle.algebra.specs.Buffers.{over, write}

-- whether two lists of naturals are equal
abbrev same : List ℕ → List ℕ → Bool
same [] [] = true
same [] (y ∷ ys) = false
same (x ∷ xs) [] = false
same (x ∷ xs) (y ∷ ys) = let r = same xs ys in eqb x y && r

-- whether a buffer and a place are those of the row
abbrev left : List ℕ × ℕ → List ℕ → ℕ → Bool
left (out, at) want next = same out want && eqb at next

-- sums: none, one, several, and terms of both signs
sums : Bool
sums =
    eq_z (sum 0 (λ i. pos 7)) (pos 0)
    && eq_z (sum 1 (λ i. pos 7)) (pos 7)
    && eq_z (sum 4 (λ i. pos (i * i))) (pos 14)
    && eq_z (sum 5 (λ i. neg_ℤ (pos i))) (negsuc 9)
    && eqb (sum_ℕ 0 (λ i. 7)) 0
    && eqb (sum_ℕ 5 (λ i. i * i)) 30

-- tests and searches: of none, of some, at the first and at the last number
tests : Bool
tests =
    all 0 (λ i. false)
    && all 5 (λ i. ltb i 5)
    && not (all 5 (λ i. ltb 0 i))
    && not (all 5 (λ i. ltb i 4))
    && eqb (first_from (λ i. ltb 3 (i * i)) 0 9) 2
    && eqb (first_from (λ i. true) 4 9) 4
    && eqb (first_from (λ i. eqb i 8) 3 6) 8
    && eqb (first_from (λ i. eqb i 9) 3 6) 9
    && eqb (first_from (λ i. false) 3 6) 9

-- equal whole numbers
equals : Bool
equals =
    eq_z (pos 3) (pos 3) && eq_z (negsuc 3) (negsuc 3) && not (eq_z (pos 3) (pos 4)) && not (eq_z (pos 3) (negsuc 3)) && not (eq_z (negsuc 3) (pos 3))
    && not (eq_z (negsuc 3) (negsuc 2))

-- a list written over from the front: none, some, all, and more than there is
fillings : Bool
fillings =
    same (over 0 (λ i. i) (7 ∷ 8 ∷ 9 ∷ [])) (7 ∷ 8 ∷ 9 ∷ [])
    && same (over 2 (λ i. i + 1) (7 ∷ 8 ∷ 9 ∷ [])) (1 ∷ 2 ∷ 9 ∷ [])
    && same (over 3 (λ i. i + 1) (7 ∷ 8 ∷ 9 ∷ [])) (1 ∷ 2 ∷ 3 ∷ [])
    && same (over 5 (λ i. i + 1) (7 ∷ 8 ∷ 9 ∷ [])) (1 ∷ 2 ∷ 3 ∷ [])

-- a text written into a buffer: with room, past the end, and at the last number of a usize
writings : Bool
writings =
    left (write (0 ∷ 0 ∷ 0 ∷ 9 ∷ []) 1 (65 ∷ 66 ∷ [])) (0 ∷ 65 ∷ 66 ∷ 9 ∷ []) 3
    && left (write (0 ∷ 0 ∷ []) 1 (65 ∷ 66 ∷ 67 ∷ [])) (0 ∷ 65 ∷ []) 4
    && left (write (5 ∷ []) 8 []) (5 ∷ []) 8
    && left (write (5 ∷ []) 18446744073709551614 (65 ∷ 66 ∷ 67 ∷ [])) (5 ∷ []) 18446744073709551615

-- all rows
every : Bool
every = sums && tests && equals && fillings && writings

-- every row holds
examples : every ≡ true
unfolding every sums tests equals fillings writings sum sum_ℕ first_from over write
examples = refl
