-- Designs by their differences, by computation: examples B, C, E and G of the request, and one design for each way in which a count can go wrong. Assumes
-- nothing.
use mathlib.Core.Bool.{Bool, true, ◌&&◌, not}
use mathlib.Core.List.{List, [], ◌∷◌}
use mathlib.Core.Path.{◌≡◌, refl}
use Prim.Native.Nat.{ℕ}
use lib.Dec.{eqb}
use Rattle.algebra.specs.Ranges.{sum_ℕ}
use Rattle.records.specs.declared.Head.{Head}
use Rattle.meaning.specs.Design.{field_prime, occ, digit_sum, plus}
use Rattle.laws.specs.Differences.{over_elements, within, across, beside_fixed, against_fixed, even_differences}

-- a head from its four numbers
abbrev head : ℕ → ℕ → ℕ → ℕ → Head
head n flag p m = record { n = n; flag = flag; p = p; m = m }

-- the initial block of example E, and the two of example G as printed
abbrev blocks_e : List ℕ
blocks_e = 255 ∷ 1 ∷ 2 ∷ 4 ∷ 0 ∷ 3 ∷ 5 ∷ 6 ∷ []

abbrev blocks_g : List ℕ
blocks_g = 255 ∷ 1 ∷ 4 ∷ 5 ∷ 9 ∷ 3 ∷ 0 ∷ 8 ∷ 1 ∷ 2 ∷ 7 ∷ 6 ∷ []

-- nine elements, four a side (000, example 2.3.2), and of eight elements 0 against each other one
abbrev nine_field : List ℕ
nine_field = 1 ∷ 7 ∷ 2 ∷ 5 ∷ 3 ∷ 8 ∷ 6 ∷ 4 ∷ []

abbrev eight_field : List ℕ
eight_field = 0 ∷ 1 ∷ 0 ∷ 2 ∷ 0 ∷ 3 ∷ 0 ∷ 4 ∷ 0 ∷ 5 ∷ 0 ∷ 6 ∷ 0 ∷ 7 ∷ []

-- what a row says
pub data Row : Type 0 where
  -- the design is even by its differences, or it is not
  even : Head → List ℕ → Row
  uneven : Head → List ℕ → Row
  -- how often e arises within sides, and across
  arising : Head → List ℕ → ℕ → ℕ → ℕ → Row
  -- how many elements stand beside ∞, and against it
  meeting : Head → List ℕ → ℕ → ℕ → Row

abbrev holds : Row → Bool
holds (even h d) = even_differences h d
holds (uneven h d) = not (even_differences h d)
holds (arising h d e l1 l2) = eqb (within h d e) l1 && eqb (across h d e) l2
holds (meeting h d l1 l2) = eqb (beside_fixed h d) l1 && eqb (against_fixed h d) l2

-- every row holds
abbrev every : List Row → Bool
every [] = true
every (r ∷ rs) = holds r && every rs

abbrev rows : List Row
rows =
    -- B: 1 and 2 arise once across, in the two orders of one pair
    even (head 3 0 1 1) (0 ∷ 1 ∷ []) ∷ arising (head 3 0 1 1) (0 ∷ 1 ∷ []) 2 0 1
    -- with ∞ taking part and standing nowhere, only its counts are uneven
    ∷ uneven (head 3 1 1 1) (0 ∷ 1 ∷ []) ∷ meeting (head 3 1 1 1) (0 ∷ 1 ∷ []) 0 0
    -- C: at even n, 2 never arises
    ∷ uneven (head 4 0 1 1) (0 ∷ 1 ∷ [])
    -- of four residues, 2 arises from both orders of 0 and 2, so one block of these goes with two of 0 and 1
    ∷ arising (head 4 0 1 1) (0 ∷ 2 ∷ []) 2 0 2 ∷ uneven (head 4 0 1 2) (0 ∷ 1 ∷ 0 ∷ 2 ∷ []) ∷ even (head 4 0 1 3) (0 ∷ 1 ∷ 0 ∷ 1 ∷ 0 ∷ 2 ∷ [])
    -- E: ∞ has 3 elements beside it and 4 against it
    ∷ even (head 7 1 4 1) blocks_e ∷ meeting (head 7 1 4 1) blocks_e 3 4
    -- G as printed: 4 arises three times within sides, 2 once
    ∷ uneven (head 11 1 3 2) blocks_g ∷ arising (head 11 1 3 2) blocks_g 4 3 2 ∷ arising (head 11 1 3 2) blocks_g 2 1 3
    -- nine elements of a field: even, and uneven by residues
    ∷ even (head 9 2 4 1) nine_field ∷ uneven (head 9 0 4 1) nine_field
    -- eight elements of a field, each its own negative: each difference arises from both orders of its pair
    ∷ even (head 8 2 1 7) eight_field ∷ arising (head 8 2 1 1) (0 ∷ 1 ∷ []) 1 0 2 ∷ arising (head 8 0 1 1) (0 ∷ 1 ∷ []) 1 0 1
    ∷ []

pub rows_hold : every rows ≡ true
unfolding over_elements field_prime digit_sum occ plus within across beside_fixed against_fixed even_differences sum_ℕ
rows_hold = refl
