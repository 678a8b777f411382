-- The published column as it is worked out from 50 numerators over one denominator, for any numbers. Assumes nothing.
use Rattle.std.specs.Prelude.{ℕ, ◌*◌, ◌/◌, ◌^◌, ◌<◌, cond, eqb, ltb, ℤ, pos, ◌+ℤ◌, get_or}
use mathlib.Core.List.{List, replicate}
use Rattle.algebra.specs.Ranges.{sum_ℕ}
use Rattle.algebra.specs.Buffers.{over}
use Rattle.meaning.specs.Analysis.{member}
use Rattle.meaning.specs.Publishing.{rank}
use Rattle.arithmetic.specs.Quotient.{hundredths_of, below_of, part_of}

-- the numerator, and the part, that stands at place i
abbrev pub numerator_at : List ℤ → ℕ → ℤ
numerator_at numerators i = get_or numerators i (pos 0)

abbrev pub part_at : List ℕ → ℕ → ℕ
part_at parts i = get_or parts i 0

-- the part of object i
abbrev pub part_from : List ℤ → ℕ → ℕ → ℕ
part_from numerators d i = part_of (numerator_at numerators i) d

-- the parts of all objects
abbrev pub parts_of : List ℤ → ℕ → List ℕ
parts_of numerators d = over 50 (part_from numerators d) (replicate 50 0)

-- parts that a sum of 50 has room for
pub record Small (parts : List ℕ) : Type 0 where
  pub most : (i : ℕ) → i < 50 → part_at parts i < 2 ^ 53

-- the parts of the members of w, added
unfoldable pub parts_in : (ℕ → ℕ) → ℕ → ℕ
parts_in f w = sum_ℕ 50 (λ i. member w i * f i)

-- the hundredths of an object: of a member the floor, and one more where its rank is below what is shared; else the nearest
abbrev pub hundredths_by : ℤ → ℕ → ℕ → ℕ → ℕ → ℤ
hundredths_by a d m own shared = cond (eqb m 1) (below_of a d +ℤ pos (cond (ltb own shared) 1 0)) (hundredths_of a d)

-- those of object i, and the column
abbrev pub hundredths_from : List ℤ → ℕ → ℕ → ℕ → ℤ
hundredths_from numerators d w i =
    hundredths_by (numerator_at numerators i) d (member w i) (rank 50 w (part_from numerators d) i) (parts_in (part_from numerators d) w / d)

abbrev pub column_of : List ℤ → ℕ → ℕ → List ℤ
column_of numerators d w = over 50 (hundredths_from numerators d w) (replicate 50 (pos 0))
