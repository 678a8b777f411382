-- A fraction's f64 and its hundredths, for every numerator and denominator: 0 outside the range in which both numbers are f64s exactly.
-- Assumes nothing.
use Rattle.std.specs.Prelude.{ℕ, ◌+◌, ◌-◌, ◌*◌, ◌^◌, Bool, cond, ◌&&◌, ℤ, pos, nat_abs, ◌*ℤ◌, ltb, Float}
use Rattle.records.specs.declared.Value.{Value}
use Rattle.meaning.specs.Publishing.{minus, floor, part, nearest_hundredths, float, float_zero}

-- the exact range: both numbers are f64s exactly, and the denominator is not 0
unfoldable pub exact : ℤ → ℕ → Bool
exact a d = ltb (nat_abs a) (2 ^ 53) && (ltb 0 d && ltb d (2 ^ 53))

-- a / d as an f64, the one quotient rounded once; 0.0 outside the exact range
unfoldable pub quotient_of : ℤ → ℕ → Float
quotient_of a d = cond (exact a d) (float a d) float_zero

-- the nearest hundredths of a / d; 0 outside the exact range
unfoldable pub hundredths_of : ℤ → ℕ → ℤ
hundredths_of a d = cond (exact a d) (nearest_hundredths a d) (pos 0)

-- the whole number at or below 100 a / d, and how far that is above it, in d-ths; 0 outside the exact range
unfoldable pub below_of : ℤ → ℕ → ℤ
below_of a d = cond (exact a d) (floor (pos 100 *ℤ a) d) (pos 0)

unfoldable pub part_of : ℤ → ℕ → ℕ
part_of a d = cond (exact a d) (part (pos 100 *ℤ a) d) 0

-- 100 times the size of a, with d - 1 more where a is below zero: its quotient by d, cut, is the size of the floor
abbrev pub lifted_of : ℤ → ℕ → ℕ
lifted_of a d = cond (minus a) (100 * nat_abs a + (d - 1)) (100 * nat_abs a)

-- a fraction with its published hundredths and its f64, and a variance factor over the same denominator with its own
abbrev pub value_from : ℤ → ℕ → ℤ → ℕ → Value
value_from a d k n =
    record { numerator = a; denominator = d; hundredths = k; value = quotient_of a d; factor = n; factor_value = quotient_of (pos n) d }
