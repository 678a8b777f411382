-- Signed numbers of 64 bits by their size and their sign: what the code's tests against bounds and against 0 say, and what `0 - x` and `!x` are. A
-- test is an equation of its flag. Assumes nothing.
use mathlib.Core.Path.{◌≡◌}
use mathlib.Core.Bool.{Bool, true, false, true≢false, false≢true}
use Prim.Native.Nat.{ℕ, zero, suc, ◌+◌, ◌-◌, ◌^◌, ◌≤◌, ◌<◌}
use native.Mathlib.Nat.{le_of_lt}
use native.Mathlib.Omega.{arith}
use borrow.Author.Tests.{ltb-true, ltb-false}
use lib.Dec.{T, lit<}
use lib.IntN.{ℤ, pos, negsuc, neg_ℤ, nat_abs, ◌-ℤ◌, +ℤ_idl}
use lib.Signed.{mag, lt_z, non_neg}
use mir.Syntax.{w64}
use mir.Val.{Fits, SFits, to_z, of_z}
use mir.Facts.{to_z-of_z, to_z_pos}

-- ---- a number is read back from its bits

-- of a call's result or an element, the second argument is that it is an i64
pub read_back : (x : ℤ) → mag x < 2 ^ 63 → to_z w64 (of_z w64 x) ≡ x
read_back x h = to_z-of_z {w = w64} (record { sfits = h })

-- the test `x < 0` of a parameter is that of the number itself
pub plain : (z : ℤ) {b : Bool} → SFits w64 z → lt_z (to_z w64 (of_z w64 z)) (pos 0) ≡ b → lt_z z (pos 0) ≡ b
plain z f e = rw (to_z-of_z f) at e

-- ---- tests against two bounds, -(B + 1) and B + 1

-- below the lower bound it is larger in size
pub too_low : (z : ℤ) (B : ℕ) → lt_z z (negsuc B) ≡ true → suc B < nat_abs z
too_low (pos n) B e = absurd (false≢true e)
too_low (negsuc n) B e = omega (arith, ltb-true B n e)

-- above the upper bound it is larger in size
pub too_high : (z : ℤ) (B : ℕ) → lt_z (pos B) z ≡ true → B < nat_abs z
too_high (pos n) B e = ltb-true B n e
too_high (negsuc n) B e = absurd (false≢true e)

-- between the bounds it is at most as large
pub between : (z : ℤ) (B : ℕ) → lt_z z (negsuc B) ≡ false → lt_z (pos (suc B)) z ≡ false → nat_abs z ≤ suc B
between (pos n) B e f = ltb-false (suc B) n f
between (negsuc n) B e f = omega (arith, ltb-false B n e)

-- ---- the test `x < 0`

-- where it fails, the number is not negative
pub not-below : (z : ℤ) → lt_z z (pos 0) ≡ false → T (non_neg z)
not-below (pos n) e = tt
not-below (negsuc n) e = absurd (true≢false e)

-- where it holds, the size is one more than the machine's
pub size_below : (z : ℤ) → lt_z z (pos 0) ≡ true → nat_abs z ≡ mag z + 1
size_below (pos n) e = absurd (omega (arith, ltb-true n 0 e))
size_below (negsuc n) e = omega arith

-- `!x`, for x below 0
pub flipped : (z : ℤ) → SFits w64 z → lt_z z (pos 0) ≡ true → to_z w64 (2 ^ 64 - 1 - of_z w64 z) ≡ pos (mag z)
flipped (pos n) f e = absurd (omega (arith, ltb-true n 0 e))
flipped (negsuc n) f e =
    let a : 2 ^ 64 - 1 - (2 ^ 64 - suc n) ≡ n = omega (arith, f.sfits) in
    rw a (to_z_pos w64 f.sfits)

-- the size of an i64 is a u64
pub size_fits : (z : ℤ) → SFits w64 z → Fits w64 (nat_abs z)
size_fits (pos n) f = record { fits = omega (arith, f.sfits) }
size_fits (negsuc n) f = record { fits = omega (arith, f.sfits) }

-- ---- `0 - x`

-- it is the negation
pub less : (x : ℤ) → pos 0 -ℤ x ≡ neg_ℤ x
less x = +ℤ_idl (neg_ℤ x)

neg_fits : (x : ℤ) → nat_abs x < 2 ^ 63 → SFits w64 (neg_ℤ x)
neg_fits (pos zero) h = record { sfits = lit< tt }
neg_fits (pos (suc n)) h = record { sfits = le_of_lt h }
neg_fits (negsuc n) h = record { sfits = h }

-- its need
pub less_fits : (x : ℤ) → nat_abs x < 2 ^ 63 → SFits w64 (pos 0 -ℤ x)
less_fits x h = rw less (neg_fits x h)
