-- The sign and the size of a number apart: what the test `x < 0` says of the sign, and how large a nearest whole number is. Assumes nothing.
use mathlib.Core.Path.{◌≡◌, refl, sym, ap, ◌∙◌}
use mathlib.Core.Bool.{Bool, true, false, cond, true≢false}
use Prim.Native.Nat.{ℕ, zero, suc, ◌+◌, ◌-◌, ◌*◌, ◌/◌, ◌%◌, ◌≤◌, ◌<◌}
use native.Mathlib.Nat.{div-le_self, add-div_right, add-mod_right, div-eq_of_lt, mod-eq_of_lt, zero-div, zero-mod}
use native.Mathlib.Omega.{arith}
use borrow.Author.Tests.{ltb-true}
use lib.Dec.{ltb}
use lib.IntN.{ℤ, pos, negsuc, neg_ℤ, ◌*ℤ◌}
use lib.Signed.{lt_z}
use Rattle.meaning.specs.Publishing.{minus, signed, nearest, floor, part}
use Rattle.arithmetic.specs.Quotient.{lifted_of}

-- ---- the sign

-- where the test holds, the number has a minus
pub has_minus : (x : ℤ) → lt_z x (pos 0) ≡ true → minus x ≡ true
has_minus (pos n) e = absurd (omega (arith, ltb-true n 0 e))
has_minus (negsuc n) e = refl

-- where it fails, it has none
pub no_minus : (x : ℤ) → lt_z x (pos 0) ≡ false → minus x ≡ false
no_minus (pos n) e = refl
no_minus (negsuc n) e = absurd (true≢false e)

-- ---- floors

-- below zero the floor's size is the quotient that goes up
floor-negative : (A d : ℕ) → 0 < d → floor (neg_ℤ (pos A)) d ≡ neg_ℤ (pos ((A + (d - 1)) / d))
floor-negative zero d l = ap pos (zero-div d) ∙ sym (ap (λ (n : ℕ). neg_ℤ (pos n)) (div-eq_of_lt {n = 0 + (d - 1)} (omega arith)))
floor-negative (suc k) d l =
    sym (ap (λ (n : ℕ). neg_ℤ (pos n)) (ap (λ (n : ℕ). n / d) (up k d l) ∙ add-div_right k l ∙ one_more (k / d)))
  where
    one_more : (q : ℕ) → q + 1 ≡ suc q
    one_more q = omega arith

    up : (k d : ℕ) → 0 < d → suc k + (d - 1) ≡ k + d
    up k d l = omega arith

-- and its part what the rest leaves of the denominator
part-negative : (A d : ℕ) → 0 < d → part (neg_ℤ (pos A)) d ≡ d - 1 - (A + (d - 1)) % d
part-negative zero d l = zero-mod d ∙ sym (none (ap (λ (n : ℕ). d - 1 - n) (mod-eq_of_lt {n = 0 + (d - 1)} (omega arith))))
  where
    none : {x : ℕ} → x ≡ d - 1 - (0 + (d - 1)) → x ≡ 0
    none e = omega (arith, e)
part-negative (suc k) d l = sym (ap (λ (n : ℕ). d - 1 - n) (ap (λ (n : ℕ). n % d) (up k d l) ∙ add-mod_right k d))
  where
    up : (k d : ℕ) → 0 < d → suc k + (d - 1) ≡ k + d
    up k d l = omega arith

-- the floor of 100 times a fraction has the numerator's sign, and the size of the lifted quotient
pub floor-lifted : (a : ℤ) (d : ℕ) → 0 < d → signed (minus a) (lifted_of a d / d) ≡ floor (pos 100 *ℤ a) d
floor-lifted (pos n) d l = refl
floor-lifted (negsuc n) d l = sym (floor-negative (100 * suc n) d l)

-- its part, above zero and below
pub part-above : (a : ℤ) (d : ℕ) → minus a ≡ false → lifted_of a d % d ≡ part (pos 100 *ℤ a) d
part-above (pos n) d e = refl
part-above (negsuc n) d e = absurd (true≢false e)

pub part-below : (a : ℤ) (d : ℕ) → 0 < d → minus a ≡ true → d - 1 - lifted_of a d % d ≡ part (pos 100 *ℤ a) d
part-below (pos n) d l e = absurd (true≢false (sym e))
part-below (negsuc n) d l e = sym (part-negative (100 * suc n) d l)

-- ---- the nearest whole number

-- it is at most one more than the fraction
pub nearest-most : (a d : ℕ) → nearest a d ≤ a + 1
nearest-most a d = by (ltb (2 * (a % d)) d) (ltb d (2 * (a % d)))
  where
    by : (s t : Bool) → cond s (a / d) (cond t (a / d + 1) (a / d + a / d % 2)) ≤ a + 1
    by true t = omega (arith, div-le_self a d)
    by false true = omega (arith, div-le_self a d)
    by false false = omega (arith, div-le_self a d)
