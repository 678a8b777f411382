-- The exact range as facts, and what the two answers are inside it. Assumes nothing.
use mathlib.Core.Path.{◌≡◌, refl, sym, ap}
use mathlib.Core.Bool.{Bool, true, false, cond, ◌&&◌}
use Prim.Native.Nat.{ℕ, ◌+◌, ◌-◌, ◌*◌, ◌/◌, ◌^◌, ◌≤◌, ◌<◌}
use native.Mathlib.Nat.{div-le_self}
use native.Mathlib.Omega.{arith}
use lib.IntN.{ℤ, pos, nat_abs, ◌*ℤ◌}
use lib.Ieee.{Float}
use lib.Dec.{ltb}
use borrow.Author.Tests.{ltb-true, lt-ltb, le-ltb}
use Rattle.algebra.proofs.Tests.{and_left, and_right, and_both, and_fails_left}
use Rattle.meaning.specs.Publishing.{minus, floor, part, nearest_hundredths, float, Near}
use Rattle.laws.proofs.Column.{part-less}
use Rattle.laws.proofs.Rounding.{signed-size}
use Rattle.records.specs.declared.Value.{Value}
use Rattle.arithmetic.specs.Quotient.{exact, quotient_of, hundredths_of, below_of, part_of, lifted_of, value_from}
use Rattle.arithmetic.proofs.Floats.{float-near}
use Rattle.arithmetic.proofs.rounding.Signed.{floor-lifted}

-- ---- the range

-- both numbers are f64s exactly, and the denominator is not 0
pub record Exact (a : ℤ) (d : ℕ) : Type 0 where
  pub top : nat_abs a < 2 ^ 53
  pub above : 0 < d
  pub bottom : d < 2 ^ 53

-- the test accepts only such numbers
pub exact-is : (a : ℤ) (d : ℕ) → exact a d ≡ true → Exact a d
unfolding exact
exact-is a d e =
    let rest = and_right (ltb (nat_abs a) (2 ^ 53)) (ltb 0 d && ltb d (2 ^ 53)) e in
    record {
      top = ltb-true _ _ (and_left (ltb (nat_abs a) (2 ^ 53)) (ltb 0 d && ltb d (2 ^ 53)) e);
      above = ltb-true _ _ (and_left (ltb 0 d) (ltb d (2 ^ 53)) rest);
      bottom = ltb-true _ _ (and_right (ltb 0 d) (ltb d (2 ^ 53)) rest);
    }

-- and accepts all such numbers
pub is-exact : (a : ℤ) (d : ℕ) → Exact a d → exact a d ≡ true
unfolding exact
is-exact a d x = and_both (lt-ltb _ _ x.top) (and_both (lt-ltb _ _ x.above) (lt-ltb _ _ x.bottom))

-- a numerator that is too large is refused
pub top-large : (a : ℤ) (d : ℕ) → 2 ^ 53 ≤ nat_abs a → exact a d ≡ false
unfolding exact
top-large a d h = and_fails_left (ltb 0 d && ltb d (2 ^ 53)) (le-ltb _ _ h)

-- ---- the answers inside the range

-- the f64 is the quotient rounded once
pub quotient_is : (a : ℤ) (d : ℕ) → Exact a d → quotient_of a d ≡ float a d
unfolding quotient_of
quotient_is a d x = rw (is-exact a d x)

-- it has the fraction's sign, and is at most the fraction's size divided by 2 to the power 53 away from it
pub quotient_near : (a : ℤ) (d : ℕ) → Exact a d → Near 53 (quotient_of a d) a d
quotient_near a d x = rw (quotient_is a d x) (search (float-near a d x.top x.above x.bottom))

-- the hundredths are the nearest
pub hundredths-is : (a : ℤ) (d : ℕ) → Exact a d → hundredths_of a d ≡ nearest_hundredths a d
unfolding hundredths_of
hundredths-is a d x = rw (is-exact a d x)

-- those at or below are the floor, and the part is what is above it
pub below-is : (a : ℤ) (d : ℕ) → Exact a d → below_of a d ≡ floor (pos 100 *ℤ a) d
unfolding below_of
below-is a d x = rw (is-exact a d x)

pub part-is : (a : ℤ) (d : ℕ) → Exact a d → part_of a d ≡ part (pos 100 *ℤ a) d
unfolding part_of
part-is a d x = rw (is-exact a d x)

-- a part is below d, and 0 outside the range
pub part_small : (a : ℤ) (d : ℕ) → part_of a d < 2 ^ 53
unfolding part_of
part_small a d = by (exact a d) refl
  where
    by : (t : Bool) → exact a d ≡ t → cond t (part (pos 100 *ℤ a) d) 0 < 2 ^ 53
    by true e = let x = exact-is a d e in omega (arith, x.bottom, part-less (pos 100 *ℤ a) d x.above)
    by false e = omega arith

-- the lifted size fits a signed number
pub lifted-most : (a : ℤ) (d : ℕ) → Exact a d → lifted_of a d < 2 ^ 60
lifted-most a d x = by (minus a)
  where
    by : (t : Bool) → cond t (100 * nat_abs a + (d - 1)) (100 * nat_abs a) < 2 ^ 60
    by true = omega (arith, x)
    by false = omega (arith, x)

-- hundredths at or below are small
pub below-small : (a : ℤ) (d : ℕ) → nat_abs (below_of a d) < 2 ^ 60
unfolding below_of
below-small a d = by (exact a d) refl
  where
    by : (t : Bool) → exact a d ≡ t → nat_abs (cond t (floor (pos 100 *ℤ a) d) (pos 0)) < 2 ^ 60
    by true e =
        let x = exact-is a d e in
        omega (arith, ap nat_abs (sym (floor-lifted a d x.above)), signed-size (minus a) (lifted_of a d / d), lifted-most a d x, div-le_self (lifted_of a d) d)
    by false e = omega arith

-- ---- the value

-- it is made from its parts
pub value-is : (a : ℤ) (d : ℕ) (k : ℤ) (n : ℕ) (b l : ℤ) (x z : Float) → b ≡ a → l ≡ k → x ≡ quotient_of a d → z ≡ quotient_of (pos n) d
    → ◌≡◌ {A = Value} (record { numerator = b; denominator = d; hundredths = l; value = x; factor = n; factor_value = z }) (value_from a d k n)
value-is a d k n b l x z e g h q = λ j. record { numerator = e j; denominator = d; hundredths = g j; value = h j; factor = n; factor_value = q j }
