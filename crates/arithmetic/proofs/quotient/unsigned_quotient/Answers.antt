-- A numerator that is no i64 is outside the exact range.
use Rattle.std.proofs.Common.{arith, ◌≡◌, ◌≤◌, ◌^◌, ℕ}
use mathlib.Core.Bool.{false}
use native.Mathlib.Decide.{dec_le}
use lib.Ieee.{of_bits}
use lib.IntN.{pos}
use mir.Syntax.{w64}
use mir.Val.{SFits}
use Rattle.arithmetic.specs.Quotient.{exact, quotient_of}
use Rattle.arithmetic.proofs.Exact.{top-large}
use Rattle.arithmetic.proofs.quotient.unsigned_quotient.Goals as goal

large : (n : ℕ) → (SFits w64 (pos n) → ⊥) → 2 ^ 53 ≤ n
large n f = by (dec_le (2 ^ 53) n)
  where
    by : Dec (2 ^ 53 ≤ n) → 2 ^ 53 ≤ n
    by (yes l) = l
    by (no o) = absurd (f (record { sfits = omega (arith, o) }))

pub returns-in-Err : goal.returns-in-Err
unfolding of_bits quotient_of
returns-in-Err c =
    let outside : exact (pos c.args.numerator) c.args.denominator ≡ false = top-large _ _ (large c.args.numerator c.in-Err.ensures) in
    rw outside
