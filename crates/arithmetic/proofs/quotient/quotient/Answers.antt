-- The division inside the exact range, and 0.0 outside it.
use Rattle.std.proofs.Common.{◌≡◌, true, false, sym, ◌∙◌}
use lib.Ieee.{of_bits}
use mir.Facts.{to_z-of_z}
use Rattle.arithmetic.specs.Quotient.{exact, quotient_of}
use Rattle.arithmetic.proofs.quotient.quotient.Goals as goal

pub returns-then-is_exact : goal.returns-then-is_exact
unfolding quotient_of
returns-then-is_exact c =
    let inside : exact c.args.numerator c.args.denominator ≡ true = sym (rw (to_z-of_z c.ranges.numerator) at c.is_exact.ensures) ∙ c.if-is_exact.true in
    rw inside (rw (to_z-of_z c.ranges.numerator) at c.divided.ensures)

pub returns-else-is_exact : goal.returns-else-is_exact
unfolding of_bits quotient_of
returns-else-is_exact c =
    let outside : exact c.args.numerator c.args.denominator ≡ false = sym (rw (to_z-of_z c.ranges.numerator) at c.is_exact.ensures) ∙ c.if-is_exact.false in
    rw outside
