-- Both casts are exact, so the division is the one rounding.
use lib.IntN.{pos}
use mir.Facts.{to_z-of_z}
use Rattle.arithmetic.proofs.Floats.{in_float_lem, quotient_float}
use Rattle.arithmetic.proofs.Exact.{exact-is}
use Rattle.arithmetic.proofs.quotient.divided.Goals as goal

pub int_to_float-result : goal.int_to_float-result
int_to_float-result c = rw (to_z-of_z c.ranges.numerator) (in_float_lem c.args.numerator (exact-is _ _ c.requires).top)

pub int_to_float-result-2 : goal.int_to_float-result-2
int_to_float-result-2 c = in_float_lem (pos c.args.denominator) (exact-is _ _ c.requires).bottom

pub returns : goal.returns
returns c =
    let x = exact-is _ _ c.requires in
    rw (to_z-of_z c.ranges.numerator) (quotient_float c.args.numerator c.args.denominator x.top x.above x.bottom)
