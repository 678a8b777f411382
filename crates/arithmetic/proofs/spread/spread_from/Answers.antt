-- Hundredths are f64s exactly.
use Rattle.std.proofs.Common.{arith}
use Rattle.meaning.specs.Wide.{value}
use Rattle.arithmetic.proofs.Spreads.{hundredths-small}
use Rattle.arithmetic.proofs.spread.spread_from.Goals as goal

pub as_spread-spread-requires : goal.as_spread-spread-requires
as_spread-spread-requires c = omega (arith, c.hundredths_from-hundredths.ensures, hundredths-small (value c.args.q) c.args.vbeta c.args.freedom)
