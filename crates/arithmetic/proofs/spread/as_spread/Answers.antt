-- With freedom the spread is the hundredths over 100.
use Rattle.std.proofs.Common.{arith}
use Rattle.arithmetic.proofs.Spreads.{some-spread}
use Rattle.arithmetic.proofs.spread.as_spread.Goals as goal

pub returns-else-freedom-eq0 : goal.returns-else-freedom-eq0
returns-else-freedom-eq0 c =
    some-spread c.args.hundredths c.args.freedom _ c.requires (omega arith) c.unsigned_quotient-value.ensures
