-- Before the loop of `printing::names::trimmed_length` nothing is kept of no bytes.
use Rattle.std.proofs.Common.{arith}
use Rattle.printing.proofs.names.Shown.{trimmed-none}
use Rattle.printing.proofs.names.trimmed_length.Goals as goal

pub loop-i-init : goal.loop-i-init
loop-i-init c = (omega arith, trimmed-none)
