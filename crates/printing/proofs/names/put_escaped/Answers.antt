-- One byte more of the name is written in a turn.
use Rattle.std.proofs.Common.{arith}
use Rattle.algebra.proofs.Writing.{nothing, named}
use Rattle.printing.proofs.names.Shown.{escaped-none, more-escaped}
use Rattle.printing.proofs.names.put_escaped.Goals as goal

pub loop-byte-init : goal.loop-byte-init
loop-byte-init c = named (nothing _ _) escaped-none

pub loop-byte-preserved : goal.loop-byte-preserved
loop-byte-preserved c = more-escaped c.args.name.now c.loop-byte.byte-index (omega arith) c.loop-byte.invariant c.put_escaped_byte-place.ensures
