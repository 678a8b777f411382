-- One byte more of the text is written in a turn.
use Rattle.std.proofs.Common.{arith}
use Rattle.algebra.proofs.Writing.{nothing, more_bytes}
use Rattle.printing.proofs.put_text.Goals as goal

pub loop-byte-init : goal.loop-byte-init
loop-byte-init c = nothing _ _

pub loop-byte-preserved : goal.loop-byte-preserved
loop-byte-preserved c = more_bytes c.args.text.now c.loop-byte.byte-index (omega arith) c.loop-byte.invariant c.put_byte-place.ensures
