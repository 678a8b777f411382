-- `cards::optional::put_hex_texts`: before the loop nothing is written, and a turn of it writes one byte more.
use Rattle.std.proofs.Common.{rules, arith}
use Rattle.algebra.proofs.Writing.{nothing, named}
use Rattle.cards.proofs.optional.Parts.{hex_none, more_hex}
use Rattle.cards.proofs.optional.put_hex_texts.Goals as goal

pub loop-byte-init : goal.loop-byte-init
loop-byte-init c = named (nothing _ _) hex_none

pub loop-byte-preserved : goal.loop-byte-preserved
loop-byte-preserved c =
    more_hex c.args.bytes.now c.loop-byte.byte-index (omega arith) c.loop-byte.invariant (named c.put_hex-place.ensures (search rules))
