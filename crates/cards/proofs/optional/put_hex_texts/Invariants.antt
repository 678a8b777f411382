-- The loop of `cards::optional::put_hex_texts`: the bytes so far are written.
use Rattle.std.proofs.Common.{take}
use Rattle.algebra.specs.Buffers.{Wrote}
use Rattle.meaning.specs.CardText.{hex_texts}
use Rattle.cards.proofs.optional.put_hex_texts.Given as goal

abbrev pub invariant-loop-byte : goal.invariant-loop-byte
invariant-loop-byte l = Wrote l.initial.out l.at (hex_texts (take l.byte-index l.bytes)) l.out l.place
