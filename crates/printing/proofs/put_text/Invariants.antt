-- The bytes of the text so far are written.
use Rattle.std.proofs.Common.{take}
use Rattle.algebra.specs.Buffers.{Wrote}
use Rattle.printing.proofs.put_text.Given as goal

abbrev pub invariant-loop-byte : goal.invariant-loop-byte
invariant-loop-byte l = Wrote l.initial.out l.at (take l.byte-index l.text) l.out l.place
