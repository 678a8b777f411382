-- The bytes of the name so far are written.
use Rattle.std.proofs.Common.{take}
use Rattle.algebra.specs.Buffers.{Wrote}
use Rattle.meaning.specs.Text.{escaped}
use Rattle.printing.proofs.names.put_escaped.Given as goal

abbrev pub invariant-loop-byte : goal.invariant-loop-byte
invariant-loop-byte l = Wrote l.initial.out l.at (escaped (take l.byte-index l.name)) l.out l.place
