-- The readings before this one are written.
use Rattle.std.proofs.Common.{take}
use Rattle.algebra.specs.Buffers.{Wrote}
use Rattle.meaning.specs.Writing.{readings_body}
use Rattle.writing.proofs.encoding.put_readings.Given as goal

abbrev pub invariant-loop-reading : goal.invariant-loop-reading
invariant-loop-reading l = Wrote l.fn.out l.at (readings_body (take l.reading-index l.readings)) l.out l.place
