-- The room so far is the entries passed, written over its start (`over`).
use Rattle.std.proofs.Common.{◌≡◌}
use Rattle.algebra.specs.Buffers.{over}
use Rattle.numbers.proofs.Rows.{number_of}
use Rattle.numbers.proofs.row.readings.Given as goal

abbrev pub invariant-loop-i : goal.invariant-loop-i
invariant-loop-i l = l.reading-items ≡ over l.i (number_of l.bytes l.place) l.initial.reading-items
