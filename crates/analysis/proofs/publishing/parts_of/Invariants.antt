-- The loop of `parts_of`: the first i entries are parts, and the later ones are 0. Assumes nothing.
use Rattle.std.proofs.Common.{◌≡◌}
use mathlib.Core.List.{replicate}
use Rattle.algebra.specs.Buffers.{over}
use Rattle.analysis.specs.Column.{part_from}
use Rattle.analysis.proofs.publishing.parts_of.Given as goal

abbrev pub invariant-loop-i : goal.invariant-loop-i
invariant-loop-i l = l.parts ≡ over l.i (part_from l.numerators l.denominator) (replicate 50 0)
