-- The loop of `column`: the first i entries are hundredths, and the later ones are 0. Assumes nothing.
use Rattle.std.proofs.Common.{◌≡◌, pos}
use mathlib.Core.List.{replicate}
use Rattle.algebra.specs.Buffers.{over}
use Rattle.analysis.specs.Column.{hundredths_from}
use Rattle.analysis.proofs.publishing.column.Given as goal

abbrev pub invariant-loop-i : goal.invariant-loop-i
invariant-loop-i l = l.hundredths ≡ over l.i (hundredths_from l.numerators l.denominator l.set) (replicate 50 (pos 0))
