-- The loop of `fill_values`: the first i entries are numerators, and the later ones are as they were. Assumes nothing.
use Rattle.std.proofs.Common.{◌≡◌}
use Rattle.algebra.specs.Buffers.{over}
use Rattle.analysis.specs.Worked.{total_at, numerator_in}
use Rattle.analysis.proofs.values.fill_values.Given as goal

abbrev pub invariant-loop-i : goal.invariant-loop-i
invariant-loop-i l = l.values ≡ over l.i (numerator_in (total_at l.totals) l.v l.set l.vbeta l.sum) l.fn.values
