-- The loop of `fill_deviations`: the first k entries are deviation numerators, and `squares` is the squares of the first k readings. Assumes nothing.
use Rattle.std.proofs.Common.{◌≡◌}
use Rattle.algebra.specs.Buffers.{over}
use Rattle.meaning.specs.Wide.{wide}
use Rattle.analysis.specs.Worked.{total_at, squares_in, deviation_in}
use Rattle.analysis.proofs.deviations.fill_deviations.Given as goal

abbrev pub invariant-loop-k : goal.invariant-loop-k
invariant-loop-k l =
    (l.squares ≡ wide (squares_in l.readings l.k)) × (l.deviations ≡ over l.k (deviation_in l.words l.readings (total_at l.totals) l.vbeta) l.fn.deviations)
