-- `fill`: the totals of the first k blocks stand in the first v places, and the later ones are as they were. Assumes nothing.
use Rattle.std.proofs.Common.{◌≡◌}
use Rattle.algebra.specs.Buffers.{over}
use Rattle.weighing.specs.Developed.{total_in}
use Rattle.weighing.proofs.adding.fill.Given as goal

abbrev pub invariant-loop-k : goal.invariant-loop-k
invariant-loop-k l = l.totals ≡ over l.v (total_in l.words l.readings l.k) l.fn.totals
