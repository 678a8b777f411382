-- The loop of `set_sum`: `sum`, with the totals of every object that is left, is the whole sum throughout.
use Rattle.analysis.proofs.Working.{SetWalk}
use Rattle.analysis.proofs.values.set_sum.Given as goal

abbrev pub invariant-loop-rest : goal.invariant-loop-rest
invariant-loop-rest l = SetWalk l.set l.totals l.rest l.sum

abbrev pub decreases-loop-rest : goal.decreases-loop-rest
decreases-loop-rest l = l.rest
