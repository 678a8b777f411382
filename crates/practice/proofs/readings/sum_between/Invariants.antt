-- The loop of `practice::readings::sum_between`: `sum` is the sum over the first i objects. Assumes nothing.
use Rattle.std.proofs.Common.{◌≡◌}
use Rattle.practice.proofs.Drawing.{among}
use Rattle.practice.proofs.readings.sum_between.Given as goal

abbrev pub invariant-loop-i : goal.invariant-loop-i
invariant-loop-i l = l.sum ≡ among l.truths l.left l.right l.i
