-- What is left, with all lengths, is the total with the lengths that are left.
use Rattle.std.proofs.Common.{◌≡◌, ◌+◌, drop}
use Rattle.meaning.specs.Pooled.{lengths_sum}
use Rattle.job.proofs.pooling.sum_is.Given as goal

abbrev pub invariant-loop-length : goal.invariant-loop-length
invariant-loop-length l = lengths_sum (drop l.length-index l.lengths) + l.total ≡ l.left + lengths_sum l.lengths
