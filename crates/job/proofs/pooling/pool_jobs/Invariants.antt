-- Before each job, what is pooled so far and the jobs that are left give the whole answer.
use Rattle.job.proofs.pooling.Steps.{Walk}
use Rattle.job.proofs.pooling.pool_jobs.Given as goal

abbrev pub invariant-loop-i : goal.invariant-loop-i
invariant-loop-i l = Walk l.bytes l.lengths l.sums l.start l.i
