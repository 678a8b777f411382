-- Where the lengths add up the answer is that of the jobs, else it is 18.
use Rattle.std.proofs.Common.{sym, ◌∙◌}
use Rattle.job.proofs.pooling.Steps.{pool-is, pool-none}
use Rattle.job.proofs.pooling.pool.Goals as goal

pub returns-then-add_up : goal.returns-then-add_up
returns-then-add_up c = c.pool_jobs.ensures ∙ pool-is c.args.bytes.now c.args.lengths.now (sym c.add_up.ensures ∙ c.if-add_up.true)

pub returns : goal.returns
returns c = c.no_pool.ensures ∙ pool-none c.args.bytes.now c.args.lengths.now (sym c.add_up.ensures ∙ c.if-add_up.false)
