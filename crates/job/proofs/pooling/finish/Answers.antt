-- 17 where the mark is short of the last job, else the spread.
use Rattle.std.proofs.Common.{◌∙◌}
use Rattle.job.proofs.pooling.Steps.{finish_odd, finish_even}
use Rattle.job.proofs.pooling.finish.Goals as goal

pub returns-then-sums-count : goal.returns-then-sums-count
returns-then-sums-count c = c.no_pool.ensures ∙ finish_odd c.args.sums c.args.count c.if-sums-count.true

pub returns : goal.returns
returns c = finish_even c.args.sums c.args.count c.if-sums-count.false c.spread_from-spreading.result c.spread_from-spreading.ensures
