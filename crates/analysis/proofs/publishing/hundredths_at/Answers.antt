-- `hundredths_at`: a member has those at or below its value, and gains at most one.
use Rattle.std.proofs.Common.{lit<}
use Rattle.algebra.proofs.Numbers.{plus_fits}
use Rattle.analysis.proofs.publishing.Serving.{floored, more}
use Rattle.analysis.proofs.publishing.hundredths_at.Goals as goal

pub overflow_add-result : goal.overflow_add-result
overflow_add-result c =
    plus_fits (floored _ _ _ _ c.hundredths_below.result c.from.result c.hundredths_below.ensures c.from.ensures)
    (more _ _ _ _ c.hundredths_below.result c.from.result c.hundredths_below.ensures c.from.ensures) (lit< tt)
