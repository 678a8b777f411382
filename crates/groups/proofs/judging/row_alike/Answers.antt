-- `row_alike`: a pair with other counts fails the row. Assumes nothing.
use Rattle.std.proofs.Common.{sym, arith}
use Rattle.groups.proofs.judging.Tables.{row-none, row_more_lem, row_fails}
use Rattle.groups.proofs.judging.row_alike.Goals as goal

pub loop-j-init : goal.loop-j-init
loop-j-init c = row-none _ _ _ _ _

pub returns-then-not-meets_as : goal.returns-then-not-meets_as
returns-then-not-meets_as c = sym (row_fails _ _ _ _ _ _ c.loop-j.j (omega arith) cc)

pub loop-j-preserved : goal.loop-j-preserved
loop-j-preserved c = row_more_lem _ _ _ _ _ c.loop-j.j c.loop-j.invariant cc
