-- `tables_alike`: a row with other counts fails the tables. Assumes nothing.
use Rattle.std.proofs.Common.{sym, arith}
use Rattle.groups.proofs.judging.Tables.{tables_none, tables_more, tables_fail}
use Rattle.groups.proofs.judging.tables_alike.Goals as goal

pub loop-i-init : goal.loop-i-init
loop-i-init c = tables_none _ _ _ _

pub returns-then-not-row_alike : goal.returns-then-not-row_alike
returns-then-not-row_alike c = sym (tables_fail _ _ _ _ _ c.loop-i.i (omega arith) cc)

pub loop-i-preserved : goal.loop-i-preserved
loop-i-preserved c = tables_more _ _ _ _ c.loop-i.i c.loop-i.invariant cc
