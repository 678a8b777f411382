-- `tables_alike`: every row before i passed. Assumes nothing.
use Rattle.std.proofs.Common.{◌≡◌, true}
use Rattle.groups.specs.Tables.{tables_alike}
use Rattle.groups.proofs.judging.tables_alike.Given as goal

abbrev pub invariant-loop-i : goal.invariant-loop-i
invariant-loop-i l = tables_alike l.counts l.groups l.company l.opposition l.i ≡ true
