-- `row_alike`: every object before j has the counts of its kind. Assumes nothing.
use Rattle.std.proofs.Common.{◌≡◌, true}
use Rattle.groups.specs.Tables.{row_alike}
use Rattle.groups.proofs.judging.row_alike.Given as goal

abbrev pub invariant-loop-j : goal.invariant-loop-j
invariant-loop-j l = row_alike l.counts l.groups l.i l.company l.opposition l.j ≡ true
