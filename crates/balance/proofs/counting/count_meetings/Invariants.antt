use Rattle.std.proofs.Common.{◌≡◌}
use Rattle.meaning.specs.Calls.{no_table}
use Rattle.balance.specs.Meetings.{table_more, tally}
use Rattle.balance.proofs.counting.count_meetings.Given as goal

-- after k blocks the table has the meetings of the first k
abbrev pub invariant-loop-k : goal.invariant-loop-k
invariant-loop-k l = l.table ≡ table_more (tally l.opposite l.words l.k) no_table
