-- `slots::laying::lay_entries`: after k turns the first k entries lie over what is lent.
use Rattle.std.proofs.Common.{◌≡◌, ℕ, ◌/◌, ◌%◌}
use Rattle.algebra.specs.Buffers.{over}
use Rattle.algebra.specs.Tables.{entry}
use Rattle.slots.proofs.laying.lay_entries.Given as goal

abbrev pub invariant-loop-k : goal.invariant-loop-k
invariant-loop-k l = l.lent ≡ over l.k (λ (i : ℕ). entry l.table (i / 50) (i % 50)) l.fn.lent
