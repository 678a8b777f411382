use Rattle.algebra.specs.Ranges.{sum_ℕ}
use Rattle.design.specs.Differences.{More, within_of, across_of, no_row}
use Rattle.design.proofs.differences.count_blocks.Given as goal

-- the initial blocks passed are counted
abbrev pub invariant-loop-j : goal.invariant-loop-j
invariant-loop-j l = record {
  within : More (λ e. sum_ℕ l.j (within_of l.addition.head l.blocks e)) no_row l.within;
  across : More (λ e. sum_ℕ l.j (across_of l.addition.head l.blocks e)) no_row l.across;
}
