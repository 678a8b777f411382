-- The loop of `rank_of`: `count` is how many members among the first i objects go before. Assumes nothing.
use Rattle.std.proofs.Common.{◌≡◌, ℕ, ◌*◌, ◌≤◌}
use Rattle.algebra.specs.Ranges.{sum_ℕ}
use Rattle.meaning.specs.Analysis.{member}
use Rattle.meaning.specs.Publishing.{before}
use Rattle.analysis.specs.Column.{part_at}
use Rattle.analysis.proofs.publishing.rank_of.Given as goal

abbrev pub invariant-loop-i : goal.invariant-loop-i
invariant-loop-i l = (l.count ≡ sum_ℕ l.i (λ (j : ℕ). member l.set j * before (part_at l.parts) j l.object)) × (l.count ≤ l.i)
