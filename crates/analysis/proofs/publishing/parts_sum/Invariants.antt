-- The loop of `parts_sum`: `sum` is the parts of the members among the first i objects. Assumes nothing.
use Rattle.std.proofs.Common.{◌≡◌, ℕ, ◌*◌, ◌^◌, ◌≤◌}
use Rattle.algebra.specs.Ranges.{sum_ℕ}
use Rattle.meaning.specs.Analysis.{member}
use Rattle.analysis.specs.Column.{part_at}
use Rattle.analysis.proofs.publishing.parts_sum.Given as goal

abbrev pub invariant-loop-i : goal.invariant-loop-i
invariant-loop-i l = (l.sum ≡ sum_ℕ l.i (λ (j : ℕ). member l.set j * part_at l.parts j)) × (l.sum ≤ l.i * 2 ^ 53)
