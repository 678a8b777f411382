-- `fitted`: the two sides by `set_sum`, each of which is small.
use Rattle.std.proofs.Common.{◌≡◌, ℕ, ◌*◌, List, ℤ, refl, lit<}
use Rattle.algebra.proofs.Numbers.{Num, called, minus, minus_fits}
use Rattle.laws.specs.Limits.{total_limit}
use Rattle.analysis.specs.Worked.{total_at, Held, over_set}
use Rattle.analysis.proofs.Working.{set-small}
use Rattle.analysis.proofs.deviations.fitted.Goals as goal

-- one side
module _ (totals : List ℤ) (w : ℕ) (r : Held totals w) (sum : ℤ) (summed : sum ≡ over_set w (total_at totals)) where
  abbrev side : Num
  side = called sum (64 * total_limit) summed (set-small totals w r) (lit< tt)

pub overflow_sub-result : goal.overflow_sub-result
overflow_sub-result c =
    let r = c.requires.held in
    minus_fits (side _ _ r.0 c.set_sum-left.result c.set_sum-left.ensures) (side _ _ r.1 c.set_sum-right.result c.set_sum-right.ensures) (lit< tt)

pub returns : goal.returns
returns c =
    let r = c.requires.held in
    rw (minus (side _ _ r.0 c.set_sum-left.result c.set_sum-left.ensures)
    (side _ _ r.1 c.set_sum-right.result c.set_sum-right.ensures) (lit< tt)).reads refl
