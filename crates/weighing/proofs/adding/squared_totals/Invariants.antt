-- `squared_totals`: `sum` is the words of the squares of the first totals. Assumes nothing.
use Rattle.std.proofs.Common.{◌≡◌}
use Rattle.meaning.specs.Wide.{wide}
use Rattle.weighing.proofs.SquareSums.{squares}
use Rattle.weighing.proofs.adding.squared_totals.Given as goal

abbrev pub invariant-loop-total : goal.invariant-loop-total
invariant-loop-total l = l.sum ≡ wide (squares l.totals l.total-index)
