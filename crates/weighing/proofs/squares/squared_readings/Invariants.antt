-- `squared_readings`: `sum` is the words of the squares of the first readings. Assumes nothing.
use Rattle.std.proofs.Common.{◌≡◌}
use Rattle.meaning.specs.Wide.{wide}
use Rattle.weighing.proofs.SquareSums.{squares}
use Rattle.weighing.proofs.squares.squared_readings.Given as goal

abbrev pub invariant-loop-y : goal.invariant-loop-y
invariant-loop-y l = l.sum ≡ wide (squares l.readings l.y-index)
