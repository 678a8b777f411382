-- `squared_readings`: a turn adds the square of the next reading. Assumes nothing.
use Rattle.std.proofs.Common.{◌≡◌, nat_abs, get_or, pos, rules}
use Rattle.std.proofs.lemmas.List.{get_or-take}
use Rattle.weighing.proofs.SquareSums.{squares-none, squares-more}
use Rattle.weighing.proofs.squares.squared_readings.Goals as goal

pub loop-y-init : goal.loop-y-init
loop-y-init c = squares-none c.args.readings.now

pub loop-y-preserved : goal.loop-y-preserved
loop-y-preserved c =
    let size : c.from.result ≡ nat_abs (get_or c.args.readings.now c.loop-y.y-index (pos 0)) = search (rules, get_or-take) in
    squares-more c.args.readings.now c.loop-y.y-index c.loop-y.invariant size c.add_square-sum.ensures
