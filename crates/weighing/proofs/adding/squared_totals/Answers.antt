-- `squared_totals`: a turn adds the square of the next total. Assumes nothing.
use Rattle.std.proofs.Common.{◌≡◌, nat_abs, get_or, pos, rules}
use Rattle.std.proofs.lemmas.List.{get_or-take}
use Rattle.weighing.proofs.SquareSums.{squares-none, squares-more}
use Rattle.weighing.proofs.adding.squared_totals.Goals as goal

pub loop-total-init : goal.loop-total-init
loop-total-init c = squares-none c.args.totals.now

pub loop-total-preserved : goal.loop-total-preserved
loop-total-preserved c =
    let size : c.unsigned_abs.result ≡ nat_abs (get_or c.args.totals.now c.loop-total.total-index (pos 0)) = search (rules, get_or-take) in
    squares-more c.args.totals.now c.loop-total.total-index c.loop-total.invariant size c.add_square-sum.ensures
