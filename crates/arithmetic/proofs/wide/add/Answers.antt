-- Two sums of words, and what the low one carries.
use Rattle.std.proofs.Common.{◌+◌, arith}
use Rattle.arithmetic.proofs.Words.{carried}
use Rattle.arithmetic.proofs.wide.add.Goals as goal

pub returns : goal.returns
returns c =
    let a = c.args in
    carried _ (a.x.high + a.y.high) (a.x.low + a.y.low) c.sum-low.ensures c.sum-high.ensures c.sum-carried.ensures (omega arith)
