-- Two products of words, and what the low one carries.
use Rattle.std.proofs.Common.{◌*◌, arith}
use Rattle.arithmetic.proofs.Words.{carried}
use Rattle.arithmetic.proofs.wide.times.Goals as goal

pub returns : goal.returns
returns c =
    let a = c.args in
    carried _ (a.x.high * a.c) (a.x.low * a.c) c.product-low.ensures c.product-high.ensures c.sum-top.ensures (omega arith)
