-- A sum that does not fit is one word and the rest.
use Rattle.std.proofs.Common.{arith, ◌+◌}
use Rattle.arithmetic.proofs.Words.{words, carry_is}
use Rattle.arithmetic.proofs.wide.sum.Goals as goal

pub returns : goal.returns
returns c =
    let parts = carry_is (c.args.a + c.args.b) c.overflowing_add-low.result.1 (omega arith) c.overflowing_add-low.ensures.overflow in
    words (c.args.a + c.args.b) c.from.result _ _ (omega arith) (omega arith) (omega arith)
