-- A square of a word fits two.
use Rattle.std.proofs.Common.{arith}
use Rattle.arithmetic.proofs.Words.{product_value}
use Rattle.arithmetic.proofs.wide.add_square.Goals as goal

pub returns : goal.returns
returns c = rw (product_value c.args.size c.args.size (omega arith) (omega arith) c.product.ensures) at c.add.ensures
