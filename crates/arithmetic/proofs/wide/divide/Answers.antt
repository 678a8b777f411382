-- The high word, then the two halves of the low word, each after what is left.
use Rattle.std.proofs.Common.{arith}
use Rattle.arithmetic.proofs.Division.{division, by_zero, by_large}
use Rattle.arithmetic.proofs.wide.divide.Goals.{then-d-eq0-via-then-d-eq0, then-d-eq0-via-else-d-eq0+then-d-ge-HALF}
use Rattle.arithmetic.proofs.wide.divide.Goals as goal

pub returns-then-d-eq0 : goal.returns-then-d-eq0
returns-then-d-eq0 c = elim c.then-d-eq0.branch [
  | then-d-eq0-via-then-d-eq0 w ↦ by_zero _ _ (omega arith)
  | then-d-eq0-via-else-d-eq0+then-d-ge-HALF w ↦ by_large _ _ (omega arith)
]

pub returns : goal.returns
returns c = division c.args.x c.args.d (omega arith) (omega arith) (omega arith) (omega arith)
