use Rattle.std.proofs.Common.{arith}
use Rattle.std.proofs.lemmas.Grind.{common_steps}
use Rattle.laws.proofs.Chains.{fits, sized_no}
use Rattle.design.proofs.Within.{sized-by_blocks}
use Rattle.design.proofs.sizes.sized.Goals as goal

pub returns-then-contains-4 : goal.returns-then-contains-4
returns-then-contains-4 c =
    sized-by_blocks c.args.head (grind (arith, common_steps)) (grind (arith, common_steps)) (grind (arith, common_steps)) (grind (arith, common_steps))
    (grind (arith, common_steps)) (grind (arith, common_steps)) (grind (arith, common_steps)) (grind (arith, common_steps)) (grind (arith, common_steps))

pub returns-else-contains-4 : goal.returns-else-contains-4
returns-else-contains-4 c = grind (arith, common_steps, sized_no, fits)
