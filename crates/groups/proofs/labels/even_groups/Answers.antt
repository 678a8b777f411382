-- `even_groups`: a size out of range refutes the test, and the rest is what is left of it. Assumes nothing.
use Rattle.std.proofs.Common.{◌<◌, ◌≤◌, ◌∙◌, length, arith}
use Rattle.std.proofs.lemmas.Grind.{common_steps}
use Rattle.groups.proofs.labels.Sizes.{not-even, even-rest}
use Rattle.groups.proofs.labels.even_groups.Goals as goal

pub returns-then-contains : goal.returns-then-contains
returns-then-contains c =
    let large : 2 ≤ c.size_of-size.result = grind (arith, common_steps) in
    let part : c.size_of-size.result < length c.args.groups.now = grind (arith, common_steps) in
    c.sizes_alike.ensures ∙ even-rest c.args.groups.now c.size_of-size.result c.size_of-size.ensures large part

pub returns-else-contains : goal.returns-else-contains
returns-else-contains c =
    c.if-contains.false ∙ not-even c.args.groups.now (λ g.
    let large : 2 ≤ c.size_of-size.result = omega (arith, g.size-least, c.size_of-size.ensures) in
    let part : c.size_of-size.result < length c.args.groups.now = omega (arith, g.several, c.size_of-size.ensures) in
    grind (arith, common_steps))
