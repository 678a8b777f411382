-- The room so far is the entries passed, written over its start (`over`).
use Rattle.std.proofs.Common.{arith, rules, ◌≡◌, ◌∙◌, ap, ◌++◌, drop}
use mir.Syntax.{w32}
use mir.ValLaws.{to_z-of_z}
use lib.ListN.{length-take}
use Rattle.algebra.proofs.Filling.{over_none, over-step, over-end}
use Rattle.numbers.proofs.Rows.{over-front}
use Rattle.numbers.proofs.row.readings.Goals as goal

pub loop-i-init : goal.loop-i-init
loop-i-init c = over_none _ _

pub loop-i-preserved : goal.loop-i-preserved
loop-i-preserved c = over-step _ _ _ c.loop-i.invariant (to_z-of_z w32 c.entry.result (search rules) ∙ c.entry.ensures) (omega arith)

pub returns : goal.returns
returns c =
    let kept : c.loop-i.i ≡ c.min-kept.result = omega (arith, length-take c.min-kept.result c.args.out.now) in
    ap (λ front. front ++ drop c.min-kept.result c.args.out.now) (over-end _ _ c.loop-i.invariant kept)
    ∙ over-front c.args.count _ _ c.args.out.now c.min-kept.ensures
