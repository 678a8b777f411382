use Rattle.std.proofs.Common.{sym, ◌∙◌, arith, below_more, length}
use Rattle.meaning.specs.Refusals.{offends, offender}
use Rattle.algebra.proofs.Tests.{first-is, first_from_none}
use Rattle.design.proofs.blocks.offender.Goals as goal

pub returns-then-offends : goal.returns-then-offends
unfolding offender
returns-then-offends c =
    let a = c.args in
    sym (first-is (offends a.head a.blocks.now) 0 _ c.loop-i.i (omega arith) (omega arith) (λ k _. c.loop-i.invariant k)
    (sym c.offends.ensures ∙ c.if-offends.true))

pub loop-i-preserved : goal.loop-i-preserved
loop-i-preserved c = below_more _ _ c.loop-i.invariant (sym c.offends.ensures ∙ c.if-offends.false)

pub returns : goal.returns
unfolding offender
returns c =
    let a = c.args in
    omega (arith, first_from_none (offends a.head a.blocks.now) 0 (length a.blocks.now) (λ k _ h. c.loop-i.invariant k (omega arith)))
