use Rattle.std.proofs.Common.{sym, ◌∙◌, arith, rules, length}
use borrow.Author.Tests.{eq-eqb, ne_eqb}
use Rattle.meaning.specs.Calls.{design_verdict}
use Rattle.laws.proofs.Chains.{fits, listed-most}
use Rattle.design.proofs.blocks.pairs_refusal.Goals as goal

pub returns-then-not-sized : goal.returns-then-not-sized
unfolding design_verdict
returns-then-not-sized c = rw (sym c.sized.ensures ∙ c.if-not-sized.true)

pub overflow_mul-p : goal.overflow_mul-p
overflow_mul-p c = let f = fits _ (sym c.sized.ensures ∙ c.if-not-sized.false) in omega arith

pub overflow_mul-p-2 : goal.overflow_mul-p-2
overflow_mul-p-2 c = omega (arith, listed-most _ (fits _ (sym c.sized.ensures ∙ c.if-not-sized.false)))

pub returns-then-blocks-p : goal.returns-then-blocks-p
unfolding design_verdict
returns-then-blocks-p c = rw (sym c.sized.ensures ∙ c.if-not-sized.false, ne_eqb _ _ c.if-blocks-p.true)

pub offender-at-requires : goal.offender-at-requires
offender-at-requires c = fits _ (sym c.sized.ensures ∙ c.if-not-sized.false)

pub returns-then-at-blocks : goal.returns-then-at-blocks
unfolding design_verdict
returns-then-at-blocks c =
    let differ = ne_eqb c.offender-at.result (length c.args.blocks.now) (search rules) in
    rw (sym c.sized.ensures ∙ c.if-not-sized.false, eq-eqb _ _ c.if-blocks-p.false, ← c.offender-at.ensures, differ) (search rules)

pub returns : goal.returns
unfolding design_verdict
returns c =
    let same = eq-eqb c.offender-at.result (length c.args.blocks.now) (search rules) in
    rw (sym c.sized.ensures ∙ c.if-not-sized.false, eq-eqb _ _ c.if-blocks-p.false, ← c.offender-at.ensures, same) (search rules)
