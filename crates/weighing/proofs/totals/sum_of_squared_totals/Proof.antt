-- `sum_of_squared_totals`: past the blocks the answer is the sum over their words. Assumes nothing.
use borrow.Author.Rules.{rules}
use mathlib.Core.Path.{◌≡◌, refl, sym, ◌∙◌}
use lib.IntN.{nat_abs}
use Rattle.meaning.specs.Analysis.{squared_totals}
use Rattle.meaning.specs.Refusals.{◌⨾◌, accepted, clean}
use Rattle.meaning.specs.Calls.{slices}
use Rattle.verdicts.proofs.Told.{accepting}
use Rattle.verdicts.proofs.Sums.{square_refused}
use Rattle.weighing.proofs.totals.Refusing.{words_long, lay, reached, squared-refused, squared-weighed}
use Rattle.weighing.proofs.totals.sum_of_squared_totals.Statement.{statement}
use Rattle.weighing.proofs.totals.sum_of_squared_totals.Tie as tie

-- past the blocks
passed : (c : tie.Else-is_refused) → slices c.args.head
    c.args.blocks.now c.args.readings.now
    ⨾ clean c.args.head c.args.blocks.now ≡ accepted
passed c = sym c.developed-tested.ensures.0 ∙ accepting _ (sym c.is_refused.ensures ∙ c.if-is_refused.false)

returns : tie.Need-returns-then-is_refused
returns c =
    let a = c.args in
    let v = c.developed-tested.result in
    let r = sym c.is_refused.ensures ∙ c.if-is_refused.true in
    let e = squared-refused a.head a.blocks.now a.readings.now v r (sym c.developed-tested.ensures.0) in
    c.no_sum.ensures ∙ search (square_refused _ (nat_abs (squared_totals a.head a.blocks.now a.readings.now)) v r e)

returns-2 : tie.Need-returns
returns-2 c =
    let p = c.before.before.before.before in
    let w = p.developed-tested.ensures.1 in
    c.weigh.ensures.0 ∙ squared-weighed _ _ _ _ (passed p) (lay _ _ _ _ _ refl w (passed p)) (reached _ _ _ _ _ refl w (passed p))

pub sum_of_squared_totals_spec : {M : Type 1} → statement M
sum_of_squared_totals_spec =
    tie.close
    (tie.spec
    (λ c κs. search rules)
    (λ c κs. search rules)
    (λ c κs. search rules)
    returns
    (λ c. words_long _ _ _ _ _ refl c.developed-tested.ensures.1)
    (λ c. search rules)
    (λ c κs. search rules)
    returns-2)
