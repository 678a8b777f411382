-- `sum_of_squares`: each way out is its verdict, by the tests that led there. Assumes nothing.
use borrow.Author.Rules.{rules}
use mathlib.Core.Path.{◌≡◌, refl, sym, ap, ◌∙◌}
use mathlib.Core.Bool.{true}
use native.Mathlib.Omega.{arith}
use borrow.Author.Tests.{not-true, not-false, eq-eqb, ne_eqb}
use lib.ListN.{length}
use lib.Dec.{eqb}
use Rattle.meaning.specs.Design.{sized, blocks}
use Rattle.meaning.specs.Refusals.{accepted, refused, in_reach}
use Rattle.meaning.specs.Wide.{wide}
use Rattle.meaning.specs.Calls.{squared_readings_verdict}
use Rattle.laws.proofs.Chains.{fits}
use Rattle.verdicts.proofs.Told.{accepting}
use Rattle.weighing.proofs.SquareSums.{readings-squares}
use Rattle.verdicts.proofs.Sums.{square_refused, square_accepted}
use Rattle.weighing.proofs.squares.sum_of_squares.Statement.{statement}
use Rattle.weighing.proofs.squares.sum_of_squares.Tie as tie

-- past the first test the sizes hold
passed : (c : tie.Else-not-sized) → sized c.args.head ≡ true
passed c = sym c.sized.ensures ∙ not-false _ c.if-not-sized.false-raw

abbrev start : tie.Else-readings-m → tie.Start
start c = c.before.before.before

-- past the second the readings are as many as the blocks
long : (c : tie.Else-readings-m) → eqb (length (start c).args.readings.now) (blocks (start c).args.head) ≡ true
long c = eq-eqb _ _ c.if-readings-m.false

abbrev else3-start : tie.Else-is_refused → tie.Start
else3-start c = c.before.before.before.before.before.before

-- past the third none is out of range
close : (c : tie.Else-is_refused) → in_reach (else3-start c).args.readings.now ≡ accepted
close c = sym c.reach_refusal-reached.ensures ∙ accepting _ (sym c.is_refused.ensures ∙ c.if-is_refused.false)

returns : tie.Need-returns-then-not-sized
unfolding squared_readings_verdict
returns c =
    let s = c.before.before.before in
    c.no_sum.ensures ∙ square_refused
    (squared_readings_verdict s.args.head s.args.readings.now) _ (refused 4 0) refl
    (rw (sym c.sized.ensures ∙ not-true _ c.if-not-sized.true-raw))

returns-2 : tie.Need-returns-then-readings-m
unfolding squared_readings_verdict
returns-2 c =
    let s = c.before.before.before.before in
    c.no_sum-then-readings-m.ensures
    ∙ square_refused (squared_readings_verdict s.args.head
    s.args.readings.now) _ (refused 3 0) refl (rw (passed c.before.before, ne_eqb _ _ c.if-readings-m.true))

returns-3 : tie.Need-returns-then-is_refused
unfolding squared_readings_verdict
returns-3 c =
    c.no_sum-then-is_refused.ensures
    ∙ square_refused _ _ _ (sym c.is_refused.ensures ∙ c.if-is_refused.true)
    (rw (passed c.before.before.before.before.before, long c.before.before.before.before, sym c.reach_refusal-reached.ensures))

returns-4 : tie.Need-returns
unfolding squared_readings_verdict
returns-4 c =
    square_accepted _ _ _ (rw (passed c.before.before.before.before.before, long c.before.before.before.before, close c.before))
    (c.squared_readings-sum.ensures ∙ ap wide (sym (readings-squares _ _)))

pub sum_of_squares_spec : {M : Type 1} → statement M
sum_of_squares_spec =
    tie.close
    (tie.spec
    (λ c κs. search rules)
    (λ c κs. search rules)
    returns
    (λ c. let f = fits _ (passed c) in omega arith)
    (λ c κs. search rules)
    returns-2
    (λ c κs. search rules)
    (λ c κs. search rules)
    (λ c κs. search rules)
    returns-3
    (λ c. let f = fits _ (passed c.before.before.before.before) in omega arith)
    (λ c κs. let f = fits _ (passed c.before.before.before.before) in omega arith)
    returns-4)
