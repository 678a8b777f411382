-- `total`: past the tests of the blocks and of the object, the weighing's verdict and what stands at the object's place. Assumes nothing.
use borrow.Author.Rules.{rules}
use mathlib.Core.Path.{◌≡◌, refl, sym, ap, ap₂, ◌∙◌}
use mathlib.Core.List.{List}
use native.Mathlib.Omega.{arith}
use lib.IntN.{ℤ, pos}
use lib.ListN.{get_or}
use mir.Syntax.{w64}
use mir.Val.{SFits}
use mir.Facts.{to_z-of_z}
use Rattle.records.specs.declared.SquareSum.{SquareSum}
use Rattle.meaning.specs.Refusals.{Verdict, ◌⨾◌, accepted, refused, clean}
use Rattle.meaning.specs.Calls.{slices}
use Rattle.meaning.specs.Design.{objects}
use Rattle.design.proofs.Within.{within-sizes}
use Rattle.verdicts.proofs.Told.{refusing, accepting}
use Rattle.weighing.proofs.Developing.{Laid}
use Rattle.weighing.proofs.totals.Refusing.{words_long, lay, reached, total-refused, no_total_is, total_no_object, total-weighed}
use Rattle.weighing.proofs.totals.total.Statement.{statement}
use Rattle.weighing.proofs.totals.total.Tie as tie

-- past the blocks
module _ (c : tie.Else-is_refused) where
  abbrev start : tie.Start
  start = c.before.before.before.before.before

  passed : slices start.args.head start.args.blocks.now start.args.readings.now
      ⨾ clean start.args.head start.args.blocks.now ≡ accepted
  passed = sym c.developed-tested.ensures.0 ∙ accepting _ (sym c.is_refused.ensures ∙ c.if-is_refused.false)

  laid : Laid start.args.head start.args.blocks.now c.developed-tested.new.words
  laid = lay _ _ _ _ _ refl c.developed-tested.ensures.1 passed

-- v
counted : (c : tie.After-objects) → c.objects.result ≡ objects (start c.before).args.head
counted c = c.objects.ensures ∙ within-sizes _ _ (laid c.before).sizes

returns : tie.Need-returns-then-is_refused
returns c =
    let r = sym c.is_refused.ensures ∙ c.if-is_refused.true in
    c.no_total.ensures ∙ no_total_is _ _ _ _ _ r (total-refused _ _ _ _ _ _ (sym c.developed-tested.ensures.0 ∙ refusing _ r))

returns-2 : tie.Need-returns-then-objects-object
returns-2 c =
    let v = counted c.before.before in
    c.no_total-then-objects-object.ensures ∙ no_total_is _ _ _ _ (refused 5 _) refl (total_no_object _ _ _ _ (passed c.before.before.before) (rw (← v) (search rules)))

-- the object has its place among 50 totals

returns-3 : tie.Need-returns
returns-3 c =
    let p = c.before.before.before.before.before.before.before in
    let v = counted c.before.before.before.before.before.before in
    let w = c.weigh-weighed.ensures in
    let x : ℤ = get_or c.weigh-weighed.new.totals (start p).args.object (pos 0) in
    let fits : SFits w64 x = record { sfits = search c.total-1.given } in
    ap₂ (λ (v : Verdict) (z : ℤ). record { verdict = v; total = z }) (ap (λ (r : SquareSum). r.verdict) w.0)
    (to_z-of_z fits ∙ ap (λ (l : List ℤ). get_or l (start p).args.object (pos 0)) w.1)
    ∙ total-weighed _ _ _ _ (passed p) _ (laid p) (reached _ _ _ _ _ refl p.developed-tested.ensures.1 (passed p)) (rw (← v) (search rules))

pub total_spec : {M : Type 1} → statement M
total_spec =
    tie.close
    (tie.spec
    (λ c κs. search rules)
    (λ c κs. search rules)
    (λ c κs. search rules)
    returns
    (λ c κs. search rules)
    (λ c κs. search rules)
    returns-2
    (λ c. words_long _ _ _ _ _ refl c.developed-tested.ensures.1)
    (λ c. search rules)
    (λ c κs. search rules)
    (λ c. let f = (laid c.before.before.before.before.before.before).sizes in omega (arith, counted c.before.before.before.before.before))
    (λ c. let f = (laid c.before.before.before.before.before.before).sizes in
    omega (arith, counted c.before.before.before.before.before))
    returns-3)
