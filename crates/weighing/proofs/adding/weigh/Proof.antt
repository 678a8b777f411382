-- `weigh`: past the tests what is filled are the totals, which are squared. Assumes nothing.
use borrow.Author.Rules.{rules}
use mathlib.Core.Path.{◌≡◌, sym, ap, ◌∙◌}
use mathlib.Core.List.{List}
use Prim.Native.Nat.{ℕ, ◌≤◌}
use native.Mathlib.Omega.{arith}
use lib.IntN.{ℤ}
use lib.ListN.{length}
use Rattle.algebra.specs.Buffers.{over}
use Rattle.algebra.proofs.Filling.{length_over}
use Rattle.meaning.specs.Design.{objects, blocks}
use Rattle.meaning.specs.Refusals.{Verdict, accepted}
use Rattle.meaning.specs.Wide.{wide}
use Rattle.laws.proofs.Chains.{given_yes, given_no}
use Rattle.design.proofs.Within.{within-sizes}
use Rattle.verdicts.proofs.Told.{refusing, accepting}
use Rattle.weighing.proofs.SquareSums.{squares}
use Rattle.verdicts.proofs.Sums.{square_refused, square_accepted}
use Rattle.weighing.specs.Verdicts.{weigh_verdict}
use Rattle.weighing.specs.Developed.{total_in, squared_totals_in}
use Rattle.weighing.proofs.Developing.{filled_squares}
use Rattle.weighing.proofs.Refusing.{Weighable, weighable}
use Rattle.weighing.proofs.adding.weigh.Statement.{statement}
use Rattle.weighing.proofs.adding.weigh.Tie as tie

-- the call
module _ (s : tie.Start) where
  abbrev words : List ℕ
  words = s.args.words.now

  abbrev ys : List ℤ
  ys = s.args.readings.now

  abbrev room : List ℤ
  room = s.args.totals.now

  abbrev verdict : Verdict
  verdict = weigh_verdict s.args.head words ys (length room)

  abbrev squared : ℕ
  squared = squared_totals_in words ys (blocks s.args.head) (objects s.args.head)

-- past the tests
module _ (c : tie.Else-is_refused) where
  abbrev start : tie.Start
  start = c.before.before.before.before

  passed : verdict start ≡ accepted
  passed = sym c.weighing_refusal-tested.ensures ∙ accepting _ (sym c.is_refused.ensures ∙ c.if-is_refused.false)

  stands : Weighable start.args.head (words start) (ys start) (length (room start))
  stands = weighable _ _ _ _ passed

-- once the totals are filled
module _ (c : tie.After-fill) where
  abbrev told : tie.Else-is_refused
  told = c.before.before.before.before

  counted : c.objects-v.result ≡ objects (start told).args.head
  counted = c.objects-v.ensures ∙ within-sizes _ _ (stands told).fit

  abbrev totals : List ℤ
  totals = c.fill.new.totals

  filled : totals ≡ over (objects (start told).args.head) (total_in (words (start told)) (ys (start told)) (blocks (start told).args.head))
      (room (start told))
  filled = c.fill.ensures ∙ ap (λ (v : ℕ). over v (total_in (words (start told)) (ys (start told)) (blocks (start told).args.head))
      (room (start told))) counted

  long : objects (start told).args.head ≤ length totals
  long = omega (
    arith,
    (stands told).roomy,
    ap length filled,
    length_over (objects (start told).args.head) (total_in (words (start told)) (ys (start told)) (blocks (start told).args.head)) (room (start told)),
  )

returns : tie.Need-returns-then-is_refused
returns c =
    let s = c.before.before.before.before.before in
    let r = sym c.is_refused.ensures ∙ c.if-is_refused.true in
    let e = sym c.weighing_refusal-tested.ensures in
    (c.no_sum.ensures ∙ square_refused (verdict s) (squared s) _ r e, sym (given_no (verdict s) _ _ _ _ (e ∙ refusing _ r)))

fill_requires : tie.Need-fill-requires
fill_requires c κs =
    let t = stands c.before.before.before in
    let v = c.objects-v.ensures ∙ within-sizes _ _ t.fit in
    (t.weighed, (rw v t.within, rw v t.roomy))

squared_totals_requires : tie.Need-squared_totals-sum-requires
squared_totals_requires c κs =
    let f = c.before in
    rw (counted f) (long f)

returns-2 : tie.Need-returns
returns-2 c =
    let f = c.before.before in
    let s = start (told f) in
    let e = passed (told f) in
    let summed : c.squared_totals-sum.result ≡ wide (squares (totals f) (objects s.args.head)) = c.squared_totals-sum.ensures
    ∙ ap (λ (v : ℕ). wide (squares (totals f) v)) (counted f) in (
      square_accepted (verdict s) (squared s) _ e (summed ∙ ap wide (filled_squares _ _ _ _ _ _ (stands (told f)).roomy (filled f))),
      filled f
          ∙ sym (given_yes (verdict s) _ _ e),
    )

pub weigh_spec : {M : Type 1} → statement M
weigh_spec =
    tie.close
    (tie.spec
    (λ c κs. search rules)
    (λ c κs. search rules)
    (λ c κs. search rules)
    returns
    (λ c κs. search rules)
    (λ c. let f = (stands c.before.before).fit in omega arith)
    fill_requires
    squared_totals_requires
    (λ c. search rules)
    returns-2)
