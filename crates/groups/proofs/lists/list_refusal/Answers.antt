-- `list_refusal`: each way out rewrites the chain by the tests that led there.
use Rattle.std.proofs.Common.{◌*◌, ◌≤◌, true, length, sym, ◌∙◌, eq-eqb, mul-le-mul, arith, rules}
use borrow.Author.Tests.{not-true, not-false, ne_eqb}
use Rattle.meaning.specs.Groups.{list_sized, list_verdict}
use Rattle.laws.proofs.Groups.{list_fits}
use Rattle.groups.proofs.lists.list_refusal.Goals as goal

pub returns-then-not-list_sized : goal.returns-then-not-list_sized
unfolding list_verdict
returns-then-not-list_sized c = rw (sym c.list_sized.ensures ∙ not-true _ c.if-not-list_sized.true-raw)

pub overflow_mul-p : goal.overflow_mul-p
overflow_mul-p c =
    let f = list_fits _ _ _ (sym c.list_sized.ensures ∙ not-false _ c.if-not-list_sized.false-raw) in
    omega arith

pub overflow_mul-p-2 : goal.overflow_mul-p-2
overflow_mul-p-2 c =
    let f = list_fits _ _ _ (sym c.list_sized.ensures ∙ not-false _ c.if-not-list_sized.false-raw) in
    let side : 2 * c.args.p ≤ 50 = omega arith in
    omega (arith, mul-le-mul side f.count_most)

pub returns-then-blocks-p : goal.returns-then-blocks-p
unfolding list_verdict
returns-then-blocks-p c = rw (sym c.list_sized.ensures ∙ not-false _ c.if-not-list_sized.false-raw, ne_eqb _ _ c.if-blocks-p.true)

pub returns-then-groups-v : goal.returns-then-groups-v
unfolding list_verdict
returns-then-groups-v c = rw (
  sym c.list_sized.ensures ∙ not-false _ c.if-not-list_sized.false-raw,
  eq-eqb _ _ c.if-blocks-p.false,
  ne_eqb _ _ c.if-groups-v.true,
)

pub even_groups-requires : goal.even_groups-requires
even_groups-requires c =
    let f = list_fits _ _ _ (sym c.list_sized.ensures ∙ not-false _ c.if-not-list_sized.false-raw) in
    omega (arith, c.if-groups-v.false)

pub returns-then-not-even_groups : goal.returns-then-not-even_groups
unfolding list_verdict
returns-then-not-even_groups c = rw (
  sym c.list_sized.ensures ∙ not-false _ c.if-not-list_sized.false-raw,
  eq-eqb _ _ c.if-blocks-p.false,
  eq-eqb _ _ c.if-groups-v.false,
  sym c.even_groups.ensures ∙ not-true _ c.if-not-even_groups.true-raw,
)

pub stray-at-requires : goal.stray-at-requires
stray-at-requires c =
    let f = list_fits _ _ _ (sym c.list_sized.ensures ∙ not-false _ c.if-not-list_sized.false-raw) in
    (search rules, omega arith)

pub returns-then-at-blocks : goal.returns-then-at-blocks
unfolding list_verdict
returns-then-at-blocks c =
    let differ = ne_eqb c.stray-at.result (length c.args.blocks.now) (search rules) in
    rw (
      sym c.list_sized.ensures ∙ not-false _ c.if-not-list_sized.false-raw,
      eq-eqb _ _ c.if-blocks-p.false,
      eq-eqb _ _ c.if-groups-v.false,
      sym c.even_groups.ensures ∙ not-false _ c.if-not-even_groups.false-raw,
      ← c.stray-at.ensures,
      differ,
    ) (search rules)

pub returns : goal.returns
unfolding list_verdict
returns c =
    let same = eq-eqb c.stray-at.result (length c.args.blocks.now) (search rules) in
    rw (
      sym c.list_sized.ensures ∙ not-false _ c.if-not-list_sized.false-raw,
      eq-eqb _ _ c.if-blocks-p.false,
      eq-eqb _ _ c.if-groups-v.false,
      sym c.even_groups.ensures ∙ not-false _ c.if-not-even_groups.false-raw,
      ← c.stray-at.ensures,
      same,
    ) (search rules)
