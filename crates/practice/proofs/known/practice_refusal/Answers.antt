-- `practice_refusal`: past the lengths the judgement of the design, then 16. Assumes nothing.
use Rattle.std.proofs.Common.{◌≡◌, true, false, sym, refl, ap, ◌∙◌, arith, rules, eq-eqb, ne_eqb}
use Rattle.records.specs.declared.Judged.{Judged}
use Rattle.meaning.specs.Design.{sized}
use Rattle.meaning.specs.Practice.{near, practised}
use Rattle.design.proofs.Within.{within-sizes}
use Rattle.laws.proofs.Chains.{fits, listed-most, goes_on}
use Rattle.practice.proofs.Answers.{practised-judged, known-far, known-wide, known_yes}
use Rattle.practice.proofs.known.practice_refusal.Goals as goal

pub returns-then-not-sized : goal.returns-then-not-sized
unfolding practised
returns-then-not-sized c =
    let e : sized c.args.head ≡ false = cc in
    rw e refl

pub overflow_mul-p : goal.overflow_mul-p
overflow_mul-p c =
    let e : sized c.args.head ≡ true = cc in
    let f = fits _ e in
    omega arith

pub overflow_mul-p-2 : goal.overflow_mul-p-2
overflow_mul-p-2 c =
    let e : sized c.args.head ≡ true = cc in
    omega (arith, listed-most _ (fits _ e))

pub returns-then-blocks-p : goal.returns-then-blocks-p
unfolding practised
returns-then-blocks-p c =
    let e : sized c.args.head ≡ true = cc in
    rw (e, ne_eqb _ _ c.if-blocks-p.true) refl

pub returns-then-truths-objects : goal.returns-then-truths-objects
unfolding practised
returns-then-truths-objects c =
    let e : sized c.args.head ≡ true = cc in
    let other = rw (c.objects.ensures ∙ within-sizes _ _ (fits _ e)) at c.if-truths-objects.true in
    rw (e, eq-eqb _ _ c.if-blocks-p.false, ne_eqb _ _ other) refl

pub returns-in_err-judge_by_differences : goal.returns-in_err-judge_by_differences
returns-in_err-judge_by_differences c =
    let e : sized c.args.head ≡ true = cc in
    let a = c.args in
    let judged = practised-judged a.head a.blocks.now a.truths.now a.width e c.if-blocks-p.false (c.if-truths-objects.false ∙ c.objects.ensures ∙ within-sizes _ _ (fits _ e)) in
    let r = sym (ap (λ (j : Judged). j.verdict) c.judge_by_differences.ensures) ∙ c.in_err-judge_by_differences.was in
    rw (judged, r) (search rules)

pub returns-then-not-all_near : goal.returns-then-not-all_near
returns-then-not-all_near c =
    let e : sized c.args.head ≡ true = cc in
    let a = c.args in
    let judged = practised-judged a.head a.blocks.now a.truths.now a.width e c.if-blocks-p.false (c.if-truths-objects.false ∙ c.objects.ensures ∙ within-sizes _ _ (fits _ e)) in
    let r = sym (ap (λ (j : Judged). j.verdict) c.judge_by_differences.ensures) ∙ c.in_ok-judge_by_differences.was in
    let far : near a.truths.now ≡ false = cc in
    sym (judged ∙ goes_on _ r ∙ known-far a.head a.blocks.now a.truths.now a.width far)

pub returns-then-width-gt-WIDTH_LIMIT : goal.returns-then-width-gt-WIDTH_LIMIT
returns-then-width-gt-WIDTH_LIMIT c =
    let e : sized c.args.head ≡ true = cc in
    let a = c.args in
    let judged = practised-judged a.head a.blocks.now a.truths.now a.width e c.if-blocks-p.false (c.if-truths-objects.false ∙ c.objects.ensures ∙ within-sizes _ _ (fits _ e)) in
    let r = sym (ap (λ (j : Judged). j.verdict) c.judge_by_differences.ensures) ∙ c.in_ok-judge_by_differences.was in
    sym (judged ∙ goes_on _ r ∙ known-wide a.head a.blocks.now a.truths.now a.width (omega arith))

pub returns : goal.returns
returns c =
    let e : sized c.args.head ≡ true = cc in
    let a = c.args in
    let judged = practised-judged a.head a.blocks.now a.truths.now a.width e c.if-blocks-p.false (c.if-truths-objects.false ∙ c.objects.ensures ∙ within-sizes _ _ (fits _ e)) in
    let r = sym (ap (λ (j : Judged). j.verdict) c.judge_by_differences.ensures) ∙ c.in_ok-judge_by_differences.was in
    let close : near a.truths.now ≡ true = cc in
    sym (judged ∙ goes_on _ r ∙ known_yes a.head a.blocks.now a.truths.now a.width close (omega arith))
