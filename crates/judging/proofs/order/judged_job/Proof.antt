-- `judging::order::judged_job` meets its contract: past the lengths its verdict is the chain of the other tests. Assumes nothing.
use borrow.Author.Rules.{rules}
use mathlib.Core.Path.{◌≡◌, sym, ap, ◌∙◌}
use mir.Facts.{to_z-of_z}
use Rattle.records.specs.declared.Judged.{Judged}
use Rattle.meaning.specs.Refusals.{accepted, restraint}
use Rattle.meaning.specs.Calls.{slices, job_verdict, judge_verdict}
use Rattle.laws.proofs.Chains.{sliced, opened}
use Rattle.verdicts.proofs.Told.{refusing, accepting}
use Rattle.judging.proofs.order.Jobs.{job-slices, job-tests, job-told, no_judgement_is, judgement-is}
use Rattle.judging.proofs.order.judged_job.Statement.{statement}
use Rattle.judging.proofs.order.judged_job.Tie as tie

-- past the lengths
measured : (c : tie.Else-is_refused) → slices c.args.head c.args.blocks.now
    c.args.readings.now ≡ accepted
measured c = sym c.slices_refusal-sliced.ensures ∙ accepting _ (sym c.is_refused.ensures ∙ c.if-is_refused.false)

-- what the tests come to
module _ (c : tie.After-first-verdict) where
  abbrev start : tie.Start
  start = c.before.before.before.before.before.before.before.before.before

  balanced : c.judge_by_differences-judged.result.verdict ≡ judge_verdict start.args.head start.args.blocks.now
  balanced = ap (λ (r : Judged). r.verdict) c.judge_by_differences-judged.ensures

  restrained : c.restraint_refusal-restrained.result ≡ restraint start.args.head start.args.set start.args.sum
  restrained = rw (to_z-of_z start.ranges.sum) at
      c.restraint_refusal-restrained.ensures

  told : c.first-verdict.result ≡ job_verdict start.args.head start.args.blocks.now start.args.readings.now start.args.set start.args.sum
  told =
      let past = measured c.before.before.before.before.before in
      let chained = rw c.first.ensures at c.first-verdict.ensures in
      job-told _ _ _ _ _ past balanced restrained c.reach_refusal-reached.ensures (search chained)

returns : tie.Need-returns-then-is_refused
returns c =
    let r = sym c.is_refused.ensures ∙ c.if-is_refused.true in
    c.no_judgement.ensures ∙ no_judgement_is _ _ _ _ _ _ r
    (job-slices _ _ _ _ _ _ _ (sym c.slices_refusal-sliced.ensures ∙ refusing _ r))

restraint_refusal_requires : tie.Need-restraint_refusal-restrained-requires
restraint_refusal_requires c κs = (sliced _ _ _ (measured c.before)).sizes

returns-2 : tie.Need-returns-then-is_refused-2
returns-2 c =
    let r = sym c.is_refused-2.ensures ∙ c.if-is_refused-2.true in
    c.no_judgement-then-is_refused-2.ensures ∙ no_judgement_is _ _ _ _ _ _ r (sym (told c.before.before.before) ∙ refusing _ r)

returns-3 : tie.Need-returns
returns-3 c =
    let e = sym (told c.before.before) ∙ accepting _ (sym c.is_refused-2.ensures ∙ c.if-is_refused-2.false) in
    let j = (opened _ _ (opened _ _ (sym (job-tests _ _ _ _ _ (measured c.before.before.before.before.before.before.before)) ∙ e)).0).0 in
    c.judge_by_differences-judged.ensures ∙ judgement-is _ _ _ _ _ e j

pub judged_job_spec : {M : Type 1} → statement M
judged_job_spec =
    tie.close
    (tie.spec
    (λ c κs. search rules)
    (λ c κs. search rules)
    (λ c κs. search rules)
    returns
    (λ c κs. search rules)
    restraint_refusal_requires
    (λ c κs. search rules)
    (λ c κs. search rules)
    (λ c κs. search rules)
    (λ c κs. search rules)
    (λ c κs. search rules)
    returns-2
    returns-3)
