-- `values`: the job worked out in two local rooms and the lent one, so that the lent one decides.
use Rattle.std.proofs.Common.{length, ap, ◌∙◌, to_z-of_z}
use Rattle.records.specs.declared.Solved.{Solved}
use Rattle.meaning.specs.Calls.{values_under}
use Rattle.meaning.specs.Refusals.{Verdict}
use Rattle.analysis.proofs.values.Refusing.{values-verdict}
use Rattle.analysis.proofs.values.values.Goals as goal

pub returns-clause-value : goal.returns-clause-value
returns-clause-value c =
    let a = c.args in
    (ap (λ (r : Solved). r.verdict) (rw (to_z-of_z c.ranges.sum) at c.analyse-solved.ensures.value))
    ∙ values-verdict a.head a.blocks.now a.readings.now a.set a.sum (length a.values.now)

pub returns-clause-values_after : goal.returns-clause-values_after
returns-clause-values_after c =
    let a = c.args in
    (rw (to_z-of_z c.ranges.sum) at c.analyse-solved.ensures.values_after)
    ∙ ap (λ (v : Verdict). values_under v a.head a.blocks.now a.readings.now a.set a.sum a.values.now)
    (values-verdict a.head a.blocks.now a.readings.now a.set a.sum (length a.values.now))
