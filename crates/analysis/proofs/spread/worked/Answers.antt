-- `worked`: the job worked out in two local rooms and the lent one, so that the lent one decides.
use Rattle.std.proofs.Common.{length, rules}
use Rattle.analysis.proofs.deviations.Refusing.{deviations-verdict}
use Rattle.analysis.proofs.spread.worked.Goals as goal

pub returns-clause-value : goal.returns-clause-value
returns-clause-value c =
    let a = c.args in
    rw (← deviations-verdict a.head a.blocks.now a.readings.now (length a.deviations.now)) (search rules)

pub returns-clause-deviations_after : goal.returns-clause-deviations_after
returns-clause-deviations_after c =
    let a = c.args in
    rw (← deviations-verdict a.head a.blocks.now a.readings.now (length a.deviations.now)) (search rules)
