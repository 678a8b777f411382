-- `uncertainty_of`: what is made from the value and the spread.
use Rattle.std.proofs.Common.{sym, ◌∙◌, to_z-of_z}
use Rattle.analysis.proofs.uncertainty.Stating.{states}
use Rattle.analysis.proofs.uncertainty.uncertainty_of.Goals as goal

pub returns : goal.returns
returns c =
    let a = c.args in
    states a.head a.blocks.now a.readings.now a.set a.sum a.object c.value_of-valued.result c.spread-measured.result
    (rw (to_z-of_z c.ranges.sum) at c.value_of-valued.ensures) c.spread-measured.ensures (sym c.is_refused.ensures ∙ c.if-is_refused.false)
    c.uncertainty_from-uncertainty.result (search c.uncertainty_from-uncertainty.ensures)
