-- What the direct call is handed is what the file holds.
use Rattle.std.proofs.Common.{arith, rules, sym, ◌∙◌}
use lib.Seq.{length-take-le}
use Rattle.job.proofs.Holding.{held-blocks, held-readings, held-sum, held-end, held-few}
use Rattle.job.proofs.places.Places.{readings-most}
use Rattle.job.proofs.reading.Directly.{job-held}
use Rattle.job.proofs.reading.direct_refusal.Goals as goal

pub slice_bounds-refusal-end : goal.slice_bounds-refusal-end
slice_bounds-refusal-end c = omega (arith, held-end _ _ c.held-held.ensures c.requires)

pub slice_bounds-decoded-end : goal.slice_bounds-decoded-end
slice_bounds-decoded-end c = held-few _ _ c.held-held.ensures c.requires _ _ _ (omega arith) c.readings.ensures

pub slice_bounds-refusal-end-2 : goal.slice_bounds-refusal-end-2
slice_bounds-refusal-end-2 c = sym (length-take-le _ _ (held-few _ _ c.held-held.ensures c.requires _ _ _ (omega arith) c.readings.ensures))

pub returns : goal.returns
returns c =
    let held = c.held-held.ensures in
    let most = readings-most _ c.requires in
    c.refusal.ensures
    ∙ job-held _ _ _ _ _ held (held-blocks _ _ held) (held-readings _ _ held _ _ (omega arith) c.readings.ensures) (held-sum _ _ held (search rules))
