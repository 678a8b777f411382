-- What the direct call is handed is what the file holds.
use Rattle.std.proofs.Common.{arith, rules, sym, ◌∙◌}
use lib.Seq.{length-take-le}
use Rattle.meaning.specs.Sheet.{check_answer}
use Rattle.job.proofs.Holding.{held-blocks, held-readings, held-sum, held-end, held-few}
use Rattle.job.proofs.places.Places.{readings-most}
use Rattle.job.proofs.sheet.check_held.Goals as goal

pub slice_bounds-check_sheet-end : goal.slice_bounds-check_sheet-end
slice_bounds-check_sheet-end c = omega (arith, held-end _ _ c.held-held.ensures c.requires)

pub slice_bounds-decoded-end : goal.slice_bounds-decoded-end
slice_bounds-decoded-end c = held-few _ _ c.held-held.ensures c.requires _ _ _ (omega arith) c.readings.ensures

pub slice_bounds-check_sheet-end-2 : goal.slice_bounds-check_sheet-end-2
slice_bounds-check_sheet-end-2 c = sym (length-take-le _ _ (held-few _ _ c.held-held.ensures c.requires _ _ _ (omega arith) c.readings.ensures))

pub returns : goal.returns
returns c =
    let held = c.held-held.ensures in
    let most = readings-most _ c.requires in
    let listed = held-blocks _ _ held in
    let read = held-readings _ _ held _ _ (omega arith) c.readings.ensures in
    let sum = held-sum _ _ held (search rules) in
    c.check_sheet.ensures ∙ (λ i. check_answer (held i).head (listed i) (read i) (held i).set (sum i) c.args.claims.now c.args.claimed)
