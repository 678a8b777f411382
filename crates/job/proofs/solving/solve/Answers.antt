-- What the direct call is handed is what the file holds, its verdict is moved, and what it leaves in the rooms stays.
use Rattle.std.proofs.Common.{arith, rules, sym, ap, length, ◌∙◌, ◌≡◌}
use lib.Seq.{length-take-le}
use Rattle.records.specs.declared.Held.{Held}
use Rattle.meaning.specs.Refusals.{accepted}
use Rattle.meaning.specs.File.{fields}
use Rattle.verdicts.proofs.Told.{accepting}
use Rattle.job.proofs.Holding.{held-blocks, held-readings, held-sum, held-end, held-few}
use Rattle.job.proofs.places.Places.{readings-most}
use Rattle.job.proofs.solving.Rooms.{solve_near, solve_direct, solve_refused}
use Rattle.job.proofs.solving.solve.Goals as goal

pub returns-then-is_refused : goal.returns-then-is_refused
returns-then-is_refused c =
    let a = c.args in
    let e = solve_refused a.bytes.now _ c.fields_refusal-framed.ensures (sym c.is_refused.ensures ∙ c.if-is_refused.true)
    (length a.words.now) (length a.values.now) (length a.deviations.now) _ a.words.now a.values.now a.deviations.now c.no_solution.ensures in
    record { value = e.0; words_after = e.1.0; values_after = e.1.1.0; deviations_after = e.1.1.1 }

pub slice_bounds-analyse-end : goal.slice_bounds-analyse-end
slice_bounds-analyse-end c =
    let there : fields c.args.bytes.now ≡ accepted =
    sym c.fields_refusal-framed.ensures ∙ accepting _ (sym c.is_refused.ensures ∙ c.if-is_refused.false) in
    omega (arith, held-end _ _ c.held-held.ensures there)

pub slice_bounds-decoded-end : goal.slice_bounds-decoded-end
slice_bounds-decoded-end c =
    let there = sym c.fields_refusal-framed.ensures ∙ accepting _ (sym c.is_refused.ensures ∙ c.if-is_refused.false) in
    held-few _ _ c.held-held.ensures there _ _ _ (omega arith) c.readings.ensures

pub slice_bounds-analyse-end-2 : goal.slice_bounds-analyse-end-2
slice_bounds-analyse-end-2 c =
    let there = sym c.fields_refusal-framed.ensures ∙ accepting _ (sym c.is_refused.ensures ∙ c.if-is_refused.false) in
    sym (length-take-le _ _ (held-few _ _ c.held-held.ensures there _ _ _ (omega arith) c.readings.ensures))

pub in_file-requires : goal.in_file-requires
in_file-requires c =
    let there = sym c.fields_refusal-framed.ensures ∙ accepting _ (sym c.is_refused.ensures ∙ c.if-is_refused.false) in
    let held = c.held-held.ensures in
    let most = readings-most _ there in
    solve_near _ there _ _ _ _ _ (ap (λ (k : Held). k.head) held) (held-blocks _ _ held)
    (held-readings _ _ held _ _ (omega arith) c.readings.ensures) (ap (λ (k : Held). k.set) held) (held-sum _ _ held (search rules))
    _ _ _ _ c.analyse-solved.ensures.value

pub returns : goal.returns
returns c =
    let there = sym c.fields_refusal-framed.ensures ∙ accepting _ (sym c.is_refused.ensures ∙ c.if-is_refused.false) in
    let held = c.held-held.ensures in
    let most = readings-most _ there in
    let r = c.analyse-solved.ensures in
    let e = solve_direct _ there _ _ _ _ _ (ap (λ (k : Held). k.head) held) (held-blocks _ _ held)
    (held-readings _ _ held _ _ (omega arith) c.readings.ensures) (ap (λ (k : Held). k.set) held) (held-sum _ _ held (search rules))
    _ _ _ _ _ _ _ _ _ _ _ c.in_file.ensures (r.value, (r.words_after, (r.values_after, r.deviations_after))) in
    record { value = e.0; words_after = e.1.0; values_after = e.1.1.0; deviations_after = e.1.1.1 }
