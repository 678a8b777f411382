-- The four fields are solved as a file, and the verdict is moved.
use Rattle.std.proofs.Common.{sym, ap, ◌∙◌, arith, length}
use Rattle.records.specs.declared.Solved.{Solved}
use Rattle.meaning.specs.Refusals.{place}
use Rattle.meaning.specs.Edition2.{four_of}
use Rattle.laws.proofs.Edition2.{whole}
use Rattle.verdicts.proofs.Told.{accepting}
use Rattle.job.proofs.second.Fields.{solve_none, solve_there}
use Rattle.job.proofs.second.Nearness.{solve_place}
use Rattle.job.proofs.second.solve_second.Goals as goal

pub returns-then-is_refused : goal.returns-then-is_refused
returns-then-is_refused c =
    let a = c.args in
    let e = solve_none a.bytes.now _ c.second_fields-framed.ensures (sym c.is_refused.ensures ∙ c.if-is_refused.true)
    (length a.words.now) (length a.values.now) (length a.deviations.now) _ a.words.now a.values.now a.deviations.now c.no_solution.ensures in
    record { value = e.0; words_after = e.1.0; values_after = e.1.1.0; deviations_after = e.1.1.1 }

pub solved_on-requires : goal.solved_on-requires
solved_on-requires c =
    let a = c.args in
    let there = sym c.second_fields-framed.ensures ∙ accepting _ (sym c.is_refused.ensures ∙ c.if-is_refused.false) in
    let r = rw c.four_fields.ensures at c.solve.ensures.value in
    omega (
      arith,
      ap (λ (x : Solved). place x.verdict) r,
      solve_place (four_of a.bytes.now) (whole a.bytes.now there).four (length a.words.now) (length a.values.now) (length a.deviations.now),
    )

pub returns : goal.returns
returns c =
    let there = sym c.second_fields-framed.ensures ∙ accepting _ (sym c.is_refused.ensures ∙ c.if-is_refused.false) in
    let r = c.solve.ensures in
    let e = solve_there c.args.bytes.now there _ _ _ _ _ _ _ _ _ _ _ _ c.four_fields.ensures c.solved_on.ensures
    (r.value, (r.words_after, (r.values_after, r.deviations_after))) in
    record { value = e.0; words_after = e.1.0; values_after = e.1.1.0; deviations_after = e.1.1.1 }
