-- Each way out by the test that refuses, the last by all that were passed.
use Rattle.std.proofs.Common.{sym, ◌∙◌, arith, rules}
use mir.Facts.{to_z-of_z}
use Rattle.laws.proofs.Chains.{listed-most}
use Rattle.laws.proofs.Edition2.{names-long}
use Rattle.writing.proofs.writable.Slices.{laid}
use Rattle.writing.proofs.second.Verdicts.{slices_refuse, sizes_there, names-most, names_refuse, job_refuses, no_room, there}
use Rattle.writing.proofs.second.second_refusal.Goals as goal

pub returns-in_err-slices_refusal : goal.returns-in_err-slices_refusal
returns-in_err-slices_refusal c =
    let a = c.args in
    let e = slices_refuse a.head a.blocks.now a.readings.now a.set a.sum a.names.now a.space c.in_err-slices_refusal.field-0.0
    (sym c.slices_refusal.ensures ∙ c.in_err-slices_refusal.was) in
    search (rules, e)

pub names_refusal-requires : goal.names_refusal-requires
names_refusal-requires c =
    let a = c.args in
    sizes_there a.head a.blocks.now a.readings.now a.set a.sum a.names.now a.space (sym c.slices_refusal.ensures ∙ c.in_ok-slices_refusal.was)

pub returns-in_err-names_refusal : goal.returns-in_err-names_refusal
returns-in_err-names_refusal c =
    let a = c.args in
    let e = names_refuse a.head a.blocks.now a.readings.now a.set a.sum a.names.now a.space (sym c.slices_refusal.ensures ∙ c.in_ok-slices_refusal.was)
    c.in_err-names_refusal.field-0.0 (sym c.names_refusal.ensures ∙ c.in_err-names_refusal.was) in
    search (rules, e)

pub returns-in_err-refusal : goal.returns-in_err-refusal
returns-in_err-refusal c =
    let a = c.args in
    let told = rw (to_z-of_z c.ranges.sum) at c.refusal.ensures in
    let e = job_refuses a.head a.blocks.now a.readings.now a.set a.sum a.names.now a.space (sym c.slices_refusal.ensures ∙ c.in_ok-slices_refusal.was)
    (sym c.names_refusal.ensures ∙ c.in_ok-names_refusal.was) c.in_err-refusal.field-0.0 (sym told ∙ c.in_err-refusal.was) in
    search (rules, e)

pub overflow_add-length-2 : goal.overflow_add-length-2
overflow_add-length-2 c =
    let a = c.args in
    let told = rw (to_z-of_z c.ranges.sum) at c.refusal.ensures in
    let lengths = laid a.head a.blocks.now a.readings.now a.set a.sum (sym told ∙ c.in_ok-refusal.was) in
    omega (arith, listed-most _ lengths.0, lengths.1, lengths.2, lengths.0.blocks-most)

pub overflow_add-length-3 : goal.overflow_add-length-3
overflow_add-length-3 c =
    let a = c.args in
    let told = rw (to_z-of_z c.ranges.sum) at c.refusal.ensures in
    let lengths = laid a.head a.blocks.now a.readings.now a.set a.sum (sym told ∙ c.in_ok-refusal.was) in
    omega (
      arith,
      listed-most _ lengths.0,
      lengths.1,
      lengths.2,
      lengths.0.blocks-most,
      c.names_room.ensures,
      names-long a.names.now,
      names-most a.head a.names.now (sym c.names_refusal.ensures ∙ c.in_ok-names_refusal.was) lengths.0.objects-most,
    )

pub returns-then-space-length : goal.returns-then-space-length
returns-then-space-length c =
    let a = c.args in
    let told = rw (to_z-of_z c.ranges.sum) at c.refusal.ensures in
    let lengths = laid a.head a.blocks.now a.readings.now a.set a.sum (sym told ∙ c.in_ok-refusal.was) in
    let e = no_room a.head a.blocks.now a.readings.now a.set a.sum a.names.now a.space (sym c.slices_refusal.ensures ∙ c.in_ok-slices_refusal.was)
    (sym c.names_refusal.ensures ∙ c.in_ok-names_refusal.was) (sym told ∙ c.in_ok-refusal.was)
    (omega (arith, lengths.1, lengths.2, c.names_room.ensures)) in
    search (rules, e)

pub returns : goal.returns
returns c =
    let a = c.args in
    let told = rw (to_z-of_z c.ranges.sum) at c.refusal.ensures in
    let lengths = laid a.head a.blocks.now a.readings.now a.set a.sum (sym told ∙ c.in_ok-refusal.was) in
    let e = there a.head a.blocks.now a.readings.now a.set a.sum a.names.now a.space (sym c.slices_refusal.ensures ∙ c.in_ok-slices_refusal.was)
    (sym c.names_refusal.ensures ∙ c.in_ok-names_refusal.was) (sym told ∙ c.in_ok-refusal.was)
    (omega (arith, lengths.1, lengths.2, c.names_room.ensures)) in
    search (rules, e)
