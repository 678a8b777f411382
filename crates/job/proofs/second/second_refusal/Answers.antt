-- Once the fields are there, the verdict on the four as a file, moved, is that of reading.
use Rattle.std.proofs.Common.{sym, ap, ◌∙◌, arith, rules, List, ℕ}
use Rattle.meaning.specs.Refusals.{place}
use Rattle.meaning.specs.File.{read_verdict}
use Rattle.meaning.specs.Edition2.{four_of, moved_on}
use Rattle.laws.proofs.Edition2.{whole, read_moved2}
use Rattle.job.proofs.second.Fields.{fields_refuse}
use Rattle.job.proofs.second.Nearness.{read-place}
use Rattle.job.proofs.second.second_refusal.Goals as goal

pub returns-in_err-second_fields : goal.returns-in_err-second_fields
returns-in_err-second_fields c =
    let e = fields_refuse c.args.bytes.now c.in_err-second_fields.field-0.0 (sym c.second_fields.ensures ∙ c.in_err-second_fields.was) in
    search (rules, e)

pub moved_on-requires : goal.moved_on-requires
moved_on-requires c =
    let s = c.args.bytes.now in
    omega (
      arith,
      ap place (c.read_refusal.ensures ∙ ap (λ (t : List ℕ). read_verdict t) c.four_fields.ensures),
      read-place (four_of s) (whole s (sym c.second_fields.ensures ∙ c.in_ok-second_fields.was)).four,
    )

pub returns : goal.returns
returns c =
    c.moved_on.ensures ∙ ap moved_on (c.read_refusal.ensures ∙ ap (λ (t : List ℕ). read_verdict t) c.four_fields.ensures)
    ∙ sym (read_moved2 c.args.bytes.now (sym c.second_fields.ensures ∙ c.in_ok-second_fields.was))
