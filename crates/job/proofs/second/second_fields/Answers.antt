-- Each way out by the test that refuses, and the last by the optional fields.
use Rattle.std.proofs.Common.{sym, ap, ◌∙◌, arith, rules, List, ℕ}
use Rattle.meaning.specs.Refusals.{place}
use Rattle.meaning.specs.File.{head_of, fields}
use Rattle.meaning.specs.Edition2.{four_of, moved_on, names_length}
use Rattle.laws.proofs.Edition2.{edited, four-inside, moved-accepted}
use Rattle.job.proofs.second.Fields.{edition_refuses, four_refuses, optional-counts, optional-is}
use Rattle.job.proofs.second.Nearness.{fields-place}
use Rattle.job.proofs.second.second_fields.Goals as goal

pub returns-in_err-edition_refusal : goal.returns-in_err-edition_refusal
returns-in_err-edition_refusal c =
    let e = edition_refuses c.args.bytes.now (omega arith) c.in_err-edition_refusal.field-0.0
    (sym c.edition_refusal.ensures ∙ c.in_err-edition_refusal.was) in
    search (rules, e)

pub moved_on-requires : goal.moved_on-requires
moved_on-requires c =
    let s = c.args.bytes.now in
    omega (
      arith,
      ap place (c.fields_refusal.ensures ∙ ap (λ (t : List ℕ). fields t) c.four_fields-four.ensures),
      fields-place (four_of s),
      four-inside s (edited s (sym c.edition_refusal.ensures ∙ c.in_ok-edition_refusal.was)).long,
    )

pub returns-in_err-moved_on : goal.returns-in_err-moved_on
returns-in_err-moved_on c =
    let s = c.args.bytes.now in
    let found = c.moved_on.ensures ∙ ap moved_on (c.fields_refusal.ensures ∙ ap (λ (t : List ℕ). fields t) c.four_fields-four.ensures) in
    let e = four_refuses s (omega arith) (sym c.edition_refusal.ensures ∙ c.in_ok-edition_refusal.was) c.in_err-moved_on.field-0.0
    (sym found ∙ c.in_err-moved_on.was) in
    search (rules, e)

pub names_length-requires : goal.names_length-requires
names_length-requires c =
    let found = c.moved_on.ensures ∙ ap moved_on (c.fields_refusal.ensures ∙ ap (λ (t : List ℕ). fields t) c.four_fields-four.ensures) in
    ap (λ (t : List ℕ). fields t) c.four_fields-four.ensures ∙ moved-accepted _ (sym found ∙ c.in_ok-moved_on.was)

pub returns : goal.returns
returns c =
    let s = c.args.bytes.now in
    let found = c.moved_on.ensures ∙ ap moved_on (c.fields_refusal.ensures ∙ ap (λ (t : List ℕ). fields t) c.four_fields-four.ensures) in
    let names = c.names_length.ensures ∙ ap (λ (t : List ℕ). names_length (head_of t)) c.four_fields-four.ensures in
    c.optional_refusal.ensures ∙ optional-is s _ _ names c.four_end.ensures
    ∙ sym (optional-counts s (omega arith) (sym c.edition_refusal.ensures ∙ c.in_ok-edition_refusal.was) (sym found ∙ c.in_ok-moved_on.was))
