-- Refused fields refuse the file, and past them the verdict of the direct call is moved.
use Rattle.std.proofs.Common.{sym, ap, ◌∙◌, arith, rules}
use Rattle.meaning.specs.Refusals.{Verdict, place}
use Rattle.meaning.specs.File.{placed}
use Rattle.job.proofs.reading.Directly.{direct-near, read-direct, read_unfit}
use Rattle.job.proofs.reading.read_refusal.Goals as goal

pub returns-in_err-fields_refusal : goal.returns-in_err-fields_refusal
returns-in_err-fields_refusal c =
    let e = read_unfit c.args.bytes.now c.in_err-fields_refusal.field-0.0 (sym c.fields_refusal.ensures ∙ c.in_err-fields_refusal.was) in
    search (rules, e)

pub direct_refusal-requires : goal.direct_refusal-requires
direct_refusal-requires c = sym c.fields_refusal.ensures ∙ c.in_ok-fields_refusal.was

pub moved-requires : goal.moved-requires
moved-requires c =
    omega (arith, ap place c.direct_refusal.ensures, direct-near c.args.bytes.now (sym c.fields_refusal.ensures ∙ c.in_ok-fields_refusal.was))

pub returns : goal.returns
returns c =
    c.moved.ensures ∙ ap (λ (v : Verdict). placed c.args.bytes.now v) c.direct_refusal.ensures
    ∙ read-direct c.args.bytes.now (sym c.fields_refusal.ensures ∙ c.in_ok-fields_refusal.was)
