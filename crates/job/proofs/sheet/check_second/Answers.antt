-- A refusal of reading stays, and past it the job of the four fields decides.
use Rattle.std.proofs.Common.{sym, ap, ◌∙◌, rules, List, ℕ}
use Rattle.meaning.specs.File.{fields}
use Rattle.meaning.specs.Edition2.{four_of}
use Rattle.laws.proofs.Files.{file-job}
use Rattle.laws.proofs.Edition2.{file_job2}
use Rattle.job.specs.Direct.{direct_checked}
use Rattle.claims.proofs.Sheets.{under_refused, under_accepted}
use Rattle.job.proofs.sheet.Checking.{second-refused, second-held}
use Rattle.job.proofs.sheet.check_second.Goals as goal

pub returns-in_err-under : goal.returns-in_err-under
returns-in_err-under c =
    let e = second-refused c.args.bytes.now c.args.claims.now c.args.claimed c.in_err-under.field-0.0
    (sym c.second_refusal.ensures ∙ under_refused _ _ c.in_err-under.field-0.0 (sym c.under.ensures ∙ c.in_err-under.was)) in
    search (rules, e)

pub check_held-requires : goal.check_held-requires
check_held-requires c =
    let s = c.args.bytes.now in
    ap (λ (t : List ℕ). fields t) c.four_fields.ensures
    ∙ (file-job (four_of s) (file_job2 s (sym c.second_refusal.ensures ∙ under_accepted _ _ _ (sym c.under.ensures ∙ c.in_ok-under.was))).1).0

pub returns : goal.returns
returns c =
    c.check_held.ensures ∙ ap (λ (t : List ℕ). direct_checked t c.args.claims.now c.args.claimed) c.four_fields.ensures
    ∙ second-held c.args.bytes.now c.args.claims.now c.args.claimed (sym c.second_refusal.ensures ∙ under_accepted _ _ _ (sym c.under.ensures ∙ c.in_ok-under.was))
