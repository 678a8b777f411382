-- A refusal of reading stays, and past it the job of the file decides.
use Rattle.std.proofs.Common.{sym, ◌∙◌, rules}
use Rattle.laws.proofs.Files.{file-job}
use Rattle.claims.proofs.Sheets.{under_refused, under_accepted}
use Rattle.job.proofs.sheet.Checking.{file-refused, file-held}
use Rattle.job.proofs.sheet.check_file.Goals as goal

pub returns-in_err-under : goal.returns-in_err-under
returns-in_err-under c =
    let e = file-refused c.args.bytes.now c.args.claims.now c.args.claimed c.in_err-under.field-0.0
    (sym c.read_refusal.ensures ∙ under_refused _ _ c.in_err-under.field-0.0 (sym c.under.ensures ∙ c.in_err-under.was)) in
    search (rules, e)

pub check_held-requires : goal.check_held-requires
check_held-requires c = (file-job c.args.bytes.now (sym c.read_refusal.ensures ∙ under_accepted _ _ _ (sym c.under.ensures ∙ c.in_ok-under.was))).0

pub returns : goal.returns
returns c =
    c.check_held.ensures ∙ file-held c.args.bytes.now c.args.claims.now c.args.claimed (sym c.read_refusal.ensures ∙ under_accepted _ _ _ (sym c.under.ensures ∙ c.in_ok-under.was))
