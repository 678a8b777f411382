-- A job's verdict, test by test. Assumes nothing.
use mathlib.Core.Path.{◌≡◌, sym, ap, ap₂, ◌∙◌}
use mathlib.Core.Bool.{true, false}
use mathlib.Core.List.{List}
use Prim.Native.Nat.{ℕ}
use lib.IntN.{ℤ}
use Rattle.records.specs.declared.Head.{Head}
use Rattle.meaning.specs.Refusals.{Verdict, ◌⨾◌, accepted, refused, number, place, in_balance, restraint, in_reach}
use Rattle.meaning.specs.Calls.{given, slices, contents, job_verdict, judge_verdict, judged}
use Rattle.laws.proofs.Chains.{goes_on, refused_stays}
use Rattle.verdicts.proofs.Told.{refusing}
use Rattle.weighing.proofs.Slices.{design-clean}
use Rattle.verdicts.specs.Zeros.{no_judgement}
use Rattle.judging.specs.Judgement.{judged_under, job_judged}

module _ (h : Head) (d : List ℕ) (y : List ℤ) (w : ℕ) (M : ℤ) where
  -- the sizes or a length is refused
  pub job-slices : (k at : ℕ) → slices h d y ≡ refused k at → job_verdict h d y w M ≡ refused k at
  unfolding job_verdict
  job-slices k at e = refused_stays _ k at e

  -- past the lengths, the tests of the job are those of its design, its restraint and its readings, one after another
  pub job-tests : slices h d y ≡ accepted → job_verdict h d y w M ≡ judge_verdict h d ⨾ restraint h w M ⨾ in_reach y
  unfolding job_verdict contents judge_verdict
  job-tests s = goes_on _ s ∙ ap (λ (v : Verdict). v ⨾ in_balance h d ⨾ restraint h w M ⨾ in_reach y) (sym (design-clean h d y s))

  -- so the verdicts of the three, each told, chained in this order are the job's
  pub job-told : {design restrained reached all : Verdict} → slices h d y ≡ accepted →
      design ≡ judge_verdict h d → restrained ≡ restraint h w M → reached ≡ in_reach y →
      all ≡ design ⨾ restrained ⨾ reached → all ≡ job_verdict h d y w M
  job-told s a b c e = e ∙ ap₂ ◌⨾◌ (ap₂ ◌⨾◌ a b) c ∙ sym (job-tests s)

  -- a refusal has no parameters
  pub no_judgement_is : (v : Verdict) → given v false true ≡ true → job_verdict h d y w M ≡ refused (number v) (place v) →
      no_judgement v ≡ judged_under (job_verdict h d y w M) h d
  no_judgement_is v r e = ap no_judgement (refusing v r) ∙ sym (ap (λ (v : Verdict). judged_under v h d) e)

  -- an accepted job's judgement is its design's
  pub judgement-is : job_verdict h d y w M ≡ accepted → judge_verdict h d ≡ accepted → judged h d ≡ job_judged h d y w M
  judgement-is e j = ap (λ (v : Verdict). judged_under v h d) (j ∙ sym e)
