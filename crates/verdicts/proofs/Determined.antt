-- Any two outcomes that keep the promise of a public function are identical: the answer and what each lent buffer holds at the end. `Post` is the
-- contract itself, as the check reads it from the source: where a clause of it is dropped or weakened, the theorem fails. Assumes nothing.
-- (tools/determined.py writes this file.)
use mathlib.Core.Path.{◌≡◌, sym, ◌∙◌}
use contract.Lifetimes.{Lfts}
use borrow.Fn.World.{ArgsD, ResD}
use borrow.Fn.Kinds.{ended_of}
use denote.Triple.Clauses.{AtExit}
use Rattle.verdicts.specs.contracts.is_refused as is-refused
use Rattle.verdicts.proofs.is_refused.Kinds as is-refused-kinds
use Rattle.verdicts.proofs.is_refused.Reads as is-refused-reads
use Rattle.verdicts.specs.contracts.first as first
use Rattle.verdicts.proofs.first.Kinds as first-kinds
use Rattle.verdicts.proofs.first.Reads as first-reads
use Rattle.verdicts.specs.contracts.no_judgement as no-judgement
use Rattle.verdicts.proofs.no_judgement.Kinds as no-judgement-kinds
use Rattle.verdicts.proofs.no_judgement.Reads as no-judgement-reads
use Rattle.verdicts.specs.contracts.no_solution as no-solution
use Rattle.verdicts.proofs.no_solution.Kinds as no-solution-kinds
use Rattle.verdicts.proofs.no_solution.Reads as no-solution-reads
use Rattle.verdicts.specs.contracts.no_total as no-total
use Rattle.verdicts.proofs.no_total.Kinds as no-total-kinds
use Rattle.verdicts.proofs.no_total.Reads as no-total-reads
use Rattle.verdicts.specs.contracts.no_sum as no-sum
use Rattle.verdicts.proofs.no_sum.Kinds as no-sum-kinds
use Rattle.verdicts.proofs.no_sum.Reads as no-sum-reads
use Rattle.verdicts.specs.contracts.no_value as no-value
use Rattle.verdicts.proofs.no_value.Kinds as no-value-kinds
use Rattle.verdicts.proofs.no_value.Reads as no-value-reads
use Rattle.verdicts.specs.contracts.no_deviation as no-deviation
use Rattle.verdicts.proofs.no_deviation.Kinds as no-deviation-kinds
use Rattle.verdicts.proofs.no_deviation.Reads as no-deviation-reads
use Rattle.verdicts.specs.contracts.no_job as no-job
use Rattle.verdicts.proofs.no_job.Kinds as no-job-kinds
use Rattle.verdicts.proofs.no_job.Reads as no-job-reads

-- `is_refused`: the answer
module _ (κs : Lfts 0) (a : ArgsD is-refused.signature κs) (r q : ResD is-refused.signature κs)
    (s t : AtExit (ended_of 0 is-refused-kinds.ps is-refused-kinds.r) κs) where
  pub is_refused_determined : is-refused-reads.Post κs a r s → is-refused-reads.Post κs a q t →
      r ≡ q
  is_refused_determined p e = p ∙ sym e

-- `first`: the answer
module _ (κs : Lfts 0) (a : ArgsD first.signature κs) (r q : ResD first.signature κs)
    (s t : AtExit (ended_of 0 first-kinds.ps first-kinds.r) κs) where
  pub first_determined : first-reads.Post κs a r s → first-reads.Post κs a q t →
      r ≡ q
  first_determined p e = p ∙ sym e

-- `no_judgement`: the answer
module _ (κs : Lfts 0) (a : ArgsD no-judgement.signature κs) (r q : ResD no-judgement.signature κs)
    (s t : AtExit (ended_of 0 no-judgement-kinds.ps no-judgement-kinds.r) κs) where
  pub no_judgement_determined : no-judgement-reads.Post κs a r s → no-judgement-reads.Post κs a q t →
      r ≡ q
  no_judgement_determined p e = p ∙ sym e

-- `no_solution`: the answer
module _ (κs : Lfts 0) (a : ArgsD no-solution.signature κs) (r q : ResD no-solution.signature κs)
    (s t : AtExit (ended_of 0 no-solution-kinds.ps no-solution-kinds.r) κs) where
  pub no_solution_determined : no-solution-reads.Post κs a r s → no-solution-reads.Post κs a q t →
      r ≡ q
  no_solution_determined p e = p ∙ sym e

-- `no_total`: the answer
module _ (κs : Lfts 0) (a : ArgsD no-total.signature κs) (r q : ResD no-total.signature κs)
    (s t : AtExit (ended_of 0 no-total-kinds.ps no-total-kinds.r) κs) where
  pub no_total_determined : no-total-reads.Post κs a r s → no-total-reads.Post κs a q t →
      r ≡ q
  no_total_determined p e = p ∙ sym e

-- `no_sum`: the answer
module _ (κs : Lfts 0) (a : ArgsD no-sum.signature κs) (r q : ResD no-sum.signature κs)
    (s t : AtExit (ended_of 0 no-sum-kinds.ps no-sum-kinds.r) κs) where
  pub no_sum_determined : no-sum-reads.Post κs a r s → no-sum-reads.Post κs a q t →
      r ≡ q
  no_sum_determined p e = p ∙ sym e

-- `no_value`: the answer
module _ (κs : Lfts 0) (a : ArgsD no-value.signature κs) (r q : ResD no-value.signature κs)
    (s t : AtExit (ended_of 0 no-value-kinds.ps no-value-kinds.r) κs) where
  pub no_value_determined : no-value-reads.Post κs a r s → no-value-reads.Post κs a q t →
      r ≡ q
  no_value_determined p e = p ∙ sym e

-- `no_deviation`: the answer
module _ (κs : Lfts 0) (a : ArgsD no-deviation.signature κs) (r q : ResD no-deviation.signature κs)
    (s t : AtExit (ended_of 0 no-deviation-kinds.ps no-deviation-kinds.r) κs) where
  pub no_deviation_determined : no-deviation-reads.Post κs a r s → no-deviation-reads.Post κs a q t →
      r ≡ q
  no_deviation_determined p e = p ∙ sym e

-- `no_job`: the answer
module _ (κs : Lfts 0) (a : ArgsD no-job.signature κs) (r q : ResD no-job.signature κs)
    (s t : AtExit (ended_of 0 no-job-kinds.ps no-job-kinds.r) κs) where
  pub no_job_determined : no-job-reads.Post κs a r s → no-job-reads.Post κs a q t →
      r ≡ q
  no_job_determined p e = p ∙ sym e
