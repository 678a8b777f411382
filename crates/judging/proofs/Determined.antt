-- Any two outcomes that keep the promise of a public function are identical: the answer and what each lent buffer holds at the end. `Post` is the
-- contract itself, as the check reads it from the source: where a clause of it is dropped or weakened, the theorem fails. Assumes nothing.
-- (tools/determined.py writes this file.)
use mathlib.Core.Path.{◌≡◌, sym, ◌∙◌}
use contract.Lifetimes.{Lfts}
use borrow.Fn.World.{ArgsD, ResD}
use borrow.Fn.Kinds.{ended_of}
use denote.Triple.Clauses.{AtExit}
use Rattle.judging.specs.contracts.order.refusal as refusal
use Rattle.judging.proofs.order.refusal.Kinds as refusal-kinds
use Rattle.judging.proofs.order.refusal.Reads as refusal-reads
use Rattle.judging.specs.contracts.order.judged_job as judged-job
use Rattle.judging.proofs.order.judged_job.Kinds as judged-job-kinds
use Rattle.judging.proofs.order.judged_job.Reads as judged-job-reads

-- `refusal`: the answer
module _ (κs : Lfts 2) (a : ArgsD refusal.signature κs) (r q : ResD refusal.signature κs)
    (s t : AtExit (ended_of 2 refusal-kinds.ps refusal-kinds.r) κs) where
  pub refusal_determined : refusal-reads.Post κs a r s → refusal-reads.Post κs a q t →
      r ≡ q
  refusal_determined p e = p ∙ sym e

-- `judged_job`: the answer
module _ (κs : Lfts 2) (a : ArgsD judged-job.signature κs) (r q : ResD judged-job.signature κs)
    (s t : AtExit (ended_of 2 judged-job-kinds.ps judged-job-kinds.r) κs) where
  pub judged_job_determined : judged-job-reads.Post κs a r s → judged-job-reads.Post κs a q t →
      r ≡ q
  judged_job_determined p e = p ∙ sym e
