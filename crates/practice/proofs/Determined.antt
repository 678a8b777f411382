-- Any two outcomes that keep the promise of a public function are identical: the answer and what each lent buffer holds at the end. `Post` is the
-- contract itself, as the check reads it from the source: where a clause of it is dropped or weakened, the theorem fails. Assumes nothing.
-- (tools/determined.py writes this file.)
use mathlib.Core.Path.{◌≡◌, sym, ◌∙◌}
use contract.Lifetimes.{Lfts}
use borrow.Fn.World.{ArgsD, ResD}
use borrow.Fn.Kinds.{ended_of}
use denote.Triple.Clauses.{AtExit}
use Rattle.practice.specs.contracts.file.practice_file as practice-file
use Rattle.practice.proofs.file.practice_file.Kinds as practice-file-kinds
use Rattle.practice.proofs.file.practice_file.Reads as practice-file-reads
use Rattle.practice.specs.contracts.readings.practice as practice
use Rattle.practice.proofs.readings.practice.Kinds as practice-kinds
use Rattle.practice.proofs.readings.practice.Reads as practice-reads

-- `practice_file`: the answer, `out`
module _ (κs : Lfts 3) (a : ArgsD practice-file.signature κs) (r q : ResD practice-file.signature κs)
    (s t : AtExit (ended_of 3 practice-file-kinds.ps practice-file-kinds.r) κs) where
  pub practice_file_determined : practice-file-reads.Post κs a r s → practice-file-reads.Post κs a q t →
      (r ≡ q)
      × (s.1.1.1.1.1.1.0.now ≡ t.1.1.1.1.1.1.0.now)
  practice_file_determined p e = (p.0 ∙ sym e.0, p.1 ∙ sym e.1)

-- `practice`: the answer, `readings`
module _ (κs : Lfts 3) (a : ArgsD practice.signature κs) (r q : ResD practice.signature κs)
    (s t : AtExit (ended_of 3 practice-kinds.ps practice-kinds.r) κs) where
  pub practice_determined : practice-reads.Post κs a r s → practice-reads.Post κs a q t →
      (r ≡ q)
      × (s.1.1.1.1.1.0.now ≡ t.1.1.1.1.1.0.now)
  practice_determined p e = (p.0 ∙ sym e.0, p.1 ∙ sym e.1)
