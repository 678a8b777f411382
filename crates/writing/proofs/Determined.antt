-- Any two outcomes that keep the promise of a public function are identical: the answer and what each lent buffer holds at the end. `Post` is the
-- contract itself, as the check reads it from the source: where a clause of it is dropped or weakened, the theorem fails. Assumes nothing.
-- (tools/determined.py writes this file.)
use mathlib.Core.Path.{◌≡◌, sym, ◌∙◌}
use contract.Lifetimes.{Lfts}
use borrow.Fn.World.{ArgsD, ResD}
use borrow.Fn.Kinds.{ended_of}
use denote.Triple.Clauses.{AtExit}
use Rattle.algebra.proofs.Writing.{wrote_determines}
use Rattle.writing.specs.contracts.encoding.put_restraint as put-restraint
use Rattle.writing.proofs.encoding.put_restraint.Kinds as put-restraint-kinds
use Rattle.writing.proofs.encoding.put_restraint.Reads as put-restraint-reads
use Rattle.writing.specs.contracts.encoding.put_start as put-start
use Rattle.writing.proofs.encoding.put_start.Kinds as put-start-kinds
use Rattle.writing.proofs.encoding.put_start.Reads as put-start-reads
use Rattle.writing.specs.contracts.file.write as write
use Rattle.writing.proofs.file.write.Kinds as write-kinds
use Rattle.writing.proofs.file.write.Reads as write-reads
use Rattle.writing.specs.contracts.second.write_second as write-second
use Rattle.writing.proofs.second.write_second.Kinds as write-second-kinds
use Rattle.writing.proofs.second.write_second.Reads as write-second-reads

-- `put_restraint`: `out`, the place
module _ (κs : Lfts 1) (a : ArgsD put-restraint.signature κs) (r q : ResD put-restraint.signature κs)
    (s t : AtExit (ended_of 1 put-restraint-kinds.ps put-restraint-kinds.r) κs) where
  pub put_restraint_determined : put-restraint-reads.Post κs a r s → put-restraint-reads.Post κs a q t →
      (s.0.now ≡ t.0.now)
      × (r ≡ q)
  put_restraint_determined p e = wrote_determines p e

-- `put_start`: `out`, the place
module _ (κs : Lfts 1) (a : ArgsD put-start.signature κs) (r q : ResD put-start.signature κs)
    (s t : AtExit (ended_of 1 put-start-kinds.ps put-start-kinds.r) κs) where
  pub put_start_determined : put-start-reads.Post κs a r s → put-start-reads.Post κs a q t →
      (s.0.now ≡ t.0.now)
      × (r ≡ q)
  put_start_determined p e = wrote_determines p e

-- `write`: the answer, `out`
module _ (κs : Lfts 3) (a : ArgsD write.signature κs) (r q : ResD write.signature κs)
    (s t : AtExit (ended_of 3 write-kinds.ps write-kinds.r) κs) where
  pub write_determined : write-reads.Post κs a r s → write-reads.Post κs a q t →
      (r ≡ q)
      × (s.1.1.1.1.1.0.now ≡ t.1.1.1.1.1.0.now)
  write_determined p e = (p.0 ∙ sym e.0, p.1 ∙ sym e.1)

-- `write_second`: the answer, `out`
module _ (κs : Lfts 4) (a : ArgsD write-second.signature κs) (r q : ResD write-second.signature κs)
    (s t : AtExit (ended_of 4 write-second-kinds.ps write-second-kinds.r) κs) where
  pub write_second_determined : write-second-reads.Post κs a r s → write-second-reads.Post κs a q t →
      (r ≡ q)
      × (s.1.1.1.1.1.1.0.now ≡ t.1.1.1.1.1.1.0.now)
  write_second_determined p e = (p.0 ∙ sym e.0, p.1 ∙ sym e.1)
