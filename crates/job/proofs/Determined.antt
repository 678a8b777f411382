-- Any two outcomes that keep the promise of a public function are identical: the answer and what each lent buffer holds at the end. `Post` is the
-- contract itself, as the check reads it from the source: where a clause of it is dropped or weakened, the theorem fails. Assumes nothing.
-- (tools/determined.py writes this file.)
use mathlib.Core.Path.{◌≡◌, sym, ◌∙◌}
use contract.Lifetimes.{Lfts}
use borrow.Fn.World.{ArgsD, ResD}
use borrow.Fn.Kinds.{ended_of}
use denote.Triple.Clauses.{AtExit}
use Rattle.job.specs.contracts.moving.to_second as to-second
use Rattle.job.proofs.moving.to_second.Kinds as to-second-kinds
use Rattle.job.proofs.moving.to_second.Reads as to-second-reads
use Rattle.job.specs.contracts.moving.to_first as to-first
use Rattle.job.proofs.moving.to_first.Kinds as to-first-kinds
use Rattle.job.proofs.moving.to_first.Reads as to-first-reads
use Rattle.job.specs.contracts.pooling.pool as pool
use Rattle.job.proofs.pooling.pool.Kinds as pool-kinds
use Rattle.job.proofs.pooling.pool.Reads as pool-reads
use Rattle.job.specs.contracts.reading.read as read
use Rattle.job.proofs.reading.read.Kinds as read-kinds
use Rattle.job.proofs.reading.read.Reads as read-reads
use Rattle.job.specs.contracts.second.read_second as read-second
use Rattle.job.proofs.second.read_second.Kinds as read-second-kinds
use Rattle.job.proofs.second.read_second.Reads as read-second-reads
use Rattle.job.specs.contracts.second.solve_second as solve-second
use Rattle.job.proofs.second.solve_second.Kinds as solve-second-kinds
use Rattle.job.proofs.second.solve_second.Reads as solve-second-reads
use Rattle.job.specs.contracts.second.set_second as set-second
use Rattle.job.proofs.second.set_second.Kinds as set-second-kinds
use Rattle.job.proofs.second.set_second.Reads as set-second-reads
use Rattle.job.specs.contracts.sheet.check_file as check-file
use Rattle.job.proofs.sheet.check_file.Kinds as check-file-kinds
use Rattle.job.proofs.sheet.check_file.Reads as check-file-reads
use Rattle.job.specs.contracts.sheet.check_second as check-second
use Rattle.job.proofs.sheet.check_second.Kinds as check-second-kinds
use Rattle.job.proofs.sheet.check_second.Reads as check-second-reads
use Rattle.job.specs.contracts.solving.solve as solve
use Rattle.job.proofs.solving.solve.Kinds as solve-kinds
use Rattle.job.proofs.solving.solve.Reads as solve-reads

-- `to_second`: the answer, `out`
module _ (κs : Lfts 2) (a : ArgsD to-second.signature κs) (r q : ResD to-second.signature κs)
    (s t : AtExit (ended_of 2 to-second-kinds.ps to-second-kinds.r) κs) where
  pub to_second_determined : to-second-reads.Post κs a r s → to-second-reads.Post κs a q t →
      (r ≡ q)
      × (s.1.0.now ≡ t.1.0.now)
  to_second_determined p e = (p.0 ∙ sym e.0, p.1 ∙ sym e.1)

-- `to_first`: the answer, `out`
module _ (κs : Lfts 2) (a : ArgsD to-first.signature κs) (r q : ResD to-first.signature κs)
    (s t : AtExit (ended_of 2 to-first-kinds.ps to-first-kinds.r) κs) where
  pub to_first_determined : to-first-reads.Post κs a r s → to-first-reads.Post κs a q t →
      (r ≡ q)
      × (s.1.0.now ≡ t.1.0.now)
  to_first_determined p e = (p.0 ∙ sym e.0, p.1 ∙ sym e.1)

-- `pool`: the answer
module _ (κs : Lfts 2) (a : ArgsD pool.signature κs) (r q : ResD pool.signature κs)
    (s t : AtExit (ended_of 2 pool-kinds.ps pool-kinds.r) κs) where
  pub pool_determined : pool-reads.Post κs a r s → pool-reads.Post κs a q t →
      r ≡ q
  pool_determined p e = p ∙ sym e

-- `read`: the answer
module _ (κs : Lfts 1) (a : ArgsD read.signature κs) (r q : ResD read.signature κs)
    (s t : AtExit (ended_of 1 read-kinds.ps read-kinds.r) κs) where
  pub read_determined : read-reads.Post κs a r s → read-reads.Post κs a q t →
      r ≡ q
  read_determined p e = p ∙ sym e

-- `read_second`: the answer
module _ (κs : Lfts 1) (a : ArgsD read-second.signature κs) (r q : ResD read-second.signature κs)
    (s t : AtExit (ended_of 1 read-second-kinds.ps read-second-kinds.r) κs) where
  pub read_second_determined : read-second-reads.Post κs a r s → read-second-reads.Post κs a q t →
      r ≡ q
  read_second_determined p e = p ∙ sym e

-- `solve_second`: the answer, `words`, `values`, `deviations`
module _ (κs : Lfts 4) (a : ArgsD solve-second.signature κs) (r q : ResD solve-second.signature κs)
    (s t : AtExit (ended_of 4 solve-second-kinds.ps solve-second-kinds.r) κs) where
  pub solve_second_determined : solve-second-reads.Post κs a r s → solve-second-reads.Post κs a q t →
      (r ≡ q)
      × (s.1.0.now ≡ t.1.0.now)
      × (s.1.1.0.now ≡ t.1.1.0.now)
      × (s.1.1.1.0.now ≡ t.1.1.1.0.now)
  solve_second_determined p e = (p.0 ∙ sym e.0, p.1.0 ∙ sym e.1.0, p.1.1.0 ∙ sym e.1.1.0, p.1.1.1 ∙ sym e.1.1.1)

-- `set_second`: the answer
module _ (κs : Lfts 1) (a : ArgsD set-second.signature κs) (r q : ResD set-second.signature κs)
    (s t : AtExit (ended_of 1 set-second-kinds.ps set-second-kinds.r) κs) where
  pub set_second_determined : set-second-reads.Post κs a r s → set-second-reads.Post κs a q t →
      r ≡ q
  set_second_determined p e = p ∙ sym e

-- `check_file`: the answer
module _ (κs : Lfts 2) (a : ArgsD check-file.signature κs) (r q : ResD check-file.signature κs)
    (s t : AtExit (ended_of 2 check-file-kinds.ps check-file-kinds.r) κs) where
  pub check_file_determined : check-file-reads.Post κs a r s → check-file-reads.Post κs a q t →
      r ≡ q
  check_file_determined p e = p ∙ sym e

-- `check_second`: the answer
module _ (κs : Lfts 2) (a : ArgsD check-second.signature κs) (r q : ResD check-second.signature κs)
    (s t : AtExit (ended_of 2 check-second-kinds.ps check-second-kinds.r) κs) where
  pub check_second_determined : check-second-reads.Post κs a r s → check-second-reads.Post κs a q t →
      r ≡ q
  check_second_determined p e = p ∙ sym e

-- `solve`: the answer, `words`, `values`, `deviations`
module _ (κs : Lfts 4) (a : ArgsD solve.signature κs) (r q : ResD solve.signature κs)
    (s t : AtExit (ended_of 4 solve-kinds.ps solve-kinds.r) κs) where
  pub solve_determined : solve-reads.Post κs a r s → solve-reads.Post κs a q t →
      (r ≡ q)
      × (s.1.0.now ≡ t.1.0.now)
      × (s.1.1.0.now ≡ t.1.1.0.now)
      × (s.1.1.1.0.now ≡ t.1.1.1.0.now)
  solve_determined p e = (p.0 ∙ sym e.0, p.1.0 ∙ sym e.1.0, p.1.1.0 ∙ sym e.1.1.0, p.1.1.1 ∙ sym e.1.1.1)
