-- Any two outcomes that keep the promise of a public function are identical: the answer and what each lent buffer holds at the end. `Post` is the
-- contract itself, as the check reads it from the source: where a clause of it is dropped or weakened, the theorem fails. Assumes nothing.
-- (tools/determined.py writes this file.)
use mathlib.Core.Path.{◌≡◌, sym, ◌∙◌}
use contract.Lifetimes.{Lfts}
use borrow.Fn.World.{ArgsD, ResD}
use borrow.Fn.Kinds.{ended_of}
use denote.Triple.Clauses.{AtExit}
use Rattle.claims.specs.contracts.comparing.compare as compare
use Rattle.claims.proofs.comparing.compare.Kinds as compare-kinds
use Rattle.claims.proofs.comparing.compare.Reads as compare-reads
use Rattle.claims.specs.contracts.comparing.under as under
use Rattle.claims.proofs.comparing.under.Kinds as under-kinds
use Rattle.claims.proofs.comparing.under.Reads as under-reads

-- `compare`: the answer
module _ (κs : Lfts 2) (a : ArgsD compare.signature κs) (r q : ResD compare.signature κs)
    (s t : AtExit (ended_of 2 compare-kinds.ps compare-kinds.r) κs) where
  pub compare_determined : compare-reads.Post κs a r s → compare-reads.Post κs a q t →
      r ≡ q
  compare_determined p e = p ∙ sym e

-- `under`: the answer
module _ (κs : Lfts 0) (a : ArgsD under.signature κs) (r q : ResD under.signature κs)
    (s t : AtExit (ended_of 0 under-kinds.ps under-kinds.r) κs) where
  pub under_determined : under-reads.Post κs a r s → under-reads.Post κs a q t →
      r ≡ q
  under_determined p e = p ∙ sym e
