-- Any two outcomes that keep the promise of a public function are identical: the answer and what each lent buffer holds at the end. `Post` is the
-- contract itself, as the check reads it from the source: where a clause of it is dropped or weakened, the theorem fails. Assumes nothing.
-- (tools/determined.py writes this file.)
use mathlib.Core.Path.{◌≡◌, sym, ◌∙◌}
use contract.Lifetimes.{Lfts}
use borrow.Fn.World.{ArgsD, ResD}
use borrow.Fn.Kinds.{ended_of}
use denote.Triple.Clauses.{AtExit}
use Rattle.words.specs.contracts.ones as ones
use Rattle.words.proofs.ones.Kinds as ones-kinds
use Rattle.words.proofs.ones.Reads as ones-reads
use Rattle.words.specs.contracts.lowest as lowest
use Rattle.words.proofs.lowest.Kinds as lowest-kinds
use Rattle.words.proofs.lowest.Reads as lowest-reads
use Rattle.words.specs.contracts.without_lowest as without-lowest
use Rattle.words.proofs.without_lowest.Kinds as without-lowest-kinds
use Rattle.words.proofs.without_lowest.Reads as without-lowest-reads
use Rattle.words.specs.contracts.sides.in_company as in-company
use Rattle.words.proofs.sides.in_company.Kinds as in-company-kinds
use Rattle.words.proofs.sides.in_company.Reads as in-company-reads
use Rattle.words.specs.contracts.sides.in_opposition as in-opposition
use Rattle.words.proofs.sides.in_opposition.Kinds as in-opposition-kinds
use Rattle.words.proofs.sides.in_opposition.Reads as in-opposition-reads
use Rattle.words.specs.contracts.sides.holds as holds
use Rattle.words.proofs.sides.holds.Kinds as holds-kinds
use Rattle.words.proofs.sides.holds.Reads as holds-reads

-- `ones`: the answer
module _ (κs : Lfts 0) (a : ArgsD ones.signature κs) (r q : ResD ones.signature κs)
    (s t : AtExit (ended_of 0 ones-kinds.ps ones-kinds.r) κs) where
  pub ones_determined : ones-reads.Post κs a r s → ones-reads.Post κs a q t →
      r ≡ q
  ones_determined p e = p ∙ sym e

-- `lowest`: the answer
module _ (κs : Lfts 0) (a : ArgsD lowest.signature κs) (r q : ResD lowest.signature κs)
    (s t : AtExit (ended_of 0 lowest-kinds.ps lowest-kinds.r) κs) where
  pub lowest_determined : lowest-reads.Post κs a r s → lowest-reads.Post κs a q t →
      r ≡ q
  lowest_determined p e = p ∙ sym e

-- `without_lowest`: the answer
module _ (κs : Lfts 0) (a : ArgsD without-lowest.signature κs) (r q : ResD without-lowest.signature κs)
    (s t : AtExit (ended_of 0 without-lowest-kinds.ps without-lowest-kinds.r) κs) where
  pub without_lowest_determined : without-lowest-reads.Post κs a r s → without-lowest-reads.Post κs a q t →
      r ≡ q
  without_lowest_determined p e = p ∙ sym e

-- `in_company`: the answer
module _ (κs : Lfts 0) (a : ArgsD in-company.signature κs) (r q : ResD in-company.signature κs)
    (s t : AtExit (ended_of 0 in-company-kinds.ps in-company-kinds.r) κs) where
  pub in_company_determined : in-company-reads.Post κs a r s → in-company-reads.Post κs a q t →
      r ≡ q
  in_company_determined p e = p ∙ sym e

-- `in_opposition`: the answer
module _ (κs : Lfts 0) (a : ArgsD in-opposition.signature κs) (r q : ResD in-opposition.signature κs)
    (s t : AtExit (ended_of 0 in-opposition-kinds.ps in-opposition-kinds.r) κs) where
  pub in_opposition_determined : in-opposition-reads.Post κs a r s → in-opposition-reads.Post κs a q t →
      r ≡ q
  in_opposition_determined p e = p ∙ sym e

-- `holds`: the answer
module _ (κs : Lfts 0) (a : ArgsD holds.signature κs) (r q : ResD holds.signature κs)
    (s t : AtExit (ended_of 0 holds-kinds.ps holds-kinds.r) κs) where
  pub holds_determined : holds-reads.Post κs a r s → holds-reads.Post κs a q t →
      r ≡ q
  holds_determined p e = p ∙ sym e
