-- Any two outcomes that keep the promise of a public function are identical: the answer and what each lent buffer holds at the end. `Post` is the
-- contract itself, as the check reads it from the source: where a clause of it is dropped or weakened, the theorem fails. Assumes nothing.
-- (tools/determined.py writes this file.)
use mathlib.Core.Path.{◌≡◌, sym, ◌∙◌}
use contract.Lifetimes.{Lfts}
use borrow.Fn.World.{ArgsD, ResD}
use borrow.Fn.Kinds.{ended_of}
use denote.Triple.Clauses.{AtExit}
use Rattle.design.specs.contracts.blocks.pairs_refusal as pairs-refusal
use Rattle.design.proofs.blocks.pairs_refusal.Kinds as pairs-refusal-kinds
use Rattle.design.proofs.blocks.pairs_refusal.Reads as pairs-refusal-reads
use Rattle.design.specs.contracts.blocks.stands_among as stands-among
use Rattle.design.proofs.blocks.stands_among.Kinds as stands-among-kinds
use Rattle.design.proofs.blocks.stands_among.Reads as stands-among-reads
use Rattle.design.specs.contracts.development.develop as develop
use Rattle.design.proofs.development.develop.Kinds as develop-kinds
use Rattle.design.proofs.development.develop.Reads as develop-reads
use Rattle.design.specs.contracts.development.develop_initial as develop-initial
use Rattle.design.proofs.development.develop_initial.Kinds as develop-initial-kinds
use Rattle.design.proofs.development.develop_initial.Reads as develop-initial-reads
use Rattle.design.specs.contracts.differences.count_differences as count-differences
use Rattle.design.proofs.differences.count_differences.Kinds as count-differences-kinds
use Rattle.design.proofs.differences.count_differences.Reads as count-differences-reads
use Rattle.design.specs.contracts.sizes.sized as sized
use Rattle.design.proofs.sizes.sized.Kinds as sized-kinds
use Rattle.design.proofs.sizes.sized.Reads as sized-reads
use Rattle.design.specs.contracts.sizes.objects as objects
use Rattle.design.proofs.sizes.objects.Kinds as objects-kinds
use Rattle.design.proofs.sizes.objects.Reads as objects-reads

-- `pairs_refusal`: the answer
module _ (κs : Lfts 1) (a : ArgsD pairs-refusal.signature κs) (r q : ResD pairs-refusal.signature κs)
    (s t : AtExit (ended_of 1 pairs-refusal-kinds.ps pairs-refusal-kinds.r) κs) where
  pub pairs_refusal_determined : pairs-refusal-reads.Post κs a r s → pairs-refusal-reads.Post κs a q t →
      r ≡ q
  pairs_refusal_determined p e = p ∙ sym e

-- `stands_among`: the answer
module _ (κs : Lfts 1) (a : ArgsD stands-among.signature κs) (r q : ResD stands-among.signature κs)
    (s t : AtExit (ended_of 1 stands-among-kinds.ps stands-among-kinds.r) κs) where
  pub stands_among_determined : stands-among-reads.Post κs a r s → stands-among-reads.Post κs a q t →
      r ≡ q
  stands_among_determined p e = p ∙ sym e

-- `develop`: the answer, `words`
module _ (κs : Lfts 2) (a : ArgsD develop.signature κs) (r q : ResD develop.signature κs)
    (s t : AtExit (ended_of 2 develop-kinds.ps develop-kinds.r) κs) where
  pub develop_determined : develop-reads.Post κs a r s → develop-reads.Post κs a q t →
      (r ≡ q)
      × (s.1.1.0.now ≡ t.1.1.0.now)
  develop_determined p e = (p.0 ∙ sym e.0, p.1 ∙ sym e.1)

-- `develop_initial`: the answer, `words`
module _ (κs : Lfts 2) (a : ArgsD develop-initial.signature κs) (r q : ResD develop-initial.signature κs)
    (s t : AtExit (ended_of 2 develop-initial-kinds.ps develop-initial-kinds.r) κs) where
  pub develop_initial_determined : develop-initial-reads.Post κs a r s → develop-initial-reads.Post κs a q t →
      (r ≡ q)
      × (s.1.1.1.0.now ≡ t.1.1.1.0.now)
  develop_initial_determined p e = (p.0 ∙ sym e.0, p.1 ∙ sym e.1)

-- `count_differences`: the answer
module _ (κs : Lfts 1) (a : ArgsD count-differences.signature κs) (r q : ResD count-differences.signature κs)
    (s t : AtExit (ended_of 1 count-differences-kinds.ps count-differences-kinds.r) κs) where
  pub count_differences_determined : count-differences-reads.Post κs a r s → count-differences-reads.Post κs a q t →
      r ≡ q
  count_differences_determined p e = p ∙ sym e

-- `sized`: the answer
module _ (κs : Lfts 0) (a : ArgsD sized.signature κs) (r q : ResD sized.signature κs)
    (s t : AtExit (ended_of 0 sized-kinds.ps sized-kinds.r) κs) where
  pub sized_determined : sized-reads.Post κs a r s → sized-reads.Post κs a q t →
      r ≡ q
  sized_determined p e = p ∙ sym e

-- `objects`: the answer
module _ (κs : Lfts 0) (a : ArgsD objects.signature κs) (r q : ResD objects.signature κs)
    (s t : AtExit (ended_of 0 objects-kinds.ps objects-kinds.r) κs) where
  pub objects_determined : objects-reads.Post κs a r s → objects-reads.Post κs a q t →
      r ≡ q
  objects_determined p e = p ∙ sym e
