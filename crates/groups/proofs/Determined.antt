-- Any two outcomes that keep the promise of a public function are identical: the answer and what each lent buffer holds at the end. `Post` is the
-- contract itself, as the check reads it from the source: where a clause of it is dropped or weakened, the theorem fails. Assumes nothing.
-- (tools/determined.py writes this file.)
use mathlib.Core.Path.{◌≡◌, sym, ◌∙◌}
use contract.Lifetimes.{Lfts}
use borrow.Fn.World.{ArgsD, ResD}
use borrow.Fn.Kinds.{ended_of}
use denote.Triple.Clauses.{AtExit}
use Rattle.groups.specs.contracts.base.group_base as group-base
use Rattle.groups.proofs.base.group_base.Kinds as group-base-kinds
use Rattle.groups.proofs.base.group_base.Reads as group-base-reads
use Rattle.groups.specs.contracts.judging.grouped as grouped
use Rattle.groups.proofs.judging.grouped.Kinds as grouped-kinds
use Rattle.groups.proofs.judging.grouped.Reads as grouped-reads

-- `group_base`: the answer, `words`
module _ (κs : Lfts 2) (a : ArgsD group-base.signature κs) (r q : ResD group-base.signature κs)
    (s t : AtExit (ended_of 2 group-base-kinds.ps group-base-kinds.r) κs) where
  pub group_base_determined : group-base-reads.Post κs a r s → group-base-reads.Post κs a q t →
      (r ≡ q)
      × (s.1.1.1.0.now ≡ t.1.1.1.0.now)
  group_base_determined p e = (p.0 ∙ sym e.0, p.1 ∙ sym e.1)

-- `grouped`: the answer
module _ (κs : Lfts 2) (a : ArgsD grouped.signature κs) (r q : ResD grouped.signature κs)
    (s t : AtExit (ended_of 2 grouped-kinds.ps grouped-kinds.r) κs) where
  pub grouped_determined : grouped-reads.Post κs a r s → grouped-reads.Post κs a q t →
      r ≡ q
  grouped_determined p e = p ∙ sym e
