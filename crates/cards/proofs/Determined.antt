-- Any two outcomes that keep the promise of a public function are identical: the answer and what each lent buffer holds at the end. `Post` is the
-- contract itself, as the check reads it from the source: where a clause of it is dropped or weakened, the theorem fails. Assumes nothing.
-- (tools/determined.py writes this file.)
use mathlib.Core.Path.{◌≡◌, sym, ◌∙◌}
use contract.Lifetimes.{Lfts}
use borrow.Fn.World.{ArgsD, ResD}
use borrow.Fn.Kinds.{ended_of}
use denote.Triple.Clauses.{AtExit}
use Rattle.cards.specs.contracts.making.job_of_card as job-of-card
use Rattle.cards.proofs.making.job_of_card.Kinds as job-of-card-kinds
use Rattle.cards.proofs.making.job_of_card.Reads as job-of-card-reads
use Rattle.cards.specs.contracts.places.line_of as line-of
use Rattle.cards.proofs.places.line_of.Kinds as line-of-kinds
use Rattle.cards.proofs.places.line_of.Reads as line-of-reads
use Rattle.cards.specs.contracts.places.column_of as column-of
use Rattle.cards.proofs.places.column_of.Kinds as column-of-kinds
use Rattle.cards.proofs.places.column_of.Reads as column-of-reads
use Rattle.cards.specs.contracts.printed.card_of as card-of
use Rattle.cards.proofs.printed.card_of.Kinds as card-of-kinds
use Rattle.cards.proofs.printed.card_of.Reads as card-of-reads
use Rattle.cards.specs.contracts.printed.card_of_second as card-of-second
use Rattle.cards.proofs.printed.card_of_second.Kinds as card-of-second-kinds
use Rattle.cards.proofs.printed.card_of_second.Reads as card-of-second-reads

-- `job_of_card`: the answer, `out`
module _ (κs : Lfts 2) (a : ArgsD job-of-card.signature κs) (r q : ResD job-of-card.signature κs)
    (s t : AtExit (ended_of 2 job-of-card-kinds.ps job-of-card-kinds.r) κs) where
  pub job_of_card_determined : job-of-card-reads.Post κs a r s → job-of-card-reads.Post κs a q t →
      (r ≡ q)
      × (s.1.0.now ≡ t.1.0.now)
  job_of_card_determined p e = (p.0 ∙ sym e.0, p.1 ∙ sym e.1)

-- `line_of`: the answer
module _ (κs : Lfts 1) (a : ArgsD line-of.signature κs) (r q : ResD line-of.signature κs)
    (s t : AtExit (ended_of 1 line-of-kinds.ps line-of-kinds.r) κs) where
  pub line_of_determined : line-of-reads.Post κs a r s → line-of-reads.Post κs a q t →
      r ≡ q
  line_of_determined p e = p ∙ sym e

-- `column_of`: the answer
module _ (κs : Lfts 1) (a : ArgsD column-of.signature κs) (r q : ResD column-of.signature κs)
    (s t : AtExit (ended_of 1 column-of-kinds.ps column-of-kinds.r) κs) where
  pub column_of_determined : column-of-reads.Post κs a r s → column-of-reads.Post κs a q t →
      r ≡ q
  column_of_determined p e = p ∙ sym e

-- `card_of`: the answer, `out`
module _ (κs : Lfts 2) (a : ArgsD card-of.signature κs) (r q : ResD card-of.signature κs)
    (s t : AtExit (ended_of 2 card-of-kinds.ps card-of-kinds.r) κs) where
  pub card_of_determined : card-of-reads.Post κs a r s → card-of-reads.Post κs a q t →
      (r ≡ q)
      × (s.1.0.now ≡ t.1.0.now)
  card_of_determined p e = (p.0 ∙ sym e.0, p.1 ∙ sym e.1)

-- `card_of_second`: the answer, `out`
module _ (κs : Lfts 2) (a : ArgsD card-of-second.signature κs) (r q : ResD card-of-second.signature κs)
    (s t : AtExit (ended_of 2 card-of-second-kinds.ps card-of-second-kinds.r) κs) where
  pub card_of_second_determined : card-of-second-reads.Post κs a r s → card-of-second-reads.Post κs a q t →
      (r ≡ q)
      × (s.1.0.now ≡ t.1.0.now)
  card_of_second_determined p e = (p.0 ∙ sym e.0, p.1 ∙ sym e.1)
