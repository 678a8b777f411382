-- Any two outcomes that keep the promise of a public function are identical: the answer and what each lent buffer holds at the end. `Post` is the
-- contract itself, as the check reads it from the source: where a clause of it is dropped or weakened, the theorem fails. Assumes nothing.
-- (tools/determined.py writes this file.)
use mathlib.Core.Path.{◌≡◌, sym, ◌∙◌}
use contract.Lifetimes.{Lfts}
use borrow.Fn.World.{ArgsD, ResD}
use borrow.Fn.Kinds.{ended_of}
use denote.Triple.Clauses.{AtExit}
use Rattle.fields.specs.contracts.contents.held as held
use Rattle.fields.proofs.contents.held.Kinds as held-kinds
use Rattle.fields.proofs.contents.held.Reads as held-reads
use Rattle.fields.specs.contracts.framing.field_at as field-at
use Rattle.fields.proofs.framing.field_at.Kinds as field-at-kinds
use Rattle.fields.proofs.framing.field_at.Reads as field-at-reads
use Rattle.fields.specs.contracts.order.fields_refusal as fields-refusal
use Rattle.fields.proofs.order.fields_refusal.Kinds as fields-refusal-kinds
use Rattle.fields.proofs.order.fields_refusal.Reads as fields-refusal-reads
use Rattle.fields.specs.contracts.second.edition_refusal as edition-refusal
use Rattle.fields.proofs.second.edition_refusal.Kinds as edition-refusal-kinds
use Rattle.fields.proofs.second.edition_refusal.Reads as edition-refusal-reads
use Rattle.fields.specs.contracts.second.four_end as four-end
use Rattle.fields.proofs.second.four_end.Kinds as four-end-kinds
use Rattle.fields.proofs.second.four_end.Reads as four-end-reads
use Rattle.fields.specs.contracts.second.optional_refusal as optional-refusal
use Rattle.fields.proofs.second.optional_refusal.Kinds as optional-refusal-kinds
use Rattle.fields.proofs.second.optional_refusal.Reads as optional-refusal-reads

-- `held`: the answer
module _ (κs : Lfts 1) (a : ArgsD held.signature κs) (r q : ResD held.signature κs)
    (s t : AtExit (ended_of 1 held-kinds.ps held-kinds.r) κs) where
  pub held_determined : held-reads.Post κs a r s → held-reads.Post κs a q t →
      r ≡ q
  held_determined p e = p ∙ sym e

-- `field_at`: the answer
module _ (κs : Lfts 1) (a : ArgsD field-at.signature κs) (r q : ResD field-at.signature κs)
    (s t : AtExit (ended_of 1 field-at-kinds.ps field-at-kinds.r) κs) where
  pub field_at_determined : field-at-reads.Post κs a r s → field-at-reads.Post κs a q t →
      r ≡ q
  field_at_determined p e = p ∙ sym e

-- `fields_refusal`: the answer
module _ (κs : Lfts 1) (a : ArgsD fields-refusal.signature κs) (r q : ResD fields-refusal.signature κs)
    (s t : AtExit (ended_of 1 fields-refusal-kinds.ps fields-refusal-kinds.r) κs) where
  pub fields_refusal_determined : fields-refusal-reads.Post κs a r s → fields-refusal-reads.Post κs a q t →
      r ≡ q
  fields_refusal_determined p e = p ∙ sym e

-- `edition_refusal`: the answer
module _ (κs : Lfts 1) (a : ArgsD edition-refusal.signature κs) (r q : ResD edition-refusal.signature κs)
    (s t : AtExit (ended_of 1 edition-refusal-kinds.ps edition-refusal-kinds.r) κs) where
  pub edition_refusal_determined : edition-refusal-reads.Post κs a r s → edition-refusal-reads.Post κs a q t →
      r ≡ q
  edition_refusal_determined p e = p ∙ sym e

-- `four_end`: the answer
module _ (κs : Lfts 1) (a : ArgsD four-end.signature κs) (r q : ResD four-end.signature κs)
    (s t : AtExit (ended_of 1 four-end-kinds.ps four-end-kinds.r) κs) where
  pub four_end_determined : four-end-reads.Post κs a r s → four-end-reads.Post κs a q t →
      r ≡ q
  four_end_determined p e = p ∙ sym e

-- `optional_refusal`: the answer
module _ (κs : Lfts 1) (a : ArgsD optional-refusal.signature κs) (r q : ResD optional-refusal.signature κs)
    (s t : AtExit (ended_of 1 optional-refusal-kinds.ps optional-refusal-kinds.r) κs) where
  pub optional_refusal_determined : optional-refusal-reads.Post κs a r s → optional-refusal-reads.Post κs a q t →
      r ≡ q
  optional_refusal_determined p e = p ∙ sym e
