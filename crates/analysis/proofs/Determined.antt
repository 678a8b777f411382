-- Any two outcomes that keep the promise of a public function are identical: the answer and what each lent buffer holds at the end. `Post` is the
-- contract itself, as the check reads it from the source: where a clause of it is dropped or weakened, the theorem fails. Assumes nothing.
-- (tools/determined.py writes this file.)
use mathlib.Core.Path.{◌≡◌, sym, ◌∙◌}
use contract.Lifetimes.{Lfts}
use borrow.Fn.World.{ArgsD, ResD}
use borrow.Fn.Kinds.{ended_of}
use denote.Triple.Clauses.{AtExit}
use Rattle.analysis.specs.contracts.deviations.deviations as deviations
use Rattle.analysis.proofs.deviations.deviations.Kinds as deviations-kinds
use Rattle.analysis.proofs.deviations.deviations.Reads as deviations-reads
use Rattle.analysis.specs.contracts.deviations.deviation_of as deviation-of
use Rattle.analysis.proofs.deviations.deviation_of.Kinds as deviation-of-kinds
use Rattle.analysis.proofs.deviations.deviation_of.Reads as deviation-of-reads
use Rattle.analysis.specs.contracts.publishing.published as published
use Rattle.analysis.proofs.publishing.published.Kinds as published-kinds
use Rattle.analysis.proofs.publishing.published.Reads as published-reads
use Rattle.analysis.specs.contracts.publishing.column as column
use Rattle.analysis.proofs.publishing.column.Kinds as column-kinds
use Rattle.analysis.proofs.publishing.column.Reads as column-reads
use Rattle.analysis.specs.contracts.sheet.check_sheet as check-sheet
use Rattle.analysis.proofs.sheet.check_sheet.Kinds as check-sheet-kinds
use Rattle.analysis.proofs.sheet.check_sheet.Reads as check-sheet-reads
use Rattle.analysis.specs.contracts.spread.q as q
use Rattle.analysis.proofs.spread.q.Kinds as q-kinds
use Rattle.analysis.proofs.spread.q.Reads as q-reads
use Rattle.analysis.specs.contracts.spread.spread as spread
use Rattle.analysis.proofs.spread.spread.Kinds as spread-kinds
use Rattle.analysis.proofs.spread.spread.Reads as spread-reads
use Rattle.analysis.specs.contracts.uncertainty.uncertainty_of as uncertainty-of
use Rattle.analysis.proofs.uncertainty.uncertainty_of.Kinds as uncertainty-of-kinds
use Rattle.analysis.proofs.uncertainty.uncertainty_of.Reads as uncertainty-of-reads
use Rattle.analysis.specs.contracts.uncertainty.uncertainty_in as uncertainty-in
use Rattle.analysis.proofs.uncertainty.uncertainty_in.Kinds as uncertainty-in-kinds
use Rattle.analysis.proofs.uncertainty.uncertainty_in.Reads as uncertainty-in-reads
use Rattle.analysis.specs.contracts.values.values as values
use Rattle.analysis.proofs.values.values.Kinds as values-kinds
use Rattle.analysis.proofs.values.values.Reads as values-reads
use Rattle.analysis.specs.contracts.values.value_of as value-of
use Rattle.analysis.proofs.values.value_of.Kinds as value-of-kinds
use Rattle.analysis.proofs.values.value_of.Reads as value-of-reads
use Rattle.analysis.specs.contracts.whole.analyse as analyse
use Rattle.analysis.proofs.whole.analyse.Kinds as analyse-kinds
use Rattle.analysis.proofs.whole.analyse.Reads as analyse-reads

-- `deviations`: the answer, `deviations`
module _ (κs : Lfts 3) (a : ArgsD deviations.signature κs) (r q : ResD deviations.signature κs)
    (s t : AtExit (ended_of 3 deviations-kinds.ps deviations-kinds.r) κs) where
  pub deviations_determined : deviations-reads.Post κs a r s → deviations-reads.Post κs a q t →
      (r ≡ q)
      × (s.1.1.1.0.now ≡ t.1.1.1.0.now)
  deviations_determined p e = (p.0 ∙ sym e.0, p.1 ∙ sym e.1)

-- `deviation_of`: the answer
module _ (κs : Lfts 2) (a : ArgsD deviation-of.signature κs) (r q : ResD deviation-of.signature κs)
    (s t : AtExit (ended_of 2 deviation-of-kinds.ps deviation-of-kinds.r) κs) where
  pub deviation_of_determined : deviation-of-reads.Post κs a r s → deviation-of-reads.Post κs a q t →
      r ≡ q
  deviation_of_determined p e = p ∙ sym e

-- `published`: the answer, `hundredths`
module _ (κs : Lfts 3) (a : ArgsD published.signature κs) (r q : ResD published.signature κs)
    (s t : AtExit (ended_of 3 published-kinds.ps published-kinds.r) κs) where
  pub published_determined : published-reads.Post κs a r s → published-reads.Post κs a q t →
      (r ≡ q)
      × (s.1.1.1.1.1.0.now ≡ t.1.1.1.1.1.0.now)
  published_determined p e = (p.0 ∙ sym e.0, p.1 ∙ sym e.1)

-- `column`: the answer
module _ (κs : Lfts 1) (a : ArgsD column.signature κs) (r q : ResD column.signature κs)
    (s t : AtExit (ended_of 1 column-kinds.ps column-kinds.r) κs) where
  pub column_determined : column-reads.Post κs a r s → column-reads.Post κs a q t →
      r ≡ q
  column_determined p e = p ∙ sym e

-- `check_sheet`: the answer
module _ (κs : Lfts 3) (a : ArgsD check-sheet.signature κs) (r q : ResD check-sheet.signature κs)
    (s t : AtExit (ended_of 3 check-sheet-kinds.ps check-sheet-kinds.r) κs) where
  pub check_sheet_determined : check-sheet-reads.Post κs a r s → check-sheet-reads.Post κs a q t →
      r ≡ q
  check_sheet_determined p e = p ∙ sym e

-- `q`: the answer
module _ (κs : Lfts 2) (a : ArgsD q.signature κs) (r q : ResD q.signature κs)
    (s t : AtExit (ended_of 2 q-kinds.ps q-kinds.r) κs) where
  pub q_determined : q-reads.Post κs a r s → q-reads.Post κs a q t →
      r ≡ q
  q_determined p e = p ∙ sym e

-- `spread`: the answer
module _ (κs : Lfts 2) (a : ArgsD spread.signature κs) (r q : ResD spread.signature κs)
    (s t : AtExit (ended_of 2 spread-kinds.ps spread-kinds.r) κs) where
  pub spread_determined : spread-reads.Post κs a r s → spread-reads.Post κs a q t →
      r ≡ q
  spread_determined p e = p ∙ sym e

-- `uncertainty_of`: the answer
module _ (κs : Lfts 2) (a : ArgsD uncertainty-of.signature κs) (r q : ResD uncertainty-of.signature κs)
    (s t : AtExit (ended_of 2 uncertainty-of-kinds.ps uncertainty-of-kinds.r) κs) where
  pub uncertainty_of_determined : uncertainty-of-reads.Post κs a r s → uncertainty-of-reads.Post κs a q t →
      r ≡ q
  uncertainty_of_determined p e = p ∙ sym e

-- `uncertainty_in`: the answer
module _ (κs : Lfts 0) (a : ArgsD uncertainty-in.signature κs) (r q : ResD uncertainty-in.signature κs)
    (s t : AtExit (ended_of 0 uncertainty-in-kinds.ps uncertainty-in-kinds.r) κs) where
  pub uncertainty_in_determined : uncertainty-in-reads.Post κs a r s → uncertainty-in-reads.Post κs a q t →
      r ≡ q
  uncertainty_in_determined p e = p ∙ sym e

-- `values`: the answer, `values`
module _ (κs : Lfts 3) (a : ArgsD values.signature κs) (r q : ResD values.signature κs)
    (s t : AtExit (ended_of 3 values-kinds.ps values-kinds.r) κs) where
  pub values_determined : values-reads.Post κs a r s → values-reads.Post κs a q t →
      (r ≡ q)
      × (s.1.1.1.1.1.0.now ≡ t.1.1.1.1.1.0.now)
  values_determined p e = (p.0 ∙ sym e.0, p.1 ∙ sym e.1)

-- `value_of`: the answer
module _ (κs : Lfts 2) (a : ArgsD value-of.signature κs) (r q : ResD value-of.signature κs)
    (s t : AtExit (ended_of 2 value-of-kinds.ps value-of-kinds.r) κs) where
  pub value_of_determined : value-of-reads.Post κs a r s → value-of-reads.Post κs a q t →
      r ≡ q
  value_of_determined p e = p ∙ sym e

-- `analyse`: the answer, `words`, `values`, `deviations`
module _ (κs : Lfts 5) (a : ArgsD analyse.signature κs) (r q : ResD analyse.signature κs)
    (s t : AtExit (ended_of 5 analyse-kinds.ps analyse-kinds.r) κs) where
  pub analyse_determined : analyse-reads.Post κs a r s → analyse-reads.Post κs a q t →
      (r ≡ q)
      × (s.1.1.1.1.1.0.now ≡ t.1.1.1.1.1.0.now)
      × (s.1.1.1.1.1.1.0.now ≡ t.1.1.1.1.1.1.0.now)
      × (s.1.1.1.1.1.1.1.0.now ≡ t.1.1.1.1.1.1.1.0.now)
  analyse_determined p e = (p.0 ∙ sym e.0, p.1.0 ∙ sym e.1.0, p.1.1.0 ∙ sym e.1.1.0, p.1.1.1 ∙ sym e.1.1.1)
