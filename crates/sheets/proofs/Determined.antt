-- Any two outcomes that keep the promise of a public function are identical: the answer and what each lent buffer holds at the end. `Post` is the
-- contract itself, as the check reads it from the source: where a clause of it is dropped or weakened, the theorem fails. Assumes nothing.
-- (tools/determined.py writes this file.)
use mathlib.Core.Path.{◌≡◌, sym, ◌∙◌}
use contract.Lifetimes.{Lfts}
use borrow.Fn.World.{ArgsD, ResD}
use borrow.Fn.Kinds.{ended_of}
use denote.Triple.Clauses.{AtExit}
use Rattle.sheets.specs.contracts.claimed.claimed_spread as claimed-spread
use Rattle.sheets.proofs.claimed.claimed_spread.Kinds as claimed-spread-kinds
use Rattle.sheets.proofs.claimed.claimed_spread.Reads as claimed-spread-reads
use Rattle.sheets.specs.contracts.numerals.number as number
use Rattle.sheets.proofs.numerals.number.Kinds as number-kinds
use Rattle.sheets.proofs.numerals.number.Reads as number-reads
use Rattle.sheets.specs.contracts.numerals.signed as signed
use Rattle.sheets.proofs.numerals.signed.Kinds as signed-kinds
use Rattle.sheets.proofs.numerals.signed.Reads as signed-reads
use Rattle.sheets.specs.contracts.numerals.is_decimal as is-decimal
use Rattle.sheets.proofs.numerals.is_decimal.Kinds as is-decimal-kinds
use Rattle.sheets.proofs.numerals.is_decimal.Reads as is-decimal-reads
use Rattle.sheets.specs.contracts.pieces.same as same
use Rattle.sheets.proofs.pieces.same.Kinds as same-kinds
use Rattle.sheets.proofs.pieces.same.Reads as same-reads
use Rattle.sheets.specs.contracts.sheet.read_sheet as read-sheet
use Rattle.sheets.proofs.sheet.read_sheet.Kinds as read-sheet-kinds
use Rattle.sheets.proofs.sheet.read_sheet.Reads as read-sheet-reads

-- `claimed_spread`: the answer
module _ (κs : Lfts 0) (a : ArgsD claimed-spread.signature κs) (r q : ResD claimed-spread.signature κs)
    (s t : AtExit (ended_of 0 claimed-spread-kinds.ps claimed-spread-kinds.r) κs) where
  pub claimed_spread_determined : claimed-spread-reads.Post κs a r s → claimed-spread-reads.Post κs a q t →
      r ≡ q
  claimed_spread_determined p e = p ∙ sym e

-- `number`: the answer
module _ (κs : Lfts 1) (a : ArgsD number.signature κs) (r q : ResD number.signature κs)
    (s t : AtExit (ended_of 1 number-kinds.ps number-kinds.r) κs) where
  pub number_determined : number-reads.Post κs a r s → number-reads.Post κs a q t →
      r ≡ q
  number_determined p e = p ∙ sym e

-- `signed`: the answer
module _ (κs : Lfts 1) (a : ArgsD signed.signature κs) (r q : ResD signed.signature κs)
    (s t : AtExit (ended_of 1 signed-kinds.ps signed-kinds.r) κs) where
  pub signed_determined : signed-reads.Post κs a r s → signed-reads.Post κs a q t →
      r ≡ q
  signed_determined p e = p ∙ sym e

-- `is_decimal`: the answer
module _ (κs : Lfts 1) (a : ArgsD is-decimal.signature κs) (r q : ResD is-decimal.signature κs)
    (s t : AtExit (ended_of 1 is-decimal-kinds.ps is-decimal-kinds.r) κs) where
  pub is_decimal_determined : is-decimal-reads.Post κs a r s → is-decimal-reads.Post κs a q t →
      r ≡ q
  is_decimal_determined p e = p ∙ sym e

-- `same`: the answer
module _ (κs : Lfts 2) (a : ArgsD same.signature κs) (r q : ResD same.signature κs)
    (s t : AtExit (ended_of 2 same-kinds.ps same-kinds.r) κs) where
  pub same_determined : same-reads.Post κs a r s → same-reads.Post κs a q t →
      r ≡ q
  same_determined p e = p ∙ sym e

-- `read_sheet`: the answer, `claims`
module _ (κs : Lfts 2) (a : ArgsD read-sheet.signature κs) (r q : ResD read-sheet.signature κs)
    (s t : AtExit (ended_of 2 read-sheet-kinds.ps read-sheet-kinds.r) κs) where
  pub read_sheet_determined : read-sheet-reads.Post κs a r s → read-sheet-reads.Post κs a q t →
      (r ≡ q)
      × (s.1.0.now ≡ t.1.0.now)
  read_sheet_determined p e = (p.0 ∙ sym e.0, p.1 ∙ sym e.1)
