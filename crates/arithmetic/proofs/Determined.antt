-- Any two outcomes that keep the promise of a public function are identical: the answer and what each lent buffer holds at the end. `Post` is the
-- contract itself, as the check reads it from the source: where a clause of it is dropped or weakened, the theorem fails. Assumes nothing.
-- (tools/determined.py writes this file.)
use mathlib.Core.Path.{◌≡◌, sym, ◌∙◌}
use contract.Lifetimes.{Lfts}
use borrow.Fn.World.{ArgsD, ResD}
use borrow.Fn.Kinds.{ended_of}
use denote.Triple.Clauses.{AtExit}
use Rattle.arithmetic.specs.contracts.quotient.value_from as value-from
use Rattle.arithmetic.proofs.quotient.value_from.Kinds as value-from-kinds
use Rattle.arithmetic.proofs.quotient.value_from.Reads as value-from-reads
use Rattle.arithmetic.specs.contracts.quotient.size as size
use Rattle.arithmetic.proofs.quotient.size.Kinds as size-kinds
use Rattle.arithmetic.proofs.quotient.size.Reads as size-reads
use Rattle.arithmetic.specs.contracts.rounding.hundredths as hundredths
use Rattle.arithmetic.proofs.rounding.hundredths.Kinds as hundredths-kinds
use Rattle.arithmetic.proofs.rounding.hundredths.Reads as hundredths-reads
use Rattle.arithmetic.specs.contracts.rounding.hundredths_below as hundredths-below
use Rattle.arithmetic.proofs.rounding.hundredths_below.Kinds as hundredths-below-kinds
use Rattle.arithmetic.proofs.rounding.hundredths_below.Reads as hundredths-below-reads
use Rattle.arithmetic.specs.contracts.rounding.hundredths_part as hundredths-part
use Rattle.arithmetic.proofs.rounding.hundredths_part.Kinds as hundredths-part-kinds
use Rattle.arithmetic.proofs.rounding.hundredths_part.Reads as hundredths-part-reads
use Rattle.arithmetic.specs.contracts.spread.spread_from as spread-from
use Rattle.arithmetic.proofs.spread.spread_from.Kinds as spread-from-kinds
use Rattle.arithmetic.proofs.spread.spread_from.Reads as spread-from-reads
use Rattle.arithmetic.specs.contracts.uncertainty.uncertainty_from as uncertainty-from
use Rattle.arithmetic.proofs.uncertainty.uncertainty_from.Kinds as uncertainty-from-kinds
use Rattle.arithmetic.proofs.uncertainty.uncertainty_from.Reads as uncertainty-from-reads
use Rattle.arithmetic.specs.contracts.wide.product as product
use Rattle.arithmetic.proofs.wide.product.Kinds as product-kinds
use Rattle.arithmetic.proofs.wide.product.Reads as product-reads
use Rattle.arithmetic.specs.contracts.wide.add as add
use Rattle.arithmetic.proofs.wide.add.Kinds as add-kinds
use Rattle.arithmetic.proofs.wide.add.Reads as add-reads
use Rattle.arithmetic.specs.contracts.wide.add_square as add-square
use Rattle.arithmetic.proofs.wide.add_square.Kinds as add-square-kinds
use Rattle.arithmetic.proofs.wide.add_square.Reads as add-square-reads
use Rattle.arithmetic.specs.contracts.wide.at_most as at-most
use Rattle.arithmetic.proofs.wide.at_most.Kinds as at-most-kinds
use Rattle.arithmetic.proofs.wide.at_most.Reads as at-most-reads
use Rattle.arithmetic.specs.contracts.wide.subtract as subtract
use Rattle.arithmetic.proofs.wide.subtract.Kinds as subtract-kinds
use Rattle.arithmetic.proofs.wide.subtract.Reads as subtract-reads
use Rattle.arithmetic.specs.contracts.wide.times as times
use Rattle.arithmetic.proofs.wide.times.Kinds as times-kinds
use Rattle.arithmetic.proofs.wide.times.Reads as times-reads
use Rattle.arithmetic.specs.contracts.wide.divide as divide
use Rattle.arithmetic.proofs.wide.divide.Kinds as divide-kinds
use Rattle.arithmetic.proofs.wide.divide.Reads as divide-reads

-- `value_from`: the answer
module _ (κs : Lfts 0) (a : ArgsD value-from.signature κs) (r q : ResD value-from.signature κs)
    (s t : AtExit (ended_of 0 value-from-kinds.ps value-from-kinds.r) κs) where
  pub value_from_determined : value-from-reads.Post κs a r s → value-from-reads.Post κs a q t →
      r ≡ q
  value_from_determined p e = p ∙ sym e

-- `size`: the answer
module _ (κs : Lfts 0) (a : ArgsD size.signature κs) (r q : ResD size.signature κs)
    (s t : AtExit (ended_of 0 size-kinds.ps size-kinds.r) κs) where
  pub size_determined : size-reads.Post κs a r s → size-reads.Post κs a q t →
      r ≡ q
  size_determined p e = p ∙ sym e

-- `hundredths`: the answer
module _ (κs : Lfts 0) (a : ArgsD hundredths.signature κs) (r q : ResD hundredths.signature κs)
    (s t : AtExit (ended_of 0 hundredths-kinds.ps hundredths-kinds.r) κs) where
  pub hundredths_determined : hundredths-reads.Post κs a r s → hundredths-reads.Post κs a q t →
      r ≡ q
  hundredths_determined p e = p ∙ sym e

-- `hundredths_below`: the answer
module _ (κs : Lfts 0) (a : ArgsD hundredths-below.signature κs) (r q : ResD hundredths-below.signature κs)
    (s t : AtExit (ended_of 0 hundredths-below-kinds.ps hundredths-below-kinds.r) κs) where
  pub hundredths_below_determined : hundredths-below-reads.Post κs a r s → hundredths-below-reads.Post κs a q t →
      r ≡ q
  hundredths_below_determined p e = p ∙ sym e

-- `hundredths_part`: the answer
module _ (κs : Lfts 0) (a : ArgsD hundredths-part.signature κs) (r q : ResD hundredths-part.signature κs)
    (s t : AtExit (ended_of 0 hundredths-part-kinds.ps hundredths-part-kinds.r) κs) where
  pub hundredths_part_determined : hundredths-part-reads.Post κs a r s → hundredths-part-reads.Post κs a q t →
      r ≡ q
  hundredths_part_determined p e = p ∙ sym e

-- `spread_from`: the answer
module _ (κs : Lfts 0) (a : ArgsD spread-from.signature κs) (r q : ResD spread-from.signature κs)
    (s t : AtExit (ended_of 0 spread-from-kinds.ps spread-from-kinds.r) κs) where
  pub spread_from_determined : spread-from-reads.Post κs a r s → spread-from-reads.Post κs a q t →
      r ≡ q
  spread_from_determined p e = p ∙ sym e

-- `uncertainty_from`: the answer
module _ (κs : Lfts 0) (a : ArgsD uncertainty-from.signature κs) (r q : ResD uncertainty-from.signature κs)
    (s t : AtExit (ended_of 0 uncertainty-from-kinds.ps uncertainty-from-kinds.r) κs) where
  pub uncertainty_from_determined : uncertainty-from-reads.Post κs a r s → uncertainty-from-reads.Post κs a q t →
      r ≡ q
  uncertainty_from_determined p e = p ∙ sym e

-- `product`: the answer
module _ (κs : Lfts 0) (a : ArgsD product.signature κs) (r q : ResD product.signature κs)
    (s t : AtExit (ended_of 0 product-kinds.ps product-kinds.r) κs) where
  pub product_determined : product-reads.Post κs a r s → product-reads.Post κs a q t →
      r ≡ q
  product_determined p e = p ∙ sym e

-- `add`: the answer
module _ (κs : Lfts 0) (a : ArgsD add.signature κs) (r q : ResD add.signature κs)
    (s t : AtExit (ended_of 0 add-kinds.ps add-kinds.r) κs) where
  pub add_determined : add-reads.Post κs a r s → add-reads.Post κs a q t →
      r ≡ q
  add_determined p e = p ∙ sym e

-- `add_square`: the answer
module _ (κs : Lfts 0) (a : ArgsD add-square.signature κs) (r q : ResD add-square.signature κs)
    (s t : AtExit (ended_of 0 add-square-kinds.ps add-square-kinds.r) κs) where
  pub add_square_determined : add-square-reads.Post κs a r s → add-square-reads.Post κs a q t →
      r ≡ q
  add_square_determined p e = p ∙ sym e

-- `at_most`: the answer
module _ (κs : Lfts 0) (a : ArgsD at-most.signature κs) (r q : ResD at-most.signature κs)
    (s t : AtExit (ended_of 0 at-most-kinds.ps at-most-kinds.r) κs) where
  pub at_most_determined : at-most-reads.Post κs a r s → at-most-reads.Post κs a q t →
      r ≡ q
  at_most_determined p e = p ∙ sym e

-- `subtract`: the answer
module _ (κs : Lfts 0) (a : ArgsD subtract.signature κs) (r q : ResD subtract.signature κs)
    (s t : AtExit (ended_of 0 subtract-kinds.ps subtract-kinds.r) κs) where
  pub subtract_determined : subtract-reads.Post κs a r s → subtract-reads.Post κs a q t →
      r ≡ q
  subtract_determined p e = p ∙ sym e

-- `times`: the answer
module _ (κs : Lfts 0) (a : ArgsD times.signature κs) (r q : ResD times.signature κs)
    (s t : AtExit (ended_of 0 times-kinds.ps times-kinds.r) κs) where
  pub times_determined : times-reads.Post κs a r s → times-reads.Post κs a q t →
      r ≡ q
  times_determined p e = p ∙ sym e

-- `divide`: the answer
module _ (κs : Lfts 0) (a : ArgsD divide.signature κs) (r q : ResD divide.signature κs)
    (s t : AtExit (ended_of 0 divide-kinds.ps divide-kinds.r) κs) where
  pub divide_determined : divide-reads.Post κs a r s → divide-reads.Post κs a q t →
      r ≡ q
  divide_determined p e = p ∙ sym e
