-- Any two outcomes that keep the promise of a public function are identical: the answer and what each lent buffer holds at the end. `Post` is the
-- contract itself, as the check reads it from the source: where a clause of it is dropped or weakened, the theorem fails. Assumes nothing.
-- (tools/determined.py writes this file.)
use mathlib.Core.Path.{◌≡◌, sym, ◌∙◌}
use contract.Lifetimes.{Lfts}
use borrow.Fn.World.{ArgsD, ResD}
use borrow.Fn.Kinds.{ended_of}
use denote.Triple.Clauses.{AtExit}
use Rattle.weighing.specs.contracts.adding.weigh as weigh
use Rattle.weighing.proofs.adding.weigh.Kinds as weigh-kinds
use Rattle.weighing.proofs.adding.weigh.Reads as weigh-reads
use Rattle.weighing.specs.contracts.readings.slices_refusal as slices-refusal
use Rattle.weighing.proofs.readings.slices_refusal.Kinds as slices-refusal-kinds
use Rattle.weighing.proofs.readings.slices_refusal.Reads as slices-refusal-reads
use Rattle.weighing.specs.contracts.readings.blocks_refusal as blocks-refusal
use Rattle.weighing.proofs.readings.blocks_refusal.Kinds as blocks-refusal-kinds
use Rattle.weighing.proofs.readings.blocks_refusal.Reads as blocks-refusal-reads
use Rattle.weighing.specs.contracts.readings.reach_refusal as reach-refusal
use Rattle.weighing.proofs.readings.reach_refusal.Kinds as reach-refusal-kinds
use Rattle.weighing.proofs.readings.reach_refusal.Reads as reach-refusal-reads
use Rattle.weighing.specs.contracts.squares.sum_of_squares as sum-of-squares
use Rattle.weighing.proofs.squares.sum_of_squares.Kinds as sum-of-squares-kinds
use Rattle.weighing.proofs.squares.sum_of_squares.Reads as sum-of-squares-reads
use Rattle.weighing.specs.contracts.totals.total as total
use Rattle.weighing.proofs.totals.total.Kinds as total-kinds
use Rattle.weighing.proofs.totals.total.Reads as total-reads
use Rattle.weighing.specs.contracts.totals.sum_of_squared_totals as sum-of-squared-totals
use Rattle.weighing.proofs.totals.sum_of_squared_totals.Kinds as sum-of-squared-totals-kinds
use Rattle.weighing.proofs.totals.sum_of_squared_totals.Reads as sum-of-squared-totals-reads

-- `weigh`: the answer, `totals`
module _ (κs : Lfts 3) (a : ArgsD weigh.signature κs) (r q : ResD weigh.signature κs)
    (s t : AtExit (ended_of 3 weigh-kinds.ps weigh-kinds.r) κs) where
  pub weigh_determined : weigh-reads.Post κs a r s → weigh-reads.Post κs a q t →
      (r ≡ q)
      × (s.1.1.1.0.now ≡ t.1.1.1.0.now)
  weigh_determined p e = (p.0 ∙ sym e.0, p.1 ∙ sym e.1)

-- `slices_refusal`: the answer
module _ (κs : Lfts 2) (a : ArgsD slices-refusal.signature κs) (r q : ResD slices-refusal.signature κs)
    (s t : AtExit (ended_of 2 slices-refusal-kinds.ps slices-refusal-kinds.r) κs) where
  pub slices_refusal_determined : slices-refusal-reads.Post κs a r s → slices-refusal-reads.Post κs a q t →
      r ≡ q
  slices_refusal_determined p e = p ∙ sym e

-- `blocks_refusal`: the answer
module _ (κs : Lfts 2) (a : ArgsD blocks-refusal.signature κs) (r q : ResD blocks-refusal.signature κs)
    (s t : AtExit (ended_of 2 blocks-refusal-kinds.ps blocks-refusal-kinds.r) κs) where
  pub blocks_refusal_determined : blocks-refusal-reads.Post κs a r s → blocks-refusal-reads.Post κs a q t →
      r ≡ q
  blocks_refusal_determined p e = p ∙ sym e

-- `reach_refusal`: the answer
module _ (κs : Lfts 1) (a : ArgsD reach-refusal.signature κs) (r q : ResD reach-refusal.signature κs)
    (s t : AtExit (ended_of 1 reach-refusal-kinds.ps reach-refusal-kinds.r) κs) where
  pub reach_refusal_determined : reach-refusal-reads.Post κs a r s → reach-refusal-reads.Post κs a q t →
      r ≡ q
  reach_refusal_determined p e = p ∙ sym e

-- `sum_of_squares`: the answer
module _ (κs : Lfts 1) (a : ArgsD sum-of-squares.signature κs) (r q : ResD sum-of-squares.signature κs)
    (s t : AtExit (ended_of 1 sum-of-squares-kinds.ps sum-of-squares-kinds.r) κs) where
  pub sum_of_squares_determined : sum-of-squares-reads.Post κs a r s → sum-of-squares-reads.Post κs a q t →
      r ≡ q
  sum_of_squares_determined p e = p ∙ sym e

-- `total`: the answer
module _ (κs : Lfts 2) (a : ArgsD total.signature κs) (r q : ResD total.signature κs)
    (s t : AtExit (ended_of 2 total-kinds.ps total-kinds.r) κs) where
  pub total_determined : total-reads.Post κs a r s → total-reads.Post κs a q t →
      r ≡ q
  total_determined p e = p ∙ sym e

-- `sum_of_squared_totals`: the answer
module _ (κs : Lfts 2) (a : ArgsD sum-of-squared-totals.signature κs) (r q : ResD sum-of-squared-totals.signature κs)
    (s t : AtExit (ended_of 2 sum-of-squared-totals-kinds.ps sum-of-squared-totals-kinds.r) κs) where
  pub sum_of_squared_totals_determined : sum-of-squared-totals-reads.Post κs a r s → sum-of-squared-totals-reads.Post κs a q t →
      r ≡ q
  sum_of_squared_totals_determined p e = p ∙ sym e
