-- `parts_sum`: a turn adds at most 2 ^ 53. Assumes nothing.
use Rattle.std.proofs.Common.{◌≡◌, ℕ, ◌+◌, ◌*◌, ◌^◌, ◌<◌, ◌≤◌, List, sym, ap, ap₂, ◌∙◌, mul-le-mul, arith}
use Rattle.algebra.specs.Ranges.{sum_ℕ}
use Rattle.algebra.proofs.Sums.{sumℕ-none, sumℕ-more}
use Rattle.meaning.specs.Analysis.{member}
use Rattle.words.proofs.Bits.{bit-most}
use Rattle.analysis.specs.Column.{part_at, Small, parts_in}
use Rattle.analysis.proofs.publishing.parts_sum.Goals as goal

-- what a turn adds
module _ (parts : List ℕ) (small : Small parts) (set i held : ℕ) (more : i < 50) (e : held ≡ member set i) where
  added-most : held * part_at parts i ≤ 2 ^ 53
  added-most =
      let one : held ≤ 1 = omega (arith, e, bit-most set i) in
      let below : part_at parts i ≤ 2 ^ 53 = omega (arith, small.most i more) in
      omega (arith, mul-le-mul one below)

  added : (sum : ℕ) → sum ≡ sum_ℕ i (λ j. member set j * part_at parts j) →
      sum + held * part_at parts i ≡ sum_ℕ (i + 1) (λ j. member set j * part_at parts j)
  added sum s = ap₂ (λ (a b : ℕ). a + b * part_at parts i) s e ∙ sym (sumℕ-more i _)

pub loop-i-init : goal.loop-i-init
loop-i-init c = (sumℕ-none _, omega arith)

pub loop-i-preserved : goal.loop-i-preserved
loop-i-preserved c =
    let most = added-most c.args.parts.now c.requires c.args.set c.loop-i.i _ (omega arith) c.holds.ensures in (
      added c.args.parts.now c.requires c.args.set c.loop-i.i _ (omega arith) c.holds.ensures _ c.loop-i.invariant.0,
      omega (arith, most),
    )

pub returns : goal.returns
unfolding parts_in
returns c =
    let e : c.loop-i.i ≡ 50 = omega arith in
    c.loop-i.invariant.0 ∙ ap (λ (n : ℕ). sum_ℕ n (λ j. member c.args.set j * part_at c.args.parts.now j)) e
