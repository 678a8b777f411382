-- `set_sum`: a turn takes the lowest object that is left, which has its total, and no sum on the way leaves its range.
use Rattle.std.proofs.Common.{◌≡◌, ℕ, ◌*◌, ◌^◌, ◌<◌, ◌≤◌, List, ℤ, ◌+ℤ◌, nat_abs, refl, sym, ap, ◌∙◌, arith, lit<, w64, to_z}
use mathlib.Core.Path.{subst}
use Rattle.algebra.proofs.Numbers.{Num, local, number, plus, plus_fits}
use Rattle.laws.specs.Limits.{total_limit}
use Rattle.words.specs.Bits.{lowest_of, without_lowest}
use Rattle.words.proofs.Walk.{left_lowest, rest-less}
use Rattle.analysis.specs.Worked.{total_at, Held}
use Rattle.analysis.proofs.Working.{SetWalk, set-goes, set-ends, so_far_small}
use Rattle.analysis.proofs.values.set_sum.Goals as goal

-- the object that is taken, and what a turn computes
module _ (totals : List ℤ) (set : ℕ) (r : Held totals set) (word : set < 2 ^ 64) (rest : ℕ) (more : 0 < rest) (bits : ℕ)
    (k : SetWalk set totals rest (to_z w64 bits)) (i : ℕ) (lowest : i ≡ lowest_of rest) where
  held : (i < 50) × (nat_abs (total_at totals i) ≤ total_limit)
  held = subst (λ (i : ℕ). (i < 50) × (nat_abs (total_at totals i) ≤ total_limit)) (sym lowest)
      (r.held (lowest_of rest) (left_lowest _ rest word more k.left))

  abbrev total : Num
  total = number (total_at totals i) total_limit held.1 (lit< tt)

  abbrev so_far : Num
  so_far = local bits (128 * total_limit) refl (so_far_small set totals rest (to_z w64 bits) r k)

  turned : SetWalk set totals (without_lowest rest) (to_z w64 (plus so_far total (lit< tt)).bits)
  turned = set-goes set totals rest (to_z w64 bits) word more k _
      ((plus so_far total (lit< tt)).reads ∙ ap (λ (i : ℕ). to_z w64 bits +ℤ total_at totals i) lowest)

pub offset_bounds-totals-i : goal.offset_bounds-totals-i
offset_bounds-totals-i c =
    let near = (held _ _ c.requires c.ranges.set.fits _ (omega (arith, c.loop-rest-test.true)) _ c.loop-rest.invariant _ c.lowest-i.ensures).0 in
    omega (arith, near)

pub bounds-totals-i : goal.bounds-totals-i
bounds-totals-i c = (held _ _ c.requires c.ranges.set.fits _ (omega (arith, c.loop-rest-test.true)) _ c.loop-rest.invariant _ c.lowest-i.ensures).0

pub overflow_add-sum : goal.overflow_add-sum
overflow_add-sum c =
    let more : 0 < c.loop-rest.rest = omega (arith, c.loop-rest-test.true) in
    plus_fits (so_far _ _ c.requires c.ranges.set.fits _ more c.loop-rest.sum-bits c.loop-rest.invariant _ c.lowest-i.ensures)
    (total _ _ c.requires c.ranges.set.fits _ more c.loop-rest.sum-bits c.loop-rest.invariant _ c.lowest-i.ensures) (lit< tt)

pub loop-rest-smaller : goal.loop-rest-smaller
loop-rest-smaller c = omega (arith, c.without_lowest-rest.ensures, rest-less c.loop-rest.rest (omega (arith, c.loop-rest-test.true)))

pub loop-rest-preserved : goal.loop-rest-preserved
loop-rest-preserved c =
    let more : 0 < c.loop-rest.rest = omega (arith, c.loop-rest-test.true) in
    rw c.without_lowest-rest.ensures (turned _ _ c.requires c.ranges.set.fits _ more c.loop-rest.sum-bits c.loop-rest.invariant _ c.lowest-i.ensures)

pub returns : goal.returns
returns c =
    set-ends _ _ _
    (subst (λ (r : ℕ). SetWalk c.args.set c.args.totals.now r (to_z w64 c.loop-rest.sum-bits)) c.loop-rest-test.false c.loop-rest.invariant)
