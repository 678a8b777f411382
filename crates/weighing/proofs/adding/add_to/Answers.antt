-- `add_to`: the object that is taken has its place, and its total has room for the reading. Assumes nothing.
use Rattle.std.proofs.Common.{◌≡◌, ℕ, ◌+◌, ◌*◌, ◌^◌, ◌<◌, ◌≤◌, List, ℤ, pos, nat_abs, length, get_or, ap, ◌∙◌, refl, arith, of_z, w64}
use mir.Facts.{to_z-of_z}
use lib.Dec.{lit<}
use Rattle.algebra.proofs.Numbers.{local, number, plus, plus_fits}
use Rattle.meaning.specs.Analysis.{member}
use Rattle.meaning.specs.Refusals.{reading_limit}
use Rattle.laws.specs.Limits.{total_limit}
use Rattle.words.specs.Bits.{lowest_of}
use Rattle.words.proofs.Walk.{Left, left_lowest, left-rest, lowest_lt, rest-less}
use Rattle.words.proofs.Changing.{walked, walk_step, walk_end, walk-long}
use Rattle.weighing.specs.Developed.{Room, more, added}
use Rattle.weighing.proofs.adding.Objects.{more_in, more-not, walk-most}
use Rattle.weighing.proofs.adding.add_to.Goals as goal

-- the object that is taken
module _ (word rest i : ℕ) (y : ℤ) (room totals : List ℤ) (fit : word < 2 ^ 64) (some : 0 < rest) (lowest : i ≡ lowest_of rest)
    (inv : Left word rest × (walked rest (more word y) room ≡ walked word (more word y) totals)) (roomy : Room totals word (total_limit + reading_limit)) where
  one : member word i ≡ 1
  one = ap (member word) lowest ∙ left_lowest word rest fit some inv.0

  near : i < 64
  near = omega (arith, lowest, lowest_lt 64 rest some (omega (arith, fit, inv.0.less)) (omega arith))

  inside : i < length room
  inside = omega (arith, (roomy.held i one).0, walk-long (more word y) rest word room totals inv.1)

  small : nat_abs y ≤ reading_limit → nat_abs (get_or room i (pos 0)) ≤ total_limit + 3 * reading_limit
  small h = omega (arith, (roomy.held i one).1, walk-most word y h rest room totals i inv.1)

pub offset_bounds-totals-lowest : goal.offset_bounds-totals-lowest
offset_bounds-totals-lowest c = omega (arith, near _ _ _ _ _ _ c.ranges.word.fits (omega arith) c.lowest.ensures c.loop-rest.invariant c.requires.room)

pub slice_copy_out-totals : goal.slice_copy_out-totals
slice_copy_out-totals c = inside _ _ _ _ _ _ c.ranges.word.fits (omega arith) c.lowest.ensures c.loop-rest.invariant c.requires.room

pub bounds-totals-lowest : goal.bounds-totals-lowest
bounds-totals-lowest c = inside _ _ _ _ _ _ c.ranges.word.fits (omega arith) c.lowest.ensures c.loop-rest.invariant c.requires.room

pub overflow_add-totals : goal.overflow_add-totals
overflow_add-totals c =
    let y = local (of_z w64 c.args.y) reading_limit refl (rw (to_z-of_z c.ranges.y) c.requires.y_bound) in
    let total = number (get_or c.loop-rest.totals c.lowest.result (pos 0)) _ (small _ _ _ _ _ _ c.ranges.word.fits (omega arith) c.lowest.ensures c.loop-rest.invariant c.requires.room y.small) (lit< tt) in
    plus_fits total y (lit< tt)

pub loop-rest-smaller : goal.loop-rest-smaller
loop-rest-smaller c = omega (arith, c.without_lowest-rest.ensures, rest-less c.loop-rest.rest (omega arith))

pub loop-rest-preserved : goal.loop-rest-preserved
loop-rest-preserved c =
    let some : 0 < c.loop-rest.rest = omega arith in
    let fit = c.ranges.word.fits in
    let y = local (of_z w64 c.args.y) reading_limit refl (rw (to_z-of_z c.ranges.y) c.requires.y_bound) in
    let total = number (get_or c.loop-rest.totals c.lowest.result (pos 0)) _ (small _ _ _ _ _ _ fit some c.lowest.ensures c.loop-rest.invariant c.requires.room y.small) (lit< tt) in
    let sum = plus total y (lit< tt) in
    let (left, same) = c.loop-rest.invariant in
    let less = c.without_lowest-rest.ensures in (
      rw less (left-rest _ c.loop-rest.rest fit some left),
      walk_step (more c.args.word _) c.loop-rest.rest c.loop-rest.totals (pos 0) some (omega (arith, fit, left.less)) c.lowest.ensures less
          (sum.reads ∙ more_in _ _ _ _ (one _ _ _ _ _ _ fit some c.lowest.ensures c.loop-rest.invariant c.requires.room)) same,
    )

pub returns : goal.returns
returns c =
    walk_end (more c.args.word _) c.args.word c.loop-rest.totals c.args.totals.now (more-not _ _) (rw c.loop-rest-test.false at c.loop-rest.invariant.1)
    ∙ ap (λ (z : ℤ). added c.args.word z c.args.totals.now) (to_z-of_z c.ranges.y)
