-- `fill`: a turn adds the reading of one block more. Assumes nothing.
use Rattle.std.proofs.Common.{◌∙◌, ◌+◌, ◌*◌, arith}
use Rattle.std.proofs.lemmas.List.{length-take-le}
use Rattle.meaning.specs.Refusals.{reading_limit}
use Rattle.laws.specs.Limits.{total_limit}
use Rattle.weighing.proofs.adding.Objects.{block-added, block_room, cleared}
use Rattle.weighing.proofs.adding.fill.Goals as goal

pub loop-k-init : goal.loop-k-init
loop-k-init c =
    let zeros = c.fill.ensures.after (λ y k. k) in
    cleared c.args.v c.args.totals.now c.fill.new.self c.args.words.now c.args.readings.now c.requires.v_in_bounds (rw (length-take-le c.args.v c.args.totals.now c.requires.v_in_bounds) at zeros)

pub add_reading-requires-clause-room : goal.add_reading-requires-clause-room
add_reading-requires-clause-room c =
    let w = c.requires.within.below in
    let room = block_room c.args.words.now c.args.readings.now c.args.v c.loop-k.k c.args.totals.now c.loop-k.totals c.requires.v_in_bounds c.loop-k.invariant c.args.b in (
      room _ (total_limit + reading_limit) c.requires.weighed (omega arith) (w _ (omega arith)) (omega arith),
      room _ total_limit c.requires.weighed (omega arith) (w _ (omega arith)) (omega arith),
    )

pub loop-k-preserved : goal.loop-k-preserved
loop-k-preserved c =
    let w = c.requires.within.below in
    c.add_reading.ensures ∙ block-added c.args.words.now c.args.readings.now c.args.v c.loop-k.k c.args.totals.now c.loop-k.totals c.requires.v_in_bounds
    c.loop-k.invariant (w (2 * c.loop-k.k) (omega arith)) (w (2 * c.loop-k.k + 1) (omega arith))
