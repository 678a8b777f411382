-- `add_reading`: what the left word adds is at most a reading, so that there is room for the right one. Assumes nothing.
use Rattle.std.proofs.Common.{rules, to_z, of_z, w64, nat_abs, ◌≤◌}
use Rattle.meaning.specs.Refusals.{reading_limit}
use Rattle.laws.specs.Limits.{total_limit}
use Rattle.weighing.proofs.adding.Objects.{added-room}
use Rattle.weighing.proofs.adding.add_reading.Goals as goal

pub add_to-requires-2-clause-room : goal.add_to-requires-2-clause-room
add_to-requires-2-clause-room c =
    let y = to_z w64 (of_z w64 c.from-y.result) in
    let small : nat_abs y ≤ reading_limit = search rules in
    rw c.add_to.ensures (added-room _ y small c.args.totals.now _ total_limit c.requires.room.1)
