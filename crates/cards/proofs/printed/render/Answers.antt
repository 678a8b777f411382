-- `printed::render`: without room for all of it nothing is written, and with room the text stands in front. Assumes nothing.
use Rattle.std.proofs.Common.{arith}
use Rattle.listing.proofs.Room.{refused_value, refused_room, written_value, written_room}
use Rattle.cards.proofs.printed.render.Goals as goal

pub returns-then-out-length-clause-value : goal.returns-then-out-length-clause-value
returns-then-out-length-clause-value c = refused_value _ _ c.put_printed-length.ensures (omega arith) (omega arith)

pub returns-then-out-length-clause-out_after : goal.returns-then-out-length-clause-out_after
returns-then-out-length-clause-out_after c = refused_room _ _ c.put_printed-length.ensures (omega arith) (omega arith)

pub returns-clause-value : goal.returns-clause-value
returns-clause-value c = written_value _ _ c.put_printed-length.ensures (omega arith) (omega arith)

pub returns-clause-out_after : goal.returns-clause-out_after
returns-clause-out_after c = written_room _ _ c.put_printed-length.ensures (omega arith) (omega arith) c.put_printed.ensures
