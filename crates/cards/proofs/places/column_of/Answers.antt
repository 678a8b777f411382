-- `cards::places::column_of`: a turn of the loop goes on by one byte.
use Rattle.std.proofs.Common.{arith, ◌<◌, length, take}
use Rattle.cards.proofs.places.Turns.{at_newline, at_other}
use Rattle.cards.proofs.places.column_of.Goals as goal
use Rattle.cards.proofs.places.column_of.Goals.{then-byte-eq10, else-byte-eq10}

pub loop-byte-preserved : goal.loop-byte-preserved
loop-byte-preserved c =
    let l = c.loop-byte in
    let before = take c.min.result c.args.card.now in
    let here : l.byte-index < length before = omega arith in
    elim c.if-byte-eq10.branch [
      | then-byte-eq10 w ↦ (omega arith, cc (at_newline before l.byte-index l.column here w.if-byte-eq10.true))
      | else-byte-eq10 w ↦ (omega arith, cc (at_other before l.byte-index l.column here w.if-byte-eq10.false))
    ]
