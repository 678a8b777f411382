-- `cards::lines::put_each_reading`: before the loop nothing is written, and a turn of it writes one reading more.
use Rattle.std.proofs.Common.{rules}
use Rattle.algebra.proofs.Writing.{named, ◌then◌}
use Rattle.meaning.specs.CardText.{reading_text}
use Rattle.printing.proofs.Each.{no_lines, more-lines}
use Rattle.cards.proofs.lines.put_each_reading.Goals as goal

pub loop-k-init : goal.loop-k-init
loop-k-init c = no_lines _ _ _

pub loop-k-preserved : goal.loop-k-preserved
loop-k-preserved c =
    more-lines (reading_text c.args.head c.args.readings.now) c.loop-k.k c.loop-k.invariant
    (named (c.put_break-start.ensures then c.put_signed-place.ensures) (search rules))
