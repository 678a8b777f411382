-- `cards::lines::put_blocks`: before the loop nothing is written, and a turn of it writes one block more.
use Rattle.printing.proofs.Each.{no_lines, more-lines}
use Rattle.meaning.specs.CardText.{block_line}
use Rattle.cards.proofs.lines.put_blocks.Goals as goal

pub loop-k-init : goal.loop-k-init
loop-k-init c = no_lines _ _ _

pub loop-k-preserved : goal.loop-k-preserved
loop-k-preserved c =
    more-lines (block_line c.args.head c.args.blocks.now) c.loop-k.k c.loop-k.invariant c.put_block-place.ensures
