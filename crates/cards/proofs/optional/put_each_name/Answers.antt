-- `cards::optional::put_each_name`: before the loop nothing is written, and a turn of it writes one name more.
use Rattle.std.proofs.Common.{◌∷◌}
use Rattle.meaning.specs.Text.{name_text}
use Rattle.meaning.specs.CardText.{name_at}
use Rattle.printing.proofs.Each.{no_lines, more-lines}
use Rattle.cards.proofs.optional.put_each_name.Goals as goal

pub loop-i-init : goal.loop-i-init
loop-i-init c = no_lines _ _ _

pub loop-i-preserved : goal.loop-i-preserved
loop-i-preserved c =
    more-lines (λ i. 32 ∷ name_text (name_at c.args.file.now c.args.start i)) c.loop-i.i c.loop-i.invariant c.put_name_at-place.ensures
