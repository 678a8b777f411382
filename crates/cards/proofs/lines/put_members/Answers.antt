-- `cards::lines::put_members`: before the loop nothing is written, and a turn of it writes one object more, where it is a member.
use Rattle.printing.proofs.Each.{no_lines, more-lines}
use Rattle.meaning.specs.CardText.{member_text}
use Rattle.cards.proofs.lines.put_members.Goals as goal

pub loop-i-init : goal.loop-i-init
loop-i-init c = no_lines _ _ _

pub loop-i-preserved : goal.loop-i-preserved
loop-i-preserved c = more-lines (member_text c.args.set) c.loop-i.i c.loop-i.invariant c.put_member-place.ensures
