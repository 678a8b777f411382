use Rattle.design.specs.Addition.{no_card}
use Rattle.design.proofs.addition.Cards.{copied_front}
use Rattle.design.proofs.addition.laid.Goals as goal

pub returns : goal.returns
returns c = record { is = rw c.copy_from_slice.ensures.after (copied_front c.args.sums.now no_card c.requires) }
