-- The loop of `cards::optional::put_others`: what is written and the fields from the place on are all. The measure is what is left of the file.
use Rattle.std.proofs.Common.{◌-◌, length}
use Rattle.cards.proofs.optional.Parts.{Goes}
use Rattle.cards.proofs.optional.put_others.Given as goal

abbrev pub invariant-loop-field : goal.invariant-loop-field
invariant-loop-field l = Goes l.file l.start l.initial.out l.at l.out l.place l.field

abbrev pub decreases-loop-field : goal.decreases-loop-field
decreases-loop-field l = length l.file - l.field
