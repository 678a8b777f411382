-- The loop of `cards::reading::walked`: what is left makes the card of the whole text.
use Rattle.cards.proofs.reading.Turning.{Walked}
use Rattle.cards.proofs.reading.walked.Given as goal

abbrev pub invariant-loop-k : goal.invariant-loop-k
invariant-loop-k l = Walked l.text l.wants l.len l.initial.body l.body l.walk l.k
