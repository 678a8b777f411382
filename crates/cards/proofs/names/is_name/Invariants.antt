-- The loop of `cards::names::is_name`: what is asked of the word is asked of what is left of it, of fewer bytes.
use Rattle.std.proofs.Common.{◌≡◌, ◌-◌, ◌≤◌, length, drop}
use Rattle.meaning.specs.Card.{is_name}
use Rattle.cards.proofs.names.is_name.Given as goal

abbrev pub invariant-loop : goal.invariant-loop
invariant-loop l = (l.at ≤ length l.word) × (is_name 8 l.word ≡ is_name (8 - l.counter) (drop l.at l.word))
