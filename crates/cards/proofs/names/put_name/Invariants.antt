-- The loop of `cards::names::put_name`: what is left of the word writes what is left of the name.
use Rattle.std.proofs.Common.{◌≡◌, ◌-◌, ◌≤◌, length, drop, true}
use Rattle.algebra.specs.Buffers.{write}
use Rattle.meaning.specs.Card.{is_name, name_of}
use Rattle.cards.proofs.names.put_name.Given as goal

abbrev pub invariant-loop : goal.invariant-loop
invariant-loop l =
    (l.at ≤ length l.word) × (is_name (8 - l.counter) (drop l.at l.word) ≡ true)
    × (write l.out l.place (name_of (8 - l.counter) (drop l.at l.word)) ≡ write l.initial.out l.start (name_of 8 l.word))
