-- The loop of `cards::places::column_of`: what is left before the place goes on from the column so far.
use Rattle.std.proofs.Common.{◌≡◌, ◌+◌, ◌≤◌, drop}
use Rattle.meaning.specs.Card.{column_from}
use Rattle.cards.proofs.places.column_of.Given as goal

abbrev pub invariant-loop-byte : goal.invariant-loop-byte
invariant-loop-byte l =
    (l.column ≤ l.byte-index + 1) × (column_from l.column (drop l.byte-index l.byte-items) ≡ column_from 1 l.byte-items)
