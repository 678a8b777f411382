-- The loop of `cards::lines::put_side`: the objects so far are written.
use Rattle.std.proofs.Common.{◌+◌, get_or}
use Rattle.algebra.specs.Buffers.{Wrote}
use Rattle.meaning.specs.Text.{each}
use Rattle.meaning.specs.CardText.{object_text}
use Rattle.cards.proofs.lines.put_side.Given as goal

abbrev pub invariant-loop-object : goal.invariant-loop-object
invariant-loop-object l =
    Wrote l.initial.out l.at (each l.object-index (λ i. object_text (get_or l.blocks (l.start + i) 0))) l.out l.place
