-- The loop of `cards::lines::put_each_reading`: the readings so far are written.
use Rattle.algebra.specs.Buffers.{Wrote}
use Rattle.meaning.specs.Text.{each}
use Rattle.meaning.specs.CardText.{reading_text}
use Rattle.cards.proofs.lines.put_each_reading.Given as goal

abbrev pub invariant-loop-k : goal.invariant-loop-k
invariant-loop-k l = Wrote l.initial.out l.at (each l.k (reading_text l.head l.readings)) l.out l.place
