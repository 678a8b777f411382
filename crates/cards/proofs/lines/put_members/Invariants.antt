-- The loop of `cards::lines::put_members`: the members among the first i objects are written.
use Rattle.algebra.specs.Buffers.{Wrote}
use Rattle.meaning.specs.Text.{each}
use Rattle.meaning.specs.CardText.{member_text}
use Rattle.cards.proofs.lines.put_members.Given as goal

abbrev pub invariant-loop-i : goal.invariant-loop-i
invariant-loop-i l = Wrote l.initial.out l.at (each l.i (member_text l.set)) l.out l.place
