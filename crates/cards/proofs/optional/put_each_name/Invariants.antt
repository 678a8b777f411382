-- The loop of `cards::optional::put_each_name`: the first i names are written.
use Rattle.std.proofs.Common.{◌∷◌}
use Rattle.algebra.specs.Buffers.{Wrote}
use Rattle.meaning.specs.Text.{each, name_text}
use Rattle.meaning.specs.CardText.{name_at}
use Rattle.cards.proofs.optional.put_each_name.Given as goal

abbrev pub invariant-loop-i : goal.invariant-loop-i
invariant-loop-i l = Wrote l.initial.out l.at (each l.i (λ i. 32 ∷ name_text (name_at l.file l.start i))) l.out l.place
