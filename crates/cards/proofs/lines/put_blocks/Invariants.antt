-- The loop of `cards::lines::put_blocks`: the first k blocks are written.
use Rattle.algebra.specs.Buffers.{Wrote}
use Rattle.meaning.specs.Text.{each}
use Rattle.meaning.specs.CardText.{block_line}
use Rattle.cards.proofs.lines.put_blocks.Given as goal

abbrev pub invariant-loop-k : goal.invariant-loop-k
invariant-loop-k l = Wrote l.initial.out l.at (each l.k (block_line l.head l.blocks)) l.out l.place
