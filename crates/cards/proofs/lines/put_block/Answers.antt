-- `cards::lines::put_block`: its word, the two sides with a bar between them, a newline.
use borrow.Author.Rules.{rules}
use Rattle.algebra.proofs.Writing.{◌then◌, named}
use Rattle.meaning.specs.Text.{ascii}
use Rattle.cards.proofs.lines.put_block.Goals as goal

pub returns : goal.returns
unfolding ascii
returns c =
    named (c.put_text-word_end.ensures then (c.put_side-left_end.ensures then c.put_text-bar_end.ensures then c.put_side-right_end.ensures) then c.put_byte.ensures) (search rules)
