-- `cards::lines::put_fixed`: its word, the answer, a newline.
use borrow.Author.Rules.{rules}
use Rattle.algebra.proofs.Writing.{◌then◌, named}
use Rattle.meaning.specs.Text.{ascii}
use Rattle.cards.proofs.lines.put_fixed.Goals as goal

pub returns : goal.returns
unfolding ascii
returns c =
    named (c.put_text-word_end.ensures then c.put_taking_part-answer_end.ensures then c.put_byte.ensures) (search rules)
