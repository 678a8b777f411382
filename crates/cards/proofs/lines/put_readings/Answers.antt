-- `cards::lines::put_readings`: its word, the readings, a newline.
use borrow.Author.Rules.{rules}
use Rattle.algebra.proofs.Writing.{◌then◌, named}
use Rattle.meaning.specs.Text.{ascii}
use Rattle.cards.proofs.lines.put_readings.Goals as goal

pub returns : goal.returns
unfolding ascii
returns c =
    named (c.put_text-word_end.ensures then c.put_each_reading-readings_end.ensures then c.put_byte.ensures) (search rules)
