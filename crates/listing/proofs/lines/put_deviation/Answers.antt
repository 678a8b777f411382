-- `lines::put_deviation`: its word, three numbers, the second signed, a newline. Assumes nothing.
use Rattle.algebra.proofs.Writing.{◌then◌, named}
use mir.Facts.{to_z-of_z}
use Rattle.meaning.specs.Text.{ascii}
use borrow.Author.Rules.{rules}
use Rattle.listing.proofs.lines.put_deviation.Goals as goal

pub returns : goal.returns
unfolding ascii
returns c =
    named (c.put_text-word_end.ensures then (c.put_number-block_end.ensures then c.put_signed-numerator_end.ensures then c.put_number-denominator_end.ensures) then c.put_byte.ensures)
    (rw (to_z-of_z c.ranges.numerator) (search rules))
