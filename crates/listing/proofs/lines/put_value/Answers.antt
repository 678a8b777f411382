-- `lines::put_value`: its word, four numbers, two of them signed, a newline. Assumes nothing.
use Rattle.algebra.proofs.Writing.{◌then◌, named}
use mir.Facts.{to_z-of_z}
use Rattle.meaning.specs.Text.{ascii}
use borrow.Author.Rules.{rules}
use Rattle.listing.proofs.lines.put_value.Goals as goal

pub returns : goal.returns
unfolding ascii
returns c =
    named (c.put_text-word_end.ensures then
    (c.put_number-object_end.ensures then c.put_signed-numerator_end.ensures then c.put_number-denominator_end.ensures then c.put_signed-hundredths_end.ensures) then c.put_byte.ensures)
    (rw (to_z-of_z c.ranges.numerator, to_z-of_z c.ranges.hundredths) (search rules))
