-- `lines::put_refused`: its word, two numbers, a newline. Assumes nothing.
use Rattle.algebra.proofs.Writing.{◌then◌, named}
use Rattle.meaning.specs.Text.{ascii}
use borrow.Author.Rules.{rules}
use Rattle.listing.proofs.lines.put_refused.Goals as goal

pub returns : goal.returns
unfolding ascii
returns c =
    named (c.put_text-word_end.ensures then (c.put_number-number_end.ensures then c.put_number-place_end.ensures) then c.put_byte.ensures) (search rules)
