-- `lines::put_spread`: its word, three numbers, the last word, a newline. Assumes nothing.
use Rattle.algebra.proofs.Writing.{◌then◌, named}
use Rattle.meaning.specs.Text.{ascii}
use borrow.Author.Rules.{rules}
use Rattle.listing.proofs.lines.put_spread.Goals as goal

pub returns : goal.returns
unfolding ascii
returns c =
    named (c.put_text-word_end.ensures then
    (c.put_wide-q_end.ensures then c.put_number-vbeta_end.ensures then c.put_number-freedom_end.ensures then c.put_last-last_end.ensures) then c.put_byte.ensures)
    (search rules)
