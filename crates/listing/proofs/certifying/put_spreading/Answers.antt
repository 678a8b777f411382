-- `certifying::put_spreading`: two lines, each of its words and its figure. Assumes nothing.
use borrow.Author.Rules.{rules}
use Rattle.algebra.proofs.Writing.{◌then◌, named}
use Rattle.meaning.specs.Text.{ascii}
use Rattle.listing.proofs.certifying.put_spreading.Goals as goal

pub returns : goal.returns
unfolding ascii
returns c =
    named ((c.put_text-words.ensures then c.put_spread-figure.ensures then c.put_byte-spread_end.ensures)
    then (c.put_text-freedom.ensures then c.put_count-freedom_figure.ensures then c.put_byte.ensures)) (search rules)
