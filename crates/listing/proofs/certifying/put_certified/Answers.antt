-- `certifying::put_certified`: its parts one after the other. Assumes nothing.
use borrow.Author.Rules.{rules}
use mir.Facts.{to_z-of_z}
use Rattle.algebra.proofs.Writing.{◌then◌, named}
use Rattle.meaning.specs.Text.{ascii}
use Rattle.listing.specs.Certified.{certified_lines}
use Rattle.listing.proofs.certifying.put_certified.Goals as goal

pub returns : goal.returns
unfolding certified_lines ascii
returns c =
    named (c.put_heading-heading_end.ensures then c.put_weights-weights_end.ensures then c.put_sums-sums_end.ensures then c.put_spreading-spread_end.ensures then c.put_text.ensures)
    (rw (to_z-of_z c.ranges.sum) (search rules))
