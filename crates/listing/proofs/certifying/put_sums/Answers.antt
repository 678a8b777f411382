-- `certifying::put_sums`: two lines, each of its words and 100 times the sum. Assumes nothing.
use borrow.Author.Rules.{rules}
use Rattle.algebra.proofs.Writing.{◌then◌, named}
use Rattle.meaning.specs.Text.{ascii}
use lib.Dec.{lit<}
use lib.IntN.{pos}
use Rattle.algebra.proofs.Numbers.{number, times}
use Rattle.meaning.specs.Refusals.{sum_limit}
use native.Mathlib.Omega.{arith}
use Rattle.listing.proofs.certifying.put_sums.Goals as goal

pub returns : goal.returns
unfolding ascii
returns c =
    let back = (times (number (pos 100) 100 (omega arith) (lit< tt)) (number c.args.sum sum_limit c.requires (lit< tt)) (lit< tt)).reads in
    named ((c.put_text-standards.ensures then c.put_value-standards_figure.ensures then c.put_byte-standards_end.ensures)
    then (c.put_text-accepted.ensures then c.put_value-accepted_figure.ensures then c.put_byte.ensures)) (rw back (search rules))
