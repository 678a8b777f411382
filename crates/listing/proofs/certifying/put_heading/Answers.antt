-- `certifying::put_heading`: the title, the design, the names of the columns. Assumes nothing.
use borrow.Author.Rules.{rules}
use Rattle.algebra.proofs.Writing.{◌then◌, named}
use Rattle.meaning.specs.Text.{ascii}
use Rattle.listing.proofs.certifying.put_heading.Goals as goal

pub returns : goal.returns
unfolding ascii
returns c =
    named (c.put_text-title_end.ensures then c.put_design-design_end.ensures then c.put_text.ensures) (search rules)
