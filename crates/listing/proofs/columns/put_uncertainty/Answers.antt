-- `put_uncertainty`: none is put as the text has it. Assumes nothing.
use borrow.Author.Rules.{rules}
use Rattle.algebra.proofs.Writing.{named}
use Rattle.meaning.specs.Text.{ascii, each}
use Rattle.listing.proofs.columns.put_uncertainty.Goals as goal

pub returns-in-None : goal.returns-in-None
unfolding ascii each
returns-in-None c = named c.put_text.ensures (rw c.in-None.is (search rules))
