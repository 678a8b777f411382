-- `lines::put_last`: each arm puts what the last word is for its case. Assumes nothing.
use Rattle.meaning.specs.Text.{ascii}
use Rattle.algebra.proofs.Writing.{named}
use borrow.Author.Rules.{rules}
use Rattle.listing.proofs.lines.put_last.Goals as goal

pub returns-in-None : goal.returns-in-None
unfolding ascii
returns-in-None c =
    named c.put_text.ensures (rw c.in-None.is (search rules))
