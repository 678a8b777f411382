-- `put_listing`: each arm puts what the text is for its verdict. Assumes nothing.
use borrow.Author.Rules.{rules}
use Rattle.algebra.proofs.Writing.{named}
use Rattle.listing.specs.Sheet.{sheet_text}
use Rattle.listing.proofs.text.put_listing.Goals as goal

pub returns-in-Ok : goal.returns-in-Ok
unfolding sheet_text
returns-in-Ok c = named c.put_job.ensures (rw c.in-Ok.is (search rules))

pub returns-in-Err : goal.returns-in-Err
unfolding sheet_text
returns-in-Err c = named c.put_refused.ensures (rw c.in-Err.is (search rules))
