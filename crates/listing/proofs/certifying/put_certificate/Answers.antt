-- `put_certificate`: each arm puts what the text is for its verdict. Assumes nothing.
use borrow.Author.Rules.{rules}
use mir.Facts.{to_z-of_z}
use Rattle.algebra.proofs.Writing.{named}
use Rattle.listing.specs.Certified.{certified_text}
use Rattle.listing.proofs.certifying.put_certificate.Goals as goal

pub returns-in-Ok : goal.returns-in-Ok
unfolding certified_text
returns-in-Ok c = named c.put_certified.ensures (rw (c.in-Ok.is, to_z-of_z c.ranges.sum) (search rules))

pub returns-in-Err : goal.returns-in-Err
unfolding certified_text
returns-in-Err c = named c.put_refused.ensures (rw c.in-Err.is (search rules))
