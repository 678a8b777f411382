-- `columns::put_standard`: each arm puts its word, filled up. Assumes nothing.
use borrow.Author.Rules.{rules}
use borrow.Author.Tests.{eq-eqb, ne_eqb}
use Rattle.algebra.proofs.Writing.{named}
use Rattle.meaning.specs.Text.{ascii, each}
use Rattle.listing.proofs.columns.put_standard.Goals as goal

pub returns-then-held-eq1 : goal.returns-then-held-eq1
unfolding ascii each
returns-then-held-eq1 c =
    let held = c.args.held in
    named c.put_text.ensures (rw (eq-eqb held 1 c.if-held-eq1.true) (search rules))

pub returns-else-held-eq1 : goal.returns-else-held-eq1
unfolding ascii each
returns-else-held-eq1 c =
    let held = c.args.held in
    named c.put_text-else-held-eq1.ensures (rw (ne_eqb held 1 c.if-held-eq1.false) (search rules))
