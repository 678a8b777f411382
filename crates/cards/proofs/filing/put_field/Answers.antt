-- `cards::filing::put_field`: the start of the field, then its body.
use borrow.Author.Rules.{rules}
use Rattle.algebra.proofs.Writing.{◌then◌, named}
use Rattle.cards.proofs.filing.put_field.Goals as goal

pub returns : goal.returns
returns c =
    named (c.put_start-start.ensures then c.put_text.ensures) (search rules)
