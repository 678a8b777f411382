-- `cards::lines::put_kind`: its word, the size, a newline.
use borrow.Author.Rules.{rules}
use Rattle.algebra.proofs.Writing.{◌then◌, named}
use Rattle.cards.proofs.lines.put_kind.Goals as goal

pub returns : goal.returns
returns c =
    named (c.put_addition-word_end.ensures then c.put_number-size_end.ensures then c.put_byte.ensures) (search rules)
