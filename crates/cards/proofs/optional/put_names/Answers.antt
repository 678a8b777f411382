-- `optional::put_names`: nothing, or its word, the names, a newline. Assumes nothing.
use Rattle.std.proofs.Common.{rules, arith}
use borrow.Author.Tests.{eq-eqb, ne_eqb}
use Rattle.algebra.proofs.Writing.{◌then◌, named, nothing}
use Rattle.meaning.specs.Text.{ascii}
use Rattle.cards.proofs.optional.put_names.Goals as goal

pub returns-then-start-eq0 : goal.returns-then-start-eq0
returns-then-start-eq0 c = named (nothing _ _) (rw (eq-eqb c.args.start 0 (omega arith)) (search rules))

pub returns : goal.returns
unfolding ascii
returns c =
    named (c.put_text-word_end.ensures then c.put_each_name-names_end.ensures then c.put_byte.ensures)
    (rw (ne_eqb c.args.start 0 (λ e. omega arith)) (search rules))
