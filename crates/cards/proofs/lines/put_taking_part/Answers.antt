-- `cards::lines::put_taking_part`: the word by the flag.
use Prim.Native.Nat.{◌%◌}
use native.Mathlib.Omega.{arith}
use borrow.Author.Rules.{rules}
use borrow.Author.Tests.{eq-eqb, ne_eqb}
use Rattle.algebra.proofs.Writing.{named}
use Rattle.meaning.specs.Text.{ascii}
use Rattle.cards.proofs.lines.put_taking_part.Goals as goal

pub returns-then-flag-eq1 : goal.returns-then-flag-eq1
unfolding ascii
returns-then-flag-eq1 c = named c.put_text.ensures (rw (eq-eqb (c.args.flag % 2) 1 (omega arith)) (search rules))

pub returns-else-flag-eq1 : goal.returns-else-flag-eq1
unfolding ascii
returns-else-flag-eq1 c = named c.put_text-else-flag-eq1.ensures (rw (ne_eqb (c.args.flag % 2) 1 (λ e. omega arith)) (search rules))
