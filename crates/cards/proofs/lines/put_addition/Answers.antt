-- `cards::lines::put_addition`: the word by the flag.
use native.Mathlib.Omega.{arith}
use borrow.Author.Rules.{rules}
use borrow.Author.Tests.{lt-ltb, le-ltb}
use Rattle.algebra.proofs.Writing.{named}
use Rattle.meaning.specs.Text.{ascii}
use Rattle.cards.proofs.lines.put_addition.Goals as goal

pub returns-then-flag-lt2 : goal.returns-then-flag-lt2
unfolding ascii
returns-then-flag-lt2 c = named c.put_text.ensures (rw (lt-ltb c.args.flag 2 (omega arith)) (search rules))

pub returns-else-flag-lt2 : goal.returns-else-flag-lt2
unfolding ascii
returns-else-flag-lt2 c = named c.put_text-else-flag-lt2.ensures (rw (le-ltb c.args.flag 2 (omega arith)) (search rules))
