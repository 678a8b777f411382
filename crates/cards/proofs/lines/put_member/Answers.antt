-- `cards::lines::put_member`: the number of a member, and nothing of any other object.
use mathlib.Core.Path.{◌∙◌}
use borrow.Author.Rules.{rules}
use borrow.Author.Tests.{ne_eqb}
use Rattle.algebra.proofs.Writing.{named, nothing}
use Rattle.meaning.specs.Analysis.{member}
use Rattle.cards.proofs.lines.put_member.Goals as goal

pub returns-else-holds-eq1 : goal.returns-else-holds-eq1
returns-else-holds-eq1 c =
    let a = c.args in
    named (nothing _ _) (rw (ne_eqb (member a.set a.i) 1 (λ e. c.if-holds-eq1.false (c.holds.ensures ∙ e))) (search rules))
