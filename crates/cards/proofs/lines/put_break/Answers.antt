-- `cards::lines::put_break`: a newline at every n-th reading, else nothing.
use Prim.Native.Nat.{◌%◌}
use borrow.Author.Rules.{rules}
use borrow.Author.Tests.{ne_eqb}
use Rattle.algebra.proofs.Writing.{named, nothing}
use Rattle.cards.proofs.lines.put_break.Goals as goal

pub returns-else-k-n-eq0 : goal.returns-else-k-n-eq0
returns-else-k-n-eq0 c =
    let a = c.args in
    named (nothing _ _) (rw (ne_eqb (a.k % a.n) 0 c.if-k-n-eq0.false) (search rules))
