-- A space alone where nothing is left, else what is left.
use Rattle.std.proofs.Common.{rules, arith}
use Rattle.algebra.proofs.Writing.{named}
use Rattle.printing.proofs.names.Shown.{name-blank, name-left}
use Rattle.printing.proofs.names.put_name.Goals as goal

pub returns-then-kept-eq0 : goal.returns-then-kept-eq0
returns-then-kept-eq0 c =
    let kept = c.trimmed_length-kept in
    named c.put_escaped.ensures (rw (name-blank c.args.name.now kept.result kept.ensures.1 (omega arith)) (search rules))

pub returns-else-kept-eq0 : goal.returns-else-kept-eq0
returns-else-kept-eq0 c =
    let kept = c.trimmed_length-kept in
    named c.put_escaped-else-kept-eq0.ensures
    (rw (name-left c.args.name.now kept.result kept.ensures.1 (omega arith) (λ e. omega arith)) (search rules))
