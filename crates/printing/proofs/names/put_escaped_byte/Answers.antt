-- A byte that is not shown is a mark and its two digits.
use Rattle.std.proofs.Common.{sym, ◌∙◌, rules}
use Rattle.algebra.proofs.Writing.{◌then◌, named}
use Rattle.printing.proofs.names.put_escaped_byte.Goals as goal

pub returns-else-is_shown : goal.returns-else-is_shown
returns-else-is_shown c =
    named (c.put_text-mark.ensures then c.put_hex.ensures) (rw (sym c.is_shown.ensures ∙ c.if-is_shown.false) (search rules))
