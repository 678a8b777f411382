-- `cards::written::put_field`: its start, then its body.
use mathlib.Core.Path.{sym, ◌∙◌}
use Rattle.algebra.proofs.Writing.{named, nothing, ◌then◌}
use Rattle.cards.proofs.Giving.{field-some, field-none}
use Rattle.cards.proofs.written.put_field.Goals as goal

pub returns-then-is_body : goal.returns-then-is_body
returns-then-is_body c = named (c.put_start-start.ensures then c.put_body.ensures) (field-some c.args.card c.args.word.now (sym c.before.before.before.before.before.before.before.before.before.before.before.is_body.ensures ∙ c.if-is_body.true) c.body_length.result c.body_length.ensures)

pub returns : goal.returns
returns c = named (nothing _ _) (field-none c.args.card c.args.word.now (sym c.before.is_body.ensures ∙ c.if-is_body.false))
