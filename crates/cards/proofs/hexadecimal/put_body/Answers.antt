-- `cards::hexadecimal::put_body`: no bytes, or those of the digits.
use mathlib.Core.Path.{sym, ◌∙◌}
use Rattle.algebra.proofs.Writing.{named, nothing}
use Rattle.meaning.specs.Text.{ascii}
use Rattle.cards.proofs.hexadecimal.Digits.{body-none, body_is}
use Rattle.cards.proofs.hexadecimal.put_body.Goals as goal

pub returns-then-same : goal.returns-then-same
unfolding ascii
returns-then-same c = named (nothing _ _) (sym (body-none c.args.word.now (sym c.same.ensures ∙ c.if-same.true)))

pub put_hex-requires : goal.put_hex-requires
unfolding ascii
put_hex-requires c = body_is c.args.word.now (sym c.same.ensures ∙ c.if-same.false) c.requires
