use Rattle.std.proofs.Common.{sym, ◌∙◌}
use Rattle.meaning.specs.Design.{plus}
use Rattle.design.proofs.addition.Cards.{place-most}
use Rattle.design.proofs.addition.Addition.plus.Goals as goal

pub bounds-self-x : goal.bounds-self-x
bounds-self-x c =
    let a = c.args in
    place-most a.self.head a.x a.shift a.self.fits (sym c.by_field.ensures ∙ c.if-by_field.true) c.requires.0 c.requires.1

pub returns-else-by_field : goal.returns-else-by_field
unfolding plus
returns-else-by_field c = rw (sym c.by_field.ensures ∙ c.if-by_field.false)
