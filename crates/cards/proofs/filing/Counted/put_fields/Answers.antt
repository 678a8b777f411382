-- `cards::filing::put_fields`: the four fields, one after another, of parts that end where the bytes do.
use Rattle.std.proofs.Common.{rules, ap, ◌∙◌, min, length}
use mir.Syntax.{w64}
use mir.ValLaws.{to_z-of_z}
use Rattle.algebra.proofs.Writing.{◌then◌, named}
use Rattle.cards.proofs.filing.Parts.{fields_are}
use Rattle.cards.proofs.filing.Counted.put_fields.Goals as goal

pub returns : goal.returns
returns c =
    let body = c.args.body.now in
    named (c.put_field-second.ensures then c.put_field-third.ensures then c.put_restraint-fourth.ensures then c.put_field.ensures)
    (fields_are c.args.self.card body c.min-middle.result c.min-end.result _ (to_z-of_z w64 c.args.self.card.sum (search rules))
    (c.min-middle.ensures ∙ ap (λ n. min n (length body)) c.blocks_length.ensures)
    (c.min-end.ensures ∙ ap (λ n. min n (length body)) c.plain_length.ensures))
