-- `cards::filing::put_file`: in the second edition the four fields stand between the edition field and the others.
use Rattle.std.proofs.Common.{sym, ap, ◌∙◌, ◌++◌, min, length}
use Rattle.algebra.proofs.Writing.{◌then◌, named}
use Rattle.meaning.specs.Edition2.{edition_field}
use Rattle.meaning.specs.Card.{four_fields}
use Rattle.cards.proofs.filing.Parts.{others_are, second_is}
use Rattle.cards.proofs.filing.Counted.put_file.Goals as goal

pub returns : goal.returns
returns c =
    let card = c.args.self.card in
    let body = c.args.body.now in
    named (c.put_text-start.ensures then c.put_fields-end.ensures then c.put_text.ensures)
    (ap (λ l. edition_field ++ four_fields card body ++ l)
    (others_are card body c.min-others.result (c.min-others.ensures ∙ ap (λ n. min n (length body)) c.plain_length.ensures))
    ∙ second_is card body (sym c.is_second.ensures ∙ c.if-not-is_second.false))
