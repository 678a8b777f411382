-- `cards::written::put_reading`: the low four bytes of a reading; a word that is none gives nothing.
use Rattle.std.proofs.Common.{rules, ap, sym, ◌∙◌, w64}
use mir.ValLaws.{to_z-of_z}
use Rattle.algebra.proofs.Writing.{named, nothing}
use Rattle.meaning.specs.Writing.{bytes_of, wrapped}
use Rattle.meaning.specs.Card.{is_int32}
use Rattle.cards.proofs.Giving.{reading-none, reading-wide, reading-some}
use Rattle.cards.proofs.written.put_reading.Goals as goal

pub returns-in-Some : goal.returns-in-Some
returns-in-Some c =
    let same_number = to_z-of_z w64 c.in-Some.number (search rules) in
    named c.put_bytes.ensures (ap (bytes_of 4) (c.bits.ensures ∙ ap (wrapped 64) same_number)
    ∙ reading-some c.args.card c.args.word.now c.in-Some.number (sym c.in-Some.is ∙ c.signed.ensures)
    (sym (ap is_int32 same_number) ∙ sym c.is_int32.ensures ∙ c.if-is_int32.true))

pub returns-in_default : goal.returns-in_default
returns-in_default c =
    let same_number = to_z-of_z w64 c.in-Some.number (search rules) in
    named (nothing _ _) (reading-wide c.args.card c.args.word.now c.in-Some.number (sym c.in-Some.is ∙ c.signed.ensures)
    (sym (ap is_int32 same_number) ∙ sym c.is_int32.ensures ∙ c.if-is_int32.false))

pub returns-in_default-2 : goal.returns-in_default-2
returns-in_default-2 c = named (nothing _ _) (reading-none c.args.card c.args.word.now (sym c.in_default.is ∙ c.signed.ensures))
