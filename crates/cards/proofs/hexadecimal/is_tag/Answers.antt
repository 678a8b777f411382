-- `cards::hexadecimal::is_tag`: the byte is read of two digits.
use Rattle.std.proofs.Common.{◌≡◌, arith, length, sym, ◌∙◌}
use borrow.Author.Tests.{ne_eqb}
use Rattle.std.proofs.lemmas.Bool.{false≢true}
use Rattle.cards.proofs.hexadecimal.Digits.{two_digits}
use Rattle.cards.proofs.hexadecimal.is_tag.Goals as goal
use Rattle.cards.proofs.hexadecimal.is_tag.Goals.{then-word-eq2, else-word-eq2}

pub hex_byte-requires : goal.hex_byte-requires
hex_byte-requires c =
    elim c.if-word-eq2.branch [
      | then-word-eq2 v ↦
          let two : length c.args.word.now ≡ 2 = v.if-word-eq2.true in
          let digits = two_digits c.args.word.now two (sym v.all_hex.ensures ∙ sym v.value-is ∙ c.if-all_hex.true) in
          (omega arith, digits.0, digits.1)
      | else-word-eq2 v ↦ absurd (false≢true (sym (ne_eqb (length c.args.word.now) 2 v.if-word-eq2.false) ∙ sym v.value-is ∙ c.if-all_hex.true))
    ]
