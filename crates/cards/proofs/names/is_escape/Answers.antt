-- `cards::names::is_escape`: the three bytes are told apart, by the library's test of a digit.
use Rattle.std.proofs.Common.{◌≡◌, true, false, ◌+◌, get_or, sym, ap, ◌∙◌}
use borrow.Author.Tests.{eq-eqb, ne_eqb}
use Rattle.std.proofs.lemmas.Bool.{false≢true}
use Rattle.meaning.specs.Card.{is_hex}
use Rattle.cards.proofs.hexadecimal.Digits.{hexdigit}
use Rattle.cards.proofs.names.Escapes.{escape_at}
use Rattle.cards.proofs.names.is_escape.Goals as goal
use Rattle.cards.proofs.names.is_escape.Goals.{then-byte-eq120, else-byte-eq120}

pub returns-then-is_ascii_hexdigit : goal.returns-then-is_ascii_hexdigit
returns-then-is_ascii_hexdigit c =
    let w = c.args.word.now in
    let at = c.args.at in
    let last = c.is_ascii_hexdigit-then-is_ascii_hexdigit.ensures.value ∙ hexdigit c.byte-then-is_ascii_hexdigit.result
    ∙ ap is_hex c.byte-then-is_ascii_hexdigit.ensures in
    elim c.if-byte-eq120.branch [
      | then-byte-eq120 v ↦
          let second : is_hex (get_or w (at + 1) 0) ≡ true =
          sym (v.is_ascii_hexdigit.ensures.value ∙ hexdigit v.byte-then-byte-eq120.result ∙ ap is_hex v.byte-then-byte-eq120.ensures)
          ∙ sym v.value-is ∙ c.if-is_ascii_hexdigit.true in
          rw (escape_at w at, eq-eqb (get_or w at 0) 120 (sym c.byte.ensures ∙ v.if-byte-eq120.true), second) last
      | else-byte-eq120 v ↦ absurd (false≢true (sym (ne_eqb c.byte.result 120 v.if-byte-eq120.false) ∙ sym v.value-is ∙ c.if-is_ascii_hexdigit.true))
    ]

pub returns-else-is_ascii_hexdigit : goal.returns-else-is_ascii_hexdigit
returns-else-is_ascii_hexdigit c =
    let w = c.args.word.now in
    let at = c.args.at in
    elim c.if-byte-eq120.branch [
      | then-byte-eq120 v ↦
          let second : is_hex (get_or w (at + 1) 0) ≡ false =
          sym (v.is_ascii_hexdigit.ensures.value ∙ hexdigit v.byte-then-byte-eq120.result ∙ ap is_hex v.byte-then-byte-eq120.ensures)
          ∙ sym v.value-is ∙ c.if-is_ascii_hexdigit.false in
          rw (escape_at w at, eq-eqb (get_or w at 0) 120 (sym c.byte.ensures ∙ v.if-byte-eq120.true), second) c.if-is_ascii_hexdigit.false
      | else-byte-eq120 v ↦
          rw (escape_at w at, ne_eqb (get_or w at 0) 120 (λ e. v.if-byte-eq120.false (c.byte.ensures ∙ e))) (v.value-is ∙ ne_eqb c.byte.result 120 v.if-byte-eq120.false)
    ]
