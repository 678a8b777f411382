-- `cards::hexadecimal::put_hex`: a turn of the loop writes the byte of two digits, and after it none are left.
use Rattle.std.proofs.Common.{arith, ap, sym, ◌≡◌, ◌∙◌, length, length-append, ◌/◌, ◌∷◌}
use Rattle.std.specs.Slice.Iter.{chunks_exact_rest}
use Rattle.algebra.specs.Buffers.{write}
use Rattle.meaning.specs.Card.{all_hex, hex_bytes}
use Rattle.cards.proofs.Going.{onward, arrived}
use Rattle.cards.proofs.hexadecimal.Digits.{pair_hex, pair_bytes, bytes-none}
use Rattle.cards.proofs.hexadecimal.put_hex.Goals as goal

pub hex_byte-requires : goal.hex_byte-requires
hex_byte-requires c =
    let l = c.loop-digits in
    let step = c.in-Some.ensures.steps in
    let two : length c.in-Some.digits.now ≡ 2 = step.1.1 ∙ l.invariant.0 in
    let hex = pair_hex c.in-Some.digits.now (chunks_exact_rest c.next.new.self) two (ap all_hex (sym step.1.0) ∙ l.invariant.2) in
    (omega arith, hex.0, hex.1)

pub loop-digits-preserved : goal.loop-digits-preserved
loop-digits-preserved c =
    let l = c.loop-digits in
    let d = c.in-Some.digits.now in
    let later = chunks_exact_rest c.next.new.self in
    let step = c.in-Some.ensures.steps in
    let two : length d ≡ 2 = step.1.1 ∙ l.invariant.0 in
    let hex = pair_hex d later two (ap all_hex (sym step.1.0) ∙ l.invariant.2) in
    let left = hex_bytes (length later / 2) later in (
      step.0 ∙ l.invariant.0,
      omega (arith, ap length step.1.0, length-append d later),
      hex.2,
      onward left c.put_byte-place.ensures
          ∙ ap (λ b. write l.out l.place (b ∷ left)) c.hex_byte.ensures
          ∙ ap (write l.out l.place) (sym (pair_bytes d later two) ∙ ap (λ s. hex_bytes (length s / 2) s) (sym step.1.0))
          ∙ l.invariant.3,
    )

pub returns : goal.returns
returns c =
    let l = c.loop-digits in
    let rest = chunks_exact_rest l.digits-iterator in
    let step = c.in-None.ensures.steps in
    let none : length rest / 2 ≡ 0 = omega (arith, step.1.0, l.invariant.0) in
    arrived (ap (write l.out l.place) (sym (bytes-none rest none)) ∙ l.invariant.3)
