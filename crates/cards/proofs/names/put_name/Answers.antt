-- `cards::names::put_name`: a turn of the loop writes one byte, and after it none is left.
use Rattle.std.proofs.Common.{arith, sym, ap, ap₂, ◌∙◌, ◌≡◌, ◌-◌, ◌+◌, ◌∷◌, suc, drop}
use Rattle.algebra.specs.Buffers.{write}
use Rattle.meaning.specs.Card.{is_name, name_of}
use Rattle.cards.specs.Names.{byte_at}
use Rattle.cards.proofs.Going.{onward, arrived}
use Rattle.cards.proofs.names.Escapes.{name-later, name-within, name-more, bytes-more, bytes-none}
use Rattle.cards.proofs.names.put_name.Goals as goal

pub byte_at-requires : goal.byte_at-requires
byte_at-requires c =
    let w = c.args.word.now in
    let l = c.loop in
    let one : 8 - l.counter ≡ suc (7 - l.counter) = omega arith in
    (c.requires.1, name-later w l.at (7 - l.counter) l.invariant.0 (ap (λ j. is_name j (drop l.at w)) (sym one) ∙ l.invariant.1))

pub loop-preserved : goal.loop-preserved
loop-preserved c =
    let w = c.args.word.now in
    let l = c.loop in
    let one : 8 - l.counter ≡ suc (7 - l.counter) = omega arith in
    let less : 7 - l.counter ≡ 8 - (l.counter + 1) = omega arith in
    let is = ap (λ j. is_name j (drop l.at w)) (sym one) ∙ l.invariant.1 in
    let end = c.byte_end-at.ensures in
    let left = name_of (8 - (l.counter + 1)) (drop c.byte_end-at.result w) in (
      omega (arith, end, name-within w l.at (7 - l.counter) l.invariant.0 is),
      ap₂ (λ j e. is_name j (drop e w)) (sym less) end ∙ name-more w l.at (7 - l.counter) l.invariant.0 is,
      onward left c.put_byte-place.ensures
          ∙ ap (λ b. write l.out l.place (b ∷ left)) c.byte_at.ensures
          ∙ ap (λ t. write l.out l.place (byte_at w l.at ∷ t)) (ap₂ (λ j e. name_of j (drop e w)) (sym less) end)
          ∙ ap (write l.out l.place) (sym (bytes-more w l.at (7 - l.counter) l.invariant.0 is) ∙ ap (λ j. name_of j (drop l.at w)) (sym one))
          ∙ l.invariant.2,
    )

pub returns : goal.returns
returns c =
    let w = c.args.word.now in
    let l = c.loop in
    let none : 8 - l.counter ≡ 0 = omega arith in
    arrived (ap (write l.out l.place) (sym (ap (λ j. name_of j (drop l.at w)) none ∙ bytes-none (drop l.at w))) ∙ l.invariant.2)
