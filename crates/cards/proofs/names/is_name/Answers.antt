-- `cards::names::is_name`: a turn of the loop asks for one byte, and after it nothing may be left.
use Rattle.std.proofs.Common.{arith, sym, ap, ap₂, ◌∙◌, ◌≡◌, ◌-◌, ◌+◌, ◌<◌, suc, length, drop}
use borrow.Author.Tests.{eq-eqb, ne_eqb}
use Rattle.meaning.specs.Card.{is_name}
use Rattle.cards.specs.Names.{byte_end}
use Rattle.cards.proofs.names.Escapes.{name-over, name-turn, name-end, end-most}
use Rattle.cards.proofs.names.is_name.Goals as goal

pub returns-then-word-at : goal.returns-then-word-at
returns-then-word-at c =
    let w = c.args.word.now in
    let l = c.loop in
    let one : 8 - l.counter ≡ suc (7 - l.counter) = omega arith in
    sym (l.invariant.1 ∙ ap (λ j. is_name j (drop l.at w)) one ∙ name-over w l.at (7 - l.counter) (omega arith))

pub returns-then-next-at : goal.returns-then-next-at
returns-then-next-at c =
    let w = c.args.word.now in
    let l = c.loop in
    let more : l.at < length w = omega arith in
    let one : 8 - l.counter ≡ suc (7 - l.counter) = omega arith in
    let same : byte_end w l.at ≡ l.at = sym c.byte_end-next.ensures ∙ c.if-next-at.true in
    sym (l.invariant.1 ∙ ap (λ j. is_name j (drop l.at w)) one ∙ name-turn w l.at more (7 - l.counter) ∙ rw (eq-eqb (byte_end w l.at) l.at same))

pub loop-preserved : goal.loop-preserved
loop-preserved c =
    let w = c.args.word.now in
    let l = c.loop in
    let more : l.at < length w = omega arith in
    let one : 8 - l.counter ≡ suc (7 - l.counter) = omega arith in
    let less : 7 - l.counter ≡ 8 - (l.counter + 1) = omega arith in
    let is = c.byte_end-next.ensures in
    let other : byte_end w l.at ≡ l.at → ⊥ = λ e. c.if-next-at.false (is ∙ e) in (
      omega (arith, is, end-most w l.at more),
      l.invariant.1 ∙ ap (λ j. is_name j (drop l.at w)) one ∙ name-turn w l.at more (7 - l.counter) ∙ rw (ne_eqb (byte_end w l.at) l.at other)
          (ap₂ (λ j e. is_name j (drop e w)) less (sym is)),
    )

pub returns : goal.returns
returns c =
    let w = c.args.word.now in
    let l = c.loop in
    let none : 8 - l.counter ≡ 0 = omega arith in
    search (sym (l.invariant.1 ∙ ap (λ j. is_name j (drop l.at w)) none ∙ name-end w l.at l.invariant.0))
