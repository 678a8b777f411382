-- `cards::reading::take_word`: the card by the word, and the bytes behind those before it.
use Rattle.std.proofs.Common.{◌-◌, ap, ◌∙◌, arith}
use Rattle.records.specs.declared.Card.{Card}
use Rattle.meaning.specs.Card.{longer}
use Rattle.cards.proofs.Keeping.{given-short, taken-length}
use Rattle.cards.proofs.reading.Turning.{stays, took}
use Rattle.cards.proofs.reading.take_word.Goals as goal

pub returns-then-card-clause-value : goal.returns-then-card-clause-value
returns-then-card-clause-value c = (stays c.args.card c.args.word.now c.if-card.true c.args.body.now).0

pub returns-then-card-clause-puts : goal.returns-then-card-clause-puts
returns-then-card-clause-puts c = (stays c.args.card c.args.word.now c.if-card.true c.args.body.now).1

pub longer-requires : goal.longer-requires
longer-requires c =
    let a = c.args in
    let same_length = ap (λ (d : Card). d.length) c.taken-after.ensures in
    omega (
      arith,
      c.put_word-next.ensures.place,
      same_length,
      taken-length a.k a.card a.word.now c.requires.0 c.if-card.false,
      given-short a.card a.word.now,
      c.requires.0.length,
      c.requires.1,
      c.requires.3,
    )

pub returns-clause-value : goal.returns-clause-value
returns-clause-value c =
    let a = c.args in
    (took a.card a.word.now a.k c.requires.0 c.if-card.false c.put_word-next.ensures c.longer.result
    (c.longer.ensures ∙ ap (longer (c.put_word-next.result - a.card.length)) c.taken-after.ensures)).0

pub returns-clause-puts : goal.returns-clause-puts
returns-clause-puts c =
    let a = c.args in
    (took a.card a.word.now a.k c.requires.0 c.if-card.false c.put_word-next.ensures c.longer.result
    (c.longer.ensures ∙ ap (longer (c.put_word-next.result - a.card.length)) c.taken-after.ensures)).1
