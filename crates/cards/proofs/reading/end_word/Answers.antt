-- `cards::reading::end_word`: no word, or the one that has begun.
use mathlib.Core.Path.{refl}
use Rattle.cards.proofs.reading.Turning.{ended-none, ended-one}
use Rattle.cards.proofs.reading.end_word.Goals as goal

pub returns-then-start-k : goal.returns-then-start-k
returns-then-start-k c =
    let a = c.args in
    ended-none a.text.now a.k a.wants a.len a.walk a.body.now c.requires.0 c.requires.1 c.requires.3 c.if-start-k.true

pub returns : goal.returns
returns c =
    let a = c.args in
    ended-one a.text.now a.k a.wants a.len a.walk a.body.now c.requires.0 c.requires.1 c.requires.3 c.if-start-k.false
    c.take_word-after.result c.place_of-at.result _ refl refl c.take_word-after.ensures.value c.take_word-after.ensures.puts c.place_of-at.ensures
