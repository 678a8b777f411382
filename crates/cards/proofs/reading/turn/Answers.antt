-- `cards::reading::turn`: in a comment, behind a word, or in one.
use mathlib.Core.Path.{refl, sym, ◌∙◌}
use Rattle.cards.proofs.reading.Turning.{turned_comment, turned_word, turned_blank}
use Rattle.cards.proofs.reading.turn.Goals as goal

pub returns-then-walk : goal.returns-then-walk
returns-then-walk c =
    let a = c.args in
    turned_comment a.text.now a.k a.wants a.len a.walk a.body.now c.requires.0 c.requires.1 c.requires.3 c.if-walk.true _ refl refl refl refl

pub returns-then-ends_word : goal.returns-then-ends_word
returns-then-ends_word c =
    let a = c.args in
    turned_blank a.text.now a.k a.wants a.len a.walk a.body.now c.requires.0 c.requires.1 c.requires.3 c.if-walk.false
    (sym c.ends_word.ensures ∙ c.if-ends_word.true) c.end_word-ended.result _ c.end_word-ended.ensures refl refl refl refl

pub returns : goal.returns
returns c =
    let a = c.args in
    turned_word a.text.now a.k a.wants a.len a.walk a.body.now c.requires.0 c.requires.1 c.requires.3 c.if-walk.false
    (sym c.ends_word.ensures ∙ c.if-ends_word.false)
