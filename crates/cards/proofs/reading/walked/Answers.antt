-- `cards::reading::walked`: what was left at the last byte ends with the last word.
use Rattle.std.proofs.Common.{arith}
use Rattle.cards.proofs.reading.Turning.{whole-card, whole-place, whole-bytes}
use Rattle.cards.proofs.reading.walked.Goals as goal

pub returns-clause-card_value : goal.returns-clause-card_value
returns-clause-card_value c =
    let a = c.args in
    whole-card a.text.now a.wants a.len a.body.now c.end_word.result c.loop-k.invariant (omega arith) c.end_word.ensures

pub returns-clause-at_value : goal.returns-clause-at_value
returns-clause-at_value c =
    let a = c.args in
    whole-place a.text.now a.wants a.len a.body.now c.end_word.result c.loop-k.invariant (omega arith) c.end_word.ensures

pub returns-clause-wrote : goal.returns-clause-wrote
returns-clause-wrote c =
    let a = c.args in
    whole-bytes a.text.now a.wants a.len a.body.now c.end_word.result c.loop-k.invariant (omega arith) c.end_word.ensures
