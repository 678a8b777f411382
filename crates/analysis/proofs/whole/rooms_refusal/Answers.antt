-- `rooms_refusal`: each way out by its own test.
use Rattle.std.proofs.Common.{◌∙◌, sym, arith, rules}
use Rattle.design.proofs.Within.{within-sizes}
use Rattle.analysis.proofs.whole.Rooms.{no_words, no_values, no_deviations, roomy}
use Rattle.analysis.proofs.whole.rooms_refusal.Goals as goal

pub returns-then-words-b : goal.returns-then-words-b
returns-then-words-b c = let a = c.args in sym (no_words a.head a.words a.values a.deviations (search rules))

pub returns-then-values-v : goal.returns-then-values-v
returns-then-values-v c =
    let a = c.args in
    let v = c.objects-v.ensures ∙ within-sizes _ _ c.requires in
    sym (no_values a.head a.words a.values a.deviations (search rules) (omega (arith, v)))

pub returns-then-deviations-b : goal.returns-then-deviations-b
returns-then-deviations-b c =
    let a = c.args in
    let v = c.objects-v.ensures ∙ within-sizes _ _ c.requires in
    sym (no_deviations a.head a.words a.values a.deviations (search rules) (omega (arith, v)) (search rules))

pub returns : goal.returns
returns c =
    let a = c.args in
    let v = c.objects-v.ensures ∙ within-sizes _ _ c.requires in
    sym (roomy a.head a.words a.values a.deviations (search rules) (omega (arith, v)) (search rules))
