use Rattle.std.proofs.Common.{◌∙◌, ◌*◌, ◌≤◌, sym, rules, arith, ltb, length, take, tests}
use Rattle.std.proofs.lemmas.Iterator.{YieldsList-from_slice}
use Rattle.std.proofs.lemmas.Iterator.Search.{all_from_yields_List}
use borrow.Author.Tests.{le-leb}
use Rattle.balance.specs.Meetings.{countable}
use Rattle.balance.proofs.Slices.{all-first}
use Rattle.balance.proofs.counting.Countable.{not-countable}
use Rattle.balance.proofs.counting.can_count.Goals as goal

pub returns-then-b-words : goal.returns-then-b-words
unfolding countable
returns-then-b-words c =
    let ws = c.args.words.now in
    let few : c.args.b ≤ 1300 = grind arith in
    let long : 2 * c.args.b ≤ length ws = grind arith in
    let tested = all_from_yields_List (λ x. ltb x 1125899906842624) _ _ c.all.result c.all.ensures.ran (YieldsList-from_slice (take (2 * c.args.b) ws) (search rules))
    (λ x b q k. search (rules, tests)) in
    rw (le-leb _ _ few, le-leb _ _ long) (tested ∙ all-first (λ x. ltb x 1125899906842624) ws (2 * c.args.b) long)

pub returns-else-b-words : goal.returns-else-b-words
returns-else-b-words c = c.if-b-words.false ∙ sym (not-countable _ _ (λ k. grind (arith, k.blocks-most, k.words_long)))
