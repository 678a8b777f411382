-- `write_words`: a turn writes the two words of its block.
use Rattle.std.proofs.Common.{◌≡◌, ℕ, ◌+◌, ◌-◌, ◌*◌, ◌∙◌, arith}
use Rattle.algebra.proofs.Filling.{over_none, over-step, over-end}
use Rattle.groups.specs.Words.{list_word_at}
use Rattle.groups.proofs.lists.Words.{left-lent, right-lent}
use Rattle.groups.proofs.lists.write_words.Goals as goal

pub loop-k-init : goal.loop-k-init
loop-k-init c = over_none _ _

pub loop-k-preserved : goal.loop-k-preserved
loop-k-preserved c =
    let k = c.loop-k.k in
    let a = c.args in
    let f : ℕ → ℕ = list_word_at a.p a.blocks.now in
    let one = over-step (2 * k) f a.words.now c.loop-k.invariant (c.side_word.ensures ∙ left-lent a.p a.blocks.now k) (omega arith) in
    let two = over-step (2 * k + 1) f a.words.now one (c.side_word-in-loop-k.ensures ∙ right-lent a.p a.blocks.now k) (omega arith) in
    let e : 2 * k + 1 + 1 ≡ 2 * (k + 1) = omega arith in
    over-end f a.words.now two e
