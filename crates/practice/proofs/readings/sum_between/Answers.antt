-- A turn of `practice::readings::sum_between`: what an object adds to the sum over those before it, and that all of it fits. Assumes nothing.
use Rattle.std.proofs.Common.{◌≡◌, ℕ, ◌+◌, ◌<◌, List, length, ℤ, pos, ◌+ℤ◌, ◌-ℤ◌, ◌*ℤ◌, ap, ◌∙◌, ap₂, arith, lit<, w64, SFits, to_z, of_z, rules}
use Rattle.algebra.proofs.Numbers.{Num, local, called, unsigned, plus, plus_fits, minus, times}
use Rattle.meaning.specs.Analysis.{member}
use Rattle.meaning.specs.Practice.{truth, truth_limit}
use Rattle.words.proofs.Bits.{bit-most}
use Rattle.practice.specs.Drawn.{Known}
use Rattle.practice.proofs.Drawing.{among, among_none, among-more, among-all, among-small}
use Rattle.practice.proofs.readings.sum_between.Goals as goal

module _ (u : List ℤ) (a b i sum_bits l r : ℕ) (t : ℤ) (known : Known u) (more : i < length u) (so_far : to_z w64 sum_bits ≡ among u a b i)
    (in_a : l ≡ member a i) (in_b : r ≡ member b i) (true_value : t ≡ truth u i) where
  abbrev sum : Num
  sum = local sum_bits 150000 so_far (among-small u a b known i (omega arith))

  abbrev left : Num
  left = unsigned l 1 (rw in_a (bit-most a i)) (lit< tt)

  abbrev right : Num
  right = unsigned r 1 (rw in_b (bit-most b i)) (lit< tt)

  abbrev product : Num
  product = times (minus left right (lit< tt)) (called t truth_limit true_value (known.most i more) (lit< tt)) (lit< tt)

  fits : SFits w64 (to_z w64 sum_bits +ℤ to_z w64 (of_z w64 (to_z w64 (of_z w64 (to_z w64 l -ℤ to_z w64 r)) *ℤ to_z w64 (of_z w64 t))))
  fits = plus_fits sum product (lit< tt)

  next : to_z w64 (of_z w64 (to_z w64 sum_bits +ℤ to_z w64 (of_z w64 (to_z w64 (of_z w64 (to_z w64 l -ℤ to_z w64 r)) *ℤ to_z w64 (of_z w64 t)))))
      ≡ among u a b (i + 1)
  next =
      (plus sum product (lit< tt)).reads
      ∙ ap₂ (λ (l r : ℕ). among u a b i +ℤ (pos l -ℤ pos r) *ℤ truth u i) in_a in_b
      ∙ among-more u a b i

pub loop-i-init : goal.loop-i-init
loop-i-init c = among_none _ _ _

pub overflow_add-sum : goal.overflow_add-sum
overflow_add-sum c =
    let a = c.args in
    let l = c.loop-i in
    fits a.truths.now a.left a.right l.i l.sum-bits _ _ c.from.result c.requires (omega arith) l.invariant c.holds.ensures c.holds-in-loop-i.ensures
    (search (rules, c.from.ensures))

pub loop-i-preserved : goal.loop-i-preserved
loop-i-preserved c =
    let a = c.args in
    let l = c.loop-i in
    next a.truths.now a.left a.right l.i l.sum-bits _ _ c.from.result c.requires (omega arith) l.invariant c.holds.ensures c.holds-in-loop-i.ensures
    (search (rules, c.from.ensures))

pub returns : goal.returns
returns c =
    let a = c.args in
    let end : c.loop-i.i ≡ length a.truths.now = omega arith in
    c.loop-i.invariant ∙ ap (among a.truths.now a.left a.right) end ∙ among-all a.truths.now a.left a.right
