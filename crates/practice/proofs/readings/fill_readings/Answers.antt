-- A turn of `practice::readings::fill_readings`: the number is stepped to the block's own, so the reading is the block's, and it fits. Assumes nothing.
use Rattle.std.proofs.Common.{◌≡◌, ℕ, sym, ap, ◌∙◌, subst, arith, to_z-of_z, w32, SFits}
use Rattle.algebra.proofs.Filling.{over_none, over-step}
use Rattle.meaning.specs.Practice.{step, state}
use Rattle.laws.proofs.Practice.{state-most}
use Rattle.practice.specs.Drawn.{reading_in}
use Rattle.practice.proofs.Drawing.{draws, goes_before, starts_before, reading_small, short_fits}
use Rattle.practice.proofs.readings.fill_readings.Goals as goal

pub loop-k-init : goal.loop-k-init
loop-k-init c = (starts_before _, over_none _ _)

pub loop-k-preserved : goal.loop-k-preserved
loop-k-preserved c =
    let a = c.args in
    let k = c.loop-k.k in
    let own : c.step-x.result ≡ state a.start k = c.step-x.ensures ∙ ap step c.loop-k.invariant.0 ∙ draws a.start k in
    let read : c.reading_of.result ≡ reading_in a.words.now a.truths.now a.width (state a.start k) k =
    c.reading_of.ensures ∙ ap (λ (x : ℕ). reading_in a.words.now a.truths.now a.width x k) own in
    let small = reading_small a.words.now a.truths.now a.width (state a.start k) k c.requires.0 c.requires.1 (state-most a.start k) in
    let fits : SFits w32 c.reading_of.result = subst (SFits w32) (sym read) (short_fits _ small) in
    (own ∙ goes_before a.start k, over-step k _ _ c.loop-k.invariant.1 (to_z-of_z fits ∙ read) (omega arith))
