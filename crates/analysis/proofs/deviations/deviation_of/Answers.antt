-- `deviation_of`: past its own tests the readings decide, and the block's numerator stands in the room.
use Rattle.std.proofs.Common.{◌≡◌, ℕ, ◌<◌, Bool, true, false, List, ℤ, pos, get_or, refl, sym, ap, ◌∙◌, arith, rules}
use mathlib.Core.List.{replicate}
use Rattle.algebra.proofs.Filling.{get_d_over}
use Rattle.algebra.proofs.Signs.{read_back}
use Rattle.records.specs.declared.Head.{Head}
use Rattle.records.specs.declared.Spreading.{Spreading}
use Rattle.records.specs.declared.Solved.{Solved}
use Rattle.meaning.specs.Design.{blocks}
use Rattle.meaning.specs.Analysis.{deviation_of, vbeta}
use Rattle.meaning.specs.Refusals.{Verdict, ◌⨾◌, accepted, refused, clean}
use Rattle.meaning.specs.Calls.{given, slices, readings_verdict, deviations_verdict, deviations_after, solved_under, spreading_of, no_spreading}
use Rattle.laws.specs.Fits.{Fits}
use Rattle.laws.proofs.Chains.{opened, sliced, given_yes}
use Rattle.verdicts.proofs.Told.{refusing, accepting}
use Rattle.analysis.proofs.deviations.Refusing.{
  spread-verdict,
  deviation_refused,
  deviation_no_block,
  deviation_readings,
  no_deviation_is,
  deviation_is_given,
}
use Rattle.analysis.proofs.deviations.deviation_of.Goals as goal

module _ (h : Head) (d : List ℕ) (y : List ℤ) where
  -- past the tests of the blocks
  passed : {tested : Verdict} → tested ≡ slices h d y ⨾ clean h d → {b : Bool} → b ≡ given tested false true → b ≡ false → slices h d y ⨾ clean h d ≡ accepted
  passed e f g = sym e ∙ accepting _ (sym f ∙ g)

  -- the sizes hold then
  fits : slices h d y ⨾ clean h d ≡ accepted → Fits h
  fits e = (sliced _ _ _ (opened _ _ e).0).sizes

  -- once the job is worked out
  module _ {solved : Solved} (s : solved ≡ solved_under (deviations_verdict h d y 1300) h d y 3) where
    solved-verdict : solved.verdict ≡ readings_verdict h d y
    solved-verdict = ap (λ (r : Solved). r.verdict) s ∙ spread-verdict h d y

    scale-is : readings_verdict h d y ≡ accepted → solved.spreading.vbeta ≡ vbeta h d
    scale-is e =
        ap (λ (r : Solved). r.spreading.vbeta) s
        ∙ ap (λ (p : Spreading). p.vbeta)
        (given_yes (deviations_verdict h d y 1300) (spreading_of h d y) no_spreading (spread-verdict h d y ∙ e))

  numerator-is : readings_verdict h d y ≡ accepted → Fits h → {deviations : List ℤ} →
      deviations ≡ deviations_after h d y (replicate 1300 (pos 0)) → (k : ℕ) → k < blocks h →
      get_or deviations k (pos 0) ≡ deviation_of h d y k
  numerator-is e f g k l =
      ap (λ (l : List ℤ). get_or l k (pos 0)) (g ∙ given_yes (deviations_verdict h d y 1300) _ _ (spread-verdict h d y ∙ e))
      ∙ get_d_over (blocks h) (deviation_of h d y) _ (pos 0) k l f.blocks-most

pub returns-then-is_refused : goal.returns-then-is_refused
returns-then-is_refused c =
    let r = sym c.is_refused.ensures ∙ c.if-is_refused.true in
    c.no_deviation.ensures ∙ no_deviation_is _ _ _ _ _ r
    (deviation_refused _ _ _ _ _ _ (sym c.blocks_refusal-tested.ensures ∙ refusing _ r))

pub overflow_mul-head : goal.overflow_mul-head
overflow_mul-head c =
    let a = c.args in
    let f = fits a.head a.blocks.now a.readings.now
    (passed a.head a.blocks.now a.readings.now c.blocks_refusal-tested.ensures c.is_refused.ensures c.if-is_refused.false) in
    omega (arith, f.blocks-most)

pub returns-then-head-block : goal.returns-then-head-block
returns-then-head-block c =
    let a = c.args in
    let e = passed a.head a.blocks.now a.readings.now c.blocks_refusal-tested.ensures c.is_refused.ensures c.if-is_refused.false in
    c.no_deviation-then-head-block.ensures ∙ no_deviation_is _ _ _ _ (refused 5 _) refl (deviation_no_block _ _ _ _ e (search rules))

pub returns-then-is_refused-2 : goal.returns-then-is_refused-2
returns-then-is_refused-2 c =
    let a = c.args in
    let e = passed a.head a.blocks.now a.readings.now c.blocks_refusal-tested.ensures c.is_refused.ensures c.if-is_refused.false in
    let r = sym c.is_refused-2.ensures ∙ c.if-is_refused-2.true in
    c.no_deviation-then-is_refused-2.ensures ∙ no_deviation_is _ _ _ _ _ r
    (deviation_readings _ _ _ _ e (omega (arith, c.if-head-block.false))
    ∙ sym (solved-verdict a.head a.blocks.now a.readings.now c.worked-solved.ensures.value) ∙ refusing _ r)

pub offset_bounds-deviations-block : goal.offset_bounds-deviations-block
offset_bounds-deviations-block c =
    let a = c.args in
    let f = fits a.head a.blocks.now a.readings.now
    (passed a.head a.blocks.now a.readings.now c.blocks_refusal-tested.ensures c.is_refused.ensures c.if-is_refused.false) in
    omega (arith, c.if-head-block.false, f.blocks-most)

pub bounds-deviations-block : goal.bounds-deviations-block
bounds-deviations-block c =
    let a = c.args in
    let f = fits a.head a.blocks.now a.readings.now
    (passed a.head a.blocks.now a.readings.now c.blocks_refusal-tested.ensures c.is_refused.ensures c.if-is_refused.false) in
    omega (arith, c.if-head-block.false, f.blocks-most)

pub returns : goal.returns
returns c =
    let a = c.args in
    let passes = passed a.head a.blocks.now a.readings.now c.blocks_refusal-tested.ensures c.is_refused.ensures c.if-is_refused.false in
    let there : a.block < blocks a.head = omega (arith, c.if-head-block.false) in
    let s = c.worked-solved.ensures.value in
    let e : readings_verdict a.head a.blocks.now a.readings.now ≡ accepted =
    sym (solved-verdict a.head a.blocks.now a.readings.now s) ∙ accepting _ (sym c.is_refused-2.ensures ∙ c.if-is_refused-2.false) in
    deviation_is_given _ _ _ _ _ _ (deviation_readings _ _ _ _ passes there ∙ e)
    (read_back _ (search rules)
    ∙ numerator-is a.head a.blocks.now a.readings.now e (fits a.head a.blocks.now a.readings.now passes) c.worked-solved.ensures.deviations_after a.block there)
    (scale-is a.head a.blocks.now a.readings.now s e)
