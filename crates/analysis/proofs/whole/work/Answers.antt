-- `work`: each part by the call that makes it, from totals that are those of the words.
use Rattle.std.proofs.Common.{◌≡◌, ℕ, ◌-◌, ◌*◌, List, ℤ, pos, sym, ap, ◌∙◌, mul-le-mul, arith, to_z-of_z}
use mathlib.Core.Path.{subst₂}
use mathlib.Core.List.{replicate}
use Rattle.algebra.specs.Buffers.{over}
use Rattle.records.specs.declared.Head.{Head}
use Rattle.records.specs.declared.Parameters.{Parameters}
use Rattle.records.specs.declared.SquareSum.{SquareSum}
use Rattle.records.specs.declared.Wide.{Wide}
use Rattle.meaning.specs.Design.{objects, blocks}
use Rattle.meaning.specs.Analysis.{denominator, freedom, members}
use Rattle.meaning.specs.Wide.{value, wide}
use Rattle.meaning.specs.Refusals.{accepted}
use Rattle.design.proofs.Within.{within-sizes}
use Rattle.arithmetic.specs.Hundredths.{spreading_from}
use Rattle.arithmetic.proofs.Words.{exact}
use Rattle.laws.proofs.Chains.{given_yes}
use Rattle.weighing.specs.Developed.{total_in, squared_totals_in}
use Rattle.weighing.specs.Verdicts.{weigh_answer, weigh_after}
use Rattle.weighing.proofs.Refusing.{Weighable, weighable}
use Rattle.analysis.specs.Worked.{total_at, squares_in, Totalled, Measured, Workable, scale_in, numerator_in}
use Rattle.analysis.proofs.Working.{held_by, totalled, numerators_agree, deviations_agree}
use Rattle.analysis.proofs.whole.work.Goals as goal

-- once the words are weighed
module _ {h : Head} {y : List ℤ} {w : ℕ} {M : ℤ} {p : Parameters} {words : List ℕ} (k : Workable h y w M p words) where
  stands : Weighable h words y 50
  stands = weighable _ _ _ _ k.weighable

  filled : {totals : List ℤ} → totals ≡ weigh_after h words y (replicate 50 (pos 0)) →
      totals ≡ over (objects h) (total_in words y (blocks h)) (replicate 50 (pos 0))
  filled e = e ∙ given_yes _ _ _ k.weighable

  ranged : {totals : List ℤ} → totals ≡ weigh_after h words y (replicate 50 (pos 0)) → Totalled totals (objects h)
  ranged e = totalled _ _ _ _ _ stands (filled e)

  -- the squared totals fit two words
  squared : {s : SquareSum} → s ≡ weigh_answer h words y (replicate 50 (pos 0)) → value s.sum ≡ squared_totals_in words y (blocks h) (objects h)
  squared e =
      exact (squared_totals_in words y (blocks h) (objects h))
      (omega (arith, k.measured.q_some, mul-le-mul k.measured.vbeta-most k.measured.readings-most))
      (ap (λ (r : SquareSum). r.sum) e ∙ given_yes _ _ _ k.weighable)

  -- so do the squared readings
  squares : {r : Wide} → r ≡ wide (squares_in y (blocks h)) → value r ≡ squares_in y (blocks h)
  squares e = exact (squares_in y (blocks h)) (omega (arith, k.measured.readings-most)) e

pub fill_values-denominator-requires-clause-totalled : goal.fill_values-denominator-requires-clause-totalled
fill_values-denominator-requires-clause-totalled c =
    let k = c.requires.workable in
    rw (c.objects-v.ensures ∙ within-sizes _ _ (stands k).fit) (ranged k c.weigh-squared_totals.ensures.totals_after)

pub fill_values-denominator-requires-clause-v_in_bounds : goal.fill_values-denominator-requires-clause-v_in_bounds
fill_values-denominator-requires-clause-v_in_bounds c =
    let k = c.requires.workable in
    let v = c.objects-v.ensures ∙ within-sizes _ _ (stands k).fit in
    (rw v c.requires.head_in_bounds.0, rw v k.set-inside, k.scale-most, rw (to_z-of_z c.ranges.sum) k.sum-most)

pub fill_deviations-squared_readings-requires-clause-weighed : goal.fill_deviations-squared_readings-requires-clause-weighed
fill_deviations-squared_readings-requires-clause-weighed c = (stands c.requires.workable).weighed

pub fill_deviations-squared_readings-requires-clause-by_index : goal.fill_deviations-squared_readings-requires-clause-by_index
fill_deviations-squared_readings-requires-clause-by_index c =
    let k = c.requires.workable in
    λ i l. held_by _ _ _ (ranged k c.weigh-squared_totals.ensures.totals_after) ((stands k).within.below i l)

pub measure-spreading-requires : goal.measure-spreading-requires
measure-spreading-requires c =
    let k = c.requires.workable in
    subst₂ (λ (R T : ℕ). Measured c.args.head (scale_in c.args.parameters) R T)
    (sym (squares k c.fill_deviations-squared_readings.ensures.value)) (sym (squared k c.weigh-squared_totals.ensures.value)) k.measured

pub returns-clause-value : goal.returns-clause-value
returns-clause-value c =
    let k = c.requires.workable in
    let a = c.args in
    let v = c.objects-v.ensures ∙ within-sizes _ _ (stands k).fit in
    let spread = c.measure-spreading.ensures
    ∙ (λ j. spreading_from (wide (scale_in a.parameters * squares k c.fill_deviations-squared_readings.ensures.value j
    - squared k c.weigh-squared_totals.ensures.value j)) (scale_in a.parameters) (freedom a.head)) in
    λ j. record {
      verdict = accepted;
      parameters = a.parameters;
      denominator = (c.fill_values-denominator.ensures.value ∙ ap (λ (v : ℕ). denominator (members v a.set) (scale_in a.parameters)) v) j;
      spreading = spread j;
    }

pub returns-clause-values_after : goal.returns-clause-values_after
returns-clause-values_after c =
    let k = c.requires.workable in
    let a = c.args in
    let v = c.objects-v.ensures ∙ within-sizes _ _ (stands k).fit in
    let laid = rw (to_z-of_z c.ranges.sum) at c.fill_values-denominator.ensures.values_after in
    laid
    ∙ ap (λ (v : ℕ). over v (numerator_in (total_at c.weigh-squared_totals.new.totals) v a.set (scale_in a.parameters) a.sum) a.values.now) v
    ∙ numerators_agree _ _ _ _ _ (stands k) (filled k c.weigh-squared_totals.ensures.totals_after) a.set (scale_in a.parameters) a.sum a.values.now
    k.set-inside

pub returns-clause-deviations_after : goal.returns-clause-deviations_after
returns-clause-deviations_after c =
    let k = c.requires.workable in
    c.fill_deviations-squared_readings.ensures.deviations_after
    ∙ deviations_agree _ _ _ _ _ (stands k) (filled k c.weigh-squared_totals.ensures.totals_after) (scale_in c.args.parameters) c.args.deviations.now
