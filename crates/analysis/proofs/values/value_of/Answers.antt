-- `value_of`: past its own tests the job decides, and the Value is made of the object's numerator.
use Rattle.std.proofs.Common.{◌≡◌, ℕ, ◌<◌, Bool, true, false, List, ℤ, pos, get_or, cond, refl, sym, ap, ◌∙◌, arith, to_z-of_z, rules}
use mathlib.Core.List.{replicate}
use Rattle.algebra.specs.Buffers.{over}
use Rattle.algebra.proofs.Filling.{get_d_over}
use Rattle.algebra.proofs.Signs.{read_back}
use Rattle.records.specs.declared.Head.{Head}
use Rattle.records.specs.declared.Solved.{Solved}
use Rattle.meaning.specs.Design.{objects, sized}
use Rattle.meaning.specs.Analysis.{numerator_of, denominator_of}
use Rattle.meaning.specs.Publishing.{published}
use Rattle.meaning.specs.Refusals.{Verdict, ◌⨾◌, accepted, refused, clean}
use Rattle.meaning.specs.Calls.{given, slices, job_verdict, analyse_verdict, solved_under, values_under}
use Rattle.laws.specs.Fits.{Fits}
use Rattle.laws.proofs.Chains.{job, opened, sliced, given_yes}
use Rattle.design.proofs.Within.{within-sizes}
use Rattle.verdicts.proofs.Told.{refusing, accepting}
use Rattle.arithmetic.specs.Quotient.{value_from}
use Rattle.analysis.specs.Column.{column_of}
use Rattle.analysis.proofs.Column.{column-published}
use Rattle.analysis.proofs.values.Refusing.{job-verdict, value-refused, value_no_object, value-job, no_value_is, value_is_given}
use Rattle.analysis.proofs.values.Refusing.{factor-is, value_from_is}
use Rattle.analysis.proofs.values.value_of.Goals as goal

module _ (h : Head) (d : List ℕ) (y : List ℤ) where
  -- past the tests of the blocks
  passed : {tested : Verdict} → tested ≡ slices h d y ⨾ clean h d → {b : Bool} → b ≡ given tested false true → b ≡ false → slices h d y ⨾ clean h d ≡ accepted
  passed e f g = sym e ∙ accepting _ (sym f ∙ g)

  -- the sizes hold then,
  fits : slices h d y ⨾ clean h d ≡ accepted → Fits h
  fits e = (sliced _ _ _ (opened _ _ e).0).sizes

  -- and v is counted
  counted : slices h d y ⨾ clean h d ≡ accepted → {v : ℕ} → v ≡ cond (sized h) (objects h) 0 → v ≡ objects h
  counted e q = q ∙ within-sizes _ _ (fits e)

  -- once the job is worked out
  module _ (w : ℕ) (M : ℤ) where
    abbrev rooms : Verdict
    rooms = analyse_verdict h d y w M 2600 50 1300

    solved-verdict : {solved : Solved} → solved ≡ solved_under rooms h d y w → solved.verdict ≡ job_verdict h d y w M
    solved-verdict e = ap (λ (r : Solved). r.verdict) e ∙ job-verdict h d y w M

    module _ (e : job_verdict h d y w M ≡ accepted) where
      first : rooms ≡ accepted
      first = job-verdict h d y w M ∙ e

      denominator-is : {solved : Solved} → solved ≡ solved_under rooms h d y w → solved.denominator ≡ denominator_of h d w
      denominator-is s = ap (λ (r : Solved). r.denominator) s ∙ given_yes rooms (denominator_of h d w) 0 first

      module _ {values : List ℤ} (f : values ≡ values_under rooms h d y w M (replicate 50 (pos 0))) where
        filled_is : values ≡ over (objects h) (numerator_of h d y w M) (replicate 50 (pos 0))
        filled_is = f ∙ given_yes rooms _ _ first

        numerator-is : (i : ℕ) → i < objects h → get_or values i (pos 0) ≡ numerator_of h d y w M i
        numerator-is i l =
            ap (λ (l : List ℤ). get_or l i (pos 0)) filled_is
            ∙ get_d_over (objects h) (numerator_of h d y w M) _ (pos 0) i l (job h d y w M e).measures.design.sizes.objects-most

pub returns-then-is_refused : goal.returns-then-is_refused
returns-then-is_refused c =
    let r = sym c.is_refused.ensures ∙ c.if-is_refused.true in
    c.no_value.ensures ∙ no_value_is _ _ _ _ _ _ _ r (value-refused _ _ _ _ _ _ _ _ (sym c.blocks_refusal-tested.ensures ∙ refusing _ r))

pub returns-then-objects-object : goal.returns-then-objects-object
returns-then-objects-object c =
    let a = c.args in
    let passes = passed a.head a.blocks.now a.readings.now c.blocks_refusal-tested.ensures c.is_refused.ensures c.if-is_refused.false in
    let v = counted a.head a.blocks.now a.readings.now passes c.objects.ensures in
    c.no_value-then-objects-object.ensures
    ∙ no_value_is _ _ _ _ _ _ (refused 5 _) refl (value_no_object _ _ _ _ _ _ passes (omega (arith, v, c.if-objects-object.true)))

pub returns-then-is_refused-2 : goal.returns-then-is_refused-2
returns-then-is_refused-2 c =
    let a = c.args in
    let passes = passed a.head a.blocks.now a.readings.now c.blocks_refusal-tested.ensures c.is_refused.ensures c.if-is_refused.false in
    let v = counted a.head a.blocks.now a.readings.now passes c.objects.ensures in
    let r = sym c.is_refused-2.ensures ∙ c.if-is_refused-2.true in
    let told = solved-verdict a.head a.blocks.now a.readings.now a.set a.sum (rw (to_z-of_z c.ranges.sum) at c.analyse-solved.ensures.value) in
    c.no_value-then-is_refused-2.ensures ∙ no_value_is _ _ _ _ _ _ _ r
    (value-job _ _ _ _ _ _ passes (omega (arith, v, c.if-objects-object.false)) ∙ sym told ∙ refusing _ r)

pub offset_bounds-values-object : goal.offset_bounds-values-object
offset_bounds-values-object c =
    let a = c.args in
    let passes = passed a.head a.blocks.now a.readings.now c.blocks_refusal-tested.ensures c.is_refused.ensures c.if-is_refused.false in
    let v = counted a.head a.blocks.now a.readings.now passes c.objects.ensures in
    omega (arith, v, c.if-objects-object.false, (fits a.head a.blocks.now a.readings.now passes).objects-most)

pub bounds-values-object : goal.bounds-values-object
bounds-values-object c =
    let a = c.args in
    let passes = passed a.head a.blocks.now a.readings.now c.blocks_refusal-tested.ensures c.is_refused.ensures c.if-is_refused.false in
    let v = counted a.head a.blocks.now a.readings.now passes c.objects.ensures in
    omega (arith, v, c.if-objects-object.false, (fits a.head a.blocks.now a.readings.now passes).objects-most)

pub offset_bounds-column-object : goal.offset_bounds-column-object
offset_bounds-column-object c =
    let a = c.args in
    let passes = passed a.head a.blocks.now a.readings.now c.blocks_refusal-tested.ensures c.is_refused.ensures c.if-is_refused.false in
    let v = counted a.head a.blocks.now a.readings.now passes c.objects.ensures in
    omega (arith, v, c.if-objects-object.false, (fits a.head a.blocks.now a.readings.now passes).objects-most)

pub bounds-column-object : goal.bounds-column-object
bounds-column-object c =
    let a = c.args in
    let passes = passed a.head a.blocks.now a.readings.now c.blocks_refusal-tested.ensures c.is_refused.ensures c.if-is_refused.false in
    let v = counted a.head a.blocks.now a.readings.now passes c.objects.ensures in
    omega (arith, v, c.if-objects-object.false, (fits a.head a.blocks.now a.readings.now passes).objects-most)

pub returns : goal.returns
returns c =
    let h = c.args.head in
    let d = c.args.blocks.now in
    let y = c.args.readings.now in
    let w = c.args.set in
    let M = c.args.sum in
    let i = c.args.object in
    let passes = passed h d y c.blocks_refusal-tested.ensures c.is_refused.ensures c.if-is_refused.false in
    let v = counted h d y passes c.objects.ensures in
    let there : i < objects h = omega (arith, v, c.if-objects-object.false) in
    let solved : c.analyse-solved.result ≡ solved_under (rooms h d y w M) h d y w = rw (to_z-of_z c.ranges.sum) at c.analyse-solved.ensures.value in
    let filled : c.analyse-solved.new.values ≡ values_under (rooms h d y w M) h d y w M (replicate 50 (pos 0)) =
    rw (to_z-of_z c.ranges.sum) at c.analyse-solved.ensures.values_after in
    let e : job_verdict h d y w M ≡ accepted =
    sym (solved-verdict h d y w M solved) ∙ accepting _ (sym c.is_refused-2.ensures ∙ c.if-is_refused-2.false) in
    let j = job h d y w M e in
    let denominator = denominator-is h d y w M e solved in
    let column : get_or c.column-column.result i (pos 0) ≡ published h d y w M i =
    ap (λ (l : List ℤ). get_or l i (pos 0)) (c.column-column.ensures ∙ ap (λ (d : ℕ). column_of c.analyse-solved.new.values d w) denominator)
    ∙ column-published _ _ _ _ _ j _ _ refl (filled_is h d y w M e filled) i there in
    value_is_given _ _ _ _ _ _ _ (value-job _ _ _ _ _ _ passes there ∙ e)
    (c.value_from-value.ensures ∙ (λ z. value_from ((read_back _ (search rules) ∙ numerator-is h d y w M e filled i there) z) (denominator z)
    ((read_back _ (search rules) ∙ column) z) ((c.factor_of-factor.ensures ∙ factor-is _ _ _ _ _ i j) z))
    ∙ value_from_is _ _ _ _ _ _ _ j refl)
