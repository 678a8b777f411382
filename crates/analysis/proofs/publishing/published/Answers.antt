-- `published`: the job worked out in rooms of its own decides, then the lent one; the column's first v entries are laid. Assumes nothing.
use Rattle.std.proofs.Common.{
  ◌≡◌,
  ℕ,
  zero,
  suc,
  ◌≤◌,
  List,
  [],
  ◌∷◌,
  ◌++◌,
  length,
  take,
  drop,
  ℤ,
  pos,
  sym,
  refl,
  ap,
  ◌∙◌,
  arith,
  cond,
  ◌<◌,
  length-take-le,
  to_z-of_z,
  rules,
}
use mathlib.Core.List.{replicate}
use Rattle.algebra.specs.Buffers.{over}
use Rattle.algebra.proofs.Filling.{over_ext, over-long}
use Rattle.records.specs.declared.Head.{Head}
use Rattle.records.specs.declared.Solved.{Solved}
use Rattle.meaning.specs.Design.{objects, sized}
use Rattle.meaning.specs.Analysis.{numerator_of, denominator_of}
use Rattle.meaning.specs.Publishing.{published}
use Rattle.meaning.specs.Refusals.{Verdict, accepted, refused}
use Rattle.meaning.specs.Calls.{job_verdict, analyse_verdict, written}
use Rattle.laws.proofs.Chains.{job, given_yes}
use Rattle.design.proofs.Within.{within-sizes}
use Rattle.analysis.specs.Column.{numerator_at, hundredths_from, column_of}
use Rattle.analysis.proofs.Column.{column-published}
use Rattle.analysis.proofs.values.Refusing.{job-verdict, values-refused, values-short, values-roomy}
use Rattle.analysis.proofs.publishing.published.Goals as goal

-- what a front that is copied makes of a room
copied : (v : ℕ) (xs l : List ℤ) → v ≤ length xs → v ≤ length l → take v xs ++ drop v l ≡ over v (numerator_at xs) l
unfolding over
copied zero xs l p q = refl
copied (suc v) [] l p q = absurd (omega arith)
copied (suc v) (x ∷ xs) [] p q = absurd (omega arith)
copied (suc v) (x ∷ xs) (y ∷ l) p q = ap (λ (r : List ℤ). x ∷ r) (copied v xs l (omega arith) (omega arith))

module _ (h : Head) (d : List ℕ) (y : List ℤ) (w : ℕ) (M : ℤ) where
  abbrev tests : Verdict
  tests = job_verdict h d y w M

  abbrev rooms : Verdict
  rooms = analyse_verdict h d y w M 2600 50 1300

  -- the verdict of the record that working it out gives
  told : {verdict : Verdict} → verdict ≡ rooms → verdict ≡ tests
  told e = e ∙ job-verdict h d y w M

  -- what is left in the room, by the verdict
  left : (room : List ℤ) {verdict : Verdict} (k at : ℕ) → verdict ≡ refused k at → room ≡ written verdict (objects h) (published h d y w M) room
  left room k at e = sym (ap (λ (v : Verdict). written v (objects h) (published h d y w M) room) e)

  -- v of an accepted job
  counted : tests ≡ accepted → {v : ℕ} → v ≡ cond (sized h) (objects h) 0 → v ≡ objects h
  counted e q = q ∙ within-sizes _ _ (job h d y w M e).measures.design.sizes

  few : tests ≡ accepted → {v : ℕ} → v ≡ cond (sized h) (objects h) 0 → v ≤ 50
  few e q = omega (arith, counted e q, (job h d y w M e).measures.design.sizes.objects-most)

  -- where the verdict of that record is not refused
  good : {verdict : Verdict} → verdict ≡ rooms → verdict ≡ accepted → tests ≡ accepted
  good e f = sym (told e) ∙ f

  -- the column has an entry for each object
  inside : {verdict : Verdict} → verdict ≡ rooms → verdict ≡ accepted → {v : ℕ} → v ≡ cond (sized h) (objects h) 0 →
      (numerators : List ℤ) (denominator : ℕ) {column : List ℤ} → column ≡ column_of numerators denominator w → v ≤ length column
  inside e f q numerators denominator {column} g =
      omega (arith, few (good e f) q, over-long 50 (hundredths_from numerators denominator w) (replicate 50 (pos 0)) column g)

pub returns-in_err-solved : goal.returns-in_err-solved
returns-in_err-solved c =
    let a = c.args in
    let why = c.in_err-solved.field-0.0 in
    let verdict : c.analyse-solved.result.verdict ≡ rooms a.head a.blocks.now a.readings.now a.set a.sum =
    ap (λ (r : Solved). r.verdict) (rw (to_z-of_z c.ranges.sum) at c.analyse-solved.ensures.value) in
    let v = values-refused a.head a.blocks.now a.readings.now a.set a.sum (length a.hundredths.now) why.number why.place
    (sym (told a.head a.blocks.now a.readings.now a.set a.sum verdict) ∙ c.in_err-solved.was) in
    record { value = rw v (search rules); hundredths_after = left a.head a.blocks.now a.readings.now a.set a.sum a.hundredths.now _ _ v }

pub returns-then-hundredths-v : goal.returns-then-hundredths-v
returns-then-hundredths-v c =
    let a = c.args in
    let verdict : c.analyse-solved.result.verdict ≡ rooms a.head a.blocks.now a.readings.now a.set a.sum =
    ap (λ (r : Solved). r.verdict) (rw (to_z-of_z c.ranges.sum) at c.analyse-solved.ensures.value) in
    let e = good a.head a.blocks.now a.readings.now a.set a.sum verdict (c.in_ok-solved.was) in
    let n = counted a.head a.blocks.now a.readings.now a.set a.sum e c.objects-v.ensures in
    let v = values-short a.head a.blocks.now a.readings.now a.set a.sum (length a.hundredths.now) e (omega (arith, n)) in
    record { value = sym v; hundredths_after = left a.head a.blocks.now a.readings.now a.set a.sum a.hundredths.now 10 0 v }

pub slice_bounds-column-end : goal.slice_bounds-column-end
slice_bounds-column-end c =
    let a = c.args in
    let verdict : c.analyse-solved.result.verdict ≡ rooms a.head a.blocks.now a.readings.now a.set a.sum =
    ap (λ (r : Solved). r.verdict) (rw (to_z-of_z c.ranges.sum) at c.analyse-solved.ensures.value) in
    inside a.head a.blocks.now a.readings.now a.set a.sum verdict (c.in_ok-solved.was)
    c.objects-v.ensures c.analyse-solved.new.values c.analyse-solved.result.denominator c.column-column.ensures

pub slice_bounds-copy_from_slice-end-3 : goal.slice_bounds-copy_from_slice-end-3
slice_bounds-copy_from_slice-end-3 c =
    let a = c.args in
    let verdict : c.analyse-solved.result.verdict ≡ rooms a.head a.blocks.now a.readings.now a.set a.sum =
    ap (λ (r : Solved). r.verdict) (rw (to_z-of_z c.ranges.sum) at c.analyse-solved.ensures.value) in
    sym (length-take-le _ _ (inside a.head a.blocks.now a.readings.now a.set a.sum verdict (c.in_ok-solved.was)
    c.objects-v.ensures c.analyse-solved.new.values c.analyse-solved.result.denominator c.column-column.ensures))

pub copy_from_slice-requires : goal.copy_from_slice-requires
copy_from_slice-requires c =
    let a = c.args in
    let verdict : c.analyse-solved.result.verdict ≡ rooms a.head a.blocks.now a.readings.now a.set a.sum =
    ap (λ (r : Solved). r.verdict) (rw (to_z-of_z c.ranges.sum) at c.analyse-solved.ensures.value) in
    length-take-le _ _ c.if-hundredths-v.false ∙ sym (length-take-le _ _ (inside a.head a.blocks.now a.readings.now a.set a.sum verdict (c.in_ok-solved.was)
    c.objects-v.ensures c.analyse-solved.new.values c.analyse-solved.result.denominator c.column-column.ensures))

pub returns : goal.returns
returns c =
    let h = c.args.head in
    let d = c.args.blocks.now in
    let y = c.args.readings.now in
    let w = c.args.set in
    let M = c.args.sum in
    let room = c.args.hundredths.now in
    let column = c.column-column.result in
    let record-is = rw (to_z-of_z c.ranges.sum) at c.analyse-solved.ensures.value in
    let verdict : c.analyse-solved.result.verdict ≡ rooms h d y w M = ap (λ (r : Solved). r.verdict) record-is in
    let passed = c.in_ok-solved.was in
    let e = good h d y w M verdict passed in
    let n = counted h d y w M e c.objects-v.ensures in
    let v = values-roomy h d y w M (length room) e (omega (arith, n)) in
    let first : rooms h d y w M ≡ accepted = job-verdict h d y w M ∙ e in
    let denominator : c.analyse-solved.result.denominator ≡ denominator_of h d w =
    ap (λ (r : Solved). r.denominator) record-is ∙ given_yes (rooms h d y w M) (denominator_of h d w) 0 first in
    let filled : c.analyse-solved.new.values ≡ over (objects h) (numerator_of h d y w M) (replicate 50 (pos 0)) =
    (rw (to_z-of_z c.ranges.sum) at c.analyse-solved.ensures.values_after) ∙ given_yes (rooms h d y w M) _ _ first in
    let entry : (i : ℕ) → i < objects h → numerator_at column i ≡ published h d y w M i =
    λ i l. ap (λ (z : List ℤ). numerator_at z i)
    (c.column-column.ensures ∙ ap (λ (d : ℕ). column_of c.analyse-solved.new.values d w) denominator)
    ∙ column-published _ _ _ _ _ (job h d y w M e) _ _ refl filled i l in
    record {
      value = sym v;
      hundredths_after =
          ap (λ (r : List ℤ). r ++ drop c.objects-v.result room) c.copy_from_slice.ensures.after
          ∙ copied c.objects-v.result column room (inside h d y w M verdict passed c.objects-v.ensures _ _ c.column-column.ensures) c.if-hundredths-v.false
          ∙ ap (λ (m : ℕ). over m (numerator_at column) room) n
          ∙ over_ext (objects h) _ _ room entry
          ∙ sym (given_yes _ _ room v);
    }
