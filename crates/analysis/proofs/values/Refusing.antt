-- The verdicts of values, from that of a whole job worked out in rooms that are long enough, and the Value of an object. Assumes nothing.
use Rattle.std.proofs.Common.{Ok, Err}
use mathlib.Core.Path.{◌≡◌, refl, sym, ap, ◌∙◌}
use mathlib.Core.Bool.{true, false, cond}
use mathlib.Core.List.{List}
use Prim.Native.Nat.{ℕ, ◌+◌, ◌-◌, ◌≤◌, ◌<◌}
use native.Mathlib.Omega.{arith}
use borrow.Author.Tests.{lt-ltb, le-ltb, le-leb, lt-leb}
use lib.Dec.{eqb, ltb, leb}
use lib.IntN.{ℤ, pos}
use Rattle.algebra.specs.Ranges.{sum_ℕ}
use Rattle.records.specs.declared.Head.{Head}
use Rattle.records.specs.declared.Value.{Value}
use Rattle.records.specs.declared.ObjectValue.{ObjectValue}
use Rattle.meaning.specs.Design.{objects}
use Rattle.meaning.specs.Analysis.{member, members, numerator_of, denominator_of, factor}
use Rattle.meaning.specs.Publishing.{published, value_of, no_value}
use Rattle.meaning.specs.Refusals.{Verdict, ◌⨾◌, accepted, refused, number, place, clean, in_balance, restraint, in_reach, room}
use Rattle.meaning.specs.Calls.{given, slices, contents, job_verdict, rooms, analyse_verdict, values_verdict, value_verdict, value_answer}
use Rattle.laws.proofs.Chains.{Job, opened, accepts, goes_on, refused_stays, test_yes, test_no, job}
use Rattle.laws.proofs.Variance.{factor-most}
use Rattle.words.proofs.Members.{ones_members}
use Rattle.verdicts.proofs.Told.{refusing}
use Rattle.arithmetic.specs.Quotient.{value_from}
use Rattle.arithmetic.proofs.Exact.{Exact, quotient_is}
use Rattle.analysis.specs.Worked.{factor_in}
use Rattle.analysis.proofs.Accepting.{rooms-values, rooms-all}
use Rattle.analysis.proofs.Column.{numbers-exact}
use Rattle.verdicts.specs.Zeros.{no_value_under}

module _ (h : Head) (d : List ℕ) (y : List ℤ) (w : ℕ) (M : ℤ) where
  -- the local rooms are long enough, so the lent one decides
  pub values-verdict : (len : ℕ) → analyse_verdict h d y w M 2600 len 1300 ≡ values_verdict h d y w M len
  unfolding analyse_verdict values_verdict
  values-verdict len = by (job_verdict h d y w M) refl
    where
      by : (v : Verdict) → job_verdict h d y w M ≡ v → v ⨾ rooms h 2600 len 1300 ≡ v ⨾ room len (objects h)
      by (Ok done) e = rooms-values h (job h d y w M e).measures.design.sizes len
      by (Err why) e = refl

  -- a refused job, a job with too little room, and one with enough
  pub values-refused : (len k at : ℕ) → job_verdict h d y w M ≡ refused k at → values_verdict h d y w M len ≡ refused k at
  unfolding values_verdict
  values-refused len k at e = refused_stays _ k at e

  pub values-short : (len : ℕ) → job_verdict h d y w M ≡ accepted → len < objects h → values_verdict h d y w M len ≡ refused 10 0
  unfolding values_verdict
  values-short len e l = goes_on _ e ∙ test_no (leb (objects h) len) 10 0 (lt-leb _ _ l)

  pub values-roomy : (len : ℕ) → job_verdict h d y w M ≡ accepted → objects h ≤ len → values_verdict h d y w M len ≡ accepted
  unfolding values_verdict
  values-roomy len e l = accepts e (test_yes (leb (objects h) len) 10 0 (le-leb _ _ l))

  -- with all rooms local the job decides
  pub job-verdict : analyse_verdict h d y w M 2600 50 1300 ≡ job_verdict h d y w M
  unfolding analyse_verdict
  job-verdict = by (job_verdict h d y w M) refl
    where
      by : (v : Verdict) → job_verdict h d y w M ≡ v → v ⨾ rooms h 2600 50 1300 ≡ v
      by (Ok done) e = rooms-all h (job h d y w M e).measures.design.sizes
      by (Err why) e = refl

  module _ (i : ℕ) where
    -- the blocks are refused
    pub value-refused : (k at : ℕ) → slices h d y ⨾ clean h d ≡ refused k at → value_verdict h d y w M i ≡ refused k at
    unfolding value_verdict
    value-refused k at e = refused_stays _ k at (refused_stays _ k at (refused_stays _ k at (refused_stays _ k at e)))

    module _ (e : slices h d y ⨾ clean h d ≡ accepted) where
      -- there is no such object
      pub value_no_object : objects h ≤ i → value_verdict h d y w M i ≡ refused 5 i
      unfolding value_verdict
      value_no_object l =
          refused_stays _ 5 i (refused_stays _ 5 i (refused_stays _ 5 i (goes_on _ e ∙ test_no (ltb i (objects h)) 5 i (le-ltb _ _ l))))

      -- there is, and the job decides
      pub value-job : i < objects h → value_verdict h d y w M i ≡ job_verdict h d y w M
      unfolding value_verdict job_verdict contents
      value-job l =
          let there = test_yes (ltb i (objects h)) 5 i (lt-ltb _ _ l) in
          let a = opened (slices h d y) (clean h d) e in
          ap (λ (v : Verdict). v ⨾ in_balance h d ⨾ restraint h w M ⨾ in_reach y) (accepts e there)
          ∙ sym (goes_on _ a.0 ∙ ap (λ (v : Verdict). v ⨾ in_balance h d ⨾ restraint h w M ⨾ in_reach y) a.1)

    -- a refusal holds no value
    pub no_value_is : (v : Verdict) → given v false true ≡ true → value_verdict h d y w M i ≡ refused (number v) (place v) →
        no_value_under v ≡ value_answer h d y w M i
    no_value_is v r e = ap no_value_under (refusing v r) ∙ sym (ap (λ (v : Verdict). record { verdict = v; value = given v (value_of h d y w M i) no_value }) e)

    -- an acceptance holds the value
    pub value_is_given : (x : Value) → value_verdict h d y w M i ≡ accepted → x ≡ value_of h d y w M i →
        ◌≡◌ {A = ObjectValue} (record { verdict = accepted; value = x }) (value_answer h d y w M i)
    value_is_given x e f =
        ap (λ (z : Value). record { verdict = accepted; value = z }) f
        ∙ sym (ap (λ (v : Verdict). record { verdict = v; value = given v (value_of h d y w M i) no_value }) e)

-- ---- the Value

-- the ones of the restraint set of an accepted job are its t,
ones_are : (h : Head) (d : List ℕ) (y : List ℤ) (w : ℕ) (M : ℤ) → Job h d y w M → sum_ℕ 64 (member w) ≡ members (objects h) w
ones_are h d y w M j = ones_members (objects h) w (omega (arith, j.measures.design.sizes.objects-most)) j.restraint.set-inside

-- and they make the factor of the definition
pub factor-is : (h : Head) (d : List ℕ) (y : List ℤ) (w : ℕ) (M : ℤ) (i : ℕ) → Job h d y w M → factor_in w i ≡ factor h w i
unfolding factor
factor-is h d y w M i j = ap (λ (t : ℕ). cond (eqb (member w i) 1) (t - 1) (t + 1)) (ones_are h d y w M j)

-- the factor and the denominator are f64s exactly too
factor-exact : (h : Head) (d : List ℕ) (y : List ℤ) (w : ℕ) (M : ℤ) (i : ℕ) → Job h d y w M → Exact (pos (factor h w i)) (denominator_of h d w)
factor-exact h d y w M i j =
    let x = numbers-exact h d y w M i j in
    record { top = omega (arith, factor-most h w i, j.measures.design.sizes.objects-most); above = x.above; bottom = x.bottom }

-- the numbers of an accepted job are f64s exactly, so a Value with its published hundredths and its factor is the definition's
pub value_from_is : (h : Head) (d : List ℕ) (y : List ℤ) (w : ℕ) (M : ℤ) (i : ℕ) (k : ℤ) → Job h d y w M → k ≡ published h d y w M i →
    value_from (numerator_of h d y w M i) (denominator_of h d w) k (factor h w i) ≡ value_of h d y w M i
value_from_is h d y w M i k j e = λ z. record {
  numerator = numerator_of h d y w M i;
  denominator = denominator_of h d w;
  hundredths = e z;
  value = quotient_is (numerator_of h d y w M i) (denominator_of h d w) (numbers-exact h d y w M i j) z;
  factor = factor h w i;
  factor_value = quotient_is (pos (factor h w i)) (denominator_of h d w) (factor-exact h d y w M i j) z;
}
