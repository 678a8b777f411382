-- The pooled spread as the page says it. Files laid end to end are cut into themselves again, so the answer is that of the list of jobs; where all are good
-- and have one v and beta it is made of two sums over the list, which no order of it changes. Assumes nothing.
use Rattle.std.proofs.Common.{None}
use Prim.Native.Nat.{ℕ, zero, suc, ◌+◌, ◌*◌, ◌^◌, ◌≤◌, ◌<◌}
use mathlib.Core.Path.{◌≡◌, refl, sym, ap, ap₂, subst, ◌∙◌}
use mathlib.Core.Bool.{Bool, true, false, cond, ◌&&◌}
use mathlib.Core.List.{List, [], ◌∷◌, ◌++◌}
use native.Mathlib.Nat.{lt_trans}
use native.Mathlib.Omega.{arith}
use borrow.Author.Tests.{eqb-true, eq-eqb, ne_eqb, leb-true, le-leb, ltb-true, lt-ltb}
use lib.Dec.{eqb, ltb, leb, lit<}
use lib.IntN.{pos}
use lib.ListN.{length, length-append, length-map}
use lib.Seq.{take-append_seam, drop-append_seam}
use Rattle.algebra.proofs.Tests.{and_left, and_right, and_both}
use Rattle.records.specs.declared.Pooled.{Pooled}
use Rattle.records.specs.declared.Spreading.{Spreading}
use Rattle.meaning.specs.Analysis.{spread_hundredths, spread_hundredths_of}
use Rattle.meaning.specs.Wide.{value, wide}
use Rattle.meaning.specs.Publishing.{spreads, float, spread_of}
use Rattle.meaning.specs.Refusals.{Verdict, accepted, refused, test, ◌⨾◌, clean, in_balance, restraint, in_reach}
use Rattle.meaning.specs.Calls.{given, slices, readings_verdict, contents, job_verdict, spreading_of, no_spreading}
use Rattle.meaning.specs.File.{head_of, blocks_of, readings_of, set_of, sum_of, read_verdict}
use Rattle.meaning.specs.Pooled.{
  pool_limit,
  lengths_sum,
  jobs_in,
  vIn,
  beta_in,
  vbeta_in,
  qIn,
  freedom_in,
  end_to_end,
  first_bad,
  bad_job,
  alike_jobs,
  odd_job,
  one_kind,
  jobs_verdict,
  pooled_verdict,
  jobs_index,
  pooled_index,
  pooled_sum,
  pooled_spreading,
  jobs_answer,
  pooled_answer,
}
use Rattle.laws.proofs.Chains.{opened, accepts, held, test_yes, given_yes}
use Rattle.laws.proofs.Files.{file-job}
use Rattle.laws.proofs.Rounding.{spread-largest}
use Rattle.laws.proofs.Pooled.{file-measures, file-vbeta, file_q, pooled_q, pooled_freedom}
use Rattle.arithmetic.proofs.Words.{exact}
use Rattle.arithmetic.proofs.Spreads.{Ranged, hundredths-is, hundredths-small}
use Rattle.demands.proofs.NoFreedom.{no_freedom_no_q}
use Rattle.demands.specs.Pooled.{
  laid_out,
  lengths_of,
  pool,
  one_job,
  Each,
  Good,
  Reordered,
  untouched,
  keep,
  exchange,
  again,
  Reported,
  PooledSpread,
  OneJobPooled,
  NothingAdded,
  eighteen,
  PooledCut,
  PooledRefused,
  PooledOdd,
}

-- ---- laid end to end

-- cut by their lengths they are the same jobs
cut : (js : List (List ℕ)) → jobs_in (laid_out js) (lengths_of js) ≡ js
unfolding jobs_in
cut [] = refl
cut (s ∷ js) = ap₂ ◌∷◌ (take-append_seam s (laid_out js)) (ap (λ (rest : List ℕ). jobs_in rest (lengths_of js)) (drop-append_seam s (laid_out js)) ∙ cut js)

-- their lengths add to the bytes lent
added : (js : List (List ℕ)) → lengths_sum (lengths_of js) ≡ length (laid_out js)
unfolding lengths_sum
added [] = refl
added (s ∷ js) = ap (λ (n : ℕ). length s + n) (added js) ∙ sym (length-append s (laid_out js))

-- the call's answer, by the verdict of its lengths and by the jobs; so it is that of the jobs
abbrev cut_of : Verdict → List (List ℕ) → Pooled
cut_of w js = record {
  verdict = w ⨾ jobs_verdict js;
  index = given w (jobs_index js) 0;
  spreading = given (w ⨾ jobs_verdict js) (pooled_spreading js) no_spreading;
}

whole : (js : List (List ℕ)) → 0 < length js → length js ≤ 64 → pool js ≡ jobs_answer js
unfolding pooled_verdict pooled_index
whole js some few =
    let n : length (lengths_of js) ≡ length js = length-map js length in
    let tested : end_to_end (laid_out js) (lengths_of js) ≡ accepted = test_yes _ 18 0
    (and_both (and_both (lt-ltb 0 (length (lengths_of js)) (omega arith)) (le-leb (length (lengths_of js)) pool_limit (omega arith)))
    (eq-eqb _ _ (added js))) in
    λ j. cut_of (tested j) (cut js j)

-- ---- good jobs of one kind

-- no job is bad where each is good
bad-none : (js : List (List ℕ)) → Each Good js → first_bad js ≡ accepted
unfolding first_bad
bad-none [] g = refl
bad-none (s ∷ js) g = accepts g.0 (bad-none js g.1)

none-bad : (js : List (List ℕ)) → first_bad js ≡ accepted → Each Good js
unfolding first_bad
none-bad [] e = tt
none-bad (s ∷ js) e = let o = opened (read_verdict s) (first_bad js) e in (o.0, none-bad js o.1)

-- a job has this v and beta
abbrev Of_kind : ℕ → ℕ → List ℕ → Type 0
Of_kind v b s = (vIn s ≡ v) × (beta_in s ≡ b)

module _ (v b : ℕ) where
  -- the test of one
  kind_yes : (s : List ℕ) → Of_kind v b s → (eqb (vIn s) v && eqb (beta_in s) b) ≡ true
  kind_yes s k = and_both (eq-eqb _ _ k.0) (eq-eqb _ _ k.1)

  kind_is : (s : List ℕ) → (eqb (vIn s) v && eqb (beta_in s) b) ≡ true → Of_kind v b s
  kind_is s e = (eqb-true _ _ (and_left (eqb (vIn s) v) (eqb (beta_in s) b) e), eqb-true _ _ (and_right (eqb (vIn s) v) (eqb (beta_in s) b) e))

  kind_no : (s : List ℕ) → (Of_kind v b s → ⊥) → (eqb (vIn s) v && eqb (beta_in s) b) ≡ false
  kind_no s n = by (eqb (vIn s) v && eqb (beta_in s) b) refl
    where
      by : (t : Bool) → (eqb (vIn s) v && eqb (beta_in s) b) ≡ t → t ≡ false
      by true e = absurd (n (kind_is s e))
      by false e = refl

  -- all are alike where each is
  all_alike : (js : List (List ℕ)) → Each (Of_kind v b) js → alike_jobs v b js ≡ length js
  unfolding alike_jobs
  all_alike [] k = refl
  all_alike (s ∷ js) k = rw (kind_yes s k.0) (ap suc (all_alike js k.1))

  alike_all : (js : List (List ℕ)) → alike_jobs v b js ≡ length js → Each (Of_kind v b) js
  unfolding alike_jobs
  alike_all [] e = tt
  alike_all (s ∷ js) e = by (eqb (vIn s) v && eqb (beta_in s) b) refl e (alike_all js)
    where
      by : (t : Bool) → (eqb (vIn s) v && eqb (beta_in s) b) ≡ t → cond t (suc (alike_jobs v b js)) 0 ≡ suc (length js)
          → (alike_jobs v b js ≡ length js → Each (Of_kind v b) js) → Each (Of_kind v b) (s ∷ js)
      by true q w rest = let w' : suc (alike_jobs v b js) ≡ suc (length js) = w in (kind_is s q, rest (omega (arith, w')))
      by false q w rest = let w' : 0 ≡ suc (length js) = w in absurd (omega (arith, w'))

  -- the first that is not alike stands behind those that are
  first-other : (before : List (List ℕ)) (s : List ℕ) (after : List (List ℕ)) → Each (Of_kind v b) before → (Of_kind v b s → ⊥)
      → alike_jobs v b (before ++ (s ∷ after)) ≡ length before
  unfolding alike_jobs
  first-other [] s after k n = rw (kind_no s n) refl
  first-other (t ∷ before) s after k n = rw (kind_yes t k.0) (ap suc (first-other before s after k.1 n))

-- job 0 is of its own kind
own_kind : (s : List ℕ) → Of_kind (vIn s) (beta_in s) s
own_kind s = (refl, refl)

-- the report of two sums
abbrev report_of : ℕ → ℕ → ℕ → Spreading
report_of Q vb f =
    record { q = wide Q; vbeta = vb; freedom = f; hundredths = spread_hundredths Q vb f; spread = spread_of (spread_hundredths Q vb f) f }

abbrev answer_of : ℕ → ℕ → ℕ → Pooled
answer_of Q vb f = record { verdict = accepted; index = 0; spreading = report_of Q vb f }

-- the answer by the verdict of all jobs, and whether they are of one kind
abbrev told_of : List (List ℕ) → Verdict → Bool → Pooled
told_of js w t = record {
  verdict = w ⨾ test t 17 0;
  index = given w (given (test t 17 0) 0 (odd_job js)) (bad_job js);
  spreading = given (w ⨾ test t 17 0) (pooled_spreading js) no_spreading;
}

by_tests : (js : List (List ℕ)) (w : Verdict) (t : Bool) → first_bad js ≡ w → eqb (odd_job js) (length js) ≡ t → jobs_answer js ≡ told_of js w t
unfolding jobs_verdict jobs_index one_kind
by_tests js w t e f = λ j. told_of js (e j) (f j)

-- the answer of good jobs of one kind
answered : (s : List ℕ) (js : List (List ℕ)) → Each Good (s ∷ js) → Each (Of_kind (vIn s) (beta_in s)) js → length (s ∷ js) ≤ 64
    → pool (s ∷ js) ≡ answer_of (pooled_sum qIn (s ∷ js)) (vIn s * beta_in s) (pooled_sum freedom_in (s ∷ js))
unfolding odd_job
answered s js g k few =
    let alike : alike_jobs (vIn s) (beta_in s) (s ∷ js) ≡ length (s ∷ js) = all_alike (vIn s) (beta_in s) (s ∷ js) (own_kind s, k) in
    whole (s ∷ js) (omega arith) few ∙ by_tests (s ∷ js) accepted true (bad-none (s ∷ js) g) (eq-eqb (odd_job (s ∷ js)) (length (s ∷ js)) alike)

-- ---- accepted exactly

accepting : (s : List ℕ) (js : List (List ℕ)) → length (s ∷ js) ≤ 64 → (pool (s ∷ js)).verdict ≡ accepted
    → Each Good (s ∷ js) × Each (Of_kind (vIn s) (beta_in s)) js
unfolding jobs_verdict one_kind odd_job
accepting s js few e =
    let jobs = sym (ap (λ (r : Pooled). r.verdict) (whole (s ∷ js) (omega arith) few)) ∙ e in
    let o = opened (first_bad (s ∷ js)) (one_kind (s ∷ js)) jobs in
    let alike = eqb-true _ _ (held (eqb (odd_job (s ∷ js)) (length (s ∷ js))) 17 0 o.1) in
    (none-bad (s ∷ js) o.0, (alike_all (vIn s) (beta_in s) (s ∷ js) alike).1)

-- more than 64 are never accepted
few_enough : (js : List (List ℕ)) → (pool js).verdict ≡ accepted → length js ≤ 64
unfolding pooled_verdict
few_enough js e =
    let n = length (lengths_of js) in
    let sums = eqb (lengths_sum (lengths_of js)) (length (laid_out js)) in
    let o = opened (end_to_end (laid_out js) (lengths_of js)) (jobs_verdict (jobs_in (laid_out js) (lengths_of js))) e in
    let t = held (ltb 0 n && leb n pool_limit && sums) 18 0 o.0 in
    let m = leb-true n pool_limit (and_right (ltb 0 n) (leb n pool_limit) (and_left (ltb 0 n && leb n pool_limit) sums t)) in
    omega (arith, m, length-map js length)

-- ---- one job

-- the call of one job on an accepted file
reads : (s : List ℕ) → Good s → readings_verdict (head_of s) (blocks_of s) (readings_of s) ≡ accepted
unfolding job_verdict contents readings_verdict
reads s e =
    let h = head_of s in
    let d = blocks_of s in
    let y = readings_of s in
    let j = opened (slices h d y) (contents h d y (set_of s) (sum_of s)) (file-job s e).1 in
    let c = opened (clean h d ⨾ in_balance h d ⨾ restraint h (set_of s) (sum_of s)) (in_reach y) j.1 in
    let r = opened (clean h d ⨾ in_balance h d) (restraint h (set_of s) (sum_of s)) c.0 in
    let a = opened (clean h d) (in_balance h d) r.0 in
    accepts (accepts (accepts j.0 a.0) a.1) c.1

one : (s : List ℕ) → Good s → one_job s ≡ spreading_of (head_of s) (blocks_of s) (readings_of s)
one s e = given_yes (readings_verdict (head_of s) (blocks_of s) (readings_of s)) (spreading_of (head_of s) (blocks_of s) (readings_of s)) no_spreading
    (reads s e)

module _ (s : List ℕ) (e : Good s) where
  one_q : value (one_job s).q ≡ qIn s
  one_q = ap (λ (r : Spreading). value r.q) (one s e) ∙ exact (qIn s) (omega (arith, file_q s e)) refl

  one-freedom : (one_job s).freedom ≡ freedom_in s
  one-freedom = ap (λ (r : Spreading). r.freedom) (one s e)

  one-vbeta : (one_job s).vbeta ≡ vbeta_in s
  one-vbeta = ap (λ (r : Spreading). r.vbeta) (one s e)

-- figures that are the same of every good job have the same sum
sums_same : (figure other : List ℕ → ℕ) → ((s : List ℕ) → Good s → other s ≡ figure s) → (js : List (List ℕ)) → Each Good js
    → pooled_sum figure js ≡ pooled_sum other js
unfolding pooled_sum
sums_same figure other same [] g = refl
sums_same figure other same (s ∷ js) g = ap₂ ◌+◌ (sym (same s g.0)) (sums_same figure other same js g.1)

-- ---- the report

-- the enum with freedom, and without
with_freedom : (k f : ℕ) → 0 < f → spread_of k f ≡ spreads (float (pos k) 100) f
with_freedom k zero l = absurd (omega arith)
with_freedom k (suc f) l = refl

without_freedom : (Q vb f : ℕ) → f ≡ 0 → (spread_of (spread_hundredths Q vb f) f ≡ None) × (spread_hundredths Q vb f ≡ 0)
unfolding spread_hundredths
without_freedom Q vb zero e = (refl, refl)
without_freedom Q vb (suc f) e = absurd (omega arith)

module _ (s : List ℕ) (js : List (List ℕ)) (g : Each Good (s ∷ js)) (few : length (s ∷ js) ≤ 64) where
  abbrev Q : ℕ
  Q = pooled_sum qIn (s ∷ js)

  abbrev f : ℕ
  f = pooled_sum freedom_in (s ∷ js)

  range : Ranged Q (vbeta_in s) f
  range = record {
    q_most = omega (arith, pooled_q (s ∷ js) (bad-none (s ∷ js) g), few);
    vbeta-some = (file-vbeta s g.0).0;
    vbeta-most = (file-vbeta s g.0).1;
    freedom-most = omega (arith, pooled_freedom (s ∷ js) (bad-none (s ∷ js) g), few);
  }

  words : value (wide Q) ≡ Q
  words = exact Q (omega (arith, range.q_most)) refl

  reported : Reported s js (report_of Q (vbeta_in s) f)
  reported =
      let k = spread_hundredths Q (vbeta_in s) f in
      let largest : 0 < f → (k * k * vbeta_in s * f ≤ 10000 * Q) × (10000 * Q < (k + 1) * (k + 1) * vbeta_in s * f) =
      λ l. spread-largest Q (vbeta_in s) f range.vbeta-some l (under Q range.q_most) in
      record {
        sum_of_Q = words ∙ sums_same qIn (λ s. value (one_job s).q) one_q (s ∷ js) g;
        sum_of_f = sums_same freedom_in (λ s. (one_job s).freedom) one-freedom (s ∷ js) g;
        of_job_0 = sym (one-vbeta s g.0);
        two-words = subst (λ (n : ℕ). n < 2 ^ 83) (sym words) range.q_most;
        one_word = subst (λ (n : ℕ). n < 2 ^ 53) (hundredths-is Q (vbeta_in s) f range) (hundredths-small Q (vbeta_in s) f);
        largest = λ l.
            subst (λ (n : ℕ). (k * k * vbeta_in s * f ≤ 10000 * n) × (10000 * n < (k + 1) * (k + 1) * vbeta_in s * f)) (sym words) (largest l);
        some = λ l. with_freedom k f l;
        none = λ e. without_freedom Q (vbeta_in s) f e;
      }
    where
      under : (n : ℕ) → n < 2 ^ 83 → 10000 * n < 4 ^ 64
      under n l = let most : 10000 * n < 2 ^ 97 = omega arith in lt_trans most (lit< tt)

-- ---- the order

-- what is true of each is so in every order
each_reordered : (P : List ℕ → Type 0) {js ks : List (List ℕ)} → Reordered js ks → Each P js → Each P ks
each_reordered P untouched p = tt
each_reordered P (keep s r) p = (p.0, each_reordered P r p.1)
each_reordered P (exchange s t js) p = (p.1.0, (p.0, p.1.1))
each_reordered P (again r q) p = each_reordered P q (each_reordered P r p)

-- so is the sum of a figure
sum_reordered : (figure : List ℕ → ℕ) {js ks : List (List ℕ)} → Reordered js ks → pooled_sum figure ks ≡ pooled_sum figure js
unfolding pooled_sum
sum_reordered figure untouched = refl
sum_reordered figure (keep s r) = ap (λ (n : ℕ). figure s + n) (sum_reordered figure r)
sum_reordered figure (exchange s t js) = exchanged (figure t) (figure s) (pooled_sum figure js)
  where
    exchanged : (a b c : ℕ) → a + (b + c) ≡ b + (a + c)
    exchanged a b c = omega arith
sum_reordered figure (again r q) = sum_reordered figure q ∙ sum_reordered figure r

-- and there are as many jobs
count_reordered : {js ks : List (List ℕ)} → Reordered js ks → length ks ≡ length js
count_reordered untouched = refl
count_reordered (keep s r) = ap suc (count_reordered r)
count_reordered (exchange s t js) = refl
count_reordered (again r q) = count_reordered q ∙ count_reordered r

-- good jobs of one kind are answered alike in every order
reordered : (v b : ℕ) (s : List ℕ) (js : List (List ℕ)) (ks : List (List ℕ)) → Reordered (s ∷ js) ks → vIn s ≡ v → beta_in s ≡ b → Each Good (s ∷ js)
    → Each (Of_kind v b) js → length (s ∷ js) ≤ 64 → pool ks ≡ answer_of (pooled_sum qIn (s ∷ js)) (v * b) (pooled_sum freedom_in (s ∷ js))
reordered v b s js [] r e w g k few = absurd (omega (arith, count_reordered r))
reordered v b s js (t ∷ ks) r e w g k few =
    let good = each_reordered Good r g in
    let kinds = each_reordered (Of_kind v b) r ((e, w), k) in
    let own : Each (Of_kind (vIn t) (beta_in t)) ks =
    subst (λ (n : ℕ). Each (Of_kind n (beta_in t)) ks) (sym kinds.0.0) (subst (λ (n : ℕ). Each (Of_kind v n) ks) (sym kinds.0.1) kinds.1) in
    answered t ks good own (omega (arith, count_reordered r))
    ∙ (λ j. answer_of (sum_reordered qIn r j) (kinds.0.0 j * kinds.0.1 j) (sum_reordered freedom_in r j))

-- ---- refusals

module _ (bytes lengths : List ℕ) where
  -- the three tests of 18
  abbrev three : Bool
  three = ltb 0 (length lengths) && leb (length lengths) pool_limit && eqb (lengths_sum lengths) (length bytes)

  refused_18 : (three ≡ true → ⊥) → pooled_answer bytes lengths ≡ eighteen
  unfolding pooled_verdict pooled_index
  refused_18 n = λ j. cut_of (test (no three n j) 18 0) (jobs_in bytes lengths)
    where
      no : (t : Bool) → (t ≡ true → ⊥) → t ≡ false
      no true n = absurd (n refl)
      no false n = refl

  pub pooled_cut : PooledCut bytes lengths
  pooled_cut =
      let n = length lengths in
      let front = ltb 0 n && leb n pool_limit in
      let sums = eqb (lengths_sum lengths) (length bytes) in
      let a : three ≡ true → front ≡ true = λ e. and_left front sums e in
      record {
        no_jobs = λ z. refused_18 (λ e.
            let some : 0 < n = ltb-true 0 n (and_left (ltb 0 n) (leb n pool_limit) (a e)) in
            let none : n ≡ 0 = ap (λ (l : List ℕ). length l) z in
            absurd (omega (arith, some, none)));
        too_many = λ l. refused_18 (λ e.
            let few : n ≤ 64 = leb-true n pool_limit (and_right (ltb 0 n) (leb n pool_limit) (a e)) in
            absurd (omega (arith, few, l)));
        not-added = λ z. refused_18 (λ e. z (eqb-true (lengths_sum lengths) (length bytes) (and_right front sums e)));
      }

-- behind good jobs the first bad one
behind : (before : List (List ℕ)) (s : List ℕ) (after : List (List ℕ)) (k at : ℕ) → Each Good before → read_verdict s ≡ refused k at
    → (first_bad (before ++ (s ∷ after)) ≡ refused k at) × (bad_job (before ++ (s ∷ after)) ≡ length before)
unfolding first_bad bad_job
behind [] s after k at g e = rw e (refl, refl)
behind (t ∷ before) s after k at g e = let w = behind before s after k at g.1 e in rw g.0 (w.0, ap suc w.1)

pub pooled_refused : (before : List (List ℕ)) (s : List ℕ) (after : List (List ℕ)) → PooledRefused before s after
pooled_refused before s after = record {
  first-bad = λ few g k at e.
      let w = behind before s after k at g e in
      let some : 0 < length (before ++ (s ∷ after)) = omega (arith, length-append before (s ∷ after)) in
      whole (before ++ (s ∷ after)) some few
      ∙ by_tests (before ++ (s ∷ after)) (refused k at) (eqb (odd_job (before ++ (s ∷ after))) (length (before ++ (s ∷ after)))) w.0 refl
      ∙ (λ j. record { verdict = refused k at; index = w.1 j; spreading = no_spreading });
}

pub pooled_odd : (first : List ℕ) (before : List (List ℕ)) (s : List ℕ) (after : List (List ℕ)) → PooledOdd first before s after
unfolding odd_job
pooled_odd first before s after = record {
  first-odd = λ few g k n.
      let v = vIn first in
      let b = beta_in first in
      let odd : alike_jobs v b (first ∷ before ++ (s ∷ after)) ≡ length (first ∷ before) = first-other v b (first ∷ before) s after (own_kind first, k) n in
      let js = first ∷ before ++ (s ∷ after) in
      let long : length js ≡ suc (length before + suc (length after)) = ap suc (length-append before (s ∷ after)) in
      let count : odd_job js ≡ suc (length before) = odd in
      let less : eqb (odd_job js) (length js) ≡ false = ne_eqb (odd_job js) (length js) (λ e. absurd (omega (arith, count, long, e))) in
      whole js (omega arith) few
      ∙ by_tests js accepted false (bad-none js g) less
      ∙ (λ j. record { verdict = refused 17 0; index = odd j; spreading = no_spreading });
}

-- ---- the page

pub pooled_spread : (first : List ℕ) (rest : List (List ℕ)) → PooledSpread first rest
pooled_spread first rest = record {
  accepted_exactly = (
    (λ e. let few = few_enough (first ∷ rest) e in let a = accepting first rest few e in (a.0, a.1, few)),
    λ g k few. ap (λ (r : Pooled). r.verdict) (answered first rest g k few),
  );
  reports = λ e.
      let few = few_enough (first ∷ rest) e in
      let a = accepting first rest few e in
      subst (λ (r : Pooled). Reported first rest r.spreading) (sym (answered first rest a.0 a.1 few)) (reported first rest a.0 few);
  order = λ ks r e.
      let few = few_enough (first ∷ rest) e in
      let a = accepting first rest few e in
      reordered (vIn first) (beta_in first) first rest ks r refl refl a.0 a.1 few ∙ sym (answered first rest a.0 a.1 few);
}

pub one_job_pooled : (s : List ℕ) → OneJobPooled s
unfolding pooled_sum spread_hundredths_of
one_job_pooled s = record {
  itself = λ e.
      let alone : (n : ℕ) → n + 0 ≡ n = λ n. omega arith in
      answered s [] (e, tt) tt (omega arith)
      ∙ (λ j. answer_of (alone (qIn s) j) (vIn s * beta_in s) (alone (freedom_in s) j))
      ∙ ap (λ (r : Spreading). record { verdict = accepted; index = 0; spreading = r }) (sym (one s e));
  bad = λ k at e. (pooled_refused [] s []).first-bad (omega arith) tt k at e;
}

pub nothing-added : (s : List ℕ) → NothingAdded s
nothing-added s e none =
    let m = file-measures s e in
    one_q s e ∙ no_freedom_no_q (head_of s) (blocks_of s) m.design m.even (sym (one-freedom s e) ∙ none) (readings_of s) m.readings.readings-long
