-- Taking the jobs in one after another gives the report of the definition: each step adds to the sums what the definition adds, moves the index on by one, and
-- keeps the mark of the first job that differs. At the end the sums keep the range in which the spread is the definition's. Assumes nothing.
use Rattle.std.proofs.Common.{Ok, Err}
use Prim.Native.Nat.{ℕ, suc, ◌+◌, ◌*◌, ◌≤◌, ◌<◌}
use mathlib.Core.Path.{◌≡◌, refl, sym, ap, subst, ◌∙◌}
use mathlib.Core.Bool.{Bool, true, false, cond, ◌&&◌}
use mathlib.Core.List.{List, [], ◌∷◌}
use native.Mathlib.Omega.{arith}
use borrow.Author.Tests.{eqb-true, eq-eqb, ne_eqb}
use lib.Dec.{eqb, eqb-suc-zero}
use lib.ListN.{length}
use Rattle.records.specs.declared.Pooled.{Pooled}
use Rattle.records.specs.declared.Solved.{Solved}
use Rattle.records.specs.declared.Spreading.{Spreading}
use Rattle.meaning.specs.Design.{beta}
use Rattle.meaning.specs.Analysis.{spread_hundredths}
use Rattle.meaning.specs.Wide.{value, wide}
use Rattle.meaning.specs.Publishing.{spread_of}
use Rattle.meaning.specs.Refusals.{Verdict, accepted, refused, test, ◌⨾◌}
use Rattle.meaning.specs.Calls.{given, solved_under, no_spreading}
use Rattle.meaning.specs.File.{head_of, blocks_of, readings_of, set_of, read_verdict}
use Rattle.meaning.specs.Pooled.{pool_limit, vIn, beta_in, vbeta_in, qIn, freedom_in, first_bad, bad_job, alike_jobs, odd_job, one_kind, jobs_verdict, jobs_index, pooled_sum, jobs_answer}
use Rattle.laws.proofs.Chains.{accepts}
use Rattle.laws.proofs.Pooled.{file-vbeta, file-beta, file_q, file-freedom, pooled_q, pooled_freedom}
use Rattle.arithmetic.specs.Hundredths.{hundredths_from, spreading_from}
use Rattle.arithmetic.proofs.Words.{exact, wide_add}
use Rattle.arithmetic.proofs.Spreads.{Ranged, hundredths-is}
use Rattle.job.specs.declared.pooling.Sums.{Sums}
use Rattle.job.specs.Taking.{worked_job, no_pool, no_sums, alike_with, with_first, with_later, with_job, Taken, finished, pooled_from}

-- ---- one job taken in

-- what is pooled so far, by its numbers
abbrev sums_of : ℕ → ℕ → ℕ → ℕ → ℕ → ℕ → Sums
sums_of v b vb Q f a = record { v = v; beta = b; vbeta = vb; q = wide Q; freedom = f; alike = a }

-- how many are alike, with a job that is or is not
abbrev marked : ℕ → ℕ → Bool → ℕ
marked a i u = cond (eqb a i && u) (suc i) a

-- the mark is never past the jobs that were taken in
marked-most : (a i : ℕ) (u : Bool) → a ≤ i → marked a i u ≤ suc i
marked-most a i u m = by (eqb a i && u)
  where
    by : (t : Bool) → cond t (suc i) a ≤ suc i
    by true = omega arith
    by false = omega arith

-- an accepted file as the words of the definition have it
module _ (s : List ℕ) (e : read_verdict s ≡ accepted) where
  abbrev job : Solved
  job = solved_under accepted (head_of s) (blocks_of s) (readings_of s) (set_of s)

  worked : worked_job s ≡ job
  worked = ap (λ (v : Verdict). solved_under v (head_of s) (blocks_of s) (readings_of s) (set_of s)) e

  -- its Q is in its two words, so the sum of two words is that of the numbers
  q_adds : (Q : ℕ) → wide (value (wide Q) + value (wide (qIn s))) ≡ wide (Q + qIn s)
  q_adds Q =
      let small : value (wide (qIn s)) ≡ qIn s = exact (qIn s) (omega (arith, file_q s e)) refl in
      ap (λ (n : ℕ). wide (value (wide Q) + n)) small ∙ wide_add Q (qIn s)

  -- what is asked before it is taken in
  pub taken : (sums : Sums) (i : ℕ) (solved : Solved) → solved ≡ worked_job s → i < pool_limit → sums.freedom ≤ 1300 * i → Taken sums i solved
  taken sums i solved same few light = rw (same ∙ worked) (record {
    few = few;
    freedom-most = light;
    job-freedom = file-freedom s e;
    more = file-beta s e;
  })

  -- the freedom stays light
  pub still_light : (sums : Sums) (i : ℕ) → sums.freedom ≤ 1300 * i → (with_job sums i (worked_job s)).freedom ≤ 1300 * suc i
  unfolding with_job
  still_light sums i light = subst (λ (x : Solved). (with_job sums i x).freedom ≤ 1300 * suc i) (sym worked) (by (eqb i 0))
    where
      by : (t : Bool) → (cond t (with_first job) (with_later sums i job)).freedom ≤ 1300 * suc i
      by true = let l : freedom_in s ≤ 1300 * suc i = omega (arith, file-freedom s e) in l
      by false = let l : sums.freedom + freedom_in s ≤ 1300 * suc i = omega (arith, file-freedom s e, light) in l

  -- job 0
  first : with_job no_sums 0 (worked_job s) ≡ sums_of (vIn s) (beta_in s) (vbeta_in s) (qIn s) (freedom_in s) 1
  unfolding with_job beta
  first = ap (with_job no_sums 0) worked

  -- a later job
  later : (v b vb Q f a i : ℕ) → with_job (sums_of v b vb Q f a) (suc i) (worked_job s) ≡ sums_of v b vb (Q + qIn s) (f + freedom_in s)
      (marked a (suc i) (eqb (vIn s) v && eqb (beta_in s) b))
  unfolding with_job alike_with beta
  later v b vb Q f a i =
      ap (with_job so_far (suc i)) worked
      ∙ (λ j. cond (eqb-suc-zero i j) (with_first job) (with_later so_far (suc i) job))
      ∙ (λ j. record {
        v = v;
        beta = b;
        vbeta = vb;
        q = q_adds Q j;
        freedom = f + freedom_in s;
        alike = marked a (suc i) (eqb (vIn s) v && eqb (beta_in s) b);
      })
    where
      so_far : Sums
      so_far = sums_of v b vb Q f a

-- ---- all that are left

-- the first that differs, with the jobs that are left
abbrev after_all : ℕ → ℕ → ℕ → ℕ → List (List ℕ) → ℕ
after_all v b i a js = cond (eqb a i) (i + alike_jobs v b js) a

-- none is left
after_none : (a i : ℕ) → a ≡ cond (eqb a i) (i + 0) a
after_none a i = by (eqb a i) refl
  where
    by : (t : Bool) → eqb a i ≡ t → a ≡ cond t (i + 0) a
    by true e = let w : a ≡ i = eqb-true a i e in omega arith
    by false e = refl

-- one is taken in
after_one : (a i n : ℕ) (u : Bool) → a ≤ i → cond (eqb (marked a i u) (suc i)) (suc i + n) (marked a i u) ≡ cond (eqb a i) (i + cond u (suc n) 0) a
after_one a i n u m = by (eqb a i) refl u
  where
    by : (t : Bool) → eqb a i ≡ t → (u : Bool)
        → cond (eqb (cond (t && u) (suc i) a) (suc i)) (suc i + n) (cond (t && u) (suc i) a) ≡ cond t (i + cond u (suc n) 0) a
    by true e true = rw (eq-eqb (suc i) (suc i) refl) (omega arith)
    by true e false = let w : a ≡ i = eqb-true a i e in rw (ne_eqb a (suc i) (λ q. omega arith)) (omega arith)
    by false e u = rw (ne_eqb a (suc i) (λ q. omega arith)) refl

-- the answer at the end, by its numbers
abbrev ended : ℕ → ℕ → ℕ → ℕ → ℕ → Pooled
ended vb Q f a count =
    cond (eqb a count) (record { verdict = accepted; index = 0; spreading = spreading_from (wide Q) vb f }) (no_pool (refused 17 0) a)

-- what the jobs that are left make of the sums
abbrev reported : ℕ → ℕ → ℕ → ℕ → ℕ → ℕ → ℕ → List (List ℕ) → Pooled
reported i v b vb Q f a js =
    given (first_bad js)
    (ended vb (Q + pooled_sum qIn js) (f + pooled_sum freedom_in js) (after_all v b i a js) (i + length js))
    (no_pool (first_bad js) (i + bad_job js))

plus_none : (n : ℕ) → n ≡ n + 0
plus_none n = omega arith

from_later : (js : List (List ℕ)) (i v b vb Q f a : ℕ) → a ≤ suc i → pooled_from (suc i) (sums_of v b vb Q f a) js ≡ reported (suc i) v b vb Q f a js
unfolding pooled_from finished first_bad bad_job alike_jobs pooled_sum
from_later [] i v b vb Q f a m = λ j. ended vb (plus_none Q j) (plus_none f j) (after_none a (suc i) j) (plus_none (suc i) j)
from_later (s ∷ js) i v b vb Q f a m =
    by (read_verdict s) refl (from_later js (suc i) v b vb (Q + qIn s) (f + freedom_in s) a' (marked-most a (suc i) u m))
  where
    u : Bool
    u = eqb (vIn s) v && eqb (beta_in s) b

    a' : ℕ
    a' = marked a (suc i) u

    sums : (n x y : ℕ) → n + x + y ≡ n + (x + y)
    sums n x y = omega arith

    on : (n : ℕ) → suc (suc i) + n ≡ suc i + suc n
    on n = omega arith

    by : (w : Verdict) → read_verdict s ≡ w →
        pooled_from (suc (suc i)) (sums_of v b vb (Q + qIn s) (f + freedom_in s) a') js ≡ reported (suc (suc i)) v b vb (Q + qIn s) (f + freedom_in s) a' js →
        given w (pooled_from (suc (suc i)) (with_job (sums_of v b vb Q f a) (suc i) (worked_job s)) js) (no_pool w (suc i)) ≡
        given (w ⨾ first_bad js) (ended vb (Q + (qIn s + pooled_sum qIn js)) (f + (freedom_in s + pooled_sum freedom_in js))
        (cond (eqb a (suc i)) (suc i + cond u (suc (alike_jobs v b js)) 0) a) (suc i + suc (length js)))
        (no_pool (w ⨾ first_bad js) (suc i + given w (suc (bad_job js)) 0))
    by (Ok done) e rest =
        ap (λ (x : Sums). pooled_from (suc (suc i)) x js) (later s e v b vb Q f a i)
        ∙ rest
        ∙ λ j. given (first_bad js) (ended vb (sums Q (qIn s) (pooled_sum qIn js) j) (sums f (freedom_in s) (pooled_sum freedom_in js) j)
        (after_one a (suc i) (alike_jobs v b js) u m j) (on (length js) j)) (no_pool (first_bad js) (on (bad_job js) j))
    by (Err why) e rest = λ j. no_pool (refused why.number why.place) (plus_none (suc i) j)

-- ---- all jobs

-- the spread of sums in their range
spread_pooled : (Q vb f : ℕ) → Ranged Q vb f → spreading_from (wide Q) vb f ≡
    record { q = wide Q; vbeta = vb; freedom = f; hundredths = spread_hundredths Q vb f; spread = spread_of (spread_hundredths Q vb f) f }
spread_pooled Q vb f r =
    let k : hundredths_from (value (wide Q)) vb f ≡ spread_hundredths Q vb f =
    ap (λ (n : ℕ). hundredths_from n vb f) (exact Q (omega (arith, r.q_most)) refl) ∙ hundredths-is Q vb f r in
    λ j. record { q = wide Q; vbeta = vb; freedom = f; hundredths = k j; spread = spread_of (k j) f }

-- the sums of at most 64 accepted jobs keep the range
pooled_ranged : (s : List ℕ) (js : List (List ℕ)) → first_bad (s ∷ js) ≡ accepted → read_verdict s ≡ accepted → length (s ∷ js) ≤ pool_limit
    → Ranged (pooled_sum qIn (s ∷ js)) (vbeta_in s) (pooled_sum freedom_in (s ∷ js))
pooled_ranged s js e one few = record {
  q_most = omega (arith, pooled_q (s ∷ js) e, few);
  vbeta-some = (file-vbeta s one).0;
  vbeta-most = (file-vbeta s one).1;
  freedom-most = omega (arith, pooled_freedom (s ∷ js) e, few);
}

-- they give the report of the definition
pub report_is : (s : List ℕ) (js : List (List ℕ)) → length (s ∷ js) ≤ pool_limit → pooled_from 0 no_sums (s ∷ js) ≡ jobs_answer (s ∷ js)
unfolding pooled_from first_bad bad_job alike_jobs odd_job one_kind jobs_verdict jobs_index pooled_sum
report_is s js few = by (read_verdict s) refl
  where
    b : ℕ
    b = beta_in s

    next : (n : ℕ) → 1 + n ≡ suc n
    next n = omega arith

    -- job 0 has its own v and beta
    own : (n : ℕ) → suc n ≡ cond (eqb (vIn s) (vIn s) && eqb b b) (suc n) 0
    own n = rw (eq-eqb (vIn s) (vIn s) refl, eq-eqb b b refl) refl

    odd : ℕ
    odd = cond (eqb (vIn s) (vIn s) && eqb b b) (suc (alike_jobs (vIn s) b js)) 0

    Q : ℕ
    Q = qIn s + pooled_sum qIn js

    f : ℕ
    f = freedom_in s + pooled_sum freedom_in js

    spreads : Spreading
    spreads = record {
      q = wide Q;
      vbeta = vbeta_in s;
      freedom = f;
      hundredths = spread_hundredths Q (vbeta_in s) f;
      spread = spread_of (spread_hundredths Q (vbeta_in s) f) f;
    }

    -- by the verdict of all jobs, and whether one differs
    told : Verdict → Bool → Pooled
    told w t = record {
      verdict = w ⨾ test t 17 0;
      index = given w (given (test t 17 0) 0 odd) (suc (bad_job js));
      spreading = given (w ⨾ test t 17 0) spreads no_spreading;
    }

    kind : (t : Bool) → Ranged Q (vbeta_in s) f →
        cond t (record { verdict = accepted; index = 0; spreading = spreading_from (wide Q) (vbeta_in s) f }) (no_pool (refused 17 0) odd) ≡ told accepted t
    kind true r = λ j. record { verdict = accepted; index = 0; spreading = spread_pooled Q (vbeta_in s) f r j }
    kind false r = refl

    rest : read_verdict s ≡ accepted → (w : Verdict) → first_bad js ≡ w →
        given w (ended (vbeta_in s) Q f odd (suc (length js))) (no_pool w (suc (bad_job js))) ≡ told w (eqb odd (suc (length js)))
    rest e (Ok done) g = kind (eqb odd (suc (length js))) (pooled_ranged s js (accepts e g) e few)
    rest e (Err why) g = refl

    by : (w : Verdict) → read_verdict s ≡ w →
        given w (pooled_from 1 (with_job no_sums 0 (worked_job s)) js) (no_pool w 0) ≡ record {
          verdict = w ⨾ first_bad js ⨾ test (eqb odd (suc (length js))) 17 0;
          index = given (w ⨾ first_bad js) (given (test (eqb odd (suc (length js))) 17 0) 0 odd) (given w (suc (bad_job js)) 0);
          spreading = given (w ⨾ first_bad js ⨾ test (eqb odd (suc (length js))) 17 0) spreads no_spreading;
        }
    by (Ok done) e =
        ap (λ (x : Sums). pooled_from 1 x js) (first s e)
        ∙ from_later js 0 (vIn s) b (vbeta_in s) (qIn s) (freedom_in s) 1 (omega arith)
        ∙ (λ j. given (first_bad js) (ended (vbeta_in s) Q f ((next (alike_jobs (vIn s) b js) ∙ own (alike_jobs (vIn s) b js)) j) (next (length js) j))
        (no_pool (first_bad js) (next (bad_job js) j)))
        ∙ rest e (first_bad js) refl
    by (Err why) e = refl
