-- What each step of pooling shows: the tests of the lengths, the rooms of a file, the mark of the first job that differs, the answer at the end.
-- Assumes nothing.
use Rattle.std.proofs.Common.{Ok, Err}
use Prim.Native.Nat.{ℕ, suc, ◌+◌, ◌-◌, ◌*◌, ◌≤◌, ◌<◌}
use mathlib.Core.Path.{◌≡◌, refl, sym, ap, subst, ◌∙◌}
use mathlib.Core.Bool.{true, false}
use mathlib.Core.List.{List, [], ◌∷◌}
use native.Mathlib.Omega.{arith}
use borrow.Author.Tests.{eq-eqb, ne_eqb}
use lib.ListN.{length, get_or, drop, take}
use Rattle.records.specs.declared.Pooled.{Pooled}
use Rattle.records.specs.declared.Solved.{Solved}
use Rattle.records.specs.declared.Spreading.{Spreading}
use Rattle.meaning.specs.Refusals.{Verdict, accepted, refused, ◌⨾◌}
use Rattle.meaning.specs.Calls.{given, solved_under, rooms}
use Rattle.meaning.specs.File.{head_of, blocks_of, readings_of, set_of, read_verdict, solve_verdict}
use Rattle.meaning.specs.Pooled.{pool_limit, lengths_sum, jobs_in, pooled_verdict, pooled_index, jobs_answer, pooled_answer}
use Rattle.laws.proofs.Pooled.{file-measures}
use Rattle.analysis.proofs.Accepting.{rooms-all}
use Rattle.arithmetic.specs.Hundredths.{spreading_from}
use Rattle.verdicts.proofs.Told.{refusing, accepting}
use Rattle.job.specs.declared.pooling.Sums.{Sums}
use Rattle.job.specs.Taking.{adds_up, EndToEnd, worked_job, no_pool, no_sums, with_job, Taken, finished, pooled_from}
use Rattle.job.proofs.pooling.Cutting.{sum_on, adds_up_lem, jobs_on, jobs_end, jobs_count}
use Rattle.job.proofs.pooling.Reporting.{taken, still_light, report_is}

-- ---- one file

-- rooms of these lengths are enough for every file
pub enough : (s : List ℕ) (words values deviations : ℕ) → words ≡ 2600 → values ≡ 50 → deviations ≡ 1300 →
    solved_under (solve_verdict s words values deviations) (head_of s) (blocks_of s) (readings_of s) (set_of s) ≡ worked_job s
unfolding solve_verdict
enough s words values deviations w v d =
    ap (λ (x : Verdict). solved_under x (head_of s) (blocks_of s) (readings_of s) (set_of s)) (rw (w, v, d) (by (read_verdict s) refl))
  where
    by : (x : Verdict) → read_verdict s ≡ x → x ⨾ rooms (head_of s) 2600 50 1300 ≡ x
    by (Ok done) e = rooms-all (head_of s) (file-measures s e).design.sizes
    by (Err why) e = refl

-- ---- the answer

module _ (sums : Sums) (count : ℕ) where
  -- 17
  pub finish_odd : (sums.alike ≡ count → ⊥) → no_pool (refused 17 0) sums.alike ≡ finished sums count
  unfolding finished
  finish_odd n = rw (ne_eqb sums.alike count n) refl

  -- the spread
  pub finish_even : sums.alike ≡ count → (x : Spreading) → x ≡ spreading_from sums.q sums.vbeta sums.freedom
      → ◌≡◌ {A = Pooled} (record { verdict = accepted; index = 0; spreading = x }) (finished sums count)
  unfolding finished
  finish_even e x same = rw (eq-eqb sums.alike count e) (λ j. record { verdict = accepted; index = 0; spreading = same j })

-- a bad job ends the pool
pub bad-ends : (i : ℕ) (sums : Sums) (s : List ℕ) (js : List (List ℕ)) → given (read_verdict s) false true ≡ true
    → no_pool (read_verdict s) i ≡ pooled_from i sums (s ∷ js)
unfolding pooled_from
bad-ends i sums s js r = let e = refusing (read_verdict s) r in rw e refl

-- a good one is taken in
pub good_on : (i : ℕ) (sums : Sums) (s : List ℕ) (js : List (List ℕ)) → read_verdict s ≡ accepted
    → pooled_from i sums (s ∷ js) ≡ pooled_from (suc i) (with_job sums i (worked_job s)) js
unfolding pooled_from
good_on i sums s js e = rw e refl

-- after the last
pub all_in : (i : ℕ) (sums : Sums) → pooled_from i sums [] ≡ finished sums i
unfolding pooled_from
all_in i sums = refl

-- ---- the walk over the jobs

-- what holds before job i, which starts at a byte: the rest gives the whole answer
pub record Walk (bytes lengths : List ℕ) (sums : Sums) (start i : ℕ) : Type 0 where
  pub few : i ≤ length lengths
  pub ends : start + lengths_sum (drop i lengths) ≡ length bytes
  pub light : sums.freedom ≤ 1300 * i
  pub same : pooled_from i sums (jobs_in (drop start bytes) (drop i lengths)) ≡ pooled_from 0 no_sums (jobs_in bytes lengths)

module _ (bytes lengths : List ℕ) where
  module _ (sums : Sums) (start i : ℕ) (w : Walk bytes lengths sums start i) (l : i < length lengths) where
    -- job i, and those after it
    abbrev end : ℕ
    end = start + get_or lengths i 0

    abbrev job : List ℕ
    job = take (end - start) (drop start bytes)

    abbrev rest : List (List ℕ)
    rest = jobs_in (drop end bytes) (drop (suc i) lengths)

    -- it ends within the bytes
    pub walk_fits : start + get_or lengths i 0 ≤ length bytes
    walk_fits = omega (arith, w.ends, sum_on lengths i l)

    left : pooled_from i sums (job ∷ rest) ≡ pooled_from 0 no_sums (jobs_in bytes lengths)
    left = sym (ap (pooled_from i sums) (jobs_on bytes lengths i start end l refl)) ∙ w.same

    module _ (solved : Solved) (s : solved ≡ worked_job job) where
      verdict : solved.verdict ≡ read_verdict job
      verdict = ap (λ (x : Solved). x.verdict) s

      -- a bad one ends it
      pub walk-bad : given solved.verdict false true ≡ true → no_pool solved.verdict i ≡ pooled_from 0 no_sums (jobs_in bytes lengths)
      walk-bad r =
          ap (λ (v : Verdict). no_pool v i) verdict
          ∙ bad-ends i sums job rest (ap (λ (v : Verdict). given v false true) (sym verdict) ∙ r)
          ∙ left

      module _ (r : given solved.verdict false true ≡ false) where
        good : read_verdict job ≡ accepted
        good = sym verdict ∙ accepting solved.verdict r

        -- a good one can be taken in
        pub walk-takes : i < pool_limit → Taken sums i solved
        walk-takes few = taken job good sums i solved s few w.light

        -- and goes on
        pub walk-goes : (next : Sums) → next ≡ with_job sums i solved → Walk bytes lengths next end (i + 1)
        walk-goes next n =
            let taken_in : next ≡ with_job sums i (worked_job job) = n ∙ ap (with_job sums i) s in
            let on : suc i ≡ i + 1 = omega arith in
            subst (Walk bytes lengths next end) on (record {
              few = omega arith;
              ends = omega (arith, w.ends, sum_on lengths i l);
              light = subst (λ (x : Sums). x.freedom ≤ 1300 * suc i) (sym taken_in) (still_light job good sums i w.light);
              same = ap (λ (x : Sums). pooled_from (suc i) x rest) taken_in ∙ sym (good_on i sums job rest good) ∙ left;
            })

  -- after the last
  pub walk_ends : (sums : Sums) (start i : ℕ) → Walk bytes lengths sums start i → length lengths ≤ i
      → finished sums i ≡ pooled_from 0 no_sums (jobs_in bytes lengths)
  walk_ends sums start i w m =
      let end : i ≡ length lengths = omega (arith, w.few) in
      sym (all_in i sums) ∙ sym (ap (pooled_from i sums) (jobs_end (drop start bytes) lengths i end)) ∙ w.same

-- ---- all of it

module _ (bytes lengths : List ℕ) where
  -- where the lengths add up the answer is that of the jobs
  pub pool-is : adds_up (length bytes) lengths ≡ true → pooled_from 0 no_sums (jobs_in bytes lengths) ≡ pooled_answer bytes lengths
  unfolding pooled_verdict pooled_index jobs_in
  pool-is e = report lengths (adds_up_lem (length bytes) lengths e) ∙ sym (rw e refl)
    where
      report : (ls : List ℕ) → EndToEnd (length bytes) ls → pooled_from 0 no_sums (jobs_in bytes ls) ≡ jobs_answer (jobs_in bytes ls)
      report [] ends = absurd (omega (arith, ends.some))
      report (len ∷ ls) ends = report_is (take len bytes) (jobs_in (drop len bytes) ls) (omega (arith, jobs_count (drop len bytes) ls, ends.most))

  -- else it is 18
  pub pool-none : adds_up (length bytes) lengths ≡ false → no_pool (refused 18 0) 0 ≡ pooled_answer bytes lengths
  unfolding pooled_verdict pooled_index
  pool-none e = rw e refl
