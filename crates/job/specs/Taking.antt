-- Jobs taken into a pool one after another: what is pooled so far, and the answer after the last. Assumes nothing.
use Rattle.std.specs.Prelude.{ℕ, suc, ◌+◌, ◌-◌, ◌*◌, ◌≤◌, ◌<◌, Bool, cond, ◌&&◌, List, [], ◌∷◌, ◌≡◌, eqb, ltb, leb, length}
use Rattle.records.specs.declared.Solved.{Solved}
use Rattle.records.specs.declared.Pooled.{Pooled}
use Rattle.meaning.specs.Wide.{value, wide, wide_zero}
use Rattle.meaning.specs.Refusals.{Verdict, accepted, refused}
use Rattle.meaning.specs.Calls.{given, solved_under, no_spreading}
use Rattle.meaning.specs.File.{head_of, blocks_of, readings_of, set_of, read_verdict}
use Rattle.meaning.specs.Pooled.{pool_limit, lengths_sum}
use Rattle.arithmetic.specs.Hundredths.{spreading_from}
use Rattle.job.specs.declared.pooling.Sums.{Sums}

-- whether there are jobs, at most 64, and their lengths add to so many bytes
abbrev pub adds_up : ℕ → List ℕ → Bool
adds_up total lengths = ltb 0 (length lengths) && leb (length lengths) pool_limit && eqb (lengths_sum lengths) total

-- the same as facts
pub record EndToEnd (total : ℕ) (lengths : List ℕ) : Type 0 where
  pub some : 0 < length lengths
  pub most : length lengths ≤ pool_limit
  pub sum : lengths_sum lengths ≡ total

-- one file worked out
abbrev pub worked_job : List ℕ → Solved
worked_job s = solved_under (read_verdict s) (head_of s) (blocks_of s) (readings_of s) (set_of s)

-- a refusal with its index, and zeros
abbrev pub no_pool : Verdict → ℕ → Pooled
no_pool verdict index = record { verdict = verdict; index = index; spreading = no_spreading }

-- nothing is pooled
abbrev pub no_sums : Sums
no_sums = record { v = 0; beta = 0; vbeta = 0; q = wide_zero; freedom = 0; alike = 0 }

-- how many jobs from the first on are alike, with job i of this v and beta
unfoldable pub alike_with : Sums → ℕ → ℕ → ℕ → ℕ
alike_with sums i v beta = cond (eqb sums.alike i && (eqb v sums.v && eqb beta sums.beta)) (suc i) sums.alike

-- the sums of job 0, and with a later job i in them
abbrev pub with_first : Solved → Sums
with_first solved = let p = solved.parameters in let t = solved.spreading in record {
  v = p.v;
  beta = p.l2 - p.l1;
  vbeta = t.vbeta;
  q = t.q;
  freedom = t.freedom;
  alike = 1;
}

abbrev pub with_later : Sums → ℕ → Solved → Sums
with_later sums i solved = let p = solved.parameters in let t = solved.spreading in record {
  v = sums.v;
  beta = sums.beta;
  vbeta = sums.vbeta;
  q = wide (value sums.q + value t.q);
  freedom = sums.freedom + t.freedom;
  alike = alike_with sums i p.v (p.l2 - p.l1);
}

unfoldable pub with_job : Sums → ℕ → Solved → Sums
with_job sums i solved = cond (eqb i 0) (with_first solved) (with_later sums i solved)

-- what a job that is taken in keeps to
pub record Taken (sums : Sums) (i : ℕ) (solved : Solved) : Type 0 where
  pub few : i < pool_limit
  pub freedom-most : sums.freedom ≤ 1300 * i
  pub job-freedom : solved.spreading.freedom ≤ 1300
  pub more : solved.parameters.l1 ≤ solved.parameters.l2

-- the answer after the last of so many jobs
unfoldable pub finished : Sums → ℕ → Pooled
finished sums count = cond (eqb sums.alike count)
    (record { verdict = accepted; index = 0; spreading = spreading_from sums.q sums.vbeta sums.freedom })
    (no_pool (refused 17 0) sums.alike)

-- the answer after the jobs that are left, from job i on
unfoldable pub pooled_from : ℕ → Sums → List (List ℕ) → Pooled
pooled_from i sums [] = finished sums i
pooled_from i sums (s ∷ js) = given (read_verdict s) (pooled_from (suc i) (with_job sums i (worked_job s)) js) (no_pool (read_verdict s) i)
