-- The pooled spread (02, P13): up to 64 files of the first edition, laid end to end, with a list of their lengths. Assumes nothing.
use Rattle.std.specs.Prelude.{ℕ, suc, ◌+◌, cond, ◌&&◌, List, [], ◌∷◌, get_or, take, drop, length, eqb, ltb, leb}
use Rattle.records.specs.declared.Spreading.{Spreading}
use Rattle.records.specs.declared.Pooled.{Pooled}
use Rattle.meaning.specs.Design.{objects, beta}
use Rattle.meaning.specs.Analysis.{vbeta, qOf, freedom, spread_hundredths}
use Rattle.meaning.specs.Wide.{wide}
use Rattle.meaning.specs.Publishing.{spread_of}
use Rattle.meaning.specs.Refusals.{Verdict, accepted, test, ◌⨾◌}
use Rattle.meaning.specs.Calls.{given, no_spreading}
use Rattle.meaning.specs.File.{head_of, blocks_of, readings_of, read_verdict}

-- the largest number of jobs
abbrev pub pool_limit : ℕ
pool_limit = 64

-- the jobs: the bytes, cut by the list of lengths
unfoldable pub jobs_in : List ℕ → List ℕ → List (List ℕ)
jobs_in bytes [] = []
jobs_in bytes (len ∷ lengths) = take len bytes ∷ jobs_in (drop len bytes) lengths

-- how many bytes the lengths ask for
unfoldable pub lengths_sum : List ℕ → ℕ
lengths_sum [] = 0
lengths_sum (len ∷ lengths) = len + lengths_sum lengths

-- ---- one job

-- v, beta, v·beta, Q and f of what a file holds
abbrev pub vIn : List ℕ → ℕ
vIn s = objects (head_of s)

abbrev pub beta_in : List ℕ → ℕ
beta_in s = beta (head_of s) (blocks_of s)

abbrev pub vbeta_in : List ℕ → ℕ
vbeta_in s = vbeta (head_of s) (blocks_of s)

abbrev pub qIn : List ℕ → ℕ
qIn s = qOf (head_of s) (blocks_of s) (readings_of s)

abbrev pub freedom_in : List ℕ → ℕ
freedom_in s = freedom (head_of s)

-- ---- refusals

-- 18: there are jobs, at most 64, and their lengths add to the bytes lent
abbrev pub end_to_end : List ℕ → List ℕ → Verdict
end_to_end bytes lengths = test (ltb 0 (length lengths) && leb (length lengths) pool_limit && eqb (lengths_sum lengths) (length bytes)) 18 0

-- the first bad job's own refusal, its place from its own start
unfoldable pub first_bad : List (List ℕ) → Verdict
first_bad [] = accepted
first_bad (s ∷ js) = read_verdict s ⨾ first_bad js

-- its index: how many jobs stand before it
unfoldable pub bad_job : List (List ℕ) → ℕ
bad_job [] = 0
bad_job (s ∷ js) = given (read_verdict s) (suc (bad_job js)) 0

-- of some jobs, how many stand before the first whose v or beta is not this
unfoldable pub alike_jobs : ℕ → ℕ → List (List ℕ) → ℕ
alike_jobs v b [] = 0
alike_jobs v b (s ∷ js) = cond (eqb (vIn s) v && eqb (beta_in s) b) (suc (alike_jobs v b js)) 0

-- job 0
abbrev pub first_job : List (List ℕ) → List ℕ
first_job js = get_or js 0 []

-- the index of the first job whose v or beta differs from job 0's; how many jobs there are where none does
unfoldable pub odd_job : List (List ℕ) → ℕ
odd_job js = alike_jobs (vIn (first_job js)) (beta_in (first_job js)) js

-- 17: all jobs have v and beta of job 0
unfoldable pub one_kind : List (List ℕ) → Verdict
one_kind js = test (eqb (odd_job js) (length js)) 17 0

-- every job's own refusal comes before any 17
unfoldable pub jobs_verdict : List (List ℕ) → Verdict
jobs_verdict js = first_bad js ⨾ one_kind js

unfoldable pub pooled_verdict : List ℕ → List ℕ → Verdict
pooled_verdict bytes lengths = end_to_end bytes lengths ⨾ jobs_verdict (jobs_in bytes lengths)

-- the index beside it, a number of its own: of the bad job, else of the first one that differs; 0 with 18 and where the call accepts
unfoldable pub jobs_index : List (List ℕ) → ℕ
jobs_index js = given (first_bad js) (given (one_kind js) 0 (odd_job js)) (bad_job js)

unfoldable pub pooled_index : List ℕ → List ℕ → ℕ
pooled_index bytes lengths = given (end_to_end bytes lengths) (jobs_index (jobs_in bytes lengths)) 0

-- ---- the report

-- a figure, added over the jobs
unfoldable pub pooled_sum : (List ℕ → ℕ) → List (List ℕ) → ℕ
pooled_sum figure [] = 0
pooled_sum figure (s ∷ js) = figure s + pooled_sum figure js

-- the sum of Q, v·beta of job 0, the sum of f, and the hundredths by the rule of one job; none where the sum of f is 0
abbrev pub pooled_spreading : List (List ℕ) → Spreading
pooled_spreading js = let Q = pooled_sum qIn js in let vb = vbeta_in (first_job js) in let f = pooled_sum freedom_in js in let k = spread_hundredths Q vb f in
    record { q = wide Q; vbeta = vb; freedom = f; hundredths = k; spread = spread_of k f }

-- the answer of some jobs, and that of the bytes and lengths that are lent
abbrev pub jobs_answer : List (List ℕ) → Pooled
jobs_answer js = let verdict = jobs_verdict js in
    record { verdict = verdict; index = jobs_index js; spreading = given verdict (pooled_spreading js) no_spreading }

abbrev pub pooled_answer : List ℕ → List ℕ → Pooled
pooled_answer bytes lengths = let verdict = pooled_verdict bytes lengths in
    record { verdict = verdict; index = pooled_index bytes lengths; spreading = given verdict (pooled_spreading (jobs_in bytes lengths)) no_spreading }
