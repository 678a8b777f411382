-- POOLED SPREAD (02, P13). One spread for up to 64 jobs of one v and beta; p may differ. They come as edition 1 files end to end, with a list of lengths.
-- Report the exact sum of Q, the sum of f, and the pooled hundredths by the same rule as one job. Jobs with f = 0 count and add nothing; if the total f is 0
-- there is none. For accepted jobs their order makes no difference. Totals are two words. Refusals: 18 for no jobs, more than 64, or lengths that don't add to
-- the bytes lent, then the first bad job's own number with the job's index, place from its own start, then 17 with the index of the first job whose v or beta
-- differs from job 0's.
-- `pooled_answer` is what the call promises to answer (meaning, Pooled); its index is a third number, beside the number and the place. Assumes nothing.
use Rattle.std.specs.Prelude.{None, List, [], ◌∷◌, ◌++◌, map, ◌≡◌, ℕ, ◌+◌, ◌*◌, ◌^◌, ◌<◌, ◌≤◌, pos, length}
use Rattle.records.specs.declared.Pooled.{Pooled}
use Rattle.records.specs.declared.Spreading.{Spreading}
use Rattle.meaning.specs.Wide.{value}
use Rattle.meaning.specs.Publishing.{spreads, float}
use Rattle.meaning.specs.Refusals.{accepted, refused}
use Rattle.meaning.specs.Calls.{spread_answer, no_spreading}
use Rattle.meaning.specs.File.{head_of, blocks_of, readings_of, read_verdict}
use Rattle.meaning.specs.Pooled.{lengths_sum, vIn, beta_in, pooled_sum, pooled_answer}

-- ---- the words

-- files laid end to end, and the list of their lengths
abbrev pub laid_out : List (List ℕ) → List ℕ
laid_out [] = []
laid_out (s ∷ js) = s ++ laid_out js

abbrev pub lengths_of : List (List ℕ) → List ℕ
lengths_of js = map length js

-- what the call answers of them
abbrev pub pool : List (List ℕ) → Pooled
pool js = pooled_answer (laid_out js) (lengths_of js)

-- what the call of one job gives: the spread, with all that it is made from
abbrev pub one_job : List ℕ → Spreading
one_job s = (spread_answer (head_of s) (blocks_of s) (readings_of s)).spreading

-- of all jobs it is true
abbrev pub Each : (List ℕ → Type 0) → List (List ℕ) → Type 0
Each P [] = Unit {0}
Each P (s ∷ js) = P s × Each P js

-- a job is accepted; it has v and beta of another
abbrev pub Good : List ℕ → Type 0
Good s = read_verdict s ≡ accepted

abbrev pub Alike : List ℕ → List ℕ → Type 0
Alike first s = (vIn s ≡ vIn first) × (beta_in s ≡ beta_in first)

-- one list of jobs is another in some order: neighbours change places, anywhere and any number of times
pub data Reordered : List (List ℕ) → List (List ℕ) → Type 0 where
  untouched : Reordered [] []
  keep : (s : List ℕ) {js ks : List (List ℕ)} → Reordered js ks → Reordered (s ∷ js) (s ∷ ks)
  exchange : (s t : List ℕ) (js : List (List ℕ)) → Reordered (s ∷ t ∷ js) (t ∷ s ∷ js)
  again : {js ks ls : List (List ℕ)} → Reordered js ks → Reordered ks ls → Reordered js ls

-- ---- the report

pub record Reported (first : List ℕ) (rest : List (List ℕ)) (r : Spreading) : Type 0 where
  -- the exact sum of Q, in two words, is the sum over the jobs of what each call of one job gives,
  pub sum_of_Q : value r.q ≡ pooled_sum (λ s. value (one_job s).q) (first ∷ rest)
  -- and so is the sum of f;
  pub sum_of_f : r.freedom ≡ pooled_sum (λ s. (one_job s).freedom) (first ∷ rest)
  -- v·beta is that of job 0
  pub of_job_0 : r.vbeta ≡ (one_job first).vbeta
  -- (nothing is above the two words, and k is a whole number of one word that is an f64 exactly)
  pub two-words : value r.q < 2 ^ 83
  pub one_word : r.hundredths < 2 ^ 53
  -- the pooled hundredths by the same rule as one job: the largest k with k·k·v·beta·f at most 10,000·Q
  pub largest : 0 < r.freedom →
      (r.hundredths * r.hundredths * r.vbeta * r.freedom ≤ 10000 * value r.q)
      × (10000 * value r.q < (r.hundredths + 1) * (r.hundredths + 1) * r.vbeta * r.freedom)
  -- its spread with the total f; if the total f is 0 there is none
  pub some : 0 < r.freedom → r.spread ≡ spreads (float (pos r.hundredths) 100) r.freedom
  pub none : r.freedom ≡ 0 → (r.spread ≡ None) × (r.hundredths ≡ 0)

pub record PooledSpread (first : List ℕ) (rest : List (List ℕ)) : Type 0 where
  -- 1 to 64 accepted jobs of one v and beta are accepted, and no others
  pub accepted_exactly :
      ((pool (first ∷ rest)).verdict ≡ accepted → Each Good (first ∷ rest) × Each (Alike first) rest × (length (first ∷ rest) ≤ 64))
      × (Each Good (first ∷ rest) → Each (Alike first) rest → length (first ∷ rest) ≤ 64 → (pool (first ∷ rest)).verdict ≡ accepted)
  pub reports : (pool (first ∷ rest)).verdict ≡ accepted → Reported first rest (pool (first ∷ rest)).spreading
  -- For accepted jobs their order makes no difference
  pub order : (ks : List (List ℕ)) → Reordered (first ∷ rest) ks → (pool (first ∷ rest)).verdict ≡ accepted → pool ks ≡ pool (first ∷ rest)

-- one job pools to itself; where it is bad, its own number at its own place
pub record OneJobPooled (s : List ℕ) : Type 0 where
  pub itself : read_verdict s ≡ accepted → pool (s ∷ []) ≡ record { verdict = accepted; index = 0; spreading = one_job s }
  pub bad : (k at : ℕ) → read_verdict s ≡ refused k at → pool (s ∷ []) ≡ record { verdict = refused k at; index = 0; spreading = no_spreading }

-- Jobs with f = 0 count and add nothing: such a job has Q = 0
abbrev pub NothingAdded : List ℕ → Type 0
NothingAdded s = read_verdict s ≡ accepted → (one_job s).freedom ≡ 0 → value (one_job s).q ≡ 0

-- ---- the refusals

-- 18 for no jobs, more than 64, or lengths that don't add to the bytes lent, whatever the bytes are
abbrev pub eighteen : Pooled
eighteen = record { verdict = refused 18 0; index = 0; spreading = no_spreading }

pub record PooledCut (bytes lengths : List ℕ) : Type 0 where
  pub no_jobs : lengths ≡ [] → pooled_answer bytes lengths ≡ eighteen
  pub too_many : 64 < length lengths → pooled_answer bytes lengths ≡ eighteen
  pub not-added : (lengths_sum lengths ≡ length bytes → ⊥) → pooled_answer bytes lengths ≡ eighteen

-- the jobs before a job, it, and those after it
pub record PooledRefused (before : List (List ℕ)) (s : List ℕ) (after : List (List ℕ)) : Type 0 where
  -- then the first bad job's own number with the job's index, place from its own start (whatever v and beta the jobs before it have)
  pub first-bad : length (before ++ (s ∷ after)) ≤ 64 → Each Good before → (k at : ℕ) → read_verdict s ≡ refused k at →
      pool (before ++ (s ∷ after)) ≡ record { verdict = refused k at; index = length before; spreading = no_spreading }

-- then 17 with the index of the first job whose v or beta differs from job 0's
pub record PooledOdd (first : List ℕ) (before : List (List ℕ)) (s : List ℕ) (after : List (List ℕ)) : Type 0 where
  pub first-odd : length (first ∷ before ++ (s ∷ after)) ≤ 64 → Each Good (first ∷ before ++ (s ∷ after)) → Each (Alike first) before → (Alike first s → ⊥) →
      pool (first ∷ before ++ (s ∷ after)) ≡ record { verdict = refused 17 0; index = length (first ∷ before); spreading = no_spreading }
