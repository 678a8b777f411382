-- The pooled spread at its boundaries, rows of a table under one theorem: the sums with their carry, every refusal with its place and its index, every two
-- neighbouring ones in one call. The figures were worked out apart from these definitions. Assumes nothing.
use Prim.Native.Nat.{ℕ}
use mathlib.Core.Bool.{true, false}
use mathlib.Core.List.{List, [], ◌∷◌, ◌++◌, map, replicate}
use mathlib.Core.Path.{◌≡◌, refl}
use lib.IntN.{ℤ, pos, negsuc}
use lib.Ieee.{binary64, round}
use lib.ListN.{set, take, length}
use Rattle.algebra.specs.Ranges.{sum, sum_ℕ, first_from}
use Rattle.meaning.specs.Design.{sized, occ, plus, left, right, company, opposition, balanced, beta, field_prime, digit_sum}
use Rattle.meaning.specs.Analysis.{total, members, squared_readings, squared_totals, qOf, root, spread_hundredths}
use Rattle.meaning.specs.Wide.{wide}
use Rattle.meaning.specs.Publishing.{float_zero, spread_value, spread_freedom}
use Rattle.meaning.specs.Refusals.{number, place, offender, far_reading}
use Rattle.meaning.specs.Calls.{contents}
use Rattle.meaning.specs.File.{big, numbers_at, field_verdict, fields, read_verdict}
use Rattle.meaning.specs.Writing.{bytes_of, readings_body, file_of}
use Rattle.meaning.specs.Pooled.{
  jobs_in,
  lengths_sum,
  first_bad,
  bad_job,
  alike_jobs,
  odd_job,
  one_kind,
  jobs_verdict,
  pooled_verdict,
  jobs_index,
  pooled_index,
  pooled_sum,
  pooled_answer,
}
use Rattle.records.specs.declared.Pooled.{Pooled}
use Rattle.meaning.proofs.Rows.{Row, holding, floats, head, every}
use Rattle.meaning.proofs.Examples.{file_a, file_e}

-- one a side: v 5 and beta 1 as example A; v 8 and beta 1 as example E, whose f is 0; v 4 and beta 2, with v·beta as E
abbrev file_p : List ℕ
file_p = file_of (head 5 0 1 2) (0 ∷ 1 ∷ 0 ∷ 2 ∷ []) (pos 3 ∷ negsuc 0 ∷ pos 0 ∷ pos 0 ∷ pos 2 ∷ pos 1 ∷ pos 0 ∷ pos 0 ∷ negsuc 3 ∷ pos 0 ∷ []) 3 (pos 0)

abbrev file_f : List ℕ
file_f = file_of (head 7 1 1 4) (0 ∷ 1 ∷ 0 ∷ 2 ∷ 0 ∷ 3 ∷ 0 ∷ 255 ∷ []) (pos 1 ∷ replicate 27 (pos 0)) 3 (pos 0)

abbrev file_h : List ℕ
file_h = file_of (head 4 0 1 3) (0 ∷ 1 ∷ 0 ∷ 1 ∷ 0 ∷ 2 ∷ []) (pos 1 ∷ replicate 11 (pos 0)) 3 (pos 0)

-- the design of example A twice: v 5, beta 2
abbrev file_g : List ℕ
file_g = file_of (head 5 0 2 2) (1 ∷ 4 ∷ 2 ∷ 3 ∷ 1 ∷ 4 ∷ 2 ∷ 3 ∷ []) (pos 1 ∷ replicate 9 (pos 0)) 3 (pos 0)

-- three objects with the largest readings: 52 of them are the first whose Q passes a word
abbrev file_l : List ℕ
file_l = file_of (head 3 0 1 1) (0 ∷ 1 ∷ []) (replicate 3 (pos 200000000)) 3 (pos 0)

-- jobs laid end to end
abbrev laid_out : List (List ℕ) → List ℕ
laid_out [] = []
laid_out (s ∷ js) = s ++ laid_out js

abbrev pool : List (List ℕ) → Pooled
pool js = pooled_answer (laid_out js) (map length js)

-- number, index, place; Q high, Q low, v·beta, f, k, f of the enum
abbrev figures : Pooled → List ℕ
figures r = let s = r.spreading in number r.verdict ∷ r.index ∷ place r.verdict
    ∷ s.q.high ∷ s.q.low ∷ s.vbeta ∷ s.freedom ∷ s.hundredths ∷ spread_freedom s.spread ∷ []

-- a refusal: all else is zero
abbrev refusal : ℕ → ℕ → ℕ → List ℕ
refusal k i at = k ∷ i ∷ at ∷ replicate 6 0

abbrev says : List (List ℕ) → List ℕ → Row
says js xs = holding (figures (pool js)) xs

abbrev lent : List ℕ → List ℕ → List ℕ → Row
lent bytes lengths xs = holding (figures (pooled_answer bytes lengths)) xs

unfoldable pub table : List Row
table =
    -- the sums; p may differ; the order of the jobs makes no difference; one job pools to itself
    says (file_a ∷ []) (0 ∷ 0 ∷ 0 ∷ 0 ∷ 25 ∷ 5 ∷ 1 ∷ 223 ∷ 1 ∷ [])
    ∷ says (file_a ∷ file_p ∷ []) (0 ∷ 0 ∷ 0 ∷ 0 ∷ 108 ∷ 5 ∷ 7 ∷ 175 ∷ 7 ∷ [])
    ∷ says (file_p ∷ file_a ∷ []) (0 ∷ 0 ∷ 0 ∷ 0 ∷ 108 ∷ 5 ∷ 7 ∷ 175 ∷ 7 ∷ [])
    -- a job with f = 0 counts and adds nothing; with a total f of 0 there is none
    ∷ says (file_e ∷ file_f ∷ []) (0 ∷ 0 ∷ 0 ∷ 0 ∷ 6 ∷ 8 ∷ 21 ∷ 18 ∷ 21 ∷ [])
    ∷ says (file_f ∷ file_e ∷ []) (0 ∷ 0 ∷ 0 ∷ 0 ∷ 6 ∷ 8 ∷ 21 ∷ 18 ∷ 21 ∷ [])
    ∷ says (file_e ∷ file_e ∷ []) (0 ∷ 0 ∷ 0 ∷ 0 ∷ 0 ∷ 8 ∷ 0 ∷ 0 ∷ 0 ∷ [])
    ∷ floats (spread_value (pool (file_e ∷ [])).spreading.spread) float_zero 1
    ∷ floats (spread_value (pool (file_a ∷ file_p ∷ [])).spreading.spread) (round binary64 false 175 100) 1
    -- the largest number of jobs, and their Q past one word
    ∷ says (replicate 64 file_l) (0 ∷ 0 ∷ 0 ∷ 1 ∷ 4593255926290448384 ∷ 3 ∷ 64 ∷ 34641016151 ∷ 64 ∷ [])
    ∷ says (replicate 65 file_l) (refusal 18 0 0)
    -- no jobs; lengths that do not add to the bytes lent, and that do so only where 64 bits wrap
    ∷ says [] (refusal 18 0 0)
    ∷ lent file_a (55 ∷ []) (refusal 18 0 0)
    ∷ lent file_a (57 ∷ []) (refusal 18 0 0)
    ∷ lent file_a (18446744073709551615 ∷ 57 ∷ []) (refusal 18 0 0)
    ∷ lent (file_a ++ file_a) (111 ∷ []) (refusal 18 0 0)
    -- a length of 0 is that job's own 1 at 0; a cut at the wrong byte is the job's own refusal too
    ∷ lent [] (0 ∷ []) (refusal 1 0 0)
    ∷ lent file_a (56 ∷ 0 ∷ []) (refusal 1 1 0)
    ∷ lent file_a (0 ∷ 56 ∷ []) (refusal 1 0 0)
    ∷ lent (file_a ++ file_a) (55 ∷ 57 ∷ []) (refusal 1 0 33)
    ∷ lent (file_a ++ file_a) (57 ∷ 55 ∷ []) (refusal 9 0 56)
    -- the first bad job's own number, with its index, its place from its own start
    ∷ says (file_a ∷ set file_a 10 5 ∷ set file_a 24 0 ∷ []) (refusal 5 1 10)
    ∷ says (file_a ∷ file_a ∷ set file_a 24 0 ∷ set file_a 10 5 ∷ []) (refusal 7 2 14)
    ∷ says (file_a ∷ set file_a 24 1 ∷ []) (refusal 11 1 14)
    ∷ says (file_a ∷ file_a ∷ file_a ∷ set file_a 52 127 ∷ []) (refusal 8 3 52)
    ∷ says (file_a ∷ set file_a 13 0 ∷ []) (refusal 6 1 0)
    -- 17, with the index of the first that differs in v, in beta, or in both with one v·beta; a job with f = 0 too
    ∷ says (file_a ∷ file_p ∷ file_g ∷ []) (refusal 17 2 0)
    ∷ says (file_g ∷ file_a ∷ file_g ∷ []) (refusal 17 1 0)
    ∷ says (file_e ∷ file_f ∷ file_h ∷ []) (refusal 17 2 0)
    ∷ says (file_a ∷ file_e ∷ file_p ∷ file_e ∷ []) (refusal 17 1 0)
    ∷ says (file_e ∷ file_a ∷ []) (refusal 17 1 0)
    -- 18 before a bad job, and a bad job, also a later one, before 17
    ∷ lent (set file_a 10 5) (55 ∷ []) (refusal 18 0 0)
    ∷ says (file_a ∷ file_g ∷ set file_a 10 5 ∷ []) (refusal 5 2 10)
    ∷ says (replicate 65 (set file_l 3 2)) (refusal 18 0 0)
    ∷ []

pub pools : every table ≡ true
unfolding table sized occ field_prime digit_sum plus left right company opposition balanced beta total members squared_readings squared_totals qOf root spread_hundredths wide offender far_reading contents big numbers_at field_verdict fields read_verdict bytes_of readings_body file_of sum sum_ℕ first_from round jobs_in lengths_sum first_bad bad_job alike_jobs odd_job one_kind jobs_verdict pooled_verdict jobs_index pooled_index pooled_sum
pools = refl
