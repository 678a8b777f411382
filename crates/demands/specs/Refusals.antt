-- The refusal table of the request, number by number: each test with its number and its place, and the listed order for a file. Assumes nothing.
-- `test t k at` refuses by the number k at the place `at` unless t holds; `a ⨾ b` is the first of the two that refuses. `offender` is the first byte of
-- the initial blocks that offends, and `far_reading` the first reading out of range, or how many there are where there is none.
use Rattle.std.specs.Prelude.{Bool, ◌&&◌, List, ◌⊎◌, ◌≡◌, ℕ, ◌+◌, ◌*◌, ◌^◌, ◌<◌, eqb, ltb, leb, nat_abs, length, get_or}
use Rattle.meaning.specs.Design.{blocks, sized, list_length, balanced}
use Rattle.meaning.specs.Analysis.{members}
use Rattle.meaning.specs.Refusals.{Verdict, accepted, refused, test, ◌⨾◌, offender, far_reading, sum_limit}
use Rattle.meaning.specs.File.{big, head_of, second_at, third_at, fourth_at, end_at, blocks_at, readings_at}
use Rattle.demands.specs.Job.{Job, job_in, v, b}

-- ---- a field at the place `at`

-- 1: the field's three-byte start, or its body, runs past the end
abbrev pub start : List ℕ → ℕ → Verdict
start s at = test (leb (at + 3) (length s)) 1 at

abbrev pub body : List ℕ → ℕ → ℕ → Verdict
body s at len = test (leb (at + 3 + len) (length s)) 1 at

-- 2: another tag stands there
abbrev pub tagged : List ℕ → ℕ → ℕ → Verdict
tagged s at tag = test (eqb (get_or s at 0) tag) 2 at

-- 3: the length is not the one required
abbrev pub long : List ℕ → ℕ → ℕ → Verdict
long s at len = test (eqb (big s (at + 1) 2) len) 3 at

-- ---- the parts of a job

module _ (j : Job) where
  -- no object is out of range, is ∞ with flag 0 or 2, or was already in its block, either side
  abbrev pub blocks_clean : Bool
  blocks_clean = eqb (offender j.head j.initial) (length j.initial)

  -- the restraint set is not empty and has no bit at v or above, and M is in its range
  abbrev pub restraint_fits : Bool
  restraint_fits = ltb 0 j.set && ltb j.set (2 ^ v j) && leb (nat_abs j.sum) sum_limit

  -- the restraint has two objects at least: one standard is too few
  abbrev pub two_standards : Bool
  two_standards = leb 2 (members (v j) j.set)

  -- no reading is out of range
  abbrev pub readings_fit : Bool
  readings_fit = eqb (far_reading j.readings) (length j.readings)

  -- 4: a size is broken
  abbrev pub four : Verdict
  four = test (sized j.head) 4 0

  -- 3: a slice has the wrong length: the initial blocks, the readings
  abbrev pub three_blocks : Verdict
  three_blocks = test (eqb (length j.initial) (list_length j.head)) 3 0

  abbrev pub three_readings : Verdict
  three_readings = test (eqb (length j.readings) (b j)) 3 0

  -- 5: the blocks are not clean; the place is the first offender's index
  abbrev pub five : Verdict
  five = test blocks_clean 5 (offender j.head j.initial)

  -- 6: the developed design is unbalanced
  abbrev pub six : Verdict
  six = test (balanced j.head j.initial) 6 0

  -- 7: the restraint does not fit
  abbrev pub seven : Verdict
  seven = test restraint_fits 7 0

  -- 11: one standard is too few
  abbrev pub eleven : Verdict
  eleven = test two_standards 11 0

  -- 8: a reading is out of range; the place is the first one's index
  abbrev pub eight : Verdict
  eight = test readings_fit 8 (far_reading j.readings)

-- 5: of the objects, initial blocks or readings there is none of the number i; the place is that number
abbrev pub five_for : ℕ → ℕ → Verdict
five_for i count = test (ltb i count) 5 i

-- 10: a lent buffer is too short
abbrev pub ten : ℕ → ℕ → Verdict
ten len want = test (leb want len) 10 0

-- ---- a file

-- the tests in file order: each field's start, tag, length, body; 4 right after the first; 9 after the fourth; then 5 at that byte, 6, 7 and 11 at the
-- field's start, and 8 at the reading's first byte
abbrev pub file_tests : List ℕ → Verdict
file_tests s =
    start s 0 ⨾ tagged s 0 1 ⨾ long s 0 4 ⨾ body s 0 4
    ⨾ four (job_in s)
    ⨾ start s second_at ⨾ tagged s second_at 2 ⨾ long s second_at (list_length (head_of s)) ⨾ body s second_at (list_length (head_of s))
    ⨾ start s (third_at s) ⨾ tagged s (third_at s) 3 ⨾ long s (third_at s) 16 ⨾ body s (third_at s) 16
    ⨾ start s (fourth_at s) ⨾ tagged s (fourth_at s) 4 ⨾ long s (fourth_at s) (4 * b (job_in s)) ⨾ body s (fourth_at s) (4 * b (job_in s))
    ⨾ test (eqb (end_at s) (length s)) 9 (end_at s)
    ⨾ test (blocks_clean (job_in s)) 5 (blocks_at + offender (head_of s) (job_in s).initial)
    ⨾ six (job_in s)
    ⨾ test (restraint_fits (job_in s)) 7 (third_at s)
    ⨾ test (two_standards (job_in s)) 11 (third_at s)
    ⨾ test (readings_fit (job_in s)) 8 (readings_at s + 4 * far_reading (job_in s).readings)

-- a field of a file starts here
pub data FieldStart (s : List ℕ) : ℕ → Type 0 where
  first : FieldStart s 0
  second : FieldStart s second_at
  third : FieldStart s (third_at s)
  fourth : FieldStart s (fourth_at s)

-- the numbers with their places in a file; 10 is for a call that is lent rooms
pub data Listed (s : List ℕ) : ℕ → ℕ → Type 0 where
  past_the_end : (at : ℕ) → FieldStart s at → Listed s 1 at
  other_tag : (at : ℕ) → FieldStart s at → Listed s 2 at
  other_length : (at : ℕ) → FieldStart s at → Listed s 3 at
  size : Listed s 4 0
  object : (i : ℕ) → i < list_length (head_of s) → Listed s 5 (blocks_at + i)
  unbalanced : Listed s 6 0
  restraint : Listed s 7 (third_at s)
  one_standard : Listed s 11 (third_at s)
  reading : (k : ℕ) → k < blocks (head_of s) → Listed s 8 (readings_at s + 4 * k)
  bytes_after : Listed s 9 (end_at s)
  short-room : Listed s 10 0

-- a verdict accepts, or refuses by a listed number at a listed place
abbrev pub Ends : List ℕ → Verdict → Type 0
Ends s verdict = (verdict ≡ accepted) ⊎ ((k : ℕ) × (at : ℕ) × (verdict ≡ refused k at) × Listed s k at)
