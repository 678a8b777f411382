-- PRACTICE READINGS (02, P11). Trainees need readings from weights whose values they know. Given whole true values within ±3,000 counts, a 32-bit start
-- number and a width w from 0 to 8, each reading is the left sum minus the right sum plus noise. The generator turns x into 1664525·x + 1013904223, wrapping
-- at 32 bits, stepped once per block before use; noise is the top w bits less half of their range, and 0 for w = 0. With w = 0 and M the true sum of the
-- restraint, the exact values are the true values and every deviation is 0. With any w each reading is within the job's range. Refusals: 6 applies here;
-- 16 for a true value or width out of range, after 6 and before 7.
-- What `practice` answers and leaves is equated to `practice_verdict` and `practice_after` in docs/PROMISES.md, what `practice_file` does to
-- `practice_file_answer` and `practice_file_after`. `along f xs` is the sum of f over the list xs. Assumes nothing.
use Rattle.std.specs.Prelude.{
  ◌&&◌,
  List,
  ◌≡◌,
  ℕ,
  suc,
  ◌+◌,
  ◌-◌,
  ◌*◌,
  ◌/◌,
  ◌%◌,
  ◌^◌,
  ◌≤◌,
  ◌<◌,
  eqb,
  leb,
  ℤ,
  pos,
  nat_abs,
  ◌+ℤ◌,
  ◌-ℤ◌,
  length,
  get_or,
  take,
  drop,
}
use Rattle.algebra.specs.Ranges.{all}
use Rattle.records.specs.declared.Head.{Head}
use Rattle.meaning.specs.Design.{objects, left, right}
use Rattle.meaning.specs.Analysis.{reading, restrained, along, deviation_of, qOf, spread_hundredths_of, freedom}
use Rattle.meaning.specs.Publishing.{no_spread, spread_of}
use Rattle.meaning.specs.Fractions.{◌=ᶠ◌, whole}
use Rattle.meaning.specs.Refusals.{Verdict, accepted, test, ◌⨾◌, reading_limit}
use Rattle.meaning.specs.Writing.{ReadsAs}
use Rattle.meaning.specs.Practice.{
  state,
  noise,
  practice_verdict,
  practice_after,
  practice_readings,
  practice_file_verdict,
  practice_file_answer,
  practice_file_after,
}
use Rattle.demands.specs.Job.{Job, v, b, verdict_of, exact}
use Rattle.demands.specs.Refusals.{four, three_blocks, five, six, seven, eleven, ten}
use Rattle.demands.specs.Outcomes.{OnRefusal, WritesOnly}

-- ---- the generator and its noise, for any start number

pub record Generator (start : ℕ) : Type 0 where
  -- The generator turns x into 1664525·x + 1013904223, wrapping at 32 bits, stepped once per block before use
  pub first_block : state start 0 ≡ (1664525 * start + 1013904223) % 2 ^ 32
  pub next-block : (k : ℕ) → state start (suc k) ≡ (1664525 * state start k + 1013904223) % 2 ^ 32
  -- (so it is always a 32-bit number, whose top w bits are its quotient by 2^(32 - w))
  pub of_32_bits : (k : ℕ) → state start k < 2 ^ 32
  -- Noise is the top w bits less half of their range,
  pub top_bits : (w k : ℕ) → 0 < w → noise w (state start k) ≡ pos (state start k / 2 ^ (32 - w)) -ℤ pos (2 ^ (w - 1))
  -- and 0 for w = 0
  pub no_bits : (k : ℕ) → noise 0 (state start k) ≡ pos 0

-- ---- practice: what the calls take. The first takes no restraint set

pub record Practice : Type 0 where
  pub head : Head
  pub initial : List ℕ
  pub truths : List ℤ
  pub start : ℕ
  pub width : ℕ
  pub set : ℕ

module _ (x : Practice) where
  open x use {head as h, initial as d, truths as u, start as x₀, width as w, set as set}

  -- the true value of object i
  abbrev pub true : ℕ → ℤ
  true i = get_or u i (pos 0)

  -- its job: the practice readings, and M the true sum of the restraint
  abbrev pub practice_job : Job
  practice_job = record { head = h; initial = d; readings = practice_readings h d u x₀ w; set = set; sum = restrained (objects h) set true }

  -- how many bytes its file has
  abbrev size : ℕ
  size = 32 + 2 * h.p * h.m + 4 * (h.m * h.n)

  -- 3: there are not as many true values as objects
  abbrev pub three_truths : Verdict
  three_truths = test (eqb (length u) (v practice_job)) 3 0

  -- 16: a true value is not within ±3,000, or the width is above 8
  abbrev pub sixteen : Verdict
  sixteen = test (all (length u) (λ i. leb (nat_abs (true i)) 3000) && leb w 8) 16 0

  -- the tests of practice, with no room
  abbrev pub tests : Verdict
  tests = four practice_job ⨾ three_blocks practice_job ⨾ three_truths ⨾ five practice_job ⨾ six practice_job ⨾ sixteen

  pub record PracticeReadings : Type 0 where
    -- Each reading is the left sum minus the right sum plus noise
    pub left_minus_right : (k : ℕ) → k < b practice_job →
        reading practice_job.readings k ≡ along true (left h d k) -ℤ along true (right h d k) +ℤ noise w (state x₀ k)
    pub as_many_as_blocks : length practice_job.readings ≡ b practice_job
    -- Refusals: 6 applies here; 16 after 6 and before 7, and 10 last
    pub order : (len : ℕ) → practice_verdict h d u w len ≡ tests ⨾ ten len (b practice_job)
    pub file-order : (len : ℕ) → practice_file_verdict h d u w set len ≡ tests ⨾ seven practice_job ⨾ eleven practice_job ⨾ ten len size
    -- (a refusal leaves the room as it was and hands back no length)
    pub leaves : (room : List ℤ) → OnRefusal (practice_verdict h d u w (length room)) (practice_after h d u x₀ w room) room
    pub file-leaves : (out : List ℕ) → OnRefusal (practice_file_verdict h d u w set (length out)) (practice_file_after h d u x₀ w set out) out
    pub file_hands_back : (len : ℕ) → let verdict = practice_file_verdict h d u w set len in
        OnRefusal verdict (practice_file_answer h d u w set len) (record { verdict = verdict; length = 0 })
    -- The readings are laid into lent room,
    pub laid : (room : List ℤ) → practice_verdict h d u w (length room) ≡ accepted →
        WritesOnly room (practice_after h d u x₀ w room) 0 (b practice_job) (reading practice_job.readings)
    -- and the whole job is written as a file, which reads as the practice job; later bytes stay
    pub written : (out : List ℕ) → practice_file_verdict h d u w set (length out) ≡ accepted →
        (practice_file_answer h d u w set (length out) ≡ record { verdict = accepted; length = size })
        × ReadsAs (take size (practice_file_after h d u x₀ w set out)) h d practice_job.readings set practice_job.sum
        × (drop size (practice_file_after h d u x₀ w set out) ≡ drop size out)
    -- With any w each reading is within the job's range (and far within: 50 true values and the noise)
    pub in_range_lem : tests ≡ accepted → (k : ℕ) → k < b practice_job → nat_abs (reading practice_job.readings k) ≤ reading_limit
    pub far_within : tests ≡ accepted → (k : ℕ) → k < b practice_job → nat_abs (reading practice_job.readings k) ≤ 150128
    -- (so the practice job is accepted whenever its restraint is, and else refused by its restraint)
    pub accepted_with_its_restraint : tests ≡ accepted → verdict_of practice_job ≡ seven practice_job ⨾ eleven practice_job
    -- With w = 0 and M the true sum of the restraint, the exact values are the true values
    pub true-values : w ≡ 0 → tests ≡ accepted → (i : ℕ) → i < v practice_job → exact practice_job i =ᶠ whole (true i)
    -- and every deviation is 0,
    pub no_deviation_lem : w ≡ 0 → tests ≡ accepted → (k : ℕ) → k < b practice_job → deviation_of h d practice_job.readings k ≡ pos 0
    -- (so Q and k are 0, and there is no spread where f is 0)
    pub no_Q : w ≡ 0 → tests ≡ accepted → (qOf h d practice_job.readings ≡ 0) × (spread_hundredths_of h d practice_job.readings ≡ 0)
    pub no_freedom : freedom h ≡ 0 → spread_of (spread_hundredths_of h d practice_job.readings) (freedom h) ≡ no_spread
