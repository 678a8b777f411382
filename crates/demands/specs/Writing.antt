-- WRITING JOBS (02, P1). From n, flag, blocks, restraint and readings we want the file written into lent room, with the reader's own checks. Reading what
-- was written gives back the same job, and writing a job that was read gives the same bytes, so each accepted job has exactly one file. Refusals: as for
-- direct calls, 6 included, 10 last.
-- What the call `write` answers and leaves in the lent room is equated to `written_answer` and `written_after` in docs/PROMISES.md, and what `read` answers to
-- `read_answer`. `take c s` and `drop c s` are the first c entries of s and those after them; `Bytes s` says that every entry of s is below 256, as the
-- entries of any lent bytes are; `ReadsAs s h d y w M` that s is accepted and holds this job. Assumes nothing.
use Rattle.std.specs.Prelude.{List, ◌≡◌, ℕ, ◌+◌, ◌*◌, ◌≤◌, length, take, drop}
use Rattle.meaning.specs.Refusals.{accepted, ◌⨾◌}
use Rattle.meaning.specs.File.{fields, placed, read_verdict, read_answer}
use Rattle.meaning.specs.Writing.{Bytes, file_of, ReadsAs, write_verdict, written_answer, written_after}
use Rattle.demands.specs.Job.{Job, job_in, verdict_of}
use Rattle.demands.specs.Refusals.{four, three_blocks, three_readings, five, six, seven, eleven, eight, ten}
use Rattle.demands.specs.Outcomes.{OnRefusal}

-- ---- a job, written from its parts

module _ (j : Job) where
  open j use {head as h, initial as d, readings as y, set as w, sum as M}

  -- how many bytes its file has
  abbrev size : ℕ
  size = 32 + 2 * h.p * h.m + 4 * (h.m * h.n)

  -- what stands in the room that was lent, as far as the call says that it wrote
  abbrev wrote : List ℕ → List ℕ
  wrote out = take (written_answer h d y w M (length out)).length (written_after h d y w M out)

  pub record WritingJobs : Type 0 where
    -- Refusals: as for direct calls, 6 included, 10 last
    pub order : (len : ℕ) →
        write_verdict h d y w M len ≡ four j ⨾ three_blocks j ⨾ three_readings j ⨾ five j ⨾ six j ⨾ seven j ⨾ eleven j ⨾ eight j ⨾ ten len size
    -- (a refusal leaves the room as it was and hands back no length)
    pub leaves : (out : List ℕ) → OnRefusal (write_verdict h d y w M (length out)) (written_after h d y w M out) out
    pub hands_back : (len : ℕ) → let verdict = write_verdict h d y w M len in
        OnRefusal verdict (written_answer h d y w M len) (record { verdict = verdict; length = 0 })
    -- The file is written into lent room: to its front, and later bytes stay
    pub written_in_front : (out : List ℕ) → write_verdict h d y w M (length out) ≡ accepted →
        (written_answer h d y w M (length out) ≡ record { verdict = accepted; length = size })
        × (take size (written_after h d y w M out) ≡ file_of h d y w M)
        × (drop size (written_after h d y w M out) ≡ drop size out)
    -- Reading what was written gives back the same job, and the call that reads says so: the blocks stand from byte 10 on, the readings from byte 32 + 2pm on
    pub read_back : (out : List ℕ) → write_verdict h d y w M (length out) ≡ accepted → ReadsAs (wrote out) h d y w M
    pub read_back_by_the_call : (out : List ℕ) → write_verdict h d y w M (length out) ≡ accepted →
        read_answer (wrote out) ≡ record { verdict = accepted; head = h; blocks_at = 10; readings_at = 32 + 2 * h.p * h.m; set = w; sum = M }
    -- so each accepted job has exactly one file
    pub has_a_file : verdict_of j ≡ accepted → Bytes (file_of h d y w M) × ReadsAs (file_of h d y w M) h d y w M
    pub and_no_other : (s : List ℕ) → Bytes s → ReadsAs s h d y w M → s ≡ file_of h d y w M
    pub files_read_alike_are_one : (s u : List ℕ) → Bytes s → Bytes u → ReadsAs s h d y w M → ReadsAs u h d y w M → s ≡ u

-- ---- a file, read and written again

module _ (s : List ℕ) where
  open job_in s use {head as h, initial as d, readings as y, set as w, sum as M}

  pub record WritingFiles : Type 0 where
    -- With the reader's own checks: what stands in four fields in order is read exactly where it would be written, and is refused by the same number,
    -- moved to its place in the file
    pub readers_own_checks : (len : ℕ) → fields s ≡ accepted → length s ≤ len → read_verdict s ≡ placed s (write_verdict h d y w M len)
    -- Writing a job that was read gives the same bytes
    pub written-again : (out : List ℕ) → Bytes s → read_verdict s ≡ accepted → length s ≤ length out →
        (written_answer h d y w M (length out) ≡ record { verdict = accepted; length = length s }) × (take (length s) (written_after h d y w M out) ≡ s)
