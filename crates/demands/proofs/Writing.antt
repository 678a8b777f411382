-- What the call that writes leaves in the room, refused and accepted, and of a job that was read. Assumes nothing.
use mathlib.Core.Path.{◌≡◌, sym, ap, subst, ◌∙◌}
use mathlib.Core.List.{List, ◌++◌}
use Prim.Native.Nat.{ℕ, ◌+◌, ◌≤◌}
use native.Mathlib.Omega.{arith}
use borrow.Author.Tests.{le-leb}
use lib.Dec.{leb}
use lib.ListN.{length, take, drop}
use lib.Seq.{take_at, drop_at}
use Rattle.records.specs.declared.JobWritten.{JobWritten}
use Rattle.meaning.specs.Design.{list_length}
use Rattle.meaning.specs.Refusals.{Verdict, accepted, ◌⨾◌}
use Rattle.meaning.specs.Calls.{given}
use Rattle.meaning.specs.File.{fields, placed, read_verdict, read_answer}
use Rattle.meaning.specs.Writing.{Bytes, file_of, file_length, ReadsAs, write_verdict, written_answer, written_after}
use Rattle.laws.proofs.Chains.{opened, accepts, accepted-last, given_no, test_yes}
use Rattle.laws.proofs.Files.{filed, file-job, read-moved}
use Rattle.laws.proofs.Writing.{file-bytes, the_file, one-file, writes_again}
use Rattle.laws.proofs.WritingBack.{reads-back, file-length}
use Rattle.demands.specs.Job.{Job, job_in, verdict_of}
use Rattle.demands.specs.Refusals.{ten}
use Rattle.demands.specs.Writing.{WritingJobs, WritingFiles}
use Rattle.demands.proofs.Calls.{job_flat}

module _ (j : Job) where
  open j use {head as h, initial as d, readings as y, set as w, sum as M}

  module _ (out : List ℕ) (e : write_verdict h d y w M (length out) ≡ accepted) where
    -- the job is accepted
    write-job : verdict_of j ≡ accepted
    unfolding write_verdict
    write-job = (opened (verdict_of j) (ten (length out) (file_length h)) e).0

    -- the room after an acceptance
    after : written_after h d y w M out ≡ file_of h d y w M ++ drop (file_length h) out
    after = ap (λ (v : Verdict). given v (file_of h d y w M ++ drop (file_length h) out) out) e

    -- what is handed back
    pub write-answer : written_answer h d y w M (length out) ≡ record { verdict = accepted; length = file_length h }
    write-answer = rw e

    -- the file in front, and later bytes
    pub write_front : take (file_length h) (written_after h d y w M out) ≡ file_of h d y w M
    write_front = ap (take (file_length h)) after ∙ take_at (file_of h d y w M) (drop (file_length h) out) (file_length h) (file-length h d y w M write-job)

    write-later : drop (file_length h) (written_after h d y w M out) ≡ drop (file_length h) out
    write-later = ap (drop (file_length h)) after ∙ drop_at (file_of h d y w M) (drop (file_length h) out) (file_length h) (file-length h d y w M write-job)

    -- what was written reads as the job
    write-reads : ReadsAs (take (written_answer h d y w M (length out)).length (written_after h d y w M out)) h d y w M
    write-reads = subst (λ (s : List ℕ). ReadsAs s h d y w M)
        (sym (ap (λ (r : JobWritten). take r.length (written_after h d y w M out)) write-answer ∙ write_front)) (reads-back h d y w M write-job)

  -- what the call that reads answers on a file that reads as a job
  reads-answer : (s : List ℕ) → ReadsAs s h d y w M →
      read_answer s ≡ record { verdict = accepted; head = h; blocks_at = 10; readings_at = 32 + list_length h; set = w; sum = M }
  reads-answer s r = rw (r.accepts, r.head, r.set, r.sum)
      (ap (λ (at : ℕ). record { verdict = accepted; head = h; blocks_at = 10; readings_at = at; set = w; sum = M })
      (omega (arith, ap list_length r.head)))

  pub jobs_written : WritingJobs j
  unfolding write_verdict
  jobs_written = record {
    order = λ len. ap (λ (v : Verdict). v ⨾ ten len (file_length h)) (job_flat j);
    leaves = λ out k at e. given_no _ _ out k at e;
    hands_back = λ len k at e. rw e;
    written_in_front = λ out e. (write-answer out e, write_front out e, write-later out e);
    read_back = write-reads;
    read_back_by_the_call = λ out e. reads-answer _ (write-reads out e);
    has_a_file = λ e. (file-bytes h d y w M e, reads-back h d y w M e);
    and_no_other = λ s b r. the_file s h d y w M b r;
    files_read_alike_are_one = λ s u a b p q. one-file s u h d y w M a b p q;
  }

-- ---- a file, read and written again

module _ (s : List ℕ) where
  open job_in s use {head as h, initial as d, readings as y, set as w, sum as M}

  -- reading and writing refuse alike what stands in well-formed fields
  checks_alike : (len : ℕ) → fields s ≡ accepted → length s ≤ len → read_verdict s ≡ placed s (write_verdict h d y w M len)
  unfolding write_verdict
  checks_alike len e l =
      let enough : ten len (file_length h) ≡ accepted =
      test_yes (leb (file_length h) len) 10 0 (le-leb (file_length h) len (omega (arith, (filed s e).ends, l))) in
      read-moved s e ∙ ap (placed s) (sym (ap (λ (v : Verdict). verdict_of (job_in s) ⨾ v) enough ∙ accepted-last (verdict_of (job_in s))))

  -- a job that was read is written as it was, where there is room
  module _ (out : List ℕ) (b : Bytes s) (e : read_verdict s ≡ accepted) (l : length s ≤ length out) where
    long : file_length h ≡ length s
    long = omega (arith, (filed s (file-job s e).0).ends)

    read-write : write_verdict h d y w M (length out) ≡ accepted
    unfolding write_verdict
    read-write = accepts (file-job s e).1 (test_yes (leb (file_length h) (length out)) 10 0 (le-leb (file_length h) (length out) (omega (arith, long))))

    again : (written_answer h d y w M (length out) ≡ record { verdict = accepted; length = length s }) × (take (length s) (written_after h d y w M out) ≡ s)
    again = (
      write-answer (job_in s) out read-write ∙ ap (λ (c : ℕ). record { verdict = accepted; length = c }) long,
      ap (λ (c : ℕ). take c (written_after h d y w M out)) (sym long) ∙ write_front (job_in s) out read-write ∙ writes_again s b e,
    )

  pub files_written : WritingFiles s
  files_written = record { readers_own_checks = checks_alike; written-again = again }
