-- The file of a practice job: what the direct call answers, and the room after, under the verdict of the call from C, which asks for its slot last.
-- Assumes nothing.
use Rattle.std.specs.Prelude.{ℕ, List, length, ℤ}
use Rattle.records.specs.declared.Head.{Head}
use Rattle.records.specs.declared.JobWritten.{JobWritten}
use Rattle.meaning.specs.Calls.{given}
use Rattle.meaning.specs.Practice.{practice_file_answer, practice_file_after}
use Rattle.slots.specs.Answers.{written_call}

abbrev pub practice_written : Head → List ℕ → List ℤ → ℕ → ℕ → List ℕ → JobWritten
practice_written h d u w set out = practice_file_answer h d u w set (length out)

abbrev pub write_practice : Head → List ℕ → List ℤ → ℕ → ℕ → ℕ → List ℕ → List ℕ → List ℕ
write_practice h d u start w set out answer =
    given (written_call (practice_written h d u w set out) answer) (practice_file_after h d u start w set out) out
