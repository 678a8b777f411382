-- Files worked out, written and listed: what the direct call answers, the verdict of the call from C, which asks for its slots last,
-- and the rooms after, under it. Assumes nothing.
use Rattle.std.specs.Prelude.{ℕ, List, length, ℤ, Float}
use Rattle.records.specs.declared.Head.{Head}
use Rattle.records.specs.declared.JobWritten.{JobWritten}
use Rattle.records.specs.declared.Listed.{Listed}
use Rattle.records.specs.declared.Solved.{Solved}
use Rattle.meaning.specs.Calls.{given, solved_under, words_under, values_under, deviations_under}
use Rattle.meaning.specs.File.{head_of, blocks_of, readings_of, set_of, sum_of, solve_verdict}
use Rattle.meaning.specs.Writing.{written_answer, written_after}
use Rattle.meaning.specs.Text.{listed_answer, listed_after}
use Rattle.meaning.specs.Certificate.{certified_answer, certified_after}
use Rattle.slots.specs.Answers.{solved_call, written_call, listed_call}
use Rattle.meaning.specs.Refusals.{Verdict}

-- a file worked out
module _ (s words : List ℕ) (values deviations : List ℤ) where
  abbrev pub solved : Solved
  solved = solved_under (solve_verdict s (length words) (length values) (length deviations)) (head_of s) (blocks_of s) (readings_of s) (set_of s)

  module _ (answer : List ℕ) (real : List Float) where
    abbrev pub solve_call : Verdict
    solve_call = solved_call solved answer real

    abbrev pub solve_words : List ℕ
    solve_words = words_under solve_call (head_of s) (blocks_of s) words

    abbrev pub solve_values : List ℤ
    solve_values = values_under solve_call (head_of s) (blocks_of s) (readings_of s) (set_of s) (sum_of s) values

    abbrev pub solve_deviations : List ℤ
    solve_deviations = deviations_under solve_call (head_of s) (blocks_of s) (readings_of s) deviations

-- a file written
module _ (h : Head) (d : List ℕ) (y : List ℤ) (w : ℕ) (M : ℤ) (out : List ℕ) where
  abbrev pub file_written : JobWritten
  file_written = written_answer h d y w M (length out)

  abbrev pub write_file : List ℕ → List ℕ
  write_file answer = given (written_call file_written answer) (written_after h d y w M out) out

-- a file listed
module _ (s out : List ℕ) where
  abbrev pub file_listed : Listed
  file_listed = listed_answer s (length out)

  abbrev pub listing_text : List ℕ → List ℕ
  listing_text answer = given (listed_call file_listed answer) (listed_after s out) out

  -- and certified
  abbrev pub file_certified : Listed
  file_certified = certified_answer s (length out)

  abbrev pub certificate_text : List ℕ → List ℕ
  certificate_text answer = given (listed_call file_certified answer) (certified_after s out) out
