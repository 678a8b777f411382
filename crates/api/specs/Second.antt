-- Files of the second edition worked out, written, moved and listed: what the direct call answers, the verdict of the call from C, which asks for its
-- slots last, and the rooms after, under it. Assumes nothing.
use Rattle.std.specs.Prelude.{ℕ, List, length, ℤ, Float}
use Rattle.records.specs.declared.Head.{Head}
use Rattle.records.specs.declared.JobWritten.{JobWritten}
use Rattle.records.specs.declared.Listed.{Listed}
use Rattle.records.specs.declared.Solved.{Solved}
use Rattle.meaning.specs.Calls.{given, words_under, values_under, deviations_under}
use Rattle.meaning.specs.File.{head_of, blocks_of, readings_of, set_of, sum_of}
use Rattle.meaning.specs.Edition2.{four_of, solve_answer2, listed_answer2, listed_after2, written_answer2, written_after2}
use Rattle.meaning.specs.Edition2.{to_second_answer, to_second_after, to_first_answer, to_first_after}
use Rattle.meaning.specs.Certificate.{certified_answer2, certified_after2}
use Rattle.slots.specs.Answers.{solved_call, written_call, listed_call}
use Rattle.meaning.specs.Refusals.{Verdict}

-- a file worked out
module _ (s words : List ℕ) (values deviations : List ℤ) where
  abbrev pub second_solved : Solved
  second_solved = solve_answer2 s words values deviations

  module _ (answer : List ℕ) (real : List Float) where
    abbrev pub second_solve_call : Verdict
    second_solve_call = solved_call second_solved answer real

    abbrev pub second_words : List ℕ
    second_words = words_under second_solve_call (head_of (four_of s)) (blocks_of (four_of s)) words

    abbrev pub second_values : List ℤ
    second_values = let four = four_of s in
        values_under second_solve_call (head_of four) (blocks_of four) (readings_of four) (set_of four) (sum_of four) values

    abbrev pub second_deviations : List ℤ
    second_deviations = deviations_under second_solve_call (head_of (four_of s)) (blocks_of (four_of s)) (readings_of (four_of s)) deviations

-- a file written
module _ (h : Head) (d : List ℕ) (y : List ℤ) (w : ℕ) (M : ℤ) (names out : List ℕ) where
  abbrev pub second_written : JobWritten
  second_written = written_answer2 h d y w M names (length out)

  abbrev pub write_second : List ℕ → List ℕ
  write_second answer = given (written_call second_written answer) (written_after2 h d y w M names out) out

-- a file moved, and a file listed
module _ (s out : List ℕ) where
  abbrev pub moved_to_second : JobWritten
  moved_to_second = to_second_answer s (length out)

  abbrev pub to_second : List ℕ → List ℕ
  to_second answer = given (written_call moved_to_second answer) (to_second_after s out) out

  abbrev pub moved_to_first : JobWritten
  moved_to_first = to_first_answer s (length out)

  abbrev pub to_first : List ℕ → List ℕ
  to_first answer = given (written_call moved_to_first answer) (to_first_after s out) out

  abbrev pub second_listed : Listed
  second_listed = listed_answer2 s (length out)

  abbrev pub second_text : List ℕ → List ℕ
  second_text answer = given (listed_call second_listed answer) (listed_after2 s out) out

  -- and certified
  abbrev pub second_certified : Listed
  second_certified = certified_answer2 s (length out)

  abbrev pub second_certificate : List ℕ → List ℕ
  second_certificate answer = given (listed_call second_certified answer) (certified_after2 s out) out
