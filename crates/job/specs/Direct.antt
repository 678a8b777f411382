-- A direct call on what a file holds. Assumes nothing.
use Rattle.std.specs.Prelude.{Option, ℕ, List, ℤ}
use Rattle.records.specs.declared.Spread.{Spread}
use Rattle.records.specs.declared.Solved.{Solved}
use Rattle.meaning.specs.Calls.{job_verdict}
use Rattle.meaning.specs.Edition2.{moved_on}
use Rattle.meaning.specs.File.{head_of, blocks_of, readings_of, set_of, sum_of, placed}
use Rattle.meaning.specs.Sheet.{Checked, check_answer}
use Rattle.meaning.specs.Refusals.{Verdict}

-- its verdict
abbrev pub direct_verdict : List ℕ → Verdict
direct_verdict s = job_verdict (head_of s) (blocks_of s) (readings_of s) (set_of s) (sum_of s)

-- a place that no such refusal goes beyond: a job has at most 3,200 bytes of blocks and 1,300 readings
abbrev pub place_limit : ℕ
place_limit = 4500

-- a job worked out, its verdict moved to its place in the file: all else stays
abbrev pub solved_in : List ℕ → Solved → Solved
solved_in s solved = record {
  verdict = placed s solved.verdict;
  parameters = solved.parameters;
  denominator = solved.denominator;
  spreading =
      solved.spreading;
}

-- a place that no refusal of a file of the first edition goes beyond, and so none that is moved to the second
abbrev pub moved_limit : ℕ
moved_limit = 100000

-- a job worked out, its verdict moved to the second edition: all else stays
abbrev pub solved_on : Solved → Solved
solved_on solved = record {
  verdict = moved_on solved.verdict;
  parameters = solved.parameters;
  denominator = solved.denominator;
  spreading =
      solved.spreading;
}

-- a sheet checked against what a file holds
abbrev pub direct_checked : List ℕ → List ℤ → Option Spread → Checked
direct_checked s claims claimed = check_answer (head_of s) (blocks_of s) (readings_of s) (set_of s) (sum_of s) claims claimed
