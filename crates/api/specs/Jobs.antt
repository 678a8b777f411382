-- A job worked out at once, from its parts: what the direct call answers, the verdict of the call from C, which asks for its slots last,
-- and the rooms after, under it. Assumes nothing.
use Rattle.std.specs.Prelude.{ℕ, List, length, ℤ, Float}
use Rattle.records.specs.declared.Head.{Head}
use Rattle.records.specs.declared.Solved.{Solved}
use Rattle.meaning.specs.Calls.{analyse_verdict, solved_under, words_under, values_under, deviations_under}
use Rattle.slots.specs.Answers.{solved_call}
use Rattle.meaning.specs.Refusals.{Verdict}

module _ (h : Head) (d : List ℕ) (y : List ℤ) (w : ℕ) (M : ℤ) (words : List ℕ) (values deviations : List ℤ) where
  -- what the direct call answers
  abbrev pub analysed : Solved
  analysed = solved_under (analyse_verdict h d y w M (length words) (length values) (length deviations)) h d y w

  module _ (answer : List ℕ) (real : List Float) where
    -- the verdict
    abbrev pub analyse_call : Verdict
    analyse_call = solved_call analysed answer real

    -- the words, the numerators of the values and those of the deviations after
    abbrev pub analyse_words : List ℕ
    analyse_words = words_under analyse_call h d words

    abbrev pub analyse_values : List ℤ
    analyse_values = values_under analyse_call h d y w M values

    abbrev pub analyse_deviations : List ℤ
    analyse_deviations = deviations_under analyse_call h d y deviations
