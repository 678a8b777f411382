-- A room after a call that writes nothing else. Assumes nothing.
use Rattle.std.specs.Prelude.{ℕ, List, length, ℤ}
use Rattle.records.specs.declared.Head.{Head}
use Rattle.meaning.specs.Calls.{develop_verdict, words_under, values_verdict, values_under, deviations_verdict, deviations_under}

-- the words of a development
abbrev pub developed_words : Head → List ℕ → List ℕ → List ℕ
developed_words h d words = words_under (develop_verdict h d (length words)) h d words

-- the numerators of all values
abbrev pub value_numerators : Head → List ℕ → List ℤ → ℕ → ℤ → List ℤ → List ℤ
value_numerators h d y w M values = values_under (values_verdict h d y w M (length values)) h d y w M values

-- the numerators of all deviations
abbrev pub deviation_numerators : Head → List ℕ → List ℤ → List ℤ → List ℤ
deviation_numerators h d y deviations = deviations_under (deviations_verdict h d y (length deviations)) h d y deviations
