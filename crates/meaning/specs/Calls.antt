-- What each direct call answers, on every input, and what it leaves in each lent buffer. Assumes nothing.
use Rattle.std.specs.Prelude.{Ok, Err, ℕ, ◌+◌, ◌*◌, ◌/◌, ◌%◌, ◌^◌, cond, take, drop, length, ℤ, pos, nat_abs, eqb}
use mathlib.Core.List.{List, [], ◌∷◌, ◌++◌, replicate}
use Rattle.algebra.specs.Buffers.{over}
use Rattle.records.specs.declared.Head.{Head}
use Rattle.records.specs.declared.Parameters.{Parameters}
use Rattle.records.specs.declared.Spreading.{Spreading}
use Rattle.records.specs.declared.Judged.{Judged}
use Rattle.records.specs.declared.ObjectTotal.{ObjectTotal}
use Rattle.records.specs.declared.ObjectValue.{ObjectValue}
use Rattle.records.specs.declared.BlockDeviation.{BlockDeviation}
use Rattle.records.specs.declared.SquareSum.{SquareSum}
use Rattle.records.specs.declared.JobSpread.{JobSpread}
use Rattle.records.specs.declared.Solved.{Solved}
use Rattle.meaning.specs.Design.{objects, blocks, list_length, left, right, company, opposition, parameters_of}
use Rattle.meaning.specs.Analysis.{
  total,
  numerator_of,
  denominator_of,
  deviation_of,
  vbeta,
  squared_readings,
  squared_totals,
  qOf,
  freedom,
  spread_hundredths_of,
}
use Rattle.meaning.specs.Wide.{wide, wide_zero}
use Rattle.meaning.specs.Publishing.{published, value_of, no_value, no_spread, spread_of}
use Rattle.meaning.specs.Refusals.{Verdict, ◌⨾◌, sizes, length_is, clean, exists, in_balance, restraint, in_reach, room}

-- what an accepting call gives, and what a refusing one does
abbrev pub given : {A : Type 0} → Verdict → A → A → A
given (Ok done) answer nothing = answer
given (Err why) answer nothing = nothing

-- a lent buffer after a call: its first c entries written, or, on a refusal, as it was
abbrev pub written : {A : Type 0} → Verdict → ℕ → (ℕ → A) → List A → List A
written verdict c f l = given verdict (over c f l) l

-- ---- designs

-- a side as a word, one bit an object
unfoldable pub word : List ℕ → ℕ
word [] = 0
word (x ∷ xs) = 2 ^ x + word xs

-- word c of a development: left word, right word, next shift
unfoldable pub word_at : Head → List ℕ → ℕ → ℕ
word_at h d c = cond (eqb (c % 2) 0) (word (left h d (c / 2))) (word (right h d (c / 2)))

-- the tests of a block list; the second call, on why a pair table holds zeros, answers this
unfoldable pub design_verdict : Head → List ℕ → Verdict
design_verdict h d = sizes h ⨾ length_is (length d) (list_length h) ⨾ clean h d

-- the development: its verdict, from the length of the lent words, and the words after, under it
unfoldable pub develop_verdict : Head → List ℕ → ℕ → Verdict
develop_verdict h d len = design_verdict h d ⨾ room len (2 * blocks h)

abbrev pub words_under : Verdict → Head → List ℕ → List ℕ → List ℕ
words_under verdict h d words = written verdict (2 * blocks h) (word_at h d) words

abbrev pub develop_after : Head → List ℕ → List ℕ → List ℕ
develop_after h d words = words_under (develop_verdict h d (length words)) h d words

-- the development of initial block j: room for all words is asked, and its own 2n are written
unfoldable pub initial_verdict : Head → List ℕ → ℕ → ℕ → Verdict
initial_verdict h d j len = design_verdict h d ⨾ exists j h.m ⨾ room len (2 * blocks h)

abbrev pub initial_words : Head → List ℕ → ℕ → List ℕ → List ℕ
initial_words h d j words = given (initial_verdict h d j (length words))
    (take (2 * h.n * j) words ++ over (2 * h.n) (λ c. word_at h d (2 * h.n * j + c)) (drop (2 * h.n * j) words)) words

-- a 50 by 50 table of zeros, and one of f over v objects with zeros elsewhere
abbrev pub no_table : List (List ℕ)
no_table = replicate 50 (replicate 50 0)

unfoldable pub table_of : ℕ → (ℕ → ℕ → ℕ) → List (List ℕ)
table_of v f = over v (λ i. over v (f i) (replicate 50 0)) no_table

-- the two pair tables
abbrev pub company_table : Head → List ℕ → List (List ℕ)
company_table h d = given (design_verdict h d) (table_of (objects h) (company h d)) no_table

abbrev pub opposition_table : Head → List ℕ → List (List ℕ)
opposition_table h d = given (design_verdict h d) (table_of (objects h) (opposition h d)) no_table

-- the judgement
abbrev pub no_parameters : Parameters
no_parameters = record { v = 0; b = 0; r = 0; p = 0; l1 = 0; l2 = 0 }

unfoldable pub judge_verdict : Head → List ℕ → Verdict
judge_verdict h d = design_verdict h d ⨾ in_balance h d

abbrev pub judged : Head → List ℕ → Judged
judged h d = record { verdict = judge_verdict h d; parameters = given (judge_verdict h d) (parameters_of h d) no_parameters }

-- ---- analysis

-- the sizes, and the two slices of a job have their lengths
unfoldable pub slices : Head → List ℕ → List ℤ → Verdict
slices h d y = sizes h ⨾ length_is (length d) (list_length h) ⨾ length_is (length y) (blocks h)

-- what a whole job holds
unfoldable pub contents : Head → List ℕ → List ℤ → ℕ → ℤ → Verdict
contents h d y w M = clean h d ⨾ in_balance h d ⨾ restraint h w M ⨾ in_reach y

-- the tests of a whole job with no room
unfoldable pub job_verdict : Head → List ℕ → List ℤ → ℕ → ℤ → Verdict
job_verdict h d y w M = slices h d y ⨾ contents h d y w M

-- the total of one object
unfoldable pub total_verdict : Head → List ℕ → List ℤ → ℕ → Verdict
total_verdict h d y i = slices h d y ⨾ clean h d ⨾ exists i (objects h) ⨾ in_reach y

abbrev pub total_answer : Head → List ℕ → List ℤ → ℕ → ObjectTotal
total_answer h d y i = record { verdict = total_verdict h d y i; total = given (total_verdict h d y i) (total h d y i) (pos 0) }

-- the value numerators of all objects: the verdict, from the length of the lent room, and the room after, under it
unfoldable pub values_verdict : Head → List ℕ → List ℤ → ℕ → ℤ → ℕ → Verdict
values_verdict h d y w M len = job_verdict h d y w M ⨾ room len (objects h)

abbrev pub values_under : Verdict → Head → List ℕ → List ℤ → ℕ → ℤ → List ℤ → List ℤ
values_under verdict h d y w M values = written verdict (objects h) (numerator_of h d y w M) values

abbrev pub values_after : Head → List ℕ → List ℤ → ℕ → ℤ → List ℤ → List ℤ
values_after h d y w M values = values_under (values_verdict h d y w M (length values)) h d y w M values

-- the published hundredths of all objects, under the same verdict: the room after
abbrev pub published_after : Head → List ℕ → List ℤ → ℕ → ℤ → List ℤ → List ℤ
published_after h d y w M hundredths = written (values_verdict h d y w M (length hundredths)) (objects h) (published h d y w M) hundredths

-- the value of one object
unfoldable pub value_verdict : Head → List ℕ → List ℤ → ℕ → ℤ → ℕ → Verdict
value_verdict h d y w M i = slices h d y ⨾ clean h d ⨾ exists i (objects h) ⨾ in_balance h d ⨾ restraint h w M ⨾ in_reach y

abbrev pub value_answer : Head → List ℕ → List ℤ → ℕ → ℤ → ℕ → ObjectValue
value_answer h d y w M i = record { verdict = value_verdict h d y w M i; value = given (value_verdict h d y w M i) (value_of h d y w M i) no_value }

-- the tests of deviations, Q and spread, which take no restraint
unfoldable pub readings_verdict : Head → List ℕ → List ℤ → Verdict
readings_verdict h d y = slices h d y ⨾ clean h d ⨾ in_balance h d ⨾ in_reach y

-- the deviation numerators of all blocks: the verdict, from the length of the lent room, and the room after, under it
unfoldable pub deviations_verdict : Head → List ℕ → List ℤ → ℕ → Verdict
deviations_verdict h d y len = readings_verdict h d y ⨾ room len (blocks h)

abbrev pub deviations_under : Verdict → Head → List ℕ → List ℤ → List ℤ → List ℤ
deviations_under verdict h d y deviations = written verdict (blocks h) (deviation_of h d y) deviations

abbrev pub deviations_after : Head → List ℕ → List ℤ → List ℤ → List ℤ
deviations_after h d y deviations = deviations_under (deviations_verdict h d y (length deviations)) h d y deviations

-- the deviation of one block
unfoldable pub deviation_verdict : Head → List ℕ → List ℤ → ℕ → Verdict
deviation_verdict h d y k = slices h d y ⨾ clean h d ⨾ exists k (blocks h) ⨾ in_balance h d ⨾ in_reach y

abbrev pub deviation_answer : Head → List ℕ → List ℤ → ℕ → BlockDeviation
deviation_answer h d y k = let verdict = deviation_verdict h d y k in
    record { verdict = verdict; numerator = given verdict (deviation_of h d y k) (pos 0); denominator = given verdict (vbeta h d) 0 }

-- a sum of squares under its verdict, in two words
abbrev pub square_sum : Verdict → ℕ → SquareSum
square_sum verdict x = record { verdict = verdict; sum = given verdict (wide x) wide_zero }

-- the sums of the squared readings and of the squared totals, and Q
unfoldable pub squared_readings_verdict : Head → List ℤ → Verdict
squared_readings_verdict h y = sizes h ⨾ length_is (length y) (blocks h) ⨾ in_reach y

abbrev pub squared_readings_answer : Head → List ℤ → SquareSum
squared_readings_answer h y = square_sum (squared_readings_verdict h y) (nat_abs (squared_readings h y))

unfoldable pub squared_totals_verdict : Head → List ℕ → List ℤ → Verdict
squared_totals_verdict h d y = slices h d y ⨾ clean h d ⨾ in_reach y

abbrev pub squared_totals_answer : Head → List ℕ → List ℤ → SquareSum
squared_totals_answer h d y = square_sum (squared_totals_verdict h d y) (nat_abs (squared_totals h d y))

abbrev pub qAnswer : Head → List ℕ → List ℤ → SquareSum
qAnswer h d y = square_sum (readings_verdict h d y) (qOf h d y)

-- the spread, with all that it is made from
abbrev pub spreading_of : Head → List ℕ → List ℤ → Spreading
spreading_of h d y = let k = spread_hundredths_of h d y in
    record { q = wide (qOf h d y); vbeta = vbeta h d; freedom = freedom h; hundredths = k; spread = spread_of k (freedom h) }

abbrev pub no_spreading : Spreading
no_spreading = record { q = wide_zero; vbeta = 0; freedom = 0; hundredths = 0; spread = no_spread }

abbrev pub spread_answer : Head → List ℕ → List ℤ → JobSpread
spread_answer h d y = record { verdict = readings_verdict h d y; spreading = given (readings_verdict h d y) (spreading_of h d y) no_spreading }

-- everything at once, into three rooms, which are all looked at before the first is written
unfoldable pub rooms : Head → ℕ → ℕ → ℕ → Verdict
rooms h words values deviations = room words (2 * blocks h) ⨾ room values (objects h) ⨾ room deviations (blocks h)

unfoldable pub analyse_verdict : Head → List ℕ → List ℤ → ℕ → ℤ → ℕ → ℕ → ℕ → Verdict
analyse_verdict h d y w M words values deviations = job_verdict h d y w M ⨾ rooms h words values deviations

-- the record of a job worked out, under its verdict
abbrev pub solved_under : Verdict → Head → List ℕ → List ℤ → ℕ → Solved
solved_under verdict h d y w = let parameters = given verdict (parameters_of h d) no_parameters in let spreading = given verdict (spreading_of h d y) no_spreading in
    record { verdict = verdict; parameters = parameters; denominator = given verdict (denominator_of h d w) 0; spreading = spreading }

-- what the call answers on three lent rooms, and each room after
abbrev pub analysed : Head → List ℕ → List ℤ → ℕ → ℤ → List ℕ → List ℤ → List ℤ → Verdict
analysed h d y w M words values deviations = analyse_verdict h d y w M (length words) (length values) (length deviations)

abbrev pub analyse_answer : Head → List ℕ → List ℤ → ℕ → ℤ → List ℕ → List ℤ → List ℤ → Solved
analyse_answer h d y w M words values deviations = solved_under (analysed h d y w M words values deviations) h d y w

abbrev pub analyse_words : Head → List ℕ → List ℤ → ℕ → ℤ → List ℕ → List ℤ → List ℤ → List ℕ
analyse_words h d y w M words values deviations = words_under (analysed h d y w M words values deviations) h d words

abbrev pub analyse_values : Head → List ℕ → List ℤ → ℕ → ℤ → List ℕ → List ℤ → List ℤ → List ℤ
analyse_values h d y w M words values deviations = values_under (analysed h d y w M words values deviations) h d y w M values

abbrev pub analyse_deviations : Head → List ℕ → List ℤ → ℕ → ℤ → List ℕ → List ℤ → List ℤ → List ℤ
analyse_deviations h d y w M words values deviations = deviations_under (analysed h d y w M words values deviations) h d y deviations
