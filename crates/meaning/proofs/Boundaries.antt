-- Cases that the request's examples do not reach, rows of a second table under one theorem: every size and range at both its ends, every two neighbouring
-- refusals in one input, what each buffer and record holds after, and the listings of files with ∞, with no spread and with halves. The figures were
-- worked out apart from these definitions. Assumes nothing.
use Prim.Native.Nat.{ℕ, zero, suc}
use mathlib.Core.Bool.{true, false}
use mathlib.Core.List.{List, [], ◌∷◌, ◌++◌, replicate}
use mathlib.Core.Path.{◌≡◌, refl}
use native.Mathlib.Omega.{arith}
use lib.IntN.{ℤ, pos, negsuc}
use lib.Ieee.{round, fin}
use lib.ListN.{get_or, set, take}
use Rattle.algebra.specs.Buffers.{over}
use Rattle.algebra.specs.Ranges.{sum, sum_ℕ, first_from}
use Rattle.records.specs.declared.Head.{Head}
use Rattle.records.specs.declared.Judged.{Judged}
use Rattle.meaning.specs.Design.{field_prime, sized, occ, digit_sum, plus, left, right, company, opposition, balanced, beta}
use Rattle.records.specs.declared.Wide.{Wide}
use Rattle.meaning.specs.Analysis.{
  total,
  members,
  restrained,
  numerator_of,
  denominator_of,
  coefficient,
  factor,
  along,
  difference,
  deviation_of,
  squared_readings,
  squared_totals,
  qOf,
  root,
  spread_hundredths,
  spread_hundredths_of,
}
use Rattle.meaning.specs.Publishing.{rank, shortfall, hundredths_in, published, float, float_zero, Near, no_value, spread_of, spread_freedom, spread_value}
use Rattle.meaning.specs.Wide.{value, wide, wide_zero}
use Rattle.meaning.specs.Fractions.{Fraction, ◌=ᶠ◌, summed, values_along, deviation_under, squares_under, KeepsRestraint, exact_values, published_values}
use Rattle.meaning.specs.Refusals.{offender, far_reading, sizes, accepted, refused}
use Rattle.meaning.specs.Calls.{
  word,
  word_at,
  table_of,
  design_verdict,
  develop_verdict,
  words_under,
  initial_verdict,
  initial_words,
  company_table,
  opposition_table,
  judge_verdict,
  judged,
  slices,
  contents,
  job_verdict,
  total_verdict,
  total_answer,
  values_verdict,
  published_after,
  values_under,
  value_verdict,
  value_answer,
  readings_verdict,
  deviations_verdict,
  deviations_under,
  deviation_verdict,
  deviation_answer,
  squared_readings_verdict,
  squared_readings_answer,
  squared_totals_verdict,
  squared_totals_answer,
  qAnswer,
  spread_answer,
  rooms,
  analyse_verdict,
  solved_under,
}
use Rattle.meaning.specs.File.{
  big,
  twos,
  numbers_at,
  field_verdict,
  field_at,
  field_says,
  field_start,
  field_next,
  fields,
  read_verdict,
  solve_verdict,
  read_answer,
  head_of,
  blocks_of,
  readings_of,
  set_of,
  sum_of,
}
use Rattle.meaning.specs.Writing.{bytes_of, wrapped, readings_body, file_of, write_verdict, written_answer, written_after}
use Rattle.meaning.specs.Text.{ascii, digits, spaced, wide_text, signed_text, each, text_of, bench_text, listed_answer, listed_after}
use Rattle.meaning.proofs.Rows.{Row, lists, refuses, spreads, publishes, holding, counting, floats, head, every}
use Rattle.meaning.proofs.Examples.{file_a, file_e}

-- three objects, one initial block {0},{1}: balanced, with b = 3
abbrev three : Head
three = head 3 0 1 1

-- four objects, the same initial block: not balanced, with b = 4
abbrev four : Head
four = head 4 0 1 1

-- three residues and ∞, {0},{1} and {0},{∞}: balanced, with b = 6
abbrev with_infinity : Head
with_infinity = head 3 1 1 2

abbrev pair : List ℕ
pair = 0 ∷ 1 ∷ []

abbrev pairs : List ℕ
pairs = 0 ∷ 1 ∷ 0 ∷ 255 ∷ []

-- readings for three and for four, and with one out of range
abbrev ys : List ℤ
ys = pos 4 ∷ negsuc 2 ∷ pos 2 ∷ []

abbrev ys4 : List ℤ
ys4 = pos 4 ∷ negsuc 2 ∷ pos 2 ∷ pos 0 ∷ []

abbrev far : List ℤ
far = pos 200000000 ∷ negsuc 200000000 ∷ pos 200000001 ∷ []

abbrev far4 : List ℤ
far4 = negsuc 199999999 ∷ negsuc 200000000 ∷ pos 200000001 ∷ pos 0 ∷ []

-- the same initial block nine times, with readings at the ends of their range: one more word is needed for Q, and for the squared totals
abbrev nine : Head
nine = head 3 0 1 9

abbrev nine_pairs : List ℕ
nine_pairs = pair ++ pair ++ pair ++ pair ++ pair ++ pair ++ pair ++ pair ++ pair

abbrev highest : List ℤ
highest = replicate 27 (pos 200000000)

abbrev turn : List ℤ
turn = pos 200000000 ∷ negsuc 199999999 ∷ pos 0 ∷ []

abbrev turns : List ℤ
turns = turn ++ turn ++ turn ++ turn ++ turn ++ turn ++ turn ++ turn ++ turn

-- the two words of a number
abbrev words : Wide → List ℕ
words w = w.high ∷ w.low ∷ []

-- ---- 4: each size at both its ends
abbrev size_rows : List Row
size_rows =
    refuses (sizes (head 3 0 1 1)) 0 0
    ∷ refuses (sizes (head 2 1 1 1)) 4 0
    ∷ refuses (sizes (head 50 0 25 26)) 0 0
    ∷ refuses (sizes (head 51 0 1 1)) 4 0
    ∷ refuses (sizes (head 49 1 25 26)) 0 0
    ∷ refuses (sizes (head 50 1 25 26)) 4 0
    ∷ refuses (sizes (head 40 2 1 1)) 4 0
    ∷ refuses (sizes (head 7 3 1 1)) 4 0
    ∷ refuses (sizes (head 48 2 1 1)) 4 0
    ∷ refuses (sizes (head 8 2 4 64)) 0 0
    ∷ refuses (sizes (head 8 2 5 1)) 4 0
    ∷ refuses (sizes (head 9 3 5 64)) 0 0
    ∷ refuses (sizes (head 16 3 8 1)) 0 0
    ∷ refuses (sizes (head 25 2 12 52)) 0 0
    ∷ refuses (sizes (head 27 3 14 48)) 0 0
    ∷ refuses (sizes (head 32 2 16 40)) 0 0
    ∷ refuses (sizes (head 49 3 25 26)) 0 0
    ∷ refuses (sizes (head 9 4 1 1)) 4 0
    ∷ refuses (sizes (head 9 5 1 1)) 4 0
    ∷ refuses (sizes (head 5 0 0 1)) 4 0
    ∷ refuses (sizes (head 3 1 2 1)) 0 0
    ∷ refuses (sizes (head 3 0 2 1)) 4 0
    ∷ refuses (sizes (head 6 0 3 1)) 0 0
    ∷ refuses (sizes (head 5 0 3 1)) 4 0
    ∷ refuses (sizes (head 5 0 2 0)) 4 0
    ∷ refuses (sizes (head 20 0 1 64)) 0 0
    ∷ refuses (sizes (head 3 0 1 65)) 4 0
    ∷ refuses (sizes (head 21 0 1 62)) 4 0
    ∷ refuses (sizes (head 18446744073709551615 18446744073709551615 18446744073709551615 18446744073709551615)) 4 0
    ∷ []

-- ---- the calls on a design, two faults at a time
abbrev design_rows : List Row
design_rows =
    refuses (design_verdict (head 2 0 1 1) (0 ∷ [])) 4 0
    ∷ refuses (design_verdict three (0 ∷ [])) 3 0
    ∷ refuses (design_verdict three (0 ∷ 3 ∷ 0 ∷ [])) 3 0
    ∷ refuses (design_verdict three (0 ∷ 3 ∷ [])) 5 1
    ∷ refuses (design_verdict three (3 ∷ 3 ∷ [])) 5 0
    ∷ refuses (design_verdict three (2 ∷ 2 ∷ [])) 5 1
    ∷ refuses (design_verdict three (2 ∷ 255 ∷ [])) 5 1
    ∷ refuses (design_verdict (head 9 2 1 1) (0 ∷ 255 ∷ [])) 5 1
    ∷ refuses (design_verdict (head 9 3 1 1) (0 ∷ 255 ∷ [])) 0 0
    ∷ refuses (design_verdict (head 9 3 1 1) (9 ∷ 0 ∷ [])) 5 0
    ∷ refuses (design_verdict with_infinity pairs) 0 0
    ∷ refuses (design_verdict with_infinity (255 ∷ 255 ∷ 0 ∷ 1 ∷ [])) 5 1
    ∷ refuses (design_verdict with_infinity (0 ∷ 1 ∷ 255 ∷ 3 ∷ [])) 5 3
    ∷ refuses (design_verdict (head 5 0 2 2) (0 ∷ 1 ∷ 2 ∷ 0 ∷ 1 ∷ 1 ∷ 2 ∷ 3 ∷ [])) 5 3
    ∷ refuses (design_verdict (head 5 0 2 2) (0 ∷ 1 ∷ 2 ∷ 4 ∷ 1 ∷ 1 ∷ 2 ∷ 3 ∷ [])) 5 5
    ∷ refuses (design_verdict (head 5 0 2 2) (0 ∷ 1 ∷ 2 ∷ 4 ∷ 1 ∷ 0 ∷ 2 ∷ 3 ∷ [])) 0 0
    ∷ refuses (develop_verdict three (0 ∷ 0 ∷ []) 5) 5 1
    ∷ refuses (develop_verdict three pair 5) 10 0
    ∷ refuses (develop_verdict four pair 8) 0 0
    ∷ refuses (initial_verdict three (0 ∷ 0 ∷ []) 1 5) 5 1
    ∷ refuses (initial_verdict with_infinity pairs 2 11) 5 2
    ∷ refuses (initial_verdict with_infinity pairs 1 11) 10 0
    ∷ refuses (initial_verdict with_infinity pairs 1 12) 0 0
    ∷ refuses (initial_verdict four pair 0 8) 0 0
    ∷ refuses (judge_verdict three (0 ∷ 0 ∷ [])) 5 1
    ∷ refuses (judge_verdict four pair) 6 0
    ∷ refuses (judge_verdict with_infinity (0 ∷ 1 ∷ 0 ∷ 2 ∷ [])) 6 0
    ∷ []

-- ---- elements with a shift added, by the field of each size, and by residues
abbrev sum_rows : List Row
sum_rows =
    holding
    (plus (head 8 2 1 1) 3 5 ∷ plus (head 9 2 1 1) 5 7 ∷ plus (head 9 3 1 1) 4 4 ∷ plus (head 9 2 1 1) 3 6 ∷ plus (head 16 2 1 1) 9 3
    ∷ plus (head 25 3 1 1) 7 18 ∷ plus (head 27 2 1 1) 13 14 ∷ plus (head 32 3 1 1) 21 11 ∷ plus (head 49 2 1 1) 45 10 ∷ plus (head 49 3 1 1) 48 8 ∷ [])
    (6 ∷ 0 ∷ 8 ∷ 0 ∷ 10 ∷ 20 ∷ 24 ∷ 30 ∷ 6 ∷ 0 ∷ [])
    ∷ holding (plus (head 9 0 1 1) 5 7 ∷ plus (head 9 1 1 1) 4 4 ∷ plus (head 27 1 1 1) 13 14 ∷ plus (head 49 0 1 1) 45 10 ∷ []) (3 ∷ 8 ∷ 0 ∷ 6 ∷ [])
    ∷ []

-- ---- the calls on readings, two faults at a time
abbrev call_rows : List Row
call_rows =
    refuses (slices (head 3 0 1 65) [] []) 4 0
    ∷ refuses (slices three pair (pos 0 ∷ [])) 3 0
    ∷ refuses (slices three pair ys4) 3 0
    ∷ refuses (slices three (0 ∷ []) ys) 3 0
    ∷ refuses (total_verdict three (0 ∷ 3 ∷ []) ys4 3) 3 0
    ∷ refuses (total_verdict three (0 ∷ 3 ∷ []) far 3) 5 1
    ∷ refuses (total_verdict three pair far 3) 5 3
    ∷ refuses (total_verdict three pair far 2) 8 1
    ∷ refuses (total_verdict four pair ys4 3) 0 0
    ∷ refuses (values_verdict three (0 ∷ 0 ∷ []) far 0 (pos 0) 0) 5 1
    ∷ refuses (values_verdict four pair far4 0 (pos 0) 0) 6 0
    ∷ refuses (values_verdict three pair far 0 (pos 0) 0) 7 0
    ∷ refuses (values_verdict three pair far 8 (pos 0) 0) 7 0
    ∷ refuses (values_verdict three pair far 4 (pos 1000000000001) 0) 7 0
    ∷ refuses (values_verdict three pair far 4 (pos 0) 0) 11 0
    ∷ refuses (values_verdict four pair far4 1 (pos 0) 0) 6 0
    ∷ refuses (values_verdict three pair far 7 (pos 1000000000001) 0) 7 0
    ∷ refuses (values_verdict three pair far 7 (negsuc 1000000000000) 0) 7 0
    ∷ refuses (values_verdict three pair far 7 (pos 1000000000000) 0) 8 1
    ∷ refuses (values_verdict three pair ys 7 (negsuc 999999999999) 2) 10 0
    ∷ refuses (values_verdict three pair ys 3 (pos 1000000000000) 3) 0 0
    ∷ refuses (value_verdict four (0 ∷ 0 ∷ []) far4 0 (pos 0) 4) 5 1
    ∷ refuses (value_verdict four pair far4 0 (pos 0) 4) 5 4
    ∷ refuses (value_verdict four pair far4 0 (pos 0) 3) 6 0
    ∷ refuses (value_verdict three pair far 0 (pos 0) 2) 7 0
    ∷ refuses (value_verdict three pair far 1 (pos 0) 2) 11 0
    ∷ refuses (value_verdict three pair far 7 (pos 0) 2) 8 1
    ∷ refuses (value_verdict three pair ys 7 (pos 0) 2) 0 0
    ∷ refuses (deviations_verdict four pair far4 0) 6 0
    ∷ refuses (deviations_verdict three pair far 0) 8 1
    ∷ refuses (deviations_verdict three pair ys 2) 10 0
    ∷ refuses (deviations_verdict three pair ys 3) 0 0
    ∷ refuses (deviation_verdict four (1 ∷ 1 ∷ []) far4 4) 5 1
    ∷ refuses (deviation_verdict four pair far4 4) 5 4
    ∷ refuses (deviation_verdict four pair far4 3) 6 0
    ∷ refuses (deviation_verdict three pair far 2) 8 1
    ∷ refuses (deviation_verdict three pair ys 2) 0 0
    ∷ refuses (squared_readings_verdict (head 2 0 1 1) []) 4 0
    ∷ refuses (squared_readings_verdict three far4) 3 0
    ∷ refuses (squared_readings_verdict three far) 8 1
    ∷ refuses (squared_readings_verdict four ys4) 0 0
    ∷ refuses (squared_totals_verdict three (0 ∷ 0 ∷ []) far) 5 1
    ∷ refuses (squared_totals_verdict four pair far4) 8 1
    ∷ refuses (squared_totals_verdict four pair ys4) 0 0
    ∷ refuses (readings_verdict three (0 ∷ 0 ∷ []) far) 5 1
    ∷ refuses (readings_verdict four pair far4) 6 0
    ∷ refuses (readings_verdict three pair far) 8 1
    ∷ refuses (job_verdict four pair far4 0 (pos 0)) 6 0
    ∷ refuses (job_verdict three pair far 0 (pos 0)) 7 0
    ∷ refuses (job_verdict three pair far 6 (pos 0)) 8 1
    ∷ refuses (analyse_verdict three pair far 6 (pos 0) 0 0 0) 8 1
    ∷ refuses (analyse_verdict three pair ys 6 (pos 0) 5 3 3) 10 0
    ∷ refuses (analyse_verdict three pair ys 6 (pos 0) 6 2 3) 10 0
    ∷ refuses (analyse_verdict three pair ys 6 (pos 0) 6 3 2) 10 0
    ∷ refuses (analyse_verdict three pair ys 6 (pos 0) 6 3 3) 0 0
    ∷ []

-- ---- what records and buffers hold after
abbrev zeros : ℕ → List ℕ
zeros zero = []
zeros (suc n) = 0 ∷ zeros n

abbrev parameters_held : Judged → List ℕ
parameters_held j = j.parameters.v ∷ j.parameters.b ∷ j.parameters.r ∷ j.parameters.p ∷ j.parameters.l1 ∷ j.parameters.l2 ∷ []

-- ---- publishing: v, the set, M, the numerators and their denominator; the hundredths

-- one numerator for every object
abbrev alone : ℤ → ℕ → ℤ
alone x i = x

-- the numerators of a list
abbrev listed : List ℤ → ℕ → ℤ
listed xs i = get_or xs i (pos 0)

abbrev publishing_rows : List Row
publishing_rows =
    -- three thirds of 1: two floors stay, the lowest object gains; below zero the floors are below and two gain
    counting 3 (hundredths_in 3 7 (pos 1) (alone (pos 1)) 3) (pos 34 ∷ pos 33 ∷ pos 33 ∷ [])
    ∷ counting 3 (hundredths_in 3 7 (negsuc 0) (alone (negsuc 0)) 3) (negsuc 32 ∷ negsuc 32 ∷ negsuc 33 ∷ [])
    -- 1/6, 2/6, 3/6: the largest part gains, wherever it stands
    ∷ counting 3 (hundredths_in 3 7 (pos 1) (listed (pos 1 ∷ pos 2 ∷ pos 3 ∷ [])) 6) (pos 17 ∷ pos 33 ∷ pos 50 ∷ [])
    ∷ counting 3 (hundredths_in 3 7 (pos 1) (listed (pos 3 ∷ pos 2 ∷ pos 1 ∷ [])) 6) (pos 50 ∷ pos 33 ∷ pos 17 ∷ [])
    -- 1/7 and three of 2/7: a shortfall of two, one hundredth each
    ∷ counting 4 (hundredths_in 4 15 (pos 1) (listed (pos 1 ∷ pos 2 ∷ pos 2 ∷ pos 2 ∷ [])) 7) (pos 14 ∷ pos 29 ∷ pos 29 ∷ pos 28 ∷ [])
    -- -1/3 and 4/3: a whole sum of parts on both sides of zero
    ∷ counting 2 (hundredths_in 2 3 (pos 1) (listed (negsuc 0 ∷ pos 4 ∷ [])) 3) (negsuc 32 ∷ pos 133 ∷ [])
    -- one member, of 5; the others, over eighths, round alone, half to even
    ∷ counting 3 (hundredths_in 3 1 (pos 5) (listed (pos 40 ∷ pos 1 ∷ pos 3 ∷ [])) 8) (pos 500 ∷ pos 12 ∷ pos 38 ∷ [])
    ∷ counting 3 (hundredths_in 3 4 (pos 5) (listed (negsuc 0 ∷ negsuc 2 ∷ pos 40 ∷ [])) 8) (negsuc 11 ∷ negsuc 37 ∷ pos 500 ∷ [])
    ∷ []

abbrev held_rows : List Row
held_rows =
    holding (words_under (develop_verdict with_infinity pairs 14) with_infinity pairs (replicate 14 77))
    (1 ∷ 2 ∷ 2 ∷ 4 ∷ 4 ∷ 1 ∷ 1 ∷ 8 ∷ 2 ∷ 8 ∷ 4 ∷ 8 ∷ 77 ∷ 77 ∷ [])
    ∷ holding (words_under (develop_verdict with_infinity pairs 11) with_infinity pairs (replicate 11 77)) (replicate 11 77)
    ∷ holding (initial_words with_infinity pairs 1 (replicate 14 77)) (77 ∷ 77 ∷ 77 ∷ 77 ∷ 77 ∷ 77 ∷ 1 ∷ 8 ∷ 2 ∷ 8 ∷ 4 ∷ 8 ∷ 77 ∷ 77 ∷ [])
    ∷ holding (initial_words with_infinity pairs 0 (replicate 12 77)) (1 ∷ 2 ∷ 2 ∷ 4 ∷ 4 ∷ 1 ∷ 77 ∷ 77 ∷ 77 ∷ 77 ∷ 77 ∷ 77 ∷ [])
    ∷ holding (initial_words with_infinity pairs 2 (replicate 14 77)) (replicate 14 77)
    ∷ holding (initial_words with_infinity pairs 1 (replicate 11 77)) (replicate 11 77)
    ∷ holding (word_at (head 50 0 1 1) (0 ∷ 49 ∷ []) 1 ∷ word_at (head 49 1 1 1) (255 ∷ 48 ∷ []) 4 ∷ word_at (head 50 0 1 1) (0 ∷ 49 ∷ []) 3 ∷ [])
    (562949953421312 ∷ 562949953421312 ∷ 1 ∷ [])
    ∷ holding (get_or (company_table four pair) 1 []) (0 ∷ 2 ∷ zeros 48)
    ∷ holding (get_or (opposition_table four pair) 0 []) (0 ∷ 1 ∷ 0 ∷ 1 ∷ zeros 46)
    ∷ holding (get_or (company_table four pair) 4 []) (zeros 50)
    ∷ holding (get_or (opposition_table four pair) 49 []) (zeros 50)
    ∷ holding (get_or (company_table with_infinity pairs) 3 []) (0 ∷ 0 ∷ 0 ∷ 3 ∷ zeros 46)
    ∷ holding (get_or (opposition_table with_infinity pairs) 3 []) (1 ∷ 1 ∷ 1 ∷ 0 ∷ zeros 46)
    ∷ holding (get_or (company_table (head 5 0 2 1) (1 ∷ 4 ∷ 2 ∷ 3 ∷ [])) 0 []) (4 ∷ 1 ∷ 1 ∷ 1 ∷ 1 ∷ zeros 45)
    ∷ holding (get_or (opposition_table (head 5 0 2 1) (1 ∷ 4 ∷ 2 ∷ 3 ∷ [])) 4 []) (2 ∷ 2 ∷ 2 ∷ 2 ∷ 0 ∷ zeros 45)
    ∷ holding (get_or (company_table four (0 ∷ 0 ∷ [])) 0 []) (zeros 50)
    ∷ holding (get_or (opposition_table four (0 ∷ 4 ∷ [])) 1 []) (zeros 50)
    ∷ holding (parameters_held (judged with_infinity pairs)) (4 ∷ 6 ∷ 3 ∷ 1 ∷ 0 ∷ 1 ∷ [])
    ∷ holding (parameters_held (judged four pair)) (zeros 6)
    ∷ counting 2 (λ i. (total_answer four pair ys4 i).total) (pos 4 ∷ negsuc 6 ∷ [])
    ∷ counting 1 (λ i. (total_answer four pair far4 i).total) (pos 0 ∷ [])
    ∷ counting 5 (λ i. get_or (values_under (values_verdict three pair ys 5 (negsuc 0) 4) three pair ys 5 (negsuc 0)
    (pos 9 ∷ pos 9 ∷ pos 9 ∷ pos 9 ∷ [])) i (pos 7))
    (negsuc 5 ∷ negsuc 23 ∷ pos 0 ∷ pos 9 ∷ pos 7 ∷ [])
    ∷ counting 3 (λ i. get_or (values_under (values_verdict three pair ys 5 (negsuc 0) 2) three pair ys 5 (negsuc 0) (pos 9 ∷ pos 9 ∷ [])) i (pos 7))
    (pos 9 ∷ pos 9 ∷ pos 7 ∷ [])
    ∷ counting 5 (λ i. get_or (published_after three pair ys 5 (negsuc 0) (pos 9 ∷ pos 9 ∷ pos 9 ∷ pos 9 ∷ [])) i (pos 7))
    (negsuc 99 ∷ negsuc 399 ∷ pos 0 ∷ pos 9 ∷ pos 7 ∷ [])
    ∷ counting 3 (λ i. get_or (published_after three pair ys 5 (negsuc 0) (pos 9 ∷ pos 9 ∷ [])) i (pos 7)) (pos 9 ∷ pos 9 ∷ pos 7 ∷ [])
    ∷ counting 3 (λ i. get_or (published_after three pair ys 0 (negsuc 0) (pos 9 ∷ pos 9 ∷ pos 9 ∷ [])) i (pos 7)) (pos 9 ∷ pos 9 ∷ pos 9 ∷ [])
    ∷ counting 5 (λ i. get_or (deviations_under (deviations_verdict three pair ys 4) three pair ys (pos 9 ∷ pos 9 ∷ pos 9 ∷ pos 9 ∷ [])) i (pos 7))
    (pos 3 ∷ pos 3 ∷ pos 3 ∷ pos 9 ∷ pos 7 ∷ [])
    ∷ counting 3 (λ i. get_or (deviations_under (deviations_verdict three pair ys 2) three pair ys (pos 9 ∷ pos 9 ∷ [])) i (pos 7)) (pos 9 ∷ pos 9 ∷ pos 7 ∷ [])
    ∷ counting 2 (λ i. get_or ((value_answer three pair ys 5 (negsuc 0) 1).value.numerator ∷ (value_answer three pair ys 5
    (negsuc 0) 1).value.hundredths ∷ []) i (pos 7)) (negsuc 23 ∷ negsuc 399 ∷ [])
    ∷ holding ((value_answer three pair ys 5 (negsuc 0) 1).value.denominator ∷ (value_answer three pair ys 0 (negsuc 0) 1).value.denominator ∷ []) (6 ∷ 0 ∷ [])
    ∷ counting 2 (λ i. get_or ((value_answer three pair ys 0 (negsuc 0) 1).value.numerator ∷ (value_answer three pair ys 0
    (negsuc 0) 1).value.hundredths ∷ []) i (pos 7)) (pos 0 ∷ pos 0 ∷ [])
    ∷ counting 2 (λ i. get_or ((deviation_answer three pair ys 1).numerator ∷ (deviation_answer four pair ys4 1).numerator ∷ []) i (pos 7)) (pos 3 ∷ pos 0 ∷ [])
    ∷ counting 2 (λ i. get_or (along (λ k. pos 3) [] ∷ along (λ k. pos 3) pair ∷ []) i (pos 7)) (pos 0 ∷ pos 6 ∷ [])
    ∷ holding ((deviation_answer three pair ys 1).denominator ∷ (deviation_answer four pair ys4 1).denominator ∷ []) (3 ∷ 0 ∷ [])
    ∷ holding
    (words (squared_readings_answer three ys).sum ++ words (squared_totals_answer three pair ys).sum ++ words (qAnswer three pair ys).sum
    ++ words (squared_readings_answer three far).sum ++ words (squared_totals_answer three pair far).sum ++ words (qAnswer three pair far).sum)
    (0 ∷ 29 ∷ 0 ∷ 78 ∷ 0 ∷ 9 ∷ zeros 6)
    ∷ holding
    (words (squared_readings_answer nine highest).sum ++ words (squared_totals_answer nine nine_pairs turns).sum ++ words (qAnswer nine nine_pairs highest).sum)
    (0 ∷ 1080000000000000000 ∷ 1 ∷ 993255926290448384 ∷ 1 ∷ 10713255926290448384 ∷ [])
    ∷ holding
    (words (spread_answer nine nine_pairs highest).spreading.q ++ ((spread_answer nine nine_pairs highest).spreading.hundredths ∷ []))
    (1 ∷ 10713255926290448384 ∷ 20784609690 ∷ [])
    ∷ holding
    (words (wide 18446744073709551615) ++ words (wide 18446744073709551616) ++ words (wide 70304000000000000000000)
    ++ words (wide 340282366920938463463374607431768211455) ++ words (wide 340282366920938463463374607431768211461))
    (0 ∷ 18446744073709551615 ∷ 1 ∷ 0 ∷ 3811 ∷ 3458335092898791424 ∷ 18446744073709551615 ∷ 18446744073709551615 ∷ 0 ∷ 5 ∷ [])
    ∷ holding (value (record { high = 3811; low = 3458335092898791424 }) ∷ []) (70304000000000000000000 ∷ [])
    ∷ holding
    ((spread_answer three pair ys).spreading.q.low ∷ (spread_answer three pair ys).spreading.vbeta ∷ (spread_answer three pair ys).spreading.freedom
    ∷ (spread_answer three pair ys).spreading.hundredths ∷ spread_freedom (spread_answer three pair ys).spreading.spread ∷ [])
    (9 ∷ 3 ∷ 1 ∷ 173 ∷ 1 ∷ [])
    ∷ holding
    ((spread_answer four pair ys4).spreading.q.low ∷ (spread_answer four pair ys4).spreading.vbeta ∷ (spread_answer four pair ys4).spreading.freedom
    ∷ (spread_answer four pair ys4).spreading.hundredths ∷ spread_freedom (spread_answer four pair ys4).spreading.spread ∷ [])
    (zeros 5)
    ∷ holding
    ((solved_under accepted three pair ys 5).parameters.b ∷ (solved_under accepted three pair ys 5).denominator
    ∷ (solved_under accepted three pair ys 5).spreading.q.low ∷ [])
    (3 ∷ 6 ∷ 9 ∷ [])
    ∷ holding
    ((solved_under (refused 10 0) three pair ys 5).parameters.b ∷ (solved_under (refused 10 0) three pair ys 5).denominator ∷ (solved_under
    (refused 10 0) three pair ys 5).spreading.q.low ∷ spread_freedom (solved_under (refused 10 0) three pair ys 5).spreading.spread ∷ [])
    (zeros 4)
    ∷ []

-- ---- fractions, floats and roots
abbrev number_rows : List Row
number_rows =
    publishes (pos 5) 8 (pos 62)
    ∷ publishes (pos 7) 8 (pos 88)
    ∷ publishes (negsuc 2) 8 (negsuc 37)
    ∷ publishes (pos 1) 3 (pos 33)
    ∷ publishes (pos 2) 3 (pos 67)
    ∷ publishes (negsuc 0) 3 (negsuc 32)
    ∷ publishes (negsuc 1) 3 (negsuc 66)
    ∷ publishes (pos 1) 200 (pos 0)
    ∷ publishes (pos 3) 200 (pos 2)
    ∷ publishes (negsuc 0) 200 (pos 0)
    ∷ publishes (pos 0) 5 (pos 0)
    ∷ publishes (pos 9) 1 (pos 900)
    ∷ spreads 4 1 1 200
    ∷ spreads 1 3 3 33
    ∷ spreads 9 3 1 173
    ∷ spreads 0 5 1 0
    ∷ spreads 7 5 0 0
    ∷ spreads 3 1 1 173
    ∷ spreads 70304000000000000000000 1 1 26514901470682
    ∷ floats (float (pos 1) 3) (fin true 0 (pos 0)) 0
    ∷ floats (float (pos 1) 3) (fin false 6004799503160661 (negsuc 53)) 1
    ∷ floats (float (negsuc 1) 3) (fin true 6004799503160661 (negsuc 52)) 1
    ∷ floats (float (pos 0) 3) float_zero 1
    ∷ floats (spread_value (spread_of 25 1)) (fin false 1 (negsuc 1)) 1
    ∷ floats (spread_value (spread_of 25 0)) float_zero 1
    ∷ floats (value_answer three pair ys 5 (negsuc 0) 1).value.value (fin true 1 (pos 2)) 1
    ∷ floats (value_answer three pair ys 7 (negsuc 0) 0).value.value (fin false 6004799503160661 (negsuc 53)) 1
    ∷ floats no_value.value float_zero 1
    ∷ floats (value_answer three pair ys 0 (negsuc 0) 1).value.value float_zero 1
    ∷ holding (spread_freedom (spread_of 25 4) ∷ spread_freedom (spread_of 25 0) ∷ []) (4 ∷ 0 ∷ [])
    ∷ []

-- ---- files: fields, refusals in file order, and what they hold
abbrev file_c : List ℕ
file_c =
    1 ∷ 0 ∷ 4 ∷ 4 ∷ 0 ∷ 1 ∷ 1
    ∷ 2 ∷ 0 ∷ 2 ∷ 0 ∷ 1
    ∷ 3 ∷ 0 ∷ 16 ∷ 0 ∷ 0 ∷ 0 ∷ 0 ∷ 0 ∷ 0 ∷ 0 ∷ 0 ∷ 0 ∷ 0 ∷ 0 ∷ 0 ∷ 0 ∷ 0 ∷ 0 ∷ 7
    ∷ 4 ∷ 0 ∷ 16 ∷ 0 ∷ 0 ∷ 0 ∷ 11 ∷ 128 ∷ 0 ∷ 0 ∷ 0 ∷ 0 ∷ 0 ∷ 0 ∷ 4 ∷ 0 ∷ 0 ∷ 0 ∷ 1 ∷ []

abbrev file_rows : List Row
file_rows =
    refuses (read_verdict []) 1 0
    ∷ refuses (read_verdict (9 ∷ 0 ∷ [])) 1 0
    ∷ refuses (read_verdict (2 ∷ 0 ∷ 5 ∷ [])) 2 0
    ∷ refuses (read_verdict (1 ∷ 0 ∷ 5 ∷ [])) 3 0
    ∷ refuses (read_verdict (1 ∷ 4 ∷ 0 ∷ [])) 3 0
    ∷ refuses (read_verdict (take 6 file_a)) 1 0
    ∷ refuses (read_verdict (take 7 (set file_a 3 2))) 4 0
    ∷ refuses (read_verdict (set (set file_a 5 129) 7 9)) 4 0
    ∷ refuses (read_verdict (take 7 file_a)) 1 7
    ∷ refuses (read_verdict (take 9 (set file_a 7 9))) 1 7
    ∷ refuses (read_verdict (take 10 (set (set file_a 7 9) 9 5))) 2 7
    ∷ refuses (read_verdict (take 10 (set file_a 9 5))) 3 7
    ∷ refuses (read_verdict (take 13 file_a)) 1 7
    ∷ refuses (read_verdict (take 16 file_a)) 1 14
    ∷ refuses (read_verdict (take 17 (set (set file_a 14 4) 16 15))) 2 14
    ∷ refuses (read_verdict (take 17 (set file_a 16 15))) 3 14
    ∷ refuses (read_verdict (take 32 file_a)) 1 14
    ∷ refuses (read_verdict (take 35 file_a)) 1 33
    ∷ refuses (read_verdict (take 36 (set (set file_a 33 3) 35 21))) 2 33
    ∷ refuses (read_verdict (take 36 (set file_a 35 21))) 3 33
    ∷ refuses (read_verdict (take 55 file_a)) 1 33
    ∷ refuses (read_verdict (set file_a 10 5 ++ (0 ∷ []))) 9 56
    ∷ refuses (read_verdict (set (set file_a 10 5) 24 0)) 5 10
    ∷ refuses (read_verdict (set (set file_a 11 255) 13 1)) 5 11
    ∷ refuses (read_verdict (set file_a 13 1)) 5 13
    ∷ refuses (read_verdict file_c) 6 0
    ∷ refuses (read_verdict (set file_c 11 3)) 6 0
    ∷ refuses (read_verdict (set (set file_a 24 0) 36 12)) 7 14
    ∷ refuses (read_verdict (set file_a 24 32)) 7 14
    ∷ refuses (read_verdict (set file_a 24 1)) 11 14
    ∷ refuses (read_verdict (set (set file_a 24 16) 40 127)) 11 14
    ∷ refuses (read_verdict (set (set file_a 24 1) 25 1)) 7 14
    ∷ refuses (read_verdict (set file_a 17 128)) 7 14
    ∷ refuses (read_verdict (set file_a 25 128)) 7 14
    ∷ refuses (read_verdict (set file_a 27 1)) 7 14
    ∷ refuses (read_verdict (set (set file_a 40 12) 44 12)) 8 40
    ∷ refuses (read_verdict (set file_a 52 12)) 8 52
    ∷ refuses (read_verdict (set file_a 36 128)) 8 36
    ∷ refuses (solve_verdict (set file_a 52 12) 0 0 0) 8 52
    ∷ refuses (solve_verdict file_a 9 5 5) 10 0
    ∷ refuses (solve_verdict file_a 10 4 5) 10 0
    ∷ refuses (solve_verdict file_a 10 5 4) 10 0
    ∷ refuses (solve_verdict file_a 10 5 5) 0 0
    ∷ refuses (field_says (field_at file_a 56 4 20)) 1 56
    ∷ refuses (field_says (field_at file_a 18446744073709551615 4 20)) 1 18446744073709551615
    ∷ refuses (field_says (field_at file_a 33 4 20)) 0 0
    ∷ refuses (field_says (field_at file_a 33 4 65556)) 3 33
    ∷ holding
    (field_next (field_at file_a 33 4 20) 33 ∷ field_next (field_at file_a 33 4 21) 33 ∷ field_next (field_at file_a 7 2 4) 7 ∷ field_next (field_at file_a 99 2 4) 99 ∷ [])
    (56 ∷ 33 ∷ 14 ∷ 99 ∷ [])
    ∷ holding (field_start (field_at file_a 33 4 20) ∷ field_start (field_at file_a 33 4 21) ∷ []) (36 ∷ 0 ∷ [])
    ∷ holding (big file_a 33 3 ∷ big file_a 40 4 ∷ big file_a 55 3 ∷ []) (262164 ∷ 4294967293 ∷ 16252928 ∷ [])
    ∷ counting 6 (λ i. get_or (twos 32 2147483647 ∷ twos 32 2147483648 ∷ twos 32 4294967295 ∷ twos 64 9223372036854775807 ∷ twos 64 9223372036854775808
    ∷ twos 64 18446744073709551615 ∷ []) i (pos 7))
    (pos 2147483647 ∷ negsuc 2147483647 ∷ negsuc 0 ∷ pos 9223372036854775807 ∷ negsuc 9223372036854775807 ∷ negsuc 0 ∷ [])
    ∷ holding
    ((read_answer file_a).head.n ∷ (read_answer file_a).head.flag ∷ (read_answer file_a).head.p ∷ (read_answer file_a).head.m ∷ (read_answer file_a).blocks_at
    ∷ (read_answer file_a).readings_at ∷ (read_answer file_a).set ∷ [])
    (5 ∷ 0 ∷ 2 ∷ 1 ∷ 10 ∷ 36 ∷ 3 ∷ [])
    ∷ holding
    ((read_answer file_c).head.n ∷ (read_answer file_c).head.flag ∷ (read_answer file_c).head.p ∷ (read_answer file_c).head.m ∷ (read_answer file_c).blocks_at
    ∷ (read_answer file_c).readings_at ∷ (read_answer file_c).set ∷ [])
    (zeros 7)
    ∷ counting 2 (λ i. get_or ((read_answer file_a).sum ∷ (read_answer file_c).sum ∷ []) i (pos 5)) (pos 7 ∷ pos 0 ∷ [])
    ∷ []

-- ---- listings
-- three residues and ∞, restraint 0 and ∞, M -5, readings at both ends of their range
abbrev file_infinity : List ℕ
file_infinity =
    1 ∷ 0 ∷ 4 ∷ 3 ∷ 1 ∷ 1 ∷ 2
    ∷ 2 ∷ 0 ∷ 4 ∷ 0 ∷ 1 ∷ 0 ∷ 255
    ∷ 3 ∷ 0 ∷ 16 ∷ 0 ∷ 0 ∷ 0 ∷ 0 ∷ 0 ∷ 0 ∷ 0 ∷ 9 ∷ 255 ∷ 255 ∷ 255 ∷ 255 ∷ 255 ∷ 255 ∷ 255 ∷ 251
    ∷ 4 ∷ 0 ∷ 24 ∷ 0 ∷ 0 ∷ 0 ∷ 7 ∷ 244 ∷ 20 ∷ 62 ∷ 0 ∷ 11 ∷ 235 ∷ 194 ∷ 0 ∷ 255 ∷ 255 ∷ 255 ∷ 255 ∷ 0 ∷ 0 ∷ 0 ∷ 0 ∷ 0 ∷ 0 ∷ 0 ∷ 3 ∷ []

-- {∞,0},{1,2}: no degree of freedom; M at its upper end
abbrev file_none : List ℕ
file_none =
    1 ∷ 0 ∷ 4 ∷ 3 ∷ 1 ∷ 2 ∷ 1
    ∷ 2 ∷ 0 ∷ 4 ∷ 255 ∷ 0 ∷ 1 ∷ 2
    ∷ 3 ∷ 0 ∷ 16 ∷ 0 ∷ 0 ∷ 0 ∷ 0 ∷ 0 ∷ 0 ∷ 0 ∷ 6 ∷ 0 ∷ 0 ∷ 0 ∷ 232 ∷ 212 ∷ 165 ∷ 16 ∷ 0
    ∷ 4 ∷ 0 ∷ 12 ∷ 0 ∷ 0 ∷ 0 ∷ 10 ∷ 255 ∷ 255 ∷ 255 ∷ 249 ∷ 0 ∷ 0 ∷ 0 ∷ 2 ∷ []

-- every object restrained, M at its lower end, and readings of 0, which are readings as any other
abbrev file_zero : List ℕ
file_zero =
    1 ∷ 0 ∷ 4 ∷ 5 ∷ 0 ∷ 2 ∷ 1
    ∷ 2 ∷ 0 ∷ 4 ∷ 1 ∷ 4 ∷ 2 ∷ 3
    ∷ 3 ∷ 0 ∷ 16 ∷ 0 ∷ 0 ∷ 0 ∷ 0 ∷ 0 ∷ 0 ∷ 0 ∷ 31 ∷ 255 ∷ 255 ∷ 255 ∷ 23 ∷ 43 ∷ 90 ∷ 240 ∷ 0
    ∷ 4 ∷ 0 ∷ 20 ∷ 0 ∷ 0 ∷ 0 ∷ 0 ∷ 0 ∷ 0 ∷ 0 ∷ 0 ∷ 0 ∷ 0 ∷ 0 ∷ 0 ∷ 0 ∷ 0 ∷ 0 ∷ 0 ∷ 0 ∷ 0 ∷ 0 ∷ 0 ∷ []

-- three objects that share M = 1: each is a third, which no hundredths are
abbrev file_thirds : List ℕ
file_thirds =
    1 ∷ 0 ∷ 4 ∷ 3 ∷ 0 ∷ 1 ∷ 1
    ∷ 2 ∷ 0 ∷ 2 ∷ 0 ∷ 1
    ∷ 3 ∷ 0 ∷ 16 ∷ 0 ∷ 0 ∷ 0 ∷ 0 ∷ 0 ∷ 0 ∷ 0 ∷ 7 ∷ 0 ∷ 0 ∷ 0 ∷ 0 ∷ 0 ∷ 0 ∷ 0 ∷ 1
    ∷ 4 ∷ 0 ∷ 12 ∷ zeros 12

unfoldable pub listing_rows : List Row
unfolding ascii
listing_rows =
    lists file_infinity
    (ascii "design 4 6 3 1 0 1\nvalue 0 -200000012 8 -2500000150\nvalue 1 -200000038 8 -2500000475\nvalue 2 999999982 8 12499999775\nvalue 3 199999972 8 2499999650\ndev 0 15 4\ndev 1 -199999990 4\ndev 2 200000003 4\ndev 3 199999988 4\ndev 4 200000005 4\ndev 5 -399999993 4\nspread 79999997200000138 4 3 8164965666\n")
    ∷ lists file_none
    (ascii "design 4 3 3 2 1 2\nvalue 0 4000000000050 8 50000000000625\nvalue 1 3999999999982 8 49999999999775\nvalue 2 4000000000018 8 50000000000225\nvalue 3 4000000000030 8 50000000000375\ndev 0 0 4\ndev 1 0 4\ndev 2 0 4\nspread 0 4 0 none\n")
    ∷ lists file_zero
    (ascii "design 5 5 4 2 1 2\nvalue 0 -5000000000000 25 -20000000000000\nvalue 1 -5000000000000 25 -20000000000000\nvalue 2 -5000000000000 25 -20000000000000\nvalue 3 -5000000000000 25 -20000000000000\nvalue 4 -5000000000000 25 -20000000000000\ndev 0 0 5\ndev 1 0 5\ndev 2 0 5\ndev 3 0 5\ndev 4 0 5\nspread 0 5 1 0\n")
    ∷ lists file_thirds
    (ascii "design 3 3 2 1 0 1\nvalue 0 3 9 34\nvalue 1 3 9 33\nvalue 2 3 9 33\ndev 0 0 3\ndev 1 0 3\ndev 2 0 3\nspread 0 3 1 0\n")
    ∷ lists (file_a ++ (0 ∷ [])) (ascii "refused 9 56\n")
    ∷ lists [] (ascii "refused 1 0\n")
    ∷ holding (bench_text (replicate 10000 9)) (ascii "refused 2 0\n")
    ∷ holding (bench_text (file_a ++ replicate 9000 9)) (ascii "refused 9 56\n")
    ∷ holding (spaced 18446744073709551615 ++ signed_text (negsuc 9223372036854775807) ++ spaced 0 ++ signed_text (pos 10))
    (ascii " 18446744073709551615 -9223372036854775808 0 10")
    ∷ holding (wide_text (wide 18446744073709551615) ++ wide_text (wide 18446744073709551616) ++ wide_text (wide 70304000000000000000000))
    (ascii " 18446744073709551615 18446744073709551616 70304000000000000000000")
    ∷ holding (wide_text wide_zero ++ wide_text (wide 340282366920938463463374607431768211455)) (ascii " 0 340282366920938463463374607431768211455")
    ∷ holding (listed_after [] (replicate 14 46)) (ascii "refused 1 0\n..")
    ∷ holding (listed_after [] (replicate 11 46)) (replicate 11 46)
    ∷ holding ((listed_answer [] 12).length ∷ (listed_answer [] 11).length ∷ []) (12 ∷ 0 ∷ [])
    ∷ refuses (listed_answer [] 12).verdict 0 0
    ∷ refuses (listed_answer [] 11).verdict 10 0
    ∷ []

-- ---- writing
-- a file written again from what it holds
abbrev rewritten : List ℕ → List ℕ
rewritten s = file_of (head_of s) (blocks_of s) (readings_of s) (set_of s) (sum_of s)

-- the readings of example A
abbrev ys_a : List ℤ
ys_a = pos 11 ∷ negsuc 2 ∷ pos 4 ∷ pos 1 ∷ negsuc 7 ∷ []

-- the smallest job as it is written: three objects, {0},{1}, all restrained, M -2, readings 4, -3, 2
abbrev file_three : List ℕ
file_three =
    1 ∷ 0 ∷ 4 ∷ 3 ∷ 0 ∷ 1 ∷ 1
    ∷ 2 ∷ 0 ∷ 2 ∷ 0 ∷ 1
    ∷ 3 ∷ 0 ∷ 16 ∷ 0 ∷ 0 ∷ 0 ∷ 0 ∷ 0 ∷ 0 ∷ 0 ∷ 7 ∷ 255 ∷ 255 ∷ 255 ∷ 255 ∷ 255 ∷ 255 ∷ 255 ∷ 254
    ∷ 4 ∷ 0 ∷ 12 ∷ 0 ∷ 0 ∷ 0 ∷ 4 ∷ 255 ∷ 255 ∷ 255 ∷ 253 ∷ 0 ∷ 0 ∷ 0 ∷ 2 ∷ []

abbrev writing_rows : List Row
writing_rows =
    holding (file_of (head 5 0 2 1) (1 ∷ 4 ∷ 2 ∷ 3 ∷ []) ys_a 3 (pos 7)) file_a
    ∷ holding (file_of three pair ys 7 (negsuc 1)) file_three
    ∷ holding (rewritten file_a) file_a
    ∷ holding (rewritten file_e) file_e
    ∷ holding (rewritten file_infinity) file_infinity
    ∷ holding (rewritten file_none) file_none
    ∷ holding (rewritten file_zero) file_zero
    ∷ holding (bytes_of 2 1280 ++ bytes_of 2 65535 ++ bytes_of 3 256) (5 ∷ 0 ∷ 255 ∷ 255 ∷ 0 ∷ 1 ∷ 0 ∷ [])
    ∷ holding
    (wrapped 32 (pos 2147483647) ∷ wrapped 32 (negsuc 2147483647) ∷ wrapped 32 (negsuc 0) ∷ wrapped 64 (pos 9223372036854775807) ∷ wrapped 64
    (negsuc 9223372036854775807) ∷ wrapped 64 (negsuc 0) ∷ [])
    (2147483647 ∷ 2147483648 ∷ 4294967295 ∷ 9223372036854775807 ∷ 9223372036854775808 ∷ 18446744073709551615 ∷ [])
    ∷ refuses (write_verdict (head 2 0 1 1) (0 ∷ []) ys 7 (pos 0) 0) 4 0
    ∷ refuses (write_verdict three (0 ∷ 3 ∷ 0 ∷ []) ys 7 (pos 0) 0) 3 0
    ∷ refuses (write_verdict three (0 ∷ 3 ∷ []) ys4 7 (pos 0) 0) 3 0
    ∷ refuses (write_verdict four (0 ∷ 0 ∷ []) ys4 0 (pos 0) 0) 5 1
    ∷ refuses (write_verdict four pair far4 0 (pos 0) 0) 6 0
    ∷ refuses (write_verdict three pair far 8 (pos 0) 0) 7 0
    ∷ refuses (write_verdict three pair far 2 (pos 0) 0) 11 0
    ∷ refuses (write_verdict three pair far 7 (pos 0) 0) 8 1
    ∷ refuses (write_verdict three pair ys 7 (negsuc 1) 45) 10 0
    ∷ refuses (write_verdict three pair ys 7 (negsuc 1) 46) 0 0
    ∷ refuses (write_verdict three pair ys 7 (negsuc 1) 47) 0 0
    ∷ holding ((written_answer three pair ys 7 (negsuc 1) 47).length ∷ (written_answer three pair ys 7
    (negsuc 1) 45).length ∷ (written_answer three pair far 7 (negsuc 1) 47).length ∷ []) (46 ∷ 0 ∷ 0 ∷ [])
    ∷ refuses (written_answer three pair far 7 (negsuc 1) 47).verdict 8 1
    ∷ refuses (written_answer three pair ys 7 (negsuc 1) 47).verdict 0 0
    ∷ holding (written_after three pair ys 7 (negsuc 1) (replicate 48 77)) (file_three ++ (77 ∷ 77 ∷ []))
    ∷ holding (written_after three pair ys 7 (negsuc 1) (replicate 45 77)) (replicate 45 77)
    ∷ holding (written_after four pair ys4 7 (negsuc 1) (replicate 60 77)) (replicate 60 77)
    ∷ []

unfoldable pub table : List Row
table = size_rows ++ design_rows ++ sum_rows ++ call_rows ++ publishing_rows ++ held_rows ++ number_rows ++ file_rows ++ writing_rows ++ listing_rows

pub boundaries : every table ≡ true
unfolding table listing_rows wide field_prime sized occ digit_sum plus left right company opposition balanced beta total members restrained numerator_of denominator_of along difference deviation_of squared_readings squared_totals qOf root spread_hundredths spread_hundredths_of rank shortfall published offender far_reading word word_at table_of design_verdict develop_verdict initial_verdict judge_verdict slices contents job_verdict total_verdict values_verdict value_verdict readings_verdict deviations_verdict deviation_verdict squared_readings_verdict squared_totals_verdict rooms analyse_verdict big numbers_at field_verdict field_at fields read_verdict solve_verdict bytes_of readings_body file_of write_verdict ascii digits each text_of bench_text over sum sum_ℕ first_from round
boundaries = refl

-- ---- the variance factors and the coefficients: of example A, of three objects with one that is no member and with members only, and of a refusal
abbrev factor_rows : List Row
factor_rows =
    counting 5 (coefficient (head_of file_a) (blocks_of file_a) 3 0) (negsuc 0 ∷ pos 1 ∷ negsuc 1 ∷ pos 0 ∷ pos 2 ∷ [])
    ∷ counting 5 (coefficient (head_of file_a) (blocks_of file_a) 3 2) (negsuc 2 ∷ pos 1 ∷ pos 0 ∷ pos 4 ∷ negsuc 1 ∷ [])
    ∷ counting 3 (coefficient three pair 5 1) (negsuc 2 ∷ pos 3 ∷ pos 0 ∷ [])
    ∷ counting 3 (coefficient three pair 7 2) (pos 0 ∷ negsuc 2 ∷ pos 3 ∷ [])
    ∷ holding
    ((value_answer (head_of file_a) (blocks_of file_a) ys_a 3 (pos 7) 0).value.factor ∷ (value_answer (head_of file_a) (blocks_of file_a) ys_a 3 (pos 7) 2).value.factor
    ∷ (value_answer three pair ys 5 (negsuc 0) 1).value.factor ∷ (value_answer three pair ys 5 (negsuc 0) 2).value.factor
    ∷ (value_answer three pair ys 7 (negsuc 0) 0).value.factor ∷ (value_answer three pair ys 7 (negsuc 0) 2).value.factor
    ∷ (value_answer three pair ys 1 (negsuc 0) 0).value.factor ∷ (value_answer three pair ys 0 (negsuc 0) 1).value.factor ∷ no_value.factor ∷ [])
    (1 ∷ 3 ∷ 3 ∷ 1 ∷ 2 ∷ 2 ∷ 0 ∷ 0 ∷ 0 ∷ [])
    ∷ floats (value_answer (head_of file_a) (blocks_of file_a) ys_a 3 (pos 7) 0).value.factor_value (fin false 3602879701896397 (negsuc 54)) 1
    ∷ floats (value_answer (head_of file_a) (blocks_of file_a) ys_a 3 (pos 7) 2).value.factor_value (fin false 5404319552844595 (negsuc 53)) 1
    ∷ floats (value_answer three pair ys 5 (negsuc 0) 1).value.factor_value (fin false 1 (negsuc 0)) 1
    ∷ floats (value_answer three pair ys 7 (negsuc 0) 0).value.factor_value (fin false 2001599834386887 (negsuc 52)) 1
    ∷ floats (value_answer three pair ys 0 (negsuc 0) 1).value.factor_value float_zero 1
    ∷ floats no_value.factor_value float_zero 1
    ∷ []

pub factors : every factor_rows ≡ true
unfolding sized occ plus left right company opposition balanced beta members restrained denominator_of coefficient factor offender far_reading slices contents job_verdict value_verdict big numbers_at sum sum_ℕ first_from round
factors = refl

-- ---- how near an f64 is, and any set of values

-- the f64 of 1/3 is away from it by its size over 2 to the 54th, and no nearer
pub near-third : Near 54 (float (pos 1) 3) (pos 1) 3
unfolding round
near-third = (refl, omega arith)

pub no_nearer : Near 55 (float (pos 1) 3) (pos 1) 3 → ⊥
unfolding round
no_nearer near = absurd (omega (arith, near.1))

-- the values of example A
abbrev values_of_a : ℕ → Fraction
values_of_a = exact_values (head_of file_a) (blocks_of file_a) (readings_of file_a) 3 (pos 7)

-- example A: the sum of squared deviations of its exact values is Q over v·beta, 25/5
pub squares_of_A : squares_under (head_of file_a) (blocks_of file_a) (readings_of file_a) values_of_a =ᶠ record { top = pos 25; bottom = 5 }
unfolding sum sum_ℕ occ field_prime digit_sum plus left right company opposition beta total members restrained numerator_of denominator_of big numbers_at summed values_along deviation_under squares_under
squares_of_A = refl

-- example A: its exact values keep the restraint, and its published values are the listed hundredths of a count
pub restraint_of_A : KeepsRestraint 5 3 (pos 7) values_of_a
unfolding sum sum_ℕ occ field_prime digit_sum plus left right company opposition beta total members restrained numerator_of denominator_of big numbers_at summed
restraint_of_A = refl

pub published_of_A : published_values (head_of file_a) (blocks_of file_a) (readings_of file_a) 3 (pos 7) 1 =ᶠ record { top = pos 73; bottom = 10 }
unfolding sum sum_ℕ occ field_prime digit_sum plus left right company opposition beta total members restrained numerator_of denominator_of big numbers_at rank shortfall published
published_of_A = refl

-- over no objects the values add to 0
pub nothing-along : values_along values_of_a [] =ᶠ record { top = pos 0; bottom = 1 }
unfolding values_along
nothing-along = refl
