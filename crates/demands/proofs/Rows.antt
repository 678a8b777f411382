-- Worked instances of what the demands speak of, rows of five tables with a theorem each: a definition of specs/ that is changed turns one of them over.
-- The figures were worked out apart from the definitions. Assumes nothing.
use mathlib.Core.Bool.{Bool, true, ◌&&◌}
use mathlib.Core.List.{List, [], ◌∷◌, ◌++◌, replicate}
use mathlib.Core.Path.{◌≡◌, refl}
use Prim.Native.Nat.{ℕ}
use lib.Dec.{eqb}
use lib.IntN.{ℤ, pos, negsuc, ◌*ℤ◌}
use lib.ListN.{take, set}
use lib.Signed.{le_z, lt_z}
use Rattle.algebra.specs.Ranges.{eq_z, sum, sum_ℕ, first_from}
use Rattle.records.specs.declared.Head.{Head}
use Rattle.meaning.specs.Design.{field_prime, sized, occ, digit_sum, plus, left, right, company, opposition, balanced, beta}
use Rattle.meaning.specs.Analysis.{total, members, restrained, numerator_of, denominator_of, squared_readings, squared_totals, qOf, coefficient, factor}
use Rattle.meaning.specs.Publishing.{rank, shortfall, published}
use Rattle.meaning.specs.Fractions.{Fraction, ◌+ᶠ◌, squared, summed, values_along, deviation_under, squares_under}
use Rattle.meaning.specs.Refusals.{Verdict, number, place, offender, far_reading}
use Rattle.algebra.specs.Buffers.{over as written_over}
use Rattle.meaning.specs.Calls.{word, word_at, slices, contents, job_verdict, rooms}
use Rattle.meaning.specs.File.{big, numbers_at, field_verdict, fields, read_verdict, solve_verdict}
use Rattle.meaning.specs.Writing.{bytes_of, readings_body, file_of}
use Rattle.meaning.proofs.Rows.{head, alike}
use Rattle.meaning.proofs.Examples.{file_a}
use Rattle.demands.specs.Job.{Job, job_in, verdict_of, exact, squares, published as published_of}
use Rattle.demands.specs.Refusals.{four, three_blocks, three_readings, five, five_for, six, seven, eleven, eight, ten, file_tests}
use Rattle.demands.specs.Outcomes.{words_after}
use Rattle.demands.specs.Fractions.{◌*ᶠ◌, distance, divided_by, hundredths}
use Rattle.demands.specs.Papers.{standard_deviation_squared}
use Rattle.demands.specs.Demand3.{hundredth, half_hundredth, excess}
use Rattle.demands.specs.Uncertainty.{coefficient_of, factor_of}
use Rattle.demands.specs.Days.{together, Q}

-- a verdict with the number and the place that it has; two fractions that are one; one that is at most, and one that is below another; what a room holds
pub data Row : Type 0 where
  says : Verdict → ℕ → ℕ → Row
  same : Fraction → Fraction → Row
  at_most : Fraction → Fraction → Row
  below : Fraction → Fraction → Row
  leaves : List ℕ → List ℕ → Row

abbrev pub holds : Row → Bool
holds (says verdict k at) = eqb (number verdict) k && eqb (place verdict) at
holds (same x y) = eq_z (x.top *ℤ pos y.bottom) (y.top *ℤ pos x.bottom)
holds (at_most x y) = le_z (x.top *ℤ pos y.bottom) (y.top *ℤ pos x.bottom)
holds (below x y) = lt_z (x.top *ℤ pos y.bottom) (y.top *ℤ pos x.bottom)
holds (leaves room xs) = alike room xs

abbrev pub every : List Row → Bool
every [] = true
every (r ∷ rs) = holds r && every rs

-- a whole number over another
abbrev over : ℕ → ℕ → Fraction
over a d = record { top = pos a; bottom = d }

-- a job of these parts, one of three objects, and the initial block {0},{1}
abbrev job : Head → List ℕ → List ℤ → ℕ → ℤ → Job
job h d y w M = record { head = h; initial = d; readings = y; set = w; sum = M }

abbrev three : List ℕ → List ℤ → ℕ → ℤ → Job
three = job (head 3 0 1 1)

abbrev pair : List ℕ
pair = 0 ∷ 1 ∷ []

abbrev ys : List ℤ
ys = pos 4 ∷ negsuc 2 ∷ pos 2 ∷ []

-- three residues and ∞, {0},{1} and {0},{∞}, restraint 0 and 2, M 1: the values are 3/8, 7/8, 5/8, 5/8, so each is published just half a hundredth away, two
-- above and two below, and the published set's excess is a quarter of beta·v²/10,000
abbrev halves : Job
halves = job (head 3 1 1 2) (0 ∷ 1 ∷ 0 ∷ 255 ∷ []) (negsuc 0 ∷ pos 0 ∷ pos 0 ∷ pos 0 ∷ pos 0 ∷ pos 0 ∷ []) 5 (pos 1)

-- the same design and restraint set on a later day, M 2, and both days together, M 3
abbrev later : Job
later = job (head 3 1 1 2) (0 ∷ 1 ∷ 0 ∷ 255 ∷ []) (pos 0 ∷ pos 1 ∷ pos 0 ∷ pos 0 ∷ pos 0 ∷ pos 0 ∷ []) 5 (pos 2)

abbrev two_days : Job
two_days = together halves later

-- ---- the refusal table of a file: example A, and A with one fault, or two
abbrev file_rows : List Row
file_rows =
    says (verdict_of (job_in file_a)) 0 0
    ∷ says (file_tests file_a) 0 0
    ∷ says (file_tests []) 1 0
    ∷ says (file_tests (take 8 file_a)) 1 7
    ∷ says (file_tests (take 55 file_a)) 1 33
    ∷ says (file_tests (set file_a 7 3)) 2 7
    ∷ says (file_tests (set file_a 16 15)) 3 14
    ∷ says (file_tests (set (set file_a 4 2) 7 3)) 4 0
    ∷ says (file_tests (set (file_a ++ (0 ∷ [])) 11 9)) 9 56
    ∷ says (file_tests (set (set file_a 11 9) 13 9)) 5 11
    ∷ says (file_tests (set (set file_a 11 0) 24 0)) 6 0
    ∷ says (file_tests (set (set file_a 24 0) 40 127)) 7 14
    ∷ says (file_tests (set (set file_a 24 1) 40 127)) 11 14
    ∷ says (file_tests (set (set file_a 24 1) 25 127)) 7 14
    ∷ says (file_tests (set (set file_a 40 127) 44 127)) 8 40
    ∷ []

-- ---- the refusal table of direct calls: each test at its bounds
abbrev call_rows : List Row
call_rows =
    says (four (job (head 3 0 2 1) pair ys 1 (pos 0))) 4 0
    ∷ says (four (three pair ys 1 (pos 0))) 0 0
    ∷ says (three_blocks (three (0 ∷ 1 ∷ 2 ∷ []) ys 1 (pos 0))) 3 0
    ∷ says (three_blocks (three pair ys 1 (pos 0))) 0 0
    ∷ says (three_readings (three pair (pos 0 ∷ ys) 1 (pos 0))) 3 0
    ∷ says (three_readings (three pair ys 1 (pos 0))) 0 0
    ∷ says (five (three (2 ∷ 2 ∷ []) ys 1 (pos 0))) 5 1
    ∷ says (five (three (0 ∷ 255 ∷ []) ys 1 (pos 0))) 5 1
    ∷ says (five_for 3 3) 5 3
    ∷ says (five_for 2 3) 0 0
    ∷ says (six (job (head 4 0 1 1) pair ys 1 (pos 0))) 6 0
    ∷ says (six (three pair ys 1 (pos 0))) 0 0
    ∷ says (seven (three pair ys 0 (pos 0))) 7 0
    ∷ says (seven (three pair ys 8 (pos 0))) 7 0
    ∷ says (seven (three pair ys 7 (negsuc 999999999999))) 0 0
    ∷ says (seven (three pair ys 7 (pos 1000000000001))) 7 0
    ∷ says (eleven (three pair ys 4 (pos 0))) 11 0
    ∷ says (eleven (three pair ys 5 (pos 0))) 0 0
    ∷ says (eight (three pair (pos 200000000 ∷ negsuc 200000000 ∷ pos 200000001 ∷ []) 1 (pos 0))) 8 1
    ∷ says (ten 5 6) 10 0
    ∷ says (ten 6 6) 0 0
    ∷ says (ten 7 6) 0 0
    ∷ []

-- ---- the words after example A was solved: with room for ten of them, for eleven, and for nine, which is a refusal although the file is good
abbrev room_rows : List Row
room_rows =
    leaves (words_after file_a (replicate 10 7) (replicate 5 (pos 0)) (replicate 5 (pos 0))) (18 ∷ 12 ∷ 5 ∷ 24 ∷ 10 ∷ 17 ∷ 20 ∷ 3 ∷ 9 ∷ 6 ∷ [])
    ∷ leaves (words_after file_a (replicate 11 7) (replicate 5 (pos 0)) (replicate 5 (pos 0))) (18 ∷ 12 ∷ 5 ∷ 24 ∷ 10 ∷ 17 ∷ 20 ∷ 3 ∷ 9 ∷ 6 ∷ 7 ∷ [])
    ∷ leaves (words_after file_a (replicate 9 7) (replicate 5 (pos 0)) (replicate 5 (pos 0))) (replicate 9 7)
    ∷ leaves (words_after file_a (replicate 10 7) (replicate 4 (pos 0)) (replicate 5 (pos 0))) (replicate 10 7)
    ∷ []

-- ---- the standard deviation and its cut, in example A (5, k 223) and in halves (1/6, k 40)
abbrev spread_rows : List Row
spread_rows =
    same (squares (job_in file_a) (exact (job_in file_a))) (over 5 1)
    ∷ same (standard_deviation_squared (job_in file_a)) (over 5 1)
    ∷ at_most (squared (hundredths (pos 223))) (standard_deviation_squared (job_in file_a))
    ∷ below (standard_deviation_squared (job_in file_a)) (squared (hundredths (pos 224)))
    ∷ same (squares halves (exact halves)) (over 1 2)
    ∷ same (standard_deviation_squared halves) (over 1 6)
    ∷ at_most (squared (hundredths (pos 40))) (standard_deviation_squared halves)
    ∷ below (standard_deviation_squared halves) (squared (hundredths (pos 41)))
    ∷ same (divided_by 3 (over 1 2)) (over 1 6)
    ∷ []

-- three residues, {0},{1}, all three in the restraint, M 1, readings of 0: each value is a third; 34, 33 and 33 hundredths add to 1
abbrev thirds : Job
thirds = three pair (pos 0 ∷ pos 0 ∷ pos 0 ∷ []) 7 (pos 1)

-- ---- the third demand's numbers: halves reaches a half, a member of thirds is farther
abbrev published_rows : List Row
published_rows =
    same (distance (published_of halves 0) (exact halves 0)) half_hundredth
    ∷ same (distance (published_of halves 1) (exact halves 1)) half_hundredth
    ∷ same (distance (published_of halves 2) (exact halves 2)) half_hundredth
    ∷ same (distance (published_of halves 3) (exact halves 3)) half_hundredth
    ∷ same half_hundredth (over 1 200)
    ∷ same (distance (over 1 2) (over 3 4)) (over 1 4)
    ∷ same (published_of thirds 0) (over 34 100)
    ∷ same (published_of thirds 1) (over 33 100)
    ∷ same (published_of thirds 2) (over 33 100)
    ∷ same (distance (published_of thirds 0) (exact thirds 0)) (over 2 300)
    ∷ below (distance (published_of thirds 0) (exact thirds 0)) hundredth
    ∷ below half_hundredth (distance (published_of thirds 0) (exact thirds 0))
    ∷ same hundredth (over 1 100)
    ∷ same (excess halves) (over 1 625)
    ∷ same (squares halves (published_of halves)) (squares halves (exact halves) +ᶠ over 1 2500)
    ∷ same (excess (job_in file_a)) (over 1 400)
    ∷ []

-- ---- uncertainty: example A has 1/10 for its members and 3/10 for the others, thirds 2/9 for all
abbrev uncertainty_rows : List Row
uncertainty_rows =
    same (factor_of (job_in file_a) 0) (over 1 10)
    ∷ same (factor_of (job_in file_a) 2) (over 3 10)
    ∷ same (factor_of thirds 0) (over 2 9)
    ∷ same (coefficient_of (job_in file_a) 0 1) (over 1 10)
    ∷ same (coefficient_of (job_in file_a) 0 4) (over 2 10)
    ∷ same (coefficient_of (job_in file_a) 2 1) (over 1 10)
    ∷ same (coefficient_of (job_in file_a) 2 3) (over 4 10)
    ∷ same (coefficient_of thirds 2 2) (over 3 9)
    ∷ same (summed 5 (λ k. squared (coefficient_of (job_in file_a) 0 k))) (over 1 10)
    ∷ same (summed 5 (λ k. squared (coefficient_of (job_in file_a) 2 k))) (over 3 10)
    ∷ same (summed 5 (λ k. coefficient_of (job_in file_a) 0 k *ᶠ coefficient_of (job_in file_a) 2 k)) (over 0 10)
    ∷ same (summed 5 (λ k. coefficient_of (job_in file_a) 2 k *ᶠ coefficient_of (job_in file_a) 3 k)) (over 1 10)
    ∷ same (over 1 2 *ᶠ over 3 4) (over 3 8)
    ∷ []

-- ---- two days and their sum, all three accepted: object 3, which is ∞ and not in the restraint set, has 5/8 and 9/8, together 14/8. Published are 62, 112 and
-- 175 hundredths, which do not add; and Q is 2, 2 and 2, which does not either
abbrev day_rows : List Row
day_rows =
    says (verdict_of halves) 0 0
    ∷ says (verdict_of later) 0 0
    ∷ says (verdict_of two_days) 0 0
    ∷ same (exact halves 3) (over 5 8)
    ∷ same (exact later 3) (over 9 8)
    ∷ same (exact two_days 3) (over 14 8)
    ∷ same (published_of halves 3) (over 62 100)
    ∷ same (published_of later 3) (over 112 100)
    ∷ same (published_of two_days 3) (over 175 100)
    ∷ below (published_of halves 3 +ᶠ published_of later 3) (published_of two_days 3)
    ∷ same (over (Q halves) 1) (over 2 1)
    ∷ same (over (Q later) 1) (over 2 1)
    ∷ same (over (Q two_days) 1) (over 2 1)
    ∷ []

-- ---- every row holds

abbrev pub refusal_rows : List Row
refusal_rows = file_rows ++ call_rows ++ room_rows

pub refusal-rows : every refusal_rows ≡ true
unfolding members field_prime sized occ digit_sum plus left right company opposition balanced offender far_reading big numbers_at slices contents
    job_verdict rooms field_verdict fields read_verdict solve_verdict word word_at written_over sum_ℕ first_from
refusal-rows = refl

pub spread-rows : every spread_rows ≡ true
unfolding occ field_prime digit_sum plus left right company opposition beta total members restrained numerator_of denominator_of big numbers_at
    summed values_along deviation_under squares_under sum sum_ℕ
spread-rows = refl

pub published-rows : every published_rows ≡ true
unfolding occ field_prime digit_sum plus left right company opposition beta total members restrained numerator_of denominator_of rank shortfall published
    big numbers_at summed values_along deviation_under squares_under sum sum_ℕ
published-rows = refl

pub uncertainty_rows_lem : every uncertainty_rows ≡ true
unfolding occ field_prime digit_sum plus left right company opposition beta members restrained denominator_of coefficient factor big numbers_at summed sum sum_ℕ
uncertainty_rows_lem = refl

pub day-rows : every day_rows ≡ true
unfolding field_prime sized occ digit_sum plus left right company opposition balanced beta offender far_reading slices contents job_verdict first_from
    total members restrained numerator_of denominator_of rank shortfall published squared_readings squared_totals qOf sum sum_ℕ
day-rows = refl

-- the request's example A is written as its 56 bytes
pub example_A_is_written : file_of (head 5 0 2 1) (1 ∷ 4 ∷ 2 ∷ 3 ∷ []) (pos 11 ∷ negsuc 2 ∷ pos 4 ∷ pos 1 ∷ negsuc 7 ∷ []) 3 (pos 7) ≡ file_a
unfolding bytes_of readings_body file_of
example_A_is_written = refl
