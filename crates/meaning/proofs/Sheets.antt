-- Sheets at their boundaries, rows of a table under one theorem: each claim a hundredth off on both sides, the first of several differences, the spread off in
-- its f64, in its degrees of freedom, with a NaN, with -0.0 and with none, lists one short and one long, and refusals of the job before that of the list.
-- The figures were worked out apart from these definitions. Assumes nothing.
use Rattle.std.proofs.Common.{None, Option, Ok, Err}
use Prim.Native.Nat.{ℕ}
use mathlib.Core.Bool.{true, false}
use mathlib.Core.List.{List, [], ◌∷◌, ◌++◌}
use mathlib.Core.Path.{◌≡◌, refl}
use lib.IntN.{ℤ, pos, negsuc}
use lib.Ieee.{Float, nan, inf, fin, round, eq}
use lib.ListN.{set, take}
use Rattle.algebra.specs.Buffers.{over}
use Rattle.algebra.specs.Ranges.{sum, sum_ℕ, first_from}
use Rattle.records.specs.declared.Spread.{Spread}
use Rattle.records.specs.declared.Agreement.TheVariants.{Agrees, Differs}
use Rattle.meaning.specs.Design.{sized, occ, plus, left, right, company, opposition, balanced, beta, field_prime, digit_sum}
use Rattle.meaning.specs.Analysis.{
  total,
  members,
  restrained,
  numerator_of,
  denominator_of,
  squared_readings,
  squared_totals,
  qOf,
  root,
  spread_hundredths,
  spread_hundredths_of,
}
use Rattle.meaning.specs.Publishing.{spreads, rank, shortfall, published}
use Rattle.meaning.specs.Refusals.{offender, far_reading}
use Rattle.meaning.specs.Calls.{slices, contents, job_verdict}
use Rattle.meaning.specs.File.{big, numbers_at, field_verdict, fields, read_verdict}
use Rattle.meaning.specs.Edition2.{edition, four_of, optional_verdict, optionals, optional_fields, fields2, read_verdict2}
use Rattle.meaning.specs.Sheet.{Checked, differs_at, against, check_answer, file_answer, second_answer}
use Rattle.meaning.proofs.Rows.{Row, holding, head, every}
use Rattle.meaning.proofs.Examples.{file_a, file_e}

-- an answer as a list: 0 where the sheet agrees, 1 and where it differs, or 2 with the refusal's number and place
abbrev says : Checked → List ℕ → Row
says (Ok Agrees) = holding (0 ∷ [])
says (Ok (Differs at)) = holding (1 ∷ at ∷ [])
says (Err why) = holding (2 ∷ why.number ∷ why.place ∷ [])

-- the published column of example A, and its spread of 223 hundredths with one degree of freedom; those of example E, which has none
abbrev column_a : List ℤ
column_a = negsuc 29 ∷ pos 730 ∷ pos 190 ∷ pos 50 ∷ pos 510 ∷ []

abbrev spread_a : Option Spread
spread_a = spreads (fin false 5021513584518103 (negsuc 50)) 1

abbrev column_e : List ℤ
column_e = negsuc 199 ∷ negsuc 124 ∷ negsuc 524 ∷ negsuc 324 ∷ negsuc 199 ∷ negsuc 349 ∷ negsuc 574 ∷ negsuc 99 ∷ []

-- three objects with readings of 0 and the sum 0 over all: every value is 0, k is 0 and f is 1
abbrev still : List ℤ → Option Spread → Checked
still = check_answer (head 3 0 1 1) (0 ∷ 1 ∷ []) (pos 0 ∷ pos 0 ∷ pos 0 ∷ []) 7 (pos 0)

abbrev zeros : List ℤ
zeros = pos 0 ∷ pos 0 ∷ pos 0 ∷ []

-- example A in the second edition
abbrev second_a : List ℕ
second_a = 16 ∷ 0 ∷ 1 ∷ 2 ∷ file_a

abbrev file_rows : List Row
file_rows =
    says (file_answer file_a column_a spread_a) (0 ∷ [])
    ∷ says (file_answer file_a (set column_a 0 (negsuc 28)) spread_a) (1 ∷ 0 ∷ [])
    ∷ says (file_answer file_a (set column_a 0 (negsuc 30)) spread_a) (1 ∷ 0 ∷ [])
    ∷ says (file_answer file_a (set column_a 0 (pos 30)) spread_a) (1 ∷ 0 ∷ [])
    ∷ says (file_answer file_a (set column_a 1 (pos 731)) spread_a) (1 ∷ 1 ∷ [])
    ∷ says (file_answer file_a (set column_a 2 (negsuc 189)) spread_a) (1 ∷ 2 ∷ [])
    ∷ says (file_answer file_a (set column_a 3 (pos 4294967346)) spread_a) (1 ∷ 3 ∷ [])
    ∷ says (file_answer file_a (set column_a 4 (pos 509)) spread_a) (1 ∷ 4 ∷ [])
    ∷ says (file_answer file_a (set (set column_a 1 (pos 731)) 4 (pos 509)) None) (1 ∷ 1 ∷ [])
    ∷ says (file_answer file_a column_a None) (1 ∷ 5 ∷ [])
    ∷ says (file_answer file_a column_a (spreads (fin false 5021513584518103 (negsuc 50)) 2)) (1 ∷ 5 ∷ [])
    ∷ says (file_answer file_a column_a (spreads (fin false 5021513584518103 (negsuc 50)) 0)) (1 ∷ 5 ∷ [])
    ∷ says (file_answer file_a column_a (spreads (fin false 5021513584518104 (negsuc 50)) 1)) (1 ∷ 5 ∷ [])
    ∷ says (file_answer file_a column_a (spreads (fin true 5021513584518103 (negsuc 50)) 1)) (1 ∷ 5 ∷ [])
    ∷ says (file_answer file_a column_a (spreads nan 1)) (1 ∷ 5 ∷ [])
    ∷ says (file_answer file_a column_a (spreads (inf false) 1)) (1 ∷ 5 ∷ [])
    ∷ says (file_answer file_a [] None) (2 ∷ 15 ∷ 0 ∷ [])
    ∷ says (file_answer file_a (take 4 column_a) spread_a) (2 ∷ 15 ∷ 0 ∷ [])
    ∷ says (file_answer file_a (column_a ++ (pos 0 ∷ [])) spread_a) (2 ∷ 15 ∷ 0 ∷ [])
    ∷ says (file_answer (take 3 file_a) [] spread_a) (2 ∷ 1 ∷ 0 ∷ [])
    ∷ says (file_answer (set file_a 10 5) [] spread_a) (2 ∷ 5 ∷ 10 ∷ [])
    ∷ says (file_answer (set file_a 52 127) (take 4 column_a) spread_a) (2 ∷ 8 ∷ 52 ∷ [])
    ∷ says (file_answer second_a column_a spread_a) (2 ∷ 2 ∷ 0 ∷ [])
    ∷ says (file_answer file_e column_e None) (0 ∷ [])
    ∷ says (file_answer file_e column_e (spreads (fin false 0 (pos 0)) 0)) (1 ∷ 8 ∷ [])
    ∷ says (file_answer file_e column_e (spreads nan 0)) (1 ∷ 8 ∷ [])
    ∷ says (second_answer second_a column_a spread_a) (0 ∷ [])
    ∷ says (second_answer second_a (set column_a 3 (pos 51)) None) (1 ∷ 3 ∷ [])
    ∷ says (second_answer second_a column_a None) (1 ∷ 5 ∷ [])
    ∷ says (second_answer second_a (take 4 column_a) spread_a) (2 ∷ 15 ∷ 0 ∷ [])
    ∷ says (second_answer (set second_a 56 127) (take 4 column_a) spread_a) (2 ∷ 8 ∷ 56 ∷ [])
    ∷ says (second_answer (second_a ++ (9 ∷ [])) [] spread_a) (2 ∷ 1 ∷ 60 ∷ [])
    ∷ says (second_answer file_a column_a spread_a) (2 ∷ 2 ∷ 0 ∷ [])
    ∷ []

-- a k of 0 is no none, and -0.0 is 0.0
abbrev part_rows : List Row
part_rows =
    says (still zeros (spreads (fin false 0 (pos 0)) 1)) (0 ∷ [])
    ∷ says (still zeros (spreads (fin true 0 (pos 0)) 1)) (0 ∷ [])
    ∷ says (still zeros (spreads (fin true 0 (negsuc 1073)) 1)) (0 ∷ [])
    ∷ says (still zeros (spreads (fin false 1 (negsuc 1073)) 1)) (1 ∷ 3 ∷ [])
    ∷ says (still zeros (spreads nan 1)) (1 ∷ 3 ∷ [])
    ∷ says (still zeros None) (1 ∷ 3 ∷ [])
    ∷ says (still (set zeros 2 (negsuc 0)) None) (1 ∷ 2 ∷ [])
    ∷ says (still (pos 4294967296 ∷ pos 0 ∷ pos 0 ∷ []) None) (1 ∷ 0 ∷ [])
    ∷ says (still (pos 0 ∷ pos 0 ∷ []) None) (2 ∷ 15 ∷ 0 ∷ [])
    ∷ says (still (pos 1 ∷ zeros) None) (2 ∷ 15 ∷ 0 ∷ [])
    ∷ says (check_answer (head 2 0 1 1) [] [] 0 (pos 0) [] None) (2 ∷ 4 ∷ 0 ∷ [])
    ∷ says (check_answer (head 3 0 1 1) (0 ∷ 1 ∷ []) (pos 0 ∷ pos 200000001 ∷ pos 0 ∷ []) 7 (pos 0) [] None) (2 ∷ 8 ∷ 1 ∷ [])
    ∷ says (check_answer (head 3 0 1 1) (0 ∷ 1 ∷ []) (pos 0 ∷ pos 0 ∷ pos 0 ∷ []) 1 (pos 0) [] None) (2 ∷ 11 ∷ 0 ∷ [])
    ∷ []

unfoldable pub table : List Row
table = file_rows ++ part_rows

pub sheets : every table ≡ true
unfolding table sized occ field_prime digit_sum plus left right company opposition balanced beta total members restrained numerator_of denominator_of squared_readings squared_totals qOf root spread_hundredths spread_hundredths_of rank shortfall published offender far_reading slices contents job_verdict big numbers_at field_verdict fields read_verdict over sum sum_ℕ first_from round edition four_of optional_verdict optionals optional_fields fields2 read_verdict2 eq differs_at against
sheets = refl
