-- The second edition of the job file at its boundaries, rows of a table under one theorem: every refusal with its place, every two neighbouring ones in one
-- file, what is read, written and moved, and what each buffer holds after. The figures were worked out apart from these definitions. Assumes nothing.
use Prim.Native.Nat.{ℕ}
use mathlib.Core.Bool.{true}
use mathlib.Core.List.{List, [], ◌∷◌, ◌++◌, replicate}
use mathlib.Core.Path.{◌≡◌, refl}
use lib.IntN.{ℤ, pos, negsuc}
use lib.Ieee.{round}
use lib.ListN.{get_or, set, take}
use Rattle.algebra.specs.Buffers.{over}
use Rattle.algebra.specs.Ranges.{sum, sum_ℕ, first_from}
use Rattle.meaning.specs.Design.{sized, occ, plus, left, right, company, opposition, balanced, beta, field_prime, digit_sum}
use Rattle.meaning.specs.Analysis.{
  total,
  members,
  restrained,
  numerator_of,
  denominator_of,
  along,
  difference,
  deviation_of,
  squared_readings,
  squared_totals,
  qOf,
  root,
  spread_hundredths,
  spread_hundredths_of,
}
use Rattle.meaning.specs.Wide.{wide}
use Rattle.meaning.specs.Publishing.{rank, shortfall, published}
use Rattle.meaning.specs.Refusals.{offender, far_reading}
use Rattle.meaning.specs.Calls.{word_at, word, slices, contents, rooms}
use Rattle.meaning.specs.File.{big, numbers_at, field_verdict, fields, read_verdict, solve_verdict}
use Rattle.meaning.specs.Writing.{bytes_of, readings_body, file_of}
use Rattle.meaning.specs.Text.{ascii, digits, each, text_of}
use Rattle.meaning.specs.Edition2.{
  edition_field,
  edition,
  four_of,
  optional_verdict,
  optionals,
  optional_fields,
  fields2,
  read_verdict2,
  read_answer2,
  solve_verdict2,
  solve_words2,
  solve_values2,
  solve_deviations2,
  text_of2,
  listed_answer2,
  listed_after2,
  file_of2,
  write_verdict2,
  written_answer2,
  written_after2,
  to_second_verdict,
  to_second_answer,
  to_second_after,
  to_first_verdict,
  to_first_answer,
  to_first_after,
}
use Rattle.meaning.proofs.Rows.{Row, refuses, holding, counting, head, every}
use Rattle.meaning.proofs.Examples.{file_a, file_e}

-- examples A and E in the second edition: 60 bytes and 72
abbrev second_a : List ℕ
second_a = 16 ∷ 0 ∷ 1 ∷ 2 ∷ file_a

abbrev second_e : List ℕ
second_e = 16 ∷ 0 ∷ 1 ∷ 2 ∷ file_e

-- a field of five names, and one of a tag that is kept and skipped
abbrev names_of_a : List ℕ
names_of_a = 128 ∷ 0 ∷ 40 ∷ replicate 40 65

abbrev other : List ℕ
other = 129 ∷ 0 ∷ 1 ∷ 9 ∷ []

abbrev reading_rows : List Row
reading_rows =
    refuses (read_verdict2 []) 1 0
    ∷ refuses (read_verdict2 (9 ∷ 0 ∷ [])) 1 0
    ∷ refuses (read_verdict2 file_a) 2 0
    ∷ refuses (read_verdict second_a) 2 0
    ∷ refuses (read_verdict2 (16 ∷ 0 ∷ 2 ∷ [])) 3 0
    ∷ refuses (read_verdict2 (16 ∷ 0 ∷ 1 ∷ [])) 1 0
    ∷ refuses (read_verdict2 (16 ∷ 0 ∷ 1 ∷ 1 ∷ [])) 12 3
    ∷ refuses (read_verdict2 (set (set second_a 3 3) 4 9)) 12 3
    ∷ refuses (read_verdict2 (16 ∷ 0 ∷ 1 ∷ 2 ∷ [])) 1 4
    ∷ refuses (read_verdict2 (set second_a 4 9)) 2 4
    ∷ refuses (read_verdict2 (set second_a 6 5)) 3 4
    ∷ refuses (read_verdict2 (take 10 second_a)) 1 4
    ∷ refuses (read_verdict2 (take 12 (set second_a 7 2))) 4 4
    ∷ refuses (read_verdict2 (set second_a 11 1)) 2 11
    ∷ refuses (read_verdict2 (set second_a 20 15)) 3 18
    ∷ refuses (read_verdict2 (take 59 second_a)) 1 37
    ∷ refuses (read_verdict2 second_a) 0 0
    ∷ refuses (read_verdict2 (second_a ++ (9 ∷ []))) 1 60
    ∷ refuses (read_verdict2 (second_a ++ (9 ∷ 0 ∷ []))) 1 60
    ∷ refuses (read_verdict2 (second_a ++ (127 ∷ 0 ∷ 1 ∷ []))) 2 60
    ∷ refuses (read_verdict2 (second_a ++ (128 ∷ 0 ∷ 39 ∷ []))) 3 60
    ∷ refuses (read_verdict2 (second_a ++ (128 ∷ 0 ∷ 41 ∷ replicate 41 65))) 3 60
    ∷ refuses (read_verdict2 (second_a ++ (128 ∷ 0 ∷ 40 ∷ replicate 39 65))) 1 60
    ∷ refuses (read_verdict2 (second_a ++ (129 ∷ 0 ∷ 1 ∷ []))) 1 60
    ∷ refuses (read_verdict2 (second_a ++ names_of_a)) 0 0
    ∷ refuses (read_verdict2 (second_a ++ names_of_a ++ other)) 0 0
    ∷ refuses (read_verdict2 (second_a ++ names_of_a ++ names_of_a)) 2 103
    ∷ refuses (read_verdict2 (second_a ++ other ++ other)) 2 64
    ∷ refuses (read_verdict2 (second_a ++ other ++ names_of_a)) 2 64
    ∷ refuses (read_verdict2 (second_a ++ (255 ∷ 0 ∷ 0 ∷ []))) 0 0
    ∷ refuses (read_verdict2 (second_a ++ (255 ∷ 0 ∷ 0 ∷ 255 ∷ 0 ∷ 0 ∷ []))) 2 63
    ∷ refuses (read_verdict2 (second_e ++ (128 ∷ 0 ∷ 64 ∷ replicate 64 65))) 0 0
    ∷ refuses (read_verdict2 (second_e ++ (128 ∷ 0 ∷ 56 ∷ replicate 56 65))) 3 72
    ∷ refuses (read_verdict2 (set second_a 14 5 ++ (127 ∷ 0 ∷ 0 ∷ []))) 2 60
    ∷ refuses (read_verdict2 (set second_a 14 5 ++ other)) 5 14
    ∷ refuses (read_verdict2 (set second_a 28 0)) 7 18
    ∷ refuses (read_verdict2 (set second_a 28 1)) 11 18
    ∷ refuses (read_verdict2 (set second_a 56 127)) 8 56
    ∷ refuses (read_verdict2 (16 ∷ 0 ∷ 1 ∷ 2 ∷ set (set file_a 12 3) 13 2)) 0 0
    ∷ refuses (read_verdict2 (16 ∷ 0 ∷ 1 ∷ 2 ∷ set file_a 13 0)) 6 0
    ∷ refuses (read_verdict2 (replicate 16385 0)) 4 0
    ∷ refuses (read_verdict2 (replicate 16384 0)) 2 0
    ∷ holding
    (let r = read_answer2 (second_a ++ names_of_a ++ other) in
    r.job.head.n ∷ r.job.head.flag ∷ r.job.head.p ∷ r.job.head.m ∷ r.job.blocks_at ∷ r.job.readings_at ∷ r.job.set ∷ r.names_at ∷ [])
    (5 ∷ 0 ∷ 2 ∷ 1 ∷ 14 ∷ 40 ∷ 3 ∷ 63 ∷ [])
    ∷ holding ((read_answer2 second_a).names_at ∷ (read_answer2 (second_a ++ other)).names_at ∷ []) (0 ∷ 0 ∷ [])
    ∷ holding
    (let r = read_answer2 (set second_a 56 127 ++ names_of_a) in
    r.job.head.n ∷ r.job.head.p ∷ r.job.head.m ∷ r.job.blocks_at ∷ r.job.readings_at ∷ r.job.set ∷ r.names_at ∷ [])
    (replicate 7 0)
    ∷ counting 2 (λ i. get_or ((read_answer2 second_a).job.sum ∷ (read_answer2 (set second_a 56 127)).job.sum ∷ []) i (pos 5)) (pos 7 ∷ pos 0 ∷ [])
    ∷ refuses (solve_verdict2 (set second_a 56 127) 0 0 0) 8 56
    ∷ refuses (solve_verdict2 second_a 9 5 5) 10 0
    ∷ refuses (solve_verdict2 second_a 10 4 5) 10 0
    ∷ refuses (solve_verdict2 second_a 10 5 4) 10 0
    ∷ refuses (solve_verdict2 (second_a ++ names_of_a) 10 5 5) 0 0
    ∷ counting 6 (λ i. get_or (solve_values2 (second_a ++ names_of_a) (replicate 10 0) (replicate 6 (pos 9)) (replicate 5 (pos 9))) i (pos 0))
    (negsuc 2 ∷ pos 73 ∷ pos 19 ∷ pos 5 ∷ pos 51 ∷ pos 9 ∷ [])
    ∷ counting 6 (λ i. get_or (solve_deviations2 second_a (replicate 10 0) (replicate 5 (pos 9)) (replicate 6 (pos 9))) i (pos 0))
    (pos 5 ∷ pos 5 ∷ pos 5 ∷ pos 5 ∷ pos 5 ∷ pos 9 ∷ [])
    ∷ holding (take 2 (solve_words2 second_a (replicate 10 0) (replicate 5 (pos 9)) (replicate 6 (pos 9)))) (18 ∷ 12 ∷ [])
    ∷ holding (solve_words2 second_a (replicate 9 0) (replicate 5 (pos 9)) (replicate 6 (pos 9))) (replicate 9 0)
    ∷ []

abbrev ys_a : List ℤ
ys_a = pos 11 ∷ negsuc 2 ∷ pos 4 ∷ pos 1 ∷ negsuc 7 ∷ []

-- the job of example A written, with these names, for room of so many bytes
abbrev blocks_a : List ℕ
blocks_a = 1 ∷ 4 ∷ 2 ∷ 3 ∷ []

abbrev moving_rows : List Row
moving_rows =
    holding (file_of2 (head 5 0 2 1) blocks_a ys_a 3 (pos 7) []) second_a
    ∷ holding (file_of2 (head 5 0 2 1) blocks_a ys_a 3 (pos 7) (replicate 40 65)) (second_a ++ names_of_a)
    ∷ refuses (write_verdict2 (head 2 0 1 1) (0 ∷ []) ys_a 3 (pos 7) (65 ∷ []) 0) 4 0
    ∷ refuses (write_verdict2 (head 5 0 2 1) (9 ∷ 4 ∷ 2 ∷ 3 ∷ []) ys_a 3 (pos 7) (replicate 39 65) 0) 3 0
    ∷ refuses (write_verdict2 (head 5 0 2 1) (9 ∷ 4 ∷ 2 ∷ 3 ∷ []) ys_a 3 (pos 7) (replicate 41 65) 0) 3 0
    ∷ refuses (write_verdict2 (head 5 0 2 1) (9 ∷ 4 ∷ 2 ∷ 3 ∷ []) ys_a 3 (pos 7) (replicate 40 65) 0) 5 0
    ∷ refuses (write_verdict2 (head 5 0 2 1) blocks_a ys_a 0 (pos 7) [] 0) 7 0
    ∷ refuses (write_verdict2 (head 5 0 2 1) blocks_a ys_a 3 (pos 7) [] 59) 10 0
    ∷ refuses (write_verdict2 (head 5 0 2 1) blocks_a ys_a 3 (pos 7) [] 60) 0 0
    ∷ refuses (write_verdict2 (head 5 0 2 1) blocks_a ys_a 3 (pos 7) (replicate 40 65) 102) 10 0
    ∷ refuses (write_verdict2 (head 5 0 2 1) blocks_a ys_a 3 (pos 7) (replicate 40 65) 103) 0 0
    ∷ holding ((written_answer2 (head 5 0 2 1) blocks_a ys_a 3 (pos 7) (replicate 40 65) 103).length
    ∷ (written_answer2 (head 5 0 2 1) blocks_a ys_a 3 (pos 7) (replicate 40 65) 102).length ∷ []) (103 ∷ 0 ∷ [])
    ∷ holding (written_after2 (head 5 0 2 1) blocks_a ys_a 3 (pos 7) [] (replicate 62 77)) (second_a ++ (77 ∷ 77 ∷ []))
    ∷ holding (written_after2 (head 5 0 2 1) blocks_a ys_a 3 (pos 7) [] (replicate 59 77)) (replicate 59 77)
    ∷ refuses (to_second_verdict (set file_a 10 5) 0) 5 10
    ∷ refuses (to_second_verdict file_a 59) 10 0
    ∷ refuses (to_second_verdict file_a 60) 0 0
    ∷ holding ((to_second_answer file_a 60).length ∷ (to_second_answer file_a 59).length ∷ []) (60 ∷ 0 ∷ [])
    ∷ holding (to_second_after file_a (replicate 62 77)) (second_a ++ (77 ∷ 77 ∷ []))
    ∷ holding (to_second_after file_a (replicate 59 77)) (replicate 59 77)
    ∷ refuses (to_first_verdict (set second_a 14 5 ++ other) 0) 5 14
    ∷ refuses (to_first_verdict (set second_a 56 127 ++ other) 0) 8 56
    ∷ refuses (to_first_verdict (second_a ++ other) 0) 13 60
    ∷ refuses (to_first_verdict (second_a ++ names_of_a ++ other) 99) 13 60
    ∷ refuses (to_first_verdict second_a 55) 10 0
    ∷ refuses (to_first_verdict second_a 56) 0 0
    ∷ holding ((to_first_answer second_a 56).length ∷ (to_first_answer (second_a ++ other) 56).length ∷ []) (56 ∷ 0 ∷ [])
    ∷ holding (to_first_after second_a (replicate 58 77)) (file_a ++ (77 ∷ 77 ∷ []))
    ∷ holding (to_first_after (second_a ++ other) (replicate 58 77)) (replicate 58 77)
    ∷ holding (text_of2 (second_a ++ names_of_a)) (text_of file_a)
    ∷ holding (text_of2 (set second_a 3 1)) (ascii "refused 12 3\n")
    ∷ holding ((listed_answer2 (set second_a 3 1) 13).length ∷ (listed_answer2 (set second_a 3 1) 12).length ∷ []) (13 ∷ 0 ∷ [])
    ∷ holding (listed_after2 (set second_a 3 1) (replicate 14 77)) (ascii "refused 12 3\n" ++ (77 ∷ []))
    ∷ holding (listed_after2 (set second_a 3 1) (replicate 12 77)) (replicate 12 77)
    ∷ []

unfoldable pub table : List Row
table = reading_rows ++ moving_rows

pub editions : every table ≡ true
unfolding table sized occ field_prime digit_sum plus left right company opposition balanced beta total members restrained numerator_of denominator_of along difference deviation_of squared_readings squared_totals qOf root spread_hundredths spread_hundredths_of wide rank shortfall published offender far_reading word word_at slices contents rooms big numbers_at field_verdict fields read_verdict solve_verdict bytes_of readings_body file_of ascii digits each text_of over sum sum_ℕ first_from round edition four_of optional_verdict optionals optional_fields fields2 read_verdict2 solve_verdict2 text_of2 file_of2 write_verdict2 to_second_verdict to_first_verdict
editions = refl
