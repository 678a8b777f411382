-- Practice readings at their boundaries, rows of a table under one theorem: the generator against the sequence that is printed for it, widths and true
-- values at their ends, every two neighbouring refusals in one call, and what each room holds after. The figures were worked out apart from these
-- definitions. Assumes nothing.
use Prim.Native.Nat.{ℕ}
use mathlib.Core.Bool.{true}
use mathlib.Core.List.{List, [], ◌∷◌, ◌++◌, replicate}
use mathlib.Core.Path.{◌≡◌, refl}
use lib.IntN.{ℤ, pos, negsuc}
use lib.ListN.{get_or}
use Rattle.algebra.specs.Buffers.{over}
use Rattle.algebra.specs.Ranges.{sum, sum_ℕ, first_from}
use Rattle.records.specs.declared.Head.{Head}
use Rattle.meaning.specs.Design.{sized, occ, plus, left, right, company, opposition, balanced, beta, field_prime, digit_sum}
use Rattle.meaning.specs.Analysis.{members, restrained, along, difference}
use Rattle.meaning.specs.Refusals.{offender}
use Rattle.meaning.specs.Writing.{bytes_of, readings_body, file_of}
use Rattle.meaning.specs.Practice.{
  step,
  state,
  noise,
  practice_reading,
  near,
  listed,
  practised,
  practice_verdict,
  practice_after,
  practice_readings,
  true_sum,
  practice_file_verdict,
  practice_file_answer,
  practice_file_after,
}
use Rattle.meaning.proofs.Rows.{Row, refuses, holding, counting, head, every}

-- three objects, one initial block {0},{1}: balanced; four, which is not
abbrev three : Head
three = head 3 0 1 1

abbrev four : Head
four = head 4 0 1 1

abbrev pair : List ℕ
pair = 0 ∷ 1 ∷ []

-- true values for them: plain ones, at the ends of their range, and one past each end
abbrev us : List ℤ
us = pos 10 ∷ negsuc 4 ∷ pos 7 ∷ []

abbrev ends : List ℤ
ends = pos 3000 ∷ negsuc 2999 ∷ pos 3000 ∷ []

abbrev over3000 : List ℤ
over3000 = pos 0 ∷ pos 3001 ∷ pos 0 ∷ []

abbrev under3000 : List ℤ
under3000 = pos 0 ∷ pos 0 ∷ negsuc 3000 ∷ []

abbrev over4 : List ℤ
over4 = pos 0 ∷ pos 3001 ∷ pos 0 ∷ pos 0 ∷ []

-- the file of the practice job of these, start 0, width 8, objects 0 and 2 restrained
abbrev file : List ℕ
file =
    1 ∷ 0 ∷ 4 ∷ 3 ∷ 0 ∷ 1 ∷ 1 ∷ 2 ∷ 0 ∷ 2 ∷ 0 ∷ 1 ∷ 3 ∷ 0 ∷ 16 ∷ 0 ∷ 0 ∷ 0 ∷ 0 ∷ 0 ∷ 0 ∷ 0 ∷ 5 ∷ 0 ∷ 0 ∷ 0 ∷ 0 ∷ 0 ∷ 0 ∷ 0 ∷ 17
    ∷ 4 ∷ 0 ∷ 12 ∷ 255 ∷ 255 ∷ 255 ∷ 203 ∷ 255 ∷ 255 ∷ 255 ∷ 187 ∷ 0 ∷ 0 ∷ 0 ∷ 78 ∷ []

-- ---- the generator and its noise
abbrev generator_rows : List Row
generator_rows =
    -- the printed sequence from 0: 3C6EF35F 47502932 D1CCF6E9 AAF95334 6252E503 (hexadecimal)
    holding (state 0 0 ∷ state 0 1 ∷ state 0 2 ∷ state 0 3 ∷ state 0 4 ∷ []) (1013904223 ∷ 1196435762 ∷ 3519870697 ∷ 2868466484 ∷ 1649599747 ∷ [])
    ∷ holding (state 4294967295 0 ∷ state 4294967295 1 ∷ state 4294967295 2 ∷ []) (1012239698 ∷ 806866057 ∷ 579071060 ∷ [])
    ∷ counting 4 (λ w. noise w 3519870697) (pos 0 ∷ pos 0 ∷ pos 1 ∷ pos 2 ∷ [])
    ∷ counting 4 (λ w. noise w 1013904223) (pos 0 ∷ negsuc 0 ∷ negsuc 1 ∷ negsuc 2 ∷ [])
    ∷ counting 3 (λ i. noise 8 (get_or (1013904223 ∷ 1196435762 ∷ 3519870697 ∷ []) i 0)) (negsuc 67 ∷ negsuc 56 ∷ pos 81 ∷ [])
    ∷ counting 2 (λ i. noise 8 (get_or (0 ∷ 4294967295 ∷ []) i 0)) (negsuc 127 ∷ pos 127 ∷ [])
    ∷ counting 2 (λ i. noise 0 (get_or (0 ∷ 4294967295 ∷ []) i 0)) (pos 0 ∷ pos 0 ∷ [])
    ∷ []

-- ---- the readings
abbrev reading_rows : List Row
reading_rows =
    counting 3 (practice_reading three pair us 0 0) (pos 15 ∷ negsuc 11 ∷ negsuc 2 ∷ [])
    ∷ counting 3 (practice_reading three pair us 0 1) (pos 14 ∷ negsuc 12 ∷ negsuc 2 ∷ [])
    ∷ counting 3 (practice_reading three pair us 0 8) (negsuc 52 ∷ negsuc 68 ∷ pos 78 ∷ [])
    ∷ counting 3 (practice_reading three pair us 4294967295 8) (negsuc 52 ∷ negsuc 91 ∷ negsuc 96 ∷ [])
    ∷ counting 3 (practice_reading three pair ends 0 8) (pos 5932 ∷ negsuc 6056 ∷ pos 81 ∷ [])
    ∷ counting 5 (λ i. get_or (practice_after three pair us 0 8 (replicate 4 (pos 9))) i (pos 0)) (negsuc 52 ∷ negsuc 68 ∷ pos 78 ∷ pos 9 ∷ pos 0 ∷ [])
    ∷ counting 2 (λ i. get_or (practice_after three pair us 0 8 (replicate 2 (pos 9))) i (pos 0)) (pos 9 ∷ pos 9 ∷ [])
    ∷ counting 4 (λ i. get_or (practice_readings three pair us 0 1) i (pos 8)) (pos 14 ∷ negsuc 12 ∷ negsuc 2 ∷ pos 8 ∷ [])
    ∷ counting 3 (λ i. true_sum three us (get_or (5 ∷ 2 ∷ 15 ∷ []) i 0)) (pos 17 ∷ negsuc 4 ∷ pos 12 ∷ [])
    ∷ []

-- ---- refusals, two faults at a time
abbrev refusal_rows : List Row
refusal_rows =
    refuses (practice_verdict (head 2 0 1 1) [] [] 9 0) 4 0
    ∷ refuses (practice_verdict three (0 ∷ []) [] 9 0) 3 0
    ∷ refuses (practice_verdict three (0 ∷ 0 ∷ []) (pos 1 ∷ pos 2 ∷ []) 9 0) 3 0
    ∷ refuses (practice_verdict three (0 ∷ 0 ∷ []) over4 9 0) 3 0
    ∷ refuses (practice_verdict three (0 ∷ 0 ∷ []) over3000 9 0) 5 1
    ∷ refuses (practice_verdict four pair over4 9 0) 6 0
    ∷ refuses (practice_verdict three pair over3000 0 0) 16 0
    ∷ refuses (practice_verdict three pair under3000 0 0) 16 0
    ∷ refuses (practice_verdict three pair ends 9 0) 16 0
    ∷ refuses (practice_verdict three pair ends 8 2) 10 0
    ∷ refuses (practice_verdict three pair ends 8 3) 0 0
    ∷ refuses (practice_verdict three pair ends 0 3) 0 0
    ∷ refuses (practice_file_verdict three pair over3000 8 0 0) 16 0
    ∷ refuses (practice_file_verdict three pair us 9 0 0) 16 0
    ∷ refuses (practice_file_verdict four pair over4 9 0 0) 6 0
    ∷ refuses (practice_file_verdict three pair us 8 0 0) 7 0
    ∷ refuses (practice_file_verdict three pair us 8 8 0) 7 0
    ∷ refuses (practice_file_verdict three pair us 8 4 0) 11 0
    ∷ refuses (practice_file_verdict three pair us 8 5 45) 10 0
    ∷ refuses (practice_file_verdict three pair us 8 5 46) 0 0
    ∷ holding ((practice_file_answer three pair us 8 5 46).length ∷ (practice_file_answer three pair us 8 5 45).length ∷ []) (46 ∷ 0 ∷ [])
    ∷ holding (practice_file_after three pair us 0 8 5 (replicate 48 77)) (file ++ (77 ∷ 77 ∷ []))
    ∷ holding (practice_file_after three pair us 0 8 5 (replicate 45 77)) (replicate 45 77)
    ∷ []

unfoldable pub table : List Row
table = generator_rows ++ reading_rows ++ refusal_rows

pub practising : every table ≡ true
unfolding table sized occ field_prime digit_sum plus left right company opposition balanced beta members restrained along difference offender bytes_of readings_body file_of over sum sum_ℕ first_from step state noise practice_reading near listed practised practice_verdict practice_file_verdict
practising = refl
