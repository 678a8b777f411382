-- Every call returns 0 exactly where it accepts: its verdict is a chain of tests, and each test of the request's table has a number from 1 on.
-- `told-zero` of crates/slots says it of every verdict that is `Numbered`, which is shown here of the verdict of every exported call.
-- Assumes nothing.
use Rattle.std.proofs.Common.{Ok, Err}
use Prim.Native.Nat.{ℕ, zero, suc, ◌+◌, ◌*◌, ◌^◌}
use mathlib.Core.Bool.{Bool, true, false, cond, not, ◌&&◌, ◌||◌}
use mathlib.Core.Path.{refl}
use mathlib.Core.List.{List}
use lib.Dec.{eqb, ltb, leb}
use lib.IntN.{ℤ, nat_abs}
use lib.Ieee.{Float}
use lib.ListN.{get_or, length}
use Rattle.records.specs.declared.Head.{Head}
use Rattle.meaning.specs.Design.{objects, blocks, list_length, sized, balanced}
use Rattle.meaning.specs.Analysis.{members}
use Rattle.meaning.specs.Refusals.{Verdict, ◌⨾◌, sum_limit, offender, far_reading, sizes, length_is, clean, exists, in_balance, restraint, in_reach, room}
use Rattle.meaning.specs.Calls.{
  design_verdict,
  develop_verdict,
  initial_verdict,
  judge_verdict,
  judged,
  slices,
  contents,
  job_verdict,
  total_verdict,
  total_answer,
  values_verdict,
  value_verdict,
  value_answer,
  readings_verdict,
  deviations_verdict,
  deviation_verdict,
  deviation_answer,
  squared_readings_verdict,
  squared_readings_answer,
  squared_totals_verdict,
  squared_totals_answer,
  qAnswer,
  spread_answer,
  rooms,
  analyse_verdict,
}
use Rattle.meaning.specs.File.{
  big,
  field_verdict,
  field_under,
  field_at,
  field_says,
  head_of,
  blocks_of,
  set_of,
  sum_of,
  readings_of,
  body_length,
  second_at,
  third_at,
  fourth_at,
  end_at,
  fields,
  placed,
  read_verdict,
  read_answer,
  solve_verdict,
}
use Rattle.meaning.specs.Writing.{file_length, write_verdict}
use Rattle.meaning.specs.Text.{text_of}
use Rattle.meaning.specs.Certificate.{uncertainty_answer, certificate_of, certificate_of2}
use Rattle.meaning.specs.Edition2.{
  file_limit2,
  edition,
  four_of,
  moved_on,
  names_tag,
  names_length,
  optional_at,
  optional_verdict,
  optionals,
  optional_fields,
  fields2,
  read_verdict2,
  read_answer2,
  solve_verdict2,
  text_of2,
  file_length2,
  write_verdict2,
  to_second_verdict,
  to_first_verdict,
}
use Rattle.meaning.specs.Practice.{near, width_limit, practised, true_sum, practice_verdict, practice_file_verdict}
use Rattle.slots.specs.Answers.{table_call, judged_call, total_call, sum_call, value_call, uncertainty_call, deviation_call, spread_call, solved_call}
use Rattle.slots.specs.Answers.{field_call, read_call, second_call, written_call, listed_call}
use Rattle.laws.proofs.Chains.{refused_is_not}
use Rattle.slots.proofs.Numbered.{Numbered, numbered_test, numbered_then}
use Rattle.api.specs.Jobs.{analyse_call}
use Rattle.api.specs.Files.{solve_call, file_written, file_listed, file_certified}
use Rattle.api.specs.Practising.{practice_written}
use Rattle.api.specs.Second.{second_solve_call, second_written, moved_to_second, moved_to_first, second_listed, second_certified}

-- ---- the tests

sizes_numbered : (h : Head) → Numbered (sizes h)
sizes_numbered h = numbered_test (sized h) 3 0

length_numbered : (len want : ℕ) → Numbered (length_is len want)
length_numbered len want = numbered_test (eqb len want) 2 0

clean_numbered : (h : Head) (d : List ℕ) → Numbered (clean h d)
clean_numbered h d = numbered_test (eqb (offender h d) (length d)) 4 (offender h d)

exists_numbered : (i count : ℕ) → Numbered (exists i count)
exists_numbered i count = numbered_test (ltb i count) 4 i

balance_numbered : (h : Head) (d : List ℕ) → Numbered (in_balance h d)
balance_numbered h d = numbered_test (balanced h d) 5 0

restraint_numbered : (h : Head) (w : ℕ) (M : ℤ) → Numbered (restraint h w M)
restraint_numbered h w M =
    numbered_then (numbered_test (ltb 0 w && ltb w (2 ^ objects h) && leb (nat_abs M) sum_limit) 6 0) (numbered_test (leb 2 (members (objects h) w)) 10 0)

reach_numbered : (y : List ℤ) → Numbered (in_reach y)
reach_numbered y = numbered_test (eqb (far_reading y) (length y)) 7 (far_reading y)

pub room_numbered : (len want : ℕ) → Numbered (room len want)
room_numbered len want = numbered_test (leb want len) 9 0

-- ---- designs

module _ (h : Head) (d : List ℕ) where
  pub design_numbered : Numbered (design_verdict h d)
  unfolding design_verdict
  design_numbered = numbered_then (numbered_then (sizes_numbered h) (length_numbered (length d) (list_length h))) (clean_numbered h d)

  pub develop_numbered : (len : ℕ) → Numbered (develop_verdict h d len)
  unfolding develop_verdict
  develop_numbered len = numbered_then design_numbered (room_numbered len (2 * blocks h))

  pub initial_numbered : (j len : ℕ) → Numbered (initial_verdict h d j len)
  unfolding initial_verdict
  initial_numbered j len = numbered_then (numbered_then design_numbered (exists_numbered j h.m)) (room_numbered len (2 * blocks h))

  pub table_numbered : (table : List ℕ) → Numbered (table_call (design_verdict h d) table)
  unfolding table_call
  table_numbered table = numbered_then design_numbered (room_numbered (length table) 2500)

  pub judge_numbered : (answer : List ℕ) → Numbered (judged_call (judged h d) answer)
  unfolding judged_call judge_verdict
  judge_numbered answer = numbered_then (numbered_then design_numbered (balance_numbered h d)) (room_numbered (length answer) 6)

-- ---- readings

pub sum_of_squares_numbered : (h : Head) (y : List ℤ) (answer : List ℕ) → Numbered (sum_call (squared_readings_answer h y) answer)
unfolding sum_call squared_readings_verdict
sum_of_squares_numbered h y answer =
    let lengths = numbered_then (sizes_numbered h) (length_numbered (length y) (blocks h)) in
    numbered_then (numbered_then lengths (reach_numbered y)) (room_numbered (length answer) 2)

module _ (h : Head) (d : List ℕ) (y : List ℤ) where
  slices_numbered : Numbered (slices h d y)
  unfolding slices
  slices_numbered = numbered_then (numbered_then (sizes_numbered h) (length_numbered (length d) (list_length h))) (length_numbered (length y) (blocks h))

  -- the slices and a clean block list
  listed_numbered : Numbered (slices h d y ⨾ clean h d)
  listed_numbered = numbered_then slices_numbered (clean_numbered h d)

  pub total_numbered : (i : ℕ) (signed : List ℤ) → Numbered (total_call (total_answer h d y i) signed)
  unfolding total_call total_verdict
  total_numbered i signed =
      numbered_then (numbered_then (numbered_then listed_numbered (exists_numbered i (objects h))) (reach_numbered y)) (room_numbered (length signed) 1)

  pub sum_of_squared_totals_numbered : (answer : List ℕ) → Numbered (sum_call (squared_totals_answer h d y) answer)
  unfolding sum_call squared_totals_verdict
  sum_of_squared_totals_numbered answer = numbered_then (numbered_then listed_numbered (reach_numbered y)) (room_numbered (length answer) 2)

  -- ---- deviations, Q, spread

  readings_numbered : Numbered (readings_verdict h d y)
  unfolding readings_verdict
  readings_numbered = numbered_then (numbered_then listed_numbered (balance_numbered h d)) (reach_numbered y)

  pub deviations_numbered : (len : ℕ) → Numbered (deviations_verdict h d y len)
  unfolding deviations_verdict
  deviations_numbered len = numbered_then readings_numbered (room_numbered len (blocks h))

  pub deviation_numbered : (k : ℕ) (signed : List ℤ) (answer : List ℕ) → Numbered (deviation_call (deviation_answer h d y k) signed answer)
  unfolding deviation_call deviation_verdict
  deviation_numbered k signed answer =
      let tests = numbered_then (numbered_then (numbered_then listed_numbered (exists_numbered k (blocks h))) (balance_numbered h d)) (reach_numbered y) in
      numbered_then (numbered_then tests (room_numbered (length signed) 1)) (room_numbered (length answer) 1)

  pub q_numbered : (answer : List ℕ) → Numbered (sum_call (qAnswer h d y) answer)
  unfolding sum_call
  q_numbered answer = numbered_then readings_numbered (room_numbered (length answer) 2)

  pub spread_numbered : (answer : List ℕ) (real : List Float) → Numbered (spread_call (spread_answer h d y) answer real)
  unfolding spread_call
  spread_numbered answer real = numbered_then (numbered_then readings_numbered (room_numbered (length answer) 6)) (room_numbered (length real) 1)

  -- ---- whole jobs

  module _ (w : ℕ) (M : ℤ) where
    contents_numbered : Numbered (contents h d y w M)
    unfolding contents
    contents_numbered = numbered_then (numbered_then (numbered_then (clean_numbered h d) (balance_numbered h d)) (restraint_numbered h w M)) (reach_numbered y)

    pub job_numbered : Numbered (job_verdict h d y w M)
    unfolding job_verdict
    job_numbered = numbered_then slices_numbered contents_numbered

    pub values_numbered : (len : ℕ) → Numbered (values_verdict h d y w M len)
    unfolding values_verdict
    values_numbered len = numbered_then job_numbered (room_numbered len (objects h))

    value_tests_numbered : (i : ℕ) → Numbered (value_verdict h d y w M i)
    unfolding value_verdict
    value_tests_numbered i =
        let object = numbered_then listed_numbered (exists_numbered i (objects h)) in
        numbered_then (numbered_then (numbered_then object (balance_numbered h d)) (restraint_numbered h w M)) (reach_numbered y)

    pub value_numbered : (i : ℕ) (signed : List ℤ) (answer : List ℕ) (real : List Float) → Numbered (value_call (value_answer h d y w M i) signed answer real)
    unfolding value_call
    value_numbered i signed answer real =
        let slots = numbered_then (numbered_then (value_tests_numbered i) (room_numbered (length signed) 2)) (room_numbered (length answer) 2) in
        numbered_then slots (room_numbered (length real) 2)

    pub uncertainty_numbered : (i : ℕ) (answer : List ℕ) (real : List Float) → Numbered (uncertainty_call (uncertainty_answer h d y w M i) answer real)
    unfolding uncertainty_call
    uncertainty_numbered i answer real =
        numbered_then (numbered_then (value_tests_numbered i) (room_numbered (length answer) 2)) (room_numbered (length real) 1)

    pub write_numbered : (out answer : List ℕ) → Numbered (written_call (file_written h d y w M out) answer)
    unfolding written_call write_verdict
    write_numbered out answer = numbered_then (numbered_then job_numbered (room_numbered (length out) (file_length h))) (room_numbered (length answer) 1)

rooms_numbered : (h : Head) (words values deviations : ℕ) → Numbered (rooms h words values deviations)
unfolding rooms
rooms_numbered h words values deviations =
    numbered_then (numbered_then (room_numbered words (2 * blocks h)) (room_numbered values (objects h))) (room_numbered deviations (blocks h))

pub analyse_numbered : (h : Head) (d : List ℕ) (y : List ℤ) (w : ℕ) (M : ℤ) (words : List ℕ) (values deviations : List ℤ) (answer : List ℕ) (real : List Float)
    → Numbered (analyse_call h d y w M words values deviations answer real)
unfolding solved_call analyse_verdict
analyse_numbered h d y w M words values deviations answer real =
    let tests = numbered_then (job_numbered h d y w M) (rooms_numbered h (length words) (length values) (length deviations)) in
    numbered_then (numbered_then tests (room_numbered (length answer) 13)) (room_numbered (length real) 1)

-- ---- files

module _ (s : List ℕ) where
  field_numbered : (at tag len : ℕ) → Numbered (field_verdict s at tag len)
  unfolding field_verdict
  field_numbered at tag len =
      let start = numbered_then (numbered_test (leb (at + 3) (length s)) 0 at) (numbered_test (eqb (get_or s at 0) tag) 1 at) in
      numbered_then (numbered_then start (numbered_test (eqb (big s (at + 1) 2) len) 2 at)) (numbered_test (leb (at + 3 + len) (length s)) 0 at)

  -- a field says what its verdict is
  says_numbered : (v : Verdict) (at len : ℕ) → Numbered v → Numbered (field_says (field_under v at len))
  says_numbered (Ok done) at len n = n
  says_numbered (Err why) at len n = n

  pub field_call_numbered : (at tag len : ℕ) (answer : List ℕ) → Numbered (field_call (field_at s at tag len) at answer)
  unfolding field_call field_at
  field_call_numbered at tag len answer =
      numbered_then (says_numbered (field_verdict s at tag len) at len (field_numbered at tag len)) (room_numbered (length answer) 2)

  fields_numbered : Numbered (fields s)
  unfolding fields
  fields_numbered =
      let first = numbered_then (field_numbered 0 1 (body_length (head_of s) 1)) (sizes_numbered (head_of s)) in
      let second = numbered_then first (field_numbered second_at 2 (body_length (head_of s) 2)) in
      let third = numbered_then second (field_numbered (third_at s) 3 (body_length (head_of s) 3)) in
      let fourth = numbered_then third (field_numbered (fourth_at s) 4 (body_length (head_of s) 4)) in
      numbered_then fourth (numbered_test (eqb (end_at s) (length s)) 8 (end_at s))

  -- a refusal keeps its number where its place is moved
  placed_numbered : (v : Verdict) → Numbered v → Numbered (placed s v)
  placed_numbered (Ok done) n = n
  placed_numbered (Err why) n = record { unless = λ e. absurd (refused_is_not why.number why.place (n.unless e)) }

  pub file_numbered : Numbered (read_verdict s)
  unfolding read_verdict
  file_numbered = numbered_then fields_numbered (placed_numbered _ (contents_numbered (head_of s) (blocks_of s) (readings_of s) (set_of s) (sum_of s)))

  pub read_numbered : (signed : List ℤ) (answer : List ℕ) → Numbered (read_call (read_answer s) signed answer)
  unfolding read_call
  read_numbered signed answer = numbered_then (numbered_then file_numbered (room_numbered (length signed) 1)) (room_numbered (length answer) 7)

  pub solve_numbered : (words : List ℕ) (values deviations : List ℤ) (answer : List ℕ) (real : List Float)
      → Numbered (solve_call s words values deviations answer real)
  unfolding solved_call solve_verdict
  solve_numbered words values deviations answer real =
      let tests = numbered_then file_numbered (rooms_numbered (head_of s) (length words) (length values) (length deviations)) in
      numbered_then (numbered_then tests (room_numbered (length answer) 13)) (room_numbered (length real) 1)

  pub certificate_numbered : (out answer : List ℕ) → Numbered (listed_call (file_certified s out) answer)
  unfolding listed_call
  certificate_numbered out answer = numbered_then (room_numbered (length out) (length (certificate_of s))) (room_numbered (length answer) 1)

  pub listing_numbered : (out answer : List ℕ) → Numbered (listed_call (file_listed s out) answer)
  unfolding listed_call
  listing_numbered out answer = numbered_then (room_numbered (length out) (length (text_of s))) (room_numbered (length answer) 1)

-- ---- files of the second edition

-- a refusal keeps its number where it is moved on
moved_numbered : (v : Verdict) → Numbered v → Numbered (moved_on v)
moved_numbered (Ok done) n = n
moved_numbered (Err why) n = record { unless = λ e. absurd (refused_is_not why.number why.place (n.unless e)) }

-- whichever of two it is
either_numbered : (b : Bool) {u v : Verdict} → Numbered u → Numbered v → Numbered (cond b u v)
either_numbered true m n = m
either_numbered false m n = n

module _ (s : List ℕ) where
  optional_numbered : (names least at : ℕ) → Numbered (optional_verdict s names least at)
  unfolding optional_verdict
  optional_numbered names least at =
      let start = numbered_then (numbered_test (leb (at + 3) (length s)) 0 at) (numbered_test (leb least (get_or s at 0)) 1 at) in
      let named = numbered_test (not (eqb (get_or s at 0) names_tag) || eqb (big s (at + 1) 2) names) 2 at in
      numbered_then (numbered_then start named) (numbered_test (leb (at + 3 + big s (at + 1) 2) (length s)) 0 at)

  optionals_numbered : (k names least at : ℕ) → Numbered (optionals k s names least at)
  unfolding optionals
  optionals_numbered zero names least at = record { unless = λ e. refl }
  optionals_numbered (suc k) names least at = either_numbered (leb (length s) at) (record { unless = λ e. refl })
      (numbered_then (optional_numbered names least at) (optionals_numbered k names (get_or s at 0 + 1) (at + 3 + big s (at + 1) 2)))

  second_numbered : Numbered (read_verdict2 s)
  unfolding read_verdict2 fields2 edition optional_fields
  second_numbered =
      let edited = numbered_then (field_numbered s 0 16 1) (numbered_test (eqb (get_or s 3 0) 2) 11 3) in
      let front = numbered_then (numbered_test (leb (length s) file_limit2) 3 0) edited in
      let four = numbered_then front (moved_numbered (fields (four_of s)) (fields_numbered (four_of s))) in
      let framed = numbered_then four (optionals_numbered (length s) (names_length (head_of (four_of s))) names_tag (optional_at s)) in
      numbered_then framed (moved_numbered (read_verdict (four_of s)) (file_numbered (four_of s)))

  pub read_second_numbered : (signed : List ℤ) (answer : List ℕ) → Numbered (second_call (read_answer2 s) signed answer)
  unfolding second_call
  read_second_numbered signed answer = numbered_then (numbered_then second_numbered (room_numbered (length signed) 1)) (room_numbered (length answer) 8)

  pub solve_second_numbered : (words : List ℕ) (values deviations : List ℤ) (answer : List ℕ) (real : List Float)
      → Numbered (second_solve_call s words values deviations answer real)
  unfolding solved_call solve_verdict2
  solve_second_numbered words values deviations answer real =
      let tests = numbered_then second_numbered (rooms_numbered (head_of (four_of s)) (length words) (length values) (length deviations)) in
      numbered_then (numbered_then tests (room_numbered (length answer) 13)) (room_numbered (length real) 1)

  pub to_second_numbered : (out answer : List ℕ) → Numbered (written_call (moved_to_second s out) answer)
  unfolding written_call to_second_verdict
  to_second_numbered out answer = numbered_then (numbered_then (file_numbered s) (room_numbered (length out) (4 + length s))) (room_numbered (length answer) 1)

  pub to_first_numbered : (out answer : List ℕ) → Numbered (written_call (moved_to_first s out) answer)
  unfolding written_call to_first_verdict
  to_first_numbered out answer =
      let tests = numbered_then second_numbered (numbered_test (leb (length s) (optional_at s)) 12 (optional_at s)) in
      numbered_then (numbered_then tests (room_numbered (length out) (length (four_of s)))) (room_numbered (length answer) 1)

  pub certificate_second_numbered : (out answer : List ℕ) → Numbered (listed_call (second_certified s out) answer)
  unfolding listed_call
  certificate_second_numbered out answer = numbered_then (room_numbered (length out) (length (certificate_of2 s))) (room_numbered (length answer) 1)

  pub listing_second_numbered : (out answer : List ℕ) → Numbered (listed_call (second_listed s out) answer)
  unfolding listed_call
  listing_second_numbered out answer = numbered_then (room_numbered (length out) (length (text_of2 s))) (room_numbered (length answer) 1)

pub write_second_numbered : (h : Head) (d : List ℕ) (y : List ℤ) (w : ℕ) (M : ℤ) (names out answer : List ℕ) →
    Numbered (written_call (second_written h d y w M names out) answer)
unfolding written_call write_verdict2
write_second_numbered h d y w M names out answer =
    let named = numbered_then (slices_numbered h d y) (numbered_test (eqb (length names) 0 || eqb (length names) (names_length h)) 2 0) in
    let tests = numbered_then named (contents_numbered h d y w M) in
    numbered_then (numbered_then tests (room_numbered (length out) (file_length2 h names))) (room_numbered (length answer) 1)

-- ---- practice

module _ (h : Head) (d : List ℕ) (u : List ℤ) (w : ℕ) where
  practised_numbered : Numbered (practised h d u w)
  unfolding practised
  practised_numbered =
      let lengths = numbered_then (numbered_then (sizes_numbered h) (length_numbered (length d) (list_length h))) (length_numbered (length u) (objects h)) in
      numbered_then (numbered_then (numbered_then lengths (clean_numbered h d)) (balance_numbered h d)) (numbered_test (near u && leb w width_limit) 15 0)

  pub practice_numbered : (len : ℕ) → Numbered (practice_verdict h d u w len)
  unfolding practice_verdict
  practice_numbered len = numbered_then practised_numbered (room_numbered len (blocks h))

  pub practice_file_numbered : (set : ℕ) (out answer : List ℕ) → Numbered (written_call (practice_written h d u w set out) answer)
  unfolding written_call practice_file_verdict
  practice_file_numbered set out answer =
      numbered_then (numbered_then (numbered_then practised_numbered (restraint_numbered h set (true_sum h u set))) (room_numbered (length out) (file_length h)))
      (room_numbered (length answer) 1)
