-- What was worked out gives the text of the file: where the numbers in hand are those of the job, each line of `sheet` is the line of the definition.
-- Assumes nothing.
use Rattle.std.proofs.Common.{Ok, Err}
use mathlib.Core.Path.{◌≡◌, refl, sym, ◌∙◌}
use mathlib.Core.List.{List, ◌++◌, replicate}
use Prim.Native.Nat.{ℕ, ◌*◌, ◌≤◌, ◌<◌}
use native.Mathlib.Omega.{arith}
use borrow.Author.Tests.{le-leb}
use lib.IntN.{ℤ, pos}
use lib.ListN.{length, get_or, take}
use lib.Seq.{length-take-le, get_or-take}
use Rattle.algebra.specs.Buffers.{over}
use Rattle.algebra.proofs.Filling.{length_over, get_d_over}
use Rattle.records.specs.declared.Head.{Head}
use Rattle.records.specs.declared.Solved.{Solved}
use Rattle.meaning.specs.Design.{objects, blocks, parameters_of}
use Rattle.meaning.specs.Analysis.{vbeta, numerator_of, denominator_of, deviation_of}
use Rattle.meaning.specs.Publishing.{published}
use Rattle.meaning.specs.Refusals.{Verdict, accepted, ◌⨾◌}
use Rattle.meaning.specs.Calls.{job_verdict, values_under, deviations_under, spreading_of, rooms, solved_under}
use Rattle.meaning.specs.File.{head_of, blocks_of, readings_of, set_of, sum_of, read_verdict, solve_verdict}
use Rattle.meaning.specs.Text.{each, design_line, value_line, dev_line, spread_line, job_text, text_under, text_of}
use Rattle.meaning.specs.Edition2.{four_of, read_verdict2, solve_verdict2, text_of2}
use Rattle.laws.specs.Fits.{Fits}
use Rattle.laws.proofs.Chains.{job, goes_on}
use Rattle.laws.proofs.Files.{file-job}
use Rattle.laws.proofs.Edition2.{file_job2}
use Rattle.analysis.specs.Column.{hundredths_from, column_of}
use Rattle.analysis.proofs.Column.{column-published}
use Rattle.printing.proofs.Each.{each_same}
use Rattle.listing.specs.Sheet.{value_at, value_lines, deviation_at, deviation_lines, job_lines, sheet_text, sheet_of}

-- ---- the rooms of the largest job

abbrev zeros : List ℤ
zeros = replicate 50 (pos 0)

abbrev more_zeros : List ℤ
more_zeros = replicate 1300 (pos 0)

-- the column that is worked out from the values is as long as the longest
pub column-long : (values : List ℤ) (denominator set : ℕ) → length (column_of values denominator set) ≡ 50
column-long values denominator set = length_over 50 (hundredths_from values denominator set) zeros

-- ---- the first numbers of a room that were written

-- there are as many as were written
part-long : (n : ℕ) (f : ℕ → ℤ) (l : List ℤ) → n ≤ length l → length (take n (over n f l)) ≡ n
part-long n f l m = length-take-le n (over n f l) (omega (arith, length_over n f l))

-- and number i is f i
part-at : (n : ℕ) (f : ℕ → ℤ) (l : List ℤ) (i : ℕ) → n ≤ length l → i < n → get_or (take n (over n f l)) i (pos 0) ≡ f i
part-at n f l i m b = get_or-take n (over n f l) i (pos 0) b ∙ get_d_over n f l (pos 0) i b m

-- ---- an accepted job

module _ (h : Head) (d : List ℕ) (y : List ℤ) (w : ℕ) (M : ℤ) (e : job_verdict h d y w M ≡ accepted) (values deviations : List ℤ) where
  module _ (f : length values ≡ 50) (v : objects h ≤ length values) (b : blocks h ≤ length deviations) where
    -- the column that is worked out from the room
    abbrev column : List ℤ
    column = column_of (over (objects h) (numerator_of h d y w M) values) (denominator_of h d w) w

    abbrev a : List ℤ
    a = take (objects h) (over (objects h) (numerator_of h d y w M) values)

    abbrev r : List ℤ
    r = take (blocks h) (over (blocks h) (deviation_of h d y) deviations)

    value-lines : value_lines a column (denominator_of h d w) (length a) ≡ each (objects h)
        (λ i. value_line i (numerator_of h d y w M i) (denominator_of h d w) (published h d y w M i))
    value-lines =
        (λ k. value_lines a column (denominator_of h d w) (part-long (objects h) (numerator_of h d y w M) values v k))
        ∙ each_same (objects h) (value_at a column (denominator_of h d w))
        (λ i. value_line i (numerator_of h d y w M i) (denominator_of h d w) (published h d y w M i)) (λ i l.
        rw (part-at (objects h) (numerator_of h d y w M) values i v l, column-published h d y w M (job h d y w M e) values _ f refl i l) refl)

    deviation_lines_lem : deviation_lines r (vbeta h d) (length r) ≡ each (blocks h) (λ k. dev_line k (deviation_of h d y k) (vbeta h d))
    deviation_lines_lem =
        (λ k. deviation_lines r (vbeta h d) (part-long (blocks h) (deviation_of h d y) deviations b k))
        ∙ each_same (blocks h) (deviation_at r (vbeta h d)) (λ k. dev_line k (deviation_of h d y k) (vbeta h d))
        (λ k l. rw (part-at (blocks h) (deviation_of h d y) deviations k b l) refl)

    -- its lines are those of the definition
    job-lines : job_lines (solved_under accepted h d y w) a column r ≡ job_text h d y w M
    unfolding job_lines
    job-lines = λ k. design_line (parameters_of h d) ++ value-lines k ++ deviation_lines_lem k ++ spread_line (spreading_of h d y)

-- ---- any byte string

module _ (s : List ℕ) where
  -- what solving into rooms answers and leaves, by the verdict
  abbrev answer : Verdict → Solved
  answer v = solved_under v (head_of s) (blocks_of s) (readings_of s) (set_of s)

  abbrev values_left : Verdict → List ℤ → List ℤ
  values_left v values = values_under v (head_of s) (blocks_of s) (readings_of s) (set_of s) (sum_of s) values

  abbrev deviations_left : Verdict → List ℤ → List ℤ
  deviations_left v deviations = deviations_under v (head_of s) (blocks_of s) (readings_of s) deviations

  -- the sizes of an accepted file
  file-sizes : read_verdict s ≡ accepted → Fits (head_of s)
  file-sizes e = (job (head_of s) (blocks_of s) (readings_of s) (set_of s) (sum_of s) (file-job s e).1).measures.design.sizes

  -- there are at most 50 objects and 1,300 blocks
  few : (v : Verdict) → read_verdict s ≡ v → ((answer v).parameters.v ≤ 50) × ((answer v).parameters.b ≤ 1300)
  few (Ok done) e = ((file-sizes e).objects-most, (file-sizes e).blocks-most)
  few (Err why) e = (omega arith, omega arith)

  -- the rooms stay as long as they are
  left-long : (v : Verdict) (values deviations : List ℤ) →
      (length (values_left v values) ≡ length values) × (length (deviations_left v deviations) ≡ length deviations)
  left-long (Ok done) values deviations = (length_over _ _ values, length_over _ _ deviations)
  left-long (Err why) values deviations = (refl, refl)

  -- the text of the first numbers is the text of the file
  first-text : (values deviations : List ℤ) → length values ≡ 50 → 1300 ≤ length deviations → (v : Verdict) → read_verdict s ≡ v →
      sheet_text (answer v) (take (answer v).parameters.v (values_left v values)) (column_of (values_left v values) (answer v).denominator (set_of s))
      (take (answer v).parameters.b (deviations_left v deviations)) ≡ text_under v s
  unfolding sheet_text
  first-text values deviations lv ld (Ok done) e =
      job-lines (head_of s) (blocks_of s) (readings_of s) (set_of s) (sum_of s) (file-job s e).1 values deviations lv
      (omega (arith, (file-sizes e).objects-most)) (omega (arith, (file-sizes e).blocks-most))
  first-text values deviations lv ld (Err why) e = refl

  abbrev verdict : Verdict
  verdict = solve_verdict s 2600 50 1300

  -- the rooms of the largest job are enough for every file
  pub rooms_enough : verdict ≡ read_verdict s
  unfolding solve_verdict rooms
  rooms_enough = by (read_verdict s) refl
    where
      by : (v : Verdict) → read_verdict s ≡ v → v ⨾ rooms (head_of s) 2600 50 1300 ≡ v
      by (Ok done) e =
          rw (
            le-leb (2 * blocks (head_of s)) 2600 (omega (arith, (file-sizes e).blocks-most)),
            le-leb (objects (head_of s)) 50 (file-sizes e).objects-most,
            le-leb (blocks (head_of s)) 1300 (file-sizes e).blocks-most,
          ) refl
      by (Err why) e = refl

  module _ {r : Solved} {after after' column : List ℤ} {set : ℕ} (says : r ≡ answer verdict) (first : after ≡ values_left verdict zeros)
      (second : after' ≡ deviations_left verdict more_zeros) (held : set ≡ set_of s) (worked : column ≡ column_of after r.denominator set) where
    -- the numbers that the answer counts stand in the rooms
    pub solved_fits : (r.parameters.v ≤ length after) × (r.parameters.v ≤ length column) × (r.parameters.b ≤ length after')
    solved_fits =
        let long : length column ≡ 50 = (λ j. length (worked j)) ∙ column-long after r.denominator set in
        rw (says, first, second, rooms_enough) (omega (arith, few (read_verdict s) refl, left-long (read_verdict s) zeros more_zeros, long))

    -- and their text is the text of the file
    pub solved-text : sheet_of r after column after' ≡ text_of s
    unfolding text_of
    solved-text = rw (worked, held, says, first, second, rooms_enough) (first-text zeros more_zeros refl (omega arith) (read_verdict s) refl)

-- ---- any byte string as a file of the second edition: the text is that of its four fields, under its own verdict

module _ (s : List ℕ) where
  abbrev four : List ℕ
  four = four_of s

  -- where it is accepted, its four fields are
  four-accepts : (v : Verdict) → read_verdict2 s ≡ v → v ≡ accepted → read_verdict four ≡ accepted
  four-accepts v e f = (file_job2 s (e ∙ f)).1

  few2 : (v : Verdict) → read_verdict2 s ≡ v → ((answer four v).parameters.v ≤ 50) × ((answer four v).parameters.b ≤ 1300)
  few2 (Ok done) e = few four accepted (four-accepts accepted e refl)
  few2 (Err why) e = (omega arith, omega arith)

  first_text2 : (values deviations : List ℤ) → length values ≡ 50 → 1300 ≤ length deviations → (v : Verdict) → read_verdict2 s ≡ v →
      sheet_text (answer four v) (take (answer four v).parameters.v (values_left four v values))
      (column_of (values_left four v values) (answer four v).denominator (set_of four))
      (take (answer four v).parameters.b (deviations_left four v deviations)) ≡ text_under v four
  unfolding sheet_text
  first_text2 values deviations lv ld (Ok done) e = first-text four values deviations lv ld accepted (four-accepts accepted e refl)
  first_text2 values deviations lv ld (Err why) e = refl

  abbrev verdict2 : Verdict
  verdict2 = solve_verdict2 s 2600 50 1300

  -- the rooms are enough, as they are for the four fields
  pub rooms_enough2 : verdict2 ≡ read_verdict2 s
  unfolding solve_verdict2 solve_verdict
  rooms_enough2 = by (read_verdict2 s) refl
    where
      by : (v : Verdict) → read_verdict2 s ≡ v → v ⨾ rooms (head_of four) 2600 50 1300 ≡ v
      by (Ok done) e = let f = four-accepts accepted e refl in sym (goes_on (rooms (head_of four) 2600 50 1300) f) ∙ rooms_enough four ∙ f
      by (Err why) e = refl

  module _ {r : Solved} {after after' column : List ℤ} {set : ℕ} (says : r ≡ answer four verdict2) (first : after ≡ values_left four verdict2 zeros)
      (second : after' ≡ deviations_left four verdict2 more_zeros) (held : set ≡ set_of four) (worked : column ≡ column_of after r.denominator set) where
    pub solved_fits2 : (r.parameters.v ≤ length after) × (r.parameters.v ≤ length column) × (r.parameters.b ≤ length after')
    solved_fits2 =
        let long : length column ≡ 50 = (λ j. length (worked j)) ∙ column-long after r.denominator set in
        rw (says, first, second, rooms_enough2) (omega (arith, few2 (read_verdict2 s) refl, left-long four (read_verdict2 s) zeros more_zeros, long))

    pub solved_text2 : sheet_of r after column after' ≡ text_of2 s
    unfolding text_of2
    solved_text2 = rw (worked, held, says, first, second, rooms_enough2) (first_text2 zeros more_zeros refl (omega arith) (read_verdict2 s) refl)
