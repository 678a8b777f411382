-- The second edition of the job file.
--     whole                     what accepted fields say: the edition, the four fields, the optional ones
--     four-part, four-inside    the four fields as a part of the file
--     read_moved2, solve_moved2 once the fields are accepted the verdict is that of the four fields as a file of the first edition, moved
--     optional-fields           what accepted optional fields are, one after the other
--     file_job2                 an accepted file holds an accepted file of the first edition
--     to-second, to-first       moved to the second edition a file is accepted, and its four fields are the file; moved back and forth it is the same
--     first-reader              a reader of the first edition refuses a file of the second with 2 at 0
-- Assumes nothing.
use Rattle.std.proofs.Common.{Ok, Err}
use mathlib.Core.Path.{◌≡◌, refl, sym, ap, ◌∙◌}
use mathlib.Core.Bool.{Bool, true, false, cond, not, ◌||◌, false≢true}
use mathlib.Core.List.{List, [], ◌∷◌, ◌++◌}
use Prim.Native.Nat.{ℕ, zero, suc, ◌+◌, ◌*◌, ◌≤◌, ◌<◌}
use native.Mathlib.Omega.{arith}
use borrow.Author.Tests.{eqb-true, eq-eqb, leb-true, leb-false, le-leb}
use lib.Dec.{eqb, leb}
use lib.IntN.{ℤ}
use lib.ListN.{length, get_or, take, drop, length-append, length-drop}
use lib.Seq.{take_all, drop-cons}
use Rattle.records.specs.declared.Head.{Head}
use Rattle.meaning.specs.Design.{objects, blocks}
use Rattle.meaning.specs.Refusals.{Verdict, accepted, refused, test, ◌⨾◌}
use Rattle.meaning.specs.Calls.{given, job_verdict, rooms}
use Rattle.meaning.specs.File.{big, field_verdict, head_of, end_at, blocks_of, readings_of, set_of, sum_of, fields, read_verdict, solve_verdict}
use Rattle.meaning.specs.Writing.{bytes_of, file_of}
use Rattle.meaning.specs.Text.{text_under, text_of}
use Rattle.meaning.specs.Edition2.{
  file_limit2,
  edition_field,
  start_at,
  edition,
  four_of,
  moved_on,
  names_tag,
  names_length,
  optional_at,
  optional_verdict,
  optionals,
  optional_fields,
  fields2,
  read_verdict2,
  solve_verdict2,
  text_of2,
  second_of,
  names_field,
  file_of2,
  file_length2,
}
use Rattle.laws.proofs.Chains.{opened, held, test_yes, accepts, goes_on, refused_is_not}
use Rattle.laws.proofs.Files.{filed, file-job}
use Rattle.laws.proofs.Writing.{fielded}
use Rattle.laws.proofs.WritingBack.{file-length}
use Rattle.laws.proofs.Bytes.{bytes-long}
use Rattle.laws.proofs.Enough.{job-length}
use Rattle.laws.proofs.Lengths.{refused-length}
use Rattle.laws.proofs.Cut.{longest_file}

-- ---- the four fields as a part of the file

-- a part's length, taken, is the part
take_again : (k : ℕ) (l : List ℕ) → take (length (take k l)) l ≡ take k l
take_again zero l = refl
take_again (suc k) [] = refl
take_again (suc k) (x ∷ l) = ap (λ (t : List ℕ). x ∷ t) (take_again k l)

-- and is no longer than the whole
pub part-most : (k : ℕ) (l : List ℕ) → length (take k l) ≤ length l
part-most zero l = omega arith
part-most (suc k) [] = omega arith
part-most (suc k) (x ∷ l) = omega (arith, part-most k l)

module _ (s : List ℕ) where
  -- by their length they are taken
  pub four-part : take (length (four_of s)) (drop start_at s) ≡ four_of s
  unfolding four_of
  four-part = take_again (end_at (drop start_at s)) (drop start_at s)

  -- they lie within the file
  pub four-inside : start_at ≤ length s → optional_at s ≤ length s
  unfolding four_of
  four-inside l = omega (arith, part-most (end_at (drop start_at s)) (drop start_at s), length-drop start_at s)

-- ---- moving

pub moved_chain : (a b : Verdict) → moved_on (a ⨾ b) ≡ moved_on a ⨾ moved_on b
moved_chain (Ok done) b = refl
moved_chain (Err why) b = refl

-- only an accepted verdict is moved to an accepted one
pub moved-accepted : (a : Verdict) → moved_on a ≡ accepted → a ≡ accepted
moved-accepted (Ok done) e = refl
moved-accepted (Err why) e = refused_is_not _ _ e

-- 10 stays at 0
pub moved-rooms : (h : Head) (words values deviations : ℕ) → moved_on (rooms h words values deviations) ≡ rooms h words values deviations
unfolding rooms
moved-rooms h words values deviations = go (leb (2 * blocks h) words) (leb (objects h) values) (leb (blocks h) deviations)
  where
    go : (a b c : Bool) → moved_on (test a 10 0 ⨾ test b 10 0 ⨾ test c 10 0) ≡ test a 10 0 ⨾ test b 10 0 ⨾ test c 10 0
    go false b c = refl
    go true false c = refl
    go true true false = refl
    go true true true = refl

-- what is given under a verdict is given under the moved one
pub given-moved : {A : Type 0} (v : Verdict) (answer nothing : A) → given (moved_on v) answer nothing ≡ given v answer nothing
given-moved (Ok done) answer nothing = refl
given-moved (Err why) answer nothing = refl

-- ---- accepted fields

-- what the edition field says
pub record Edited (s : List ℕ) : Type 0 where
  pub long : start_at ≤ length s
  pub tag : get_or s 0 0 ≡ 16
  pub high : get_or s 1 0 ≡ 0
  pub low : get_or s 2 0 ≡ 1
  pub body : get_or s 3 0 ≡ 2

pub edited : (s : List ℕ) → edition s ≡ accepted → Edited s
unfolding edition big
edited s e =
    let a = opened _ _ e in
    let f = fielded s 0 16 1 a.0 in
    let told = f.told in
    record {
      long = omega (arith, f.inside);
      tag = f.tagged;
      high = omega (arith, told);
      low = omega (arith, told);
      body = eqb-true _ _ (held (eqb (get_or s 3 0) 2) 12 3 a.1);
    }

-- such a field stands in front of the file
pub edition_front : (s : List ℕ) → Edited s → s ≡ edition_field ++ drop start_at s
edition_front s e =
    let l = e.long in
    drop-cons s 0 0 (omega arith) ∙ (λ i. e.tag i ∷ drop 1 s)
    ∙ ap (λ (t : List ℕ). 16 ∷ t) (drop-cons s 1 0 (omega arith) ∙ (λ i. e.high i ∷ drop 2 s)
    ∙ ap (λ (t : List ℕ). 0 ∷ t) (drop-cons s 2 0 (omega arith) ∙ (λ i. e.low i ∷ drop 3 s)
    ∙ ap (λ (t : List ℕ). 1 ∷ t) (drop-cons s 3 0 (omega arith) ∙ (λ i. e.body i ∷ drop 4 s))))

-- what accepted fields are
pub record Whole (s : List ℕ) : Type 0 where
  pub short : length s ≤ file_limit2
  pub edition_there : Edited s
  pub four : fields (four_of s) ≡ accepted
  pub optional : optional_fields s ≡ accepted

pub whole : (s : List ℕ) → fields2 s ≡ accepted → Whole s
unfolding fields2
whole s e =
    let a = opened _ _ e in
    let b = opened _ _ a.0 in
    let c = opened (test (leb (length s) file_limit2) 4 0) (edition s) b.0 in
    record {
      short = leb-true _ _ (held (leb (length s) file_limit2) 4 0 c.0);
      edition_there = edited s c.1;
      four = moved-accepted _ b.1;
      optional = a.1;
    }

-- ---- the verdict

-- once the fields are accepted it is that of the four, moved
pub read_moved2 : (s : List ℕ) → fields2 s ≡ accepted → read_verdict2 s ≡ moved_on (read_verdict (four_of s))
unfolding read_verdict2
read_moved2 s e = goes_on _ e

-- and so with rooms
pub solve_moved2 : (s : List ℕ) (words values deviations : ℕ) → fields2 s ≡ accepted →
    solve_verdict2 s words values deviations ≡ moved_on (solve_verdict (four_of s) words values deviations)
unfolding solve_verdict2 solve_verdict
solve_moved2 s words values deviations e =
    ap (λ v. v ⨾ rooms (head_of (four_of s)) words values deviations) (read_moved2 s e)
    ∙ ap (λ v. moved_on (read_verdict (four_of s)) ⨾ v) (sym (moved-rooms (head_of (four_of s)) words values deviations))
    ∙ sym (moved_chain (read_verdict (four_of s)) (rooms (head_of (four_of s)) words values deviations))

-- an accepted file holds an accepted file of the first edition
pub file_job2 : (s : List ℕ) → read_verdict2 s ≡ accepted → (fields2 s ≡ accepted) × (read_verdict (four_of s) ≡ accepted)
unfolding read_verdict2
file_job2 s e = let a = opened _ _ e in (a.0, moved-accepted _ a.1)

-- an accepted file of the first edition in accepted fields is an accepted file
pub job_file2 : (s : List ℕ) → fields2 s ≡ accepted → read_verdict (four_of s) ≡ accepted → read_verdict2 s ≡ accepted
job_file2 s e j = read_moved2 s e ∙ ap moved_on j

-- the text of any file is at most 64 KiB
pub text_length2 : (s : List ℕ) → length (text_of2 s) ≤ 65536
unfolding text_of2
text_length2 s = by (read_verdict2 s) refl
  where
    by : (v : Verdict) → read_verdict2 s ≡ v → length (text_under v (four_of s)) ≤ 65536
    by (Ok done) e =
        let four = four_of s in
        omega (arith, job-length (head_of four) (blocks_of four) (readings_of four) (set_of four) (sum_of four) (file-job four (file_job2 s e).1).1)
    by (Err why) e = omega (arith, refused-length why.number why.place)

-- ---- optional fields

-- past the end there are none
pub optionals-end : (k : ℕ) (s : List ℕ) (names least at : ℕ) → length s ≤ at → optionals k s names least at ≡ accepted
unfolding optionals
optionals-end zero s names least at l = refl
optionals-end (suc k) s names least at l = rw (le-leb (length s) at l) refl

-- from `at` on, their tags at least `least`; the names have their length
pub data Optionals (s : List ℕ) (names : ℕ) : ℕ → ℕ → Type 0 where
  over : {least at : ℕ} → length s ≤ at → Optionals s names least at
  one : {least at : ℕ} → at < length s → least ≤ get_or s at 0 → (get_or s at 0 ≡ names_tag → big s (at + 1) 2 ≡ names) →
      at + 3 + big s (at + 1) 2 ≤ length s → Optionals s names (get_or s at 0 + 1) (at + 3 + big s (at + 1) 2) → Optionals s names least at

optionals_are : (k : ℕ) (s : List ℕ) (names least at : ℕ) → length s ≤ at + k → optionals k s names least at ≡ accepted → Optionals s names least at
unfolding optionals optional_verdict
optionals_are zero s names least at l e = let end : length s ≤ at = omega arith in over end
optionals_are (suc k) s names least at l e =
    by (leb (length s) at) refl (λ r. optionals_are k s names (get_or s at 0 + 1) (at + 3 + big s (at + 1) 2) (omega arith) r) e
  where
    rest : Verdict
    rest = optionals k s names (get_or s at 0 + 1) (at + 3 + big s (at + 1) 2)

    fits : (a b : Bool) → not a || b ≡ true → a ≡ true → b ≡ true
    fits true b e f = e
    fits false b e f = absurd (false≢true f)

    by : (t : Bool) → leb (length s) at ≡ t → (rest ≡ accepted → Optionals s names (get_or s at 0 + 1) (at + 3 + big s (at + 1) 2)) →
        cond t accepted (optional_verdict s names least at ⨾ rest) ≡ accepted → Optionals s names least at
    by true q ih e = over (leb-true (length s) at q)
    by false q ih e =
        let x = opened (optional_verdict s names least at) rest e in
        let y = opened _ (test (leb (at + 3 + big s (at + 1) 2) (length s)) 1 at) x.0 in
        let z = opened _ (test (not (eqb (get_or s at 0) names_tag) || eqb (big s (at + 1) 2) names) 3 at) y.0 in
        let v = opened (test (leb (at + 3) (length s)) 1 at) (test (leb least (get_or s at 0)) 2 at) z.0 in
        one (leb-false (length s) at q) (leb-true _ _ (held _ 2 at v.1))
        (λ n. eqb-true _ _ (fits (eqb (get_or s at 0) names_tag) _ (held _ 3 at z.1) (eq-eqb _ _ n)))
        (leb-true _ _ (held _ 1 at y.1)) (ih x.1)

pub optional-fields : (s : List ℕ) → optional_fields s ≡ accepted → Optionals s (names_length (head_of (four_of s))) names_tag (optional_at s)
unfolding optional_fields
optional-fields s e = optionals_are (length s) s (names_length (head_of (four_of s))) names_tag (optional_at s) (omega arith) e

-- ---- a file moved to the second edition

module _ (s : List ℕ) (e : read_verdict s ≡ accepted) where
  ends : end_at s ≡ length s
  ends = (filed s (file-job s e).0).ends

  -- its four fields are the file
  pub four-second : four_of (second_of s) ≡ s
  unfolding four_of
  four-second = take_all (end_at s) s (omega (arith, ends))

  second-edition : edition (second_of s) ≡ accepted
  unfolding edition field_verdict big
  second-edition =
      let three : leb 3 (length (second_of s)) ≡ true = le-leb 3 (length (second_of s)) (omega arith) in
      let all : leb 4 (length (second_of s)) ≡ true = le-leb 4 (length (second_of s)) (omega arith) in
      rw (three, all) refl

  second-optional : optional_fields (second_of s) ≡ accepted
  unfolding optional_fields
  second-optional = optionals-end _ (second_of s) _ names_tag (optional_at (second_of s)) (omega (arith, ap length four-second))

  -- it is accepted
  pub second-fields : fields2 (second_of s) ≡ accepted
  unfolding fields2
  second-fields =
      accepts (accepts (accepts
      (test_yes (leb (length (second_of s)) file_limit2) 4 0 (le-leb (length (second_of s)) file_limit2 (omega (arith, longest_file s e))))
      second-edition)
      (ap moved_on (ap fields four-second ∙ (file-job s e).0)))
      second-optional

  pub to-second : read_verdict2 (second_of s) ≡ accepted
  to-second = job_file2 (second_of s) second-fields (ap read_verdict four-second ∙ e)

  -- and has the same text
  pub second-text : text_of2 (second_of s) ≡ text_of s
  unfolding text_of2 text_of
  second-text = ap (λ (v : Verdict). text_under v (four_of (second_of s))) to-second ∙ ap (text_under accepted) four-second
      ∙ ap (λ (v : Verdict). text_under v s) (sym e)

-- ---- a file moved back

module _ (s : List ℕ) (e : edition s ≡ accepted) where
  -- a file whose four fields are all that follows the edition is the move of them
  pub to-first : length s ≤ optional_at s → second_of (four_of s) ≡ s
  to-first l =
      let f = edited s e in
      let rest : four_of s ≡ drop start_at s = sym (four-part s) ∙ take_all (length (four_of s)) (drop start_at s) (omega (arith, length-drop start_at s)) in
      ap (λ (t : List ℕ). edition_field ++ t) rest ∙ sym (edition_front s f)

  -- a reader of the first edition refuses with 2 at 0
  pub first-reader : read_verdict s ≡ refused 2 0
  unfolding read_verdict fields field_verdict
  first-reader =
      let f = edited s e in
      let l = f.long in
      rw (le-leb 3 (length s) (omega arith), f.tag) refl

-- ---- a file written

-- the field of the names, in bytes
pub names-none : (names : List ℕ) → length names ≡ 0 → names_field names ≡ []
names-none [] e = refl
names-none (x ∷ names) e = absurd (omega arith)

pub names-some : (names : List ℕ) → 0 < length names → names_field names ≡ names_tag ∷ bytes_of 2 (length names) ++ names
names-some [] l = absurd (omega arith)
names-some (x ∷ names) l = refl

pub names-long : (names : List ℕ) → length (names_field names) ≤ 3 + length names
names-long [] = omega arith
names-long (x ∷ names) = let e = length-append (bytes_of 2 (length (x ∷ names))) (x ∷ names) in omega (arith, e, bytes-long 2 (length (x ∷ names)))

-- the file has the length that is asked for
pub second-length : (h : Head) (d : List ℕ) (y : List ℤ) (w : ℕ) (M : ℤ) (names : List ℕ) → job_verdict h d y w M ≡ accepted →
    length (file_of2 h d y w M names) ≡ file_length2 h names
unfolding file_of2
second-length h d y w M names e =
    let a = length-append (file_of h d y w M) (names_field names) in omega (arith, a, file-length h d y w M e)
