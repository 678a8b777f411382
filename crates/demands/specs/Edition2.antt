-- SECOND EDITION OF THE JOB FILE (02, P7). Sites exchange jobs, and some want weight names in them. Edition 2, at most 16,384 bytes, starts with tag 10
-- hexadecimal, length 1, body 2, then the four fields, then optional fields with tags 80 and up hexadecimal, each tag at most once, in rising order. Tag 80
-- holds v names of eight bytes, space filled, in object order; other tags are kept and skipped. Moving an edition 1 file to 2 and back gives the same bytes.
-- Moving 2 to 1 is done only where there are no optional fields, so nothing is dropped silently. P1's one file per job then holds within edition 1. An
-- edition 1 reader given a whole edition 2 file refuses with 2 at 0. Refusals: an edition 2 file that is too long is 4 at 0 before all else; body other than
-- 2 is 12 at that byte, right after the field's own checks; optional fields are checked for 1 (start), 2 (tag below 80 hexadecimal or not rising), 3 (tag 80
-- of length other than 8v), 1 (body), all before 5, and in edition 2 they replace 9; going back with optional fields is 13 at the first of them, after all
-- checks of reading and before 10.
-- `four_of s` are the four fields of s, a file of the first edition; `moved_on` moves a refusal of them by the four bytes before them (those of 6 and 10 stay
-- at 0); `optional_at s` is where the optional fields start. Here stand the file and its moves; what the calls on it hand back and leave stands in
-- SecondCalls. Assumes nothing.
use Rattle.std.specs.Prelude.{not, ◌||◌, List, ◌∷◌, ◌≡◌, ℕ, ◌+◌, ◌*◌, ◌≤◌, ◌<◌, eqb, leb, length, get_or, take, drop}
use Rattle.meaning.specs.Design.{objects, blocks, sized, list_length}
use Rattle.meaning.specs.Refusals.{Verdict, accepted, refused, test, ◌⨾◌}
use Rattle.meaning.specs.File.{big, head_of, field_verdict, fields, read_verdict}
use Rattle.meaning.specs.Text.{text_of}
use Rattle.meaning.specs.Writing.{Bytes, ReadsAs}
use Rattle.meaning.specs.Edition2.{
  edition,
  four_of,
  moved_on,
  optional_at,
  optionals,
  optional_fields,
  names_at,
  read_verdict2,
  text_of2,
  second_of,
  to_second_verdict,
  to_second_answer,
  to_second_after,
  to_first_verdict,
  to_first_answer,
  to_first_after,
}
use Rattle.demands.specs.Job.{Job, job_in}
use Rattle.demands.specs.Refusals.{start, body, ten}
use Rattle.demands.specs.Outcomes.{OnRefusal, OnAcceptance}

-- what a move leaves in the room that was lent, as far as the call says that it wrote
abbrev pub in_second : List ℕ → List ℕ → List ℕ
in_second s out = take (to_second_answer s (length out)).length (to_second_after s out)

abbrev pub in_first : List ℕ → List ℕ → List ℕ
in_first s out = take (to_first_answer s (length out)).length (to_first_after s out)

-- v, and the eight bytes of the name of object i
abbrev pub objects_in : List ℕ → ℕ
objects_in s = objects (head_of (four_of s))

abbrev pub name_of : List ℕ → ℕ → List ℕ
name_of s i = take 8 (drop (names_at s + 8 * i) s)

-- the tests of the optional fields from `at` on, whose tags are to be at least `least`
abbrev pub optionals_from : List ℕ → ℕ → ℕ → Verdict
optionals_from s least at = optionals (length s) s (8 * objects_in s) least at

-- from `at` on stand optional fields, each tag above the one before and the first at least `least`, names of 8v bytes, and the last ends where the file does
pub data Rising (s : List ℕ) : ℕ → ℕ → Type 0 where
  no_more : (least : ℕ) → Rising s least (length s)
  one_more : (least at : ℕ) → least ≤ get_or s at 0 → (get_or s at 0 ≡ 128 → big s (at + 1) 2 ≡ 8 * objects_in s) → at + 3 + big s (at + 1) 2 ≤ length s →
      Rising s (get_or s at 0 + 1) (at + 3 + big s (at + 1) 2) → Rising s least at

-- ---- a file of the first edition

module _ (s : List ℕ) where
  pub record FirstEdition : Type 0 where
    -- Moving an edition 1 file to 2: all checks of reading, then 10
    pub order : (len : ℕ) → to_second_verdict s len ≡ read_verdict s ⨾ ten len (4 + length s)
    -- (a refusal leaves the room as it was and hands back no length; else the file is put to the front, later bytes stay, and its length is handed back)
    pub leaves : (out : List ℕ) → OnRefusal (to_second_verdict s (length out)) (to_second_after s out) out
    pub hands_back : (len : ℕ) → let verdict = to_second_verdict s len in OnRefusal verdict (to_second_answer s len) (record { verdict = verdict; length = 0 })
    pub hands_back_its_length : (len : ℕ) →
        OnAcceptance (to_second_verdict s len) (to_second_answer s len) (record { verdict = accepted; length = 4 + length s })
    pub later_bytes_stay : (out : List ℕ) → to_second_verdict s (length out) ≡ accepted → drop (4 + length s) (to_second_after s out) ≡ drop (4 + length s) out
    -- .. and back gives the same bytes
    pub there_and_back : (out back : List ℕ) → read_verdict s ≡ accepted → 4 + length s ≤ length out → length s ≤ length back →
        (to_second_verdict s (length out) ≡ accepted) × (to_first_verdict (in_second s out) (length back) ≡ accepted) × (in_first (in_second s out) back ≡ s)
    -- Nothing is dropped: every byte of the four fields is kept, after the four of the edition field
    pub keeps_every_byte : (out : List ℕ) → to_second_verdict s (length out) ≡ accepted → in_second s out ≡ 16 ∷ 0 ∷ 1 ∷ 2 ∷ s
    -- Both editions of a file hold the same job and get the same listing
    pub same-job : read_verdict s ≡ accepted → (read_verdict2 (second_of s) ≡ accepted) × (job_in (four_of (second_of s)) ≡ job_in s)
    pub same_listing : read_verdict s ≡ accepted → text_of2 (second_of s) ≡ text_of s
    -- P1's one file per job then holds within edition 1
    pub one_file_per_job : (j : Job) (u : List ℕ) → Bytes s → Bytes u → ReadsAs s j.head j.initial j.readings j.set j.sum →
        ReadsAs u j.head j.initial j.readings j.set j.sum → s ≡ u

-- ---- a file of the second edition

module _ (s : List ℕ) where
  pub record SecondEdition : Type 0 where
    -- Too long is 4 at 0 before all else; body other than 2 is 12 at that byte, right after the field's own checks; the four fields; the optional fields, all
    -- before 5, where 9 stood
    pub order : read_verdict2 s ≡ test (leb (length s) 16384) 4 0 ⨾ field_verdict s 0 16 1 ⨾ test (eqb (get_or s 3 0) 2) 12 3
        ⨾ moved_on (fields (four_of s)) ⨾ optional_fields s ⨾ moved_on (read_verdict (four_of s))
    pub too_long : 16384 < length s → read_verdict2 s ≡ refused 4 0
    -- Then the four fields: from the fifth byte on, each refusal at its place in the file, the sizes' at 4, and no 9
    pub four-fields : 4 ≤ length s → let h = head_of (drop 4 s) in
        moved_on (fields (four_of s)) ≡ field_verdict s 4 1 4 ⨾ test (sized h) 4 4 ⨾ field_verdict s 11 2 (list_length h)
        ⨾ field_verdict s (14 + list_length h) 3 16 ⨾ field_verdict s (33 + list_length h) 4 (4 * blocks h)
    -- Optional fields are checked, one after another to the end of the file, for 1 (start), 2 (tag below 80 hexadecimal or not rising), 3 (tag 80 of length
    -- other than 8v), 1 (body)
    pub optional_from : optional_fields s ≡ optionals_from s 128 (optional_at s)
    pub optional-none : (least at : ℕ) → length s ≤ at → optionals_from s least at ≡ accepted
    pub optional-one : (least at : ℕ) → at < length s → let tag = get_or s at 0 in let len = big s (at + 1) 2 in
        optionals_from s least at ≡ start s at ⨾ test (leb least tag) 2 at ⨾ test (not (eqb tag 128) || eqb len (8 * objects_in s)) 3 at ⨾ body s at len
        ⨾ optionals_from s (tag + 1) (at + 3 + len)
    -- Tags 80 and up hexadecimal, each tag at most once, in rising order; the last field ends where the file does
    pub optional_rising : read_verdict2 s ≡ accepted → Rising s 128 (optional_at s)
    -- An accepted file holds an accepted file of the first edition, from its fifth byte on
    pub holds_the_four : read_verdict2 s ≡ accepted → (read_verdict (four_of s) ≡ accepted) × (four_of s ≡ take (length (four_of s)) (drop 4 s))
    pub same_listing : read_verdict2 s ≡ accepted → text_of2 s ≡ text_of (four_of s)
    -- Tag 80 holds v names of eight bytes
    pub names : read_verdict2 s ≡ accepted → get_or s (optional_at s) 0 ≡ 128 →
        (names_at s ≡ optional_at s + 3) × (big s (optional_at s + 1) 2 ≡ 8 * objects_in s) × (names_at s + 8 * objects_in s ≤ length s)
    -- (in object order: that of object i is the eight bytes of the body from 8i on; without the tag there are none, and 0 says so)
    pub each-name : read_verdict2 s ≡ accepted → get_or s (optional_at s) 0 ≡ 128 → (i : ℕ) → i < objects_in s →
        (length (name_of s i) ≡ 8) × (names_at s + 8 * i + 8 ≤ optional_at s + 3 + big s (optional_at s + 1) 2)
    pub no_names : (get_or s (optional_at s) 0 ≡ 128 → ⊥) → names_at s ≡ 0
    -- An edition 1 reader given a whole edition 2 file refuses with 2 at 0
    pub first_edition_reader : read_verdict2 s ≡ accepted → read_verdict s ≡ refused 2 0
    -- (its edition field alone is enough)
    pub by_its_edition_field : edition s ≡ accepted → read_verdict s ≡ refused 2 0
    -- Going back with optional fields is 13 at the first of them, after all checks of reading and before 10
    pub back-order : (len : ℕ) →
        to_first_verdict s len ≡ read_verdict2 s ⨾ test (leb (length s) (optional_at s)) 13 (optional_at s) ⨾ ten len (length (four_of s))
    pub leaves : (out : List ℕ) → OnRefusal (to_first_verdict s (length out)) (to_first_after s out) out
    pub hands_back : (len : ℕ) → let verdict = to_first_verdict s len in OnRefusal verdict (to_first_answer s len) (record { verdict = verdict; length = 0 })
    pub hands_back_its_length : (len : ℕ) →
        OnAcceptance (to_first_verdict s len) (to_first_answer s len) (record { verdict = accepted; length = length (four_of s) })
    pub moved-is : (out : List ℕ) → to_first_verdict s (length out) ≡ accepted → in_first s out ≡ four_of s
    pub later_bytes_stay : (out : List ℕ) → to_first_verdict s (length out) ≡ accepted →
        drop (length (four_of s)) (to_first_after s out) ≡ drop (length (four_of s)) out
    -- Moving 2 to 1 is done only where there are no optional fields: of an accepted file, with room, exactly there
    pub done_only : (len : ℕ) → to_first_verdict s len ≡ accepted → optional_at s ≡ length s
    pub done_there : (len : ℕ) → read_verdict2 s ≡ accepted → optional_at s ≡ length s → length (four_of s) ≤ len → to_first_verdict s len ≡ accepted
    -- .. so nothing is dropped silently: moved back and forth it is the same bytes
    pub back_and_there : (out forth : List ℕ) → to_first_verdict s (length out) ≡ accepted → length s ≤ length forth →
        (to_second_verdict (in_first s out) (length forth) ≡ accepted) × (in_second (in_first s out) forth ≡ s)
