-- The second edition of the job file (02, P7): an edition field, the four fields, then optional fields; and what each call on it answers. The four fields
-- are a file of the first edition that starts at a place: they are read as one, and what is refused in them is moved to its place in the whole. Assumes
-- nothing.
use Rattle.std.specs.Prelude.{Ok, Err, ℕ, zero, suc, ◌+◌, ◌*◌, cond, not, ◌||◌, List, [], ◌∷◌, ◌++◌, get_or, take, drop, length, ℤ, pos, eqb, leb}
use Rattle.records.specs.declared.Head.{Head}
use Rattle.records.specs.declared.JobWritten.{JobWritten}
use Rattle.records.specs.declared.Listed.{Listed}
use Rattle.records.specs.declared.SecondRead.{SecondRead}
use Rattle.records.specs.declared.Solved.{Solved}
use Rattle.meaning.specs.Design.{objects}
use Rattle.meaning.specs.Refusals.{Verdict, accepted, refused, test, ◌⨾◌, room}
use Rattle.meaning.specs.Calls.{given, slices, contents, rooms, words_under, values_under, deviations_under, solved_under}
use Rattle.meaning.specs.File.{
  big,
  field_verdict,
  head_of,
  end_at,
  blocks_at,
  readings_at,
  blocks_of,
  set_of,
  sum_of,
  readings_of,
  fields,
  read_verdict,
  no_head,
}
use Rattle.meaning.specs.Writing.{bytes_of, file_of, file_length}
use Rattle.meaning.specs.Text.{text_under, text_answer, text_after}

-- a file has at most so many bytes
abbrev pub file_limit2 : ℕ
file_limit2 = 16384

-- the edition field: tag 10 hexadecimal, length 1, body 2
abbrev pub edition_field : List ℕ
edition_field = 16 ∷ 0 ∷ 1 ∷ 2 ∷ []

-- where the four fields start: after it
abbrev pub start_at : ℕ
start_at = 4

-- the tests of the edition field: its own, then 12 for a body other than 2, at that byte
unfoldable pub edition : List ℕ → Verdict
edition s = field_verdict s 0 16 1 ⨾ test (eqb (get_or s 3 0) 2) 12 3

-- ---- the four fields

-- the four fields, a file of the first edition: what follows the edition field, as far as they go by their sizes
unfoldable pub four_of : List ℕ → List ℕ
four_of s = take (end_at (drop start_at s)) (drop start_at s)

-- a refusal of the four fields moved to its place in the whole file; those of 6 and 10 stay at 0
abbrev pub moved_on : Verdict → Verdict
moved_on (Ok done) = accepted
moved_on (Err why) = refused why.number (cond (eqb why.number 6 || eqb why.number 10) why.place (start_at + why.place))

-- ---- optional fields

-- the lowest tag of an optional field, 80 hexadecimal, which is that of the names
abbrev pub names_tag : ℕ
names_tag = 128

-- the names: eight bytes an object
abbrev pub names_length : Head → ℕ
names_length h = 8 * objects h

-- where the optional fields start: after the four fields
abbrev pub optional_at : List ℕ → ℕ
optional_at s = start_at + length (four_of s)

-- the tests of an optional field whose tag is to be at least `least`: its start, its tag, the length of names, its body
unfoldable pub optional_verdict : List ℕ → ℕ → ℕ → ℕ → Verdict
optional_verdict s names least at =
    test (leb (at + 3) (length s)) 1 at
    ⨾ test (leb least (get_or s at 0)) 2 at
    ⨾ test (not (eqb (get_or s at 0) names_tag) || eqb (big s (at + 1) 2) names) 3 at
    ⨾ test (leb (at + 3 + big s (at + 1) 2) (length s)) 1 at

-- the optional fields from `at` to the end of the file, of which there are at most k: each tag above the one before it. Where k is
-- the length of the file it is never used up: each field has three bytes at least
unfoldable pub optionals : ℕ → List ℕ → ℕ → ℕ → ℕ → Verdict
optionals zero s names least at = accepted
optionals (suc k) s names least at = cond (leb (length s) at) accepted
    (optional_verdict s names least at ⨾ optionals k s names (get_or s at 0 + 1) (at + 3 + big s (at + 1) 2))

-- all of them
unfoldable pub optional_fields : List ℕ → Verdict
optional_fields s = optionals (length s) s (names_length (head_of (four_of s))) names_tag (optional_at s)

-- where the names stand, 0 where there are none: only the first optional field can hold them
abbrev pub names_at : List ℕ → ℕ
names_at s = cond (eqb (get_or s (optional_at s) 0) names_tag) (optional_at s + 3) 0

-- ---- reading

-- the fields: too long before all else, the edition, the four fields, and the optional ones in the place of 9
unfoldable pub fields2 : List ℕ → Verdict
fields2 s = test (leb (length s) file_limit2) 4 0 ⨾ edition s ⨾ moved_on (fields (four_of s)) ⨾ optional_fields s

-- the verdict of reading: the fields, then what the four hold
unfoldable pub read_verdict2 : List ℕ → Verdict
read_verdict2 s = fields2 s ⨾ moved_on (read_verdict (four_of s))

-- the answer of reading: what reading the first edition hands back, moved to its places, and where the names stand
abbrev pub read_answer2 : List ℕ → SecondRead
read_answer2 s = let verdict = read_verdict2 s in let four = four_of s in
    let head = given verdict (head_of four) no_head in let set = given verdict (set_of four) 0 in let sum = given verdict (sum_of four) (pos 0) in
    let at_blocks = given verdict (start_at + blocks_at) 0 in let at_readings = given verdict (start_at + readings_at four) 0 in
    record {
      job = record { verdict = verdict; head = head; blocks_at = at_blocks; readings_at = at_readings; set = set; sum = sum };
      names_at = given verdict (names_at s) 0;
    }

-- ---- solving

unfoldable pub solve_verdict2 : List ℕ → ℕ → ℕ → ℕ → Verdict
solve_verdict2 s words values deviations = read_verdict2 s ⨾ rooms (head_of (four_of s)) words values deviations

-- what solving answers on three lent rooms, and each room after
abbrev pub solving2 : List ℕ → List ℕ → List ℤ → List ℤ → Verdict
solving2 s words values deviations = solve_verdict2 s (length words) (length values) (length deviations)

abbrev pub solve_answer2 : List ℕ → List ℕ → List ℤ → List ℤ → Solved
solve_answer2 s words values deviations = let four = four_of s in
    solved_under (solving2 s words values deviations) (head_of four) (blocks_of four) (readings_of four) (set_of four)

abbrev pub solve_words2 : List ℕ → List ℕ → List ℤ → List ℤ → List ℕ
solve_words2 s words values deviations = words_under (solving2 s words values deviations) (head_of (four_of s)) (blocks_of (four_of s)) words

abbrev pub solve_values2 : List ℕ → List ℕ → List ℤ → List ℤ → List ℤ
solve_values2 s words values deviations = let four = four_of s in
    values_under (solving2 s words values deviations) (head_of four) (blocks_of four) (readings_of four) (set_of four) (sum_of four) values

abbrev pub solve_deviations2 : List ℕ → List ℕ → List ℤ → List ℤ → List ℤ
solve_deviations2 s words values deviations = let four = four_of s in
    deviations_under (solving2 s words values deviations) (head_of four) (blocks_of four) (readings_of four) deviations

-- ---- the listing: that of the job, or the refusal; names are not printed

unfoldable pub text_of2 : List ℕ → List ℕ
text_of2 s = text_under (read_verdict2 s) (four_of s)

abbrev pub listed_answer2 : List ℕ → ℕ → Listed
listed_answer2 s len = text_answer (text_of2 s) len

abbrev pub listed_after2 : List ℕ → List ℕ → List ℕ
listed_after2 s out = text_after (text_of2 s) out

-- ---- files written

-- the answer of putting a file into lent room under a verdict, and the room after: the file at its front, and later bytes stay
abbrev pub put_answer : Verdict → List ℕ → JobWritten
put_answer verdict file = record { verdict = verdict; length = given verdict (length file) 0 }

abbrev pub put_after : Verdict → List ℕ → List ℕ → List ℕ
put_after verdict file out = given verdict (file ++ drop (length file) out) out

-- the field of the names, where there are any
abbrev pub names_field : List ℕ → List ℕ
names_field [] = []
names_field (x ∷ xs) = names_tag ∷ bytes_of 2 (length (x ∷ xs)) ++ (x ∷ xs)

-- the file of a job with these names
unfoldable pub file_of2 : Head → List ℕ → List ℤ → ℕ → ℤ → List ℕ → List ℕ
file_of2 h d y w M names = edition_field ++ file_of h d y w M ++ names_field names

-- how many bytes it has
abbrev pub file_length2 : Head → List ℕ → ℕ
file_length2 h names = start_at + file_length h + length (names_field names)

-- 3: there are no names, or eight bytes for each object
abbrev pub names_fit : Head → List ℕ → Verdict
names_fit h names = test (eqb (length names) 0 || eqb (length names) (names_length h)) 3 0

-- the verdict of writing it: the tests of a whole job, the length of the names among the lengths, and the room last
unfoldable pub write_verdict2 : Head → List ℕ → List ℤ → ℕ → ℤ → List ℕ → ℕ → Verdict
write_verdict2 h d y w M names len = slices h d y ⨾ names_fit h names ⨾ contents h d y w M ⨾ room len (file_length2 h names)

abbrev pub written_answer2 : Head → List ℕ → List ℤ → ℕ → ℤ → List ℕ → ℕ → JobWritten
written_answer2 h d y w M names len = put_answer (write_verdict2 h d y w M names len) (file_of2 h d y w M names)

abbrev pub written_after2 : Head → List ℕ → List ℤ → ℕ → ℤ → List ℕ → List ℕ → List ℕ
written_after2 h d y w M names out = put_after (write_verdict2 h d y w M names (length out)) (file_of2 h d y w M names) out

-- ---- files moved

-- a file of the first edition moved to the second: all tests of reading it, then the room
unfoldable pub to_second_verdict : List ℕ → ℕ → Verdict
to_second_verdict s len = read_verdict s ⨾ room len (start_at + length s)

-- what it becomes
abbrev pub second_of : List ℕ → List ℕ
second_of s = edition_field ++ s

abbrev pub to_second_answer : List ℕ → ℕ → JobWritten
to_second_answer s len = put_answer (to_second_verdict s len) (second_of s)

abbrev pub to_second_after : List ℕ → List ℕ → List ℕ
to_second_after s out = put_after (to_second_verdict s (length out)) (second_of s) out

-- a file of the second edition moved back: all tests of reading it, 13 at the first optional field, then the room
unfoldable pub to_first_verdict : List ℕ → ℕ → Verdict
to_first_verdict s len = read_verdict2 s ⨾ test (leb (length s) (optional_at s)) 13 (optional_at s) ⨾ room len (length (four_of s))

abbrev pub to_first_answer : List ℕ → ℕ → JobWritten
to_first_answer s len = put_answer (to_first_verdict s len) (four_of s)

abbrev pub to_first_after : List ℕ → List ℕ → List ℕ
to_first_after s out = put_after (to_first_verdict s (length out)) (four_of s) out
