-- A card: a job as a text that a person types. Its words, what each of them is to be, the file that they make, and what is refused at which word. Assumes
-- nothing.
use Rattle.std.specs.Prelude.{unwrap_or, is_some, Some, Option, Ok, Err, ℕ, zero, suc, ◌+◌, ◌-◌, ◌*◌, ◌/◌, ◌%◌, ◌^◌, Bool, true, false, cond, not, ◌&&◌, ◌||◌, List, [], ◌∷◌, ◌++◌, get_or, take, drop, length, ℤ, pos, negsuc, eqb, ltb, leb}
use Rattle.records.specs.declared.Head.{Head}
use Rattle.records.specs.declared.Card.{Card}
use Rattle.records.specs.declared.CardRead.{CardRead}
use Rattle.meaning.specs.Design.{objects, list_length, occ}
use Rattle.meaning.specs.Analysis.{member}
use Rattle.meaning.specs.Refusals.{Verdict, accepted, refused, ◌⨾◌, room}
use Rattle.meaning.specs.Calls.{given}
use Rattle.meaning.specs.File.{blocks_at, no_head, read_verdict}
use Rattle.meaning.specs.Writing.{bytes_of, wrapped, sizes_body, restraint_body}
use Rattle.meaning.specs.Text.{ascii}
use Rattle.meaning.specs.Edition2.{file_limit2, edition_field, start_at, names_tag, names_length, put_after, read_verdict2}
use Rattle.meaning.specs.SheetText.{same, number_of, signed_of}

-- ---- the words of a card: its bytes above 32, cut at the others, without comments, which go from a # to the end of its line

-- a word, and the place of its first byte
pub record Word : Type 0 where
  pub at : ℕ
  pub bytes : List ℕ

-- a word that ends before place k, where it has bytes, and the words after it
abbrev pub ending : ℕ → List ℕ → List Word → List Word
ending k [] more = more
ending k (x ∷ w) more = record { at = k - length (x ∷ w); bytes = x ∷ w } ∷ more

-- the words from place k on, in a comment or not, where w stands before it of a word that has begun
unfoldable pub words_from : Bool → ℕ → List ℕ → List ℕ → List Word
words_from comment k w [] = ending k w []
words_from true k w (x ∷ s) = words_from (not (eqb x 10)) (k + 1) [] s
words_from false k w (x ∷ s) = cond (ltb x 33 || eqb x 35)
    (ending k w (words_from (eqb x 35) (k + 1) [] s))
    (words_from false (k + 1) (w ++ (x ∷ [])) s)

-- all words of a text
abbrev pub words : List ℕ → List Word
words s = words_from false 0 [] s

-- ---- what a word says

-- an object of a block as its byte: an element, or ∞, which is typed inf
unfoldable pub object_of : List ℕ → Option ℕ
object_of w = cond (same w (ascii "inf")) (Some 255) (number_of 254 w)

-- an object of the restraint by its number below 64: ∞, where it takes part, is object n
unfoldable pub member_of : Head → List ℕ → Option ℕ
member_of h w = cond (same w (ascii "inf") && (eqb (h.flag % 2) 1 && ltb h.n 64)) (Some h.n) (number_of 63 w)

-- a digit in base 16, its letters large or small, and what it is worth
unfoldable pub is_hex : ℕ → Bool
is_hex x = (leb 48 x && leb x 57) || ((leb 65 x && leb x 70) || (leb 97 x && leb x 102))

unfoldable pub hex_digit : ℕ → ℕ
hex_digit x = cond (leb x 57) (x - 48) (cond (leb x 70) (x - 55) (x - 87))

-- the byte that the first two digits of a word write
abbrev pub hex_byte : List ℕ → ℕ
hex_byte w = 16 * hex_digit (get_or w 0 0) + hex_digit (get_or w 1 0)

-- every byte is a digit in base 16
unfoldable pub all_hex : List ℕ → Bool
all_hex [] = true
all_hex (x ∷ w) = is_hex x && all_hex w

-- the k bytes that 2k digits write
unfoldable pub hex_bytes : ℕ → List ℕ → List ℕ
hex_bytes zero w = []
hex_bytes (suc k) w = hex_byte w ∷ hex_bytes k (drop 2 w)

-- the body of another optional field: two digits a byte, or - for no bytes
unfoldable pub is_body : List ℕ → Bool
is_body w = same w (ascii "-") || (eqb (length w % 2) 0 && all_hex w)

unfoldable pub body_of : List ℕ → List ℕ
body_of w = cond (same w (ascii "-")) [] (hex_bytes (length w / 2) w)

-- its tag: two digits, above the tag before it
unfoldable pub is_tag : ℕ → List ℕ → Bool
is_tag least w = eqb (length w) 2 && (all_hex w && ltb least (hex_byte w))

-- what follows a \ in a name: x and two digits
abbrev pub is_escape : List ℕ → Bool
is_escape s = eqb (get_or s 0 0) 120 && (is_hex (get_or s 1 0) && is_hex (get_or s 2 0))

-- a word is a name of at most k bytes: each of them stands for itself, from ! to ~, or is written \xNN
unfoldable pub is_name : ℕ → List ℕ → Bool
is_name zero s = eqb (length s) 0
is_name (suc k) [] = true
is_name (suc k) (x ∷ s) = cond (eqb x 92) (is_escape s && is_name k (drop 3 s)) (leb x 126 && is_name k s)

-- the k bytes of a name, filled with spaces
unfoldable pub name_of : ℕ → List ℕ → List ℕ
name_of zero s = []
name_of (suc k) [] = 32 ∷ name_of k []
name_of (suc k) (x ∷ s) = cond (eqb x 92) (hex_byte (drop 1 s) ∷ name_of k (drop 3 s)) (x ∷ name_of k s)

-- a number has at most 32 bits with its sign, and a word is a reading where it is such a number
abbrev pub is_int32 : ℤ → Bool
is_int32 (pos x) = ltb x (2 ^ 31)
is_int32 (negsuc x) = ltb x (2 ^ 31)

unfoldable pub is_reading : List ℕ → Bool
is_reading w = is_some (signed_of w) && is_int32 (unwrap_or (signed_of w) (pos 0))

-- ---- the card as far as its words go: what the next one is to be, and what stands in those before it

-- what the next word is to be
--  1 residues or field            2 the number of elements, to 255     3 fixed                       4 yes or no
--  5 initial                      6 an object of the first left side   7 an object of it, or |       8 an object of a later left side
--  9 |                           10 an object of a right side         11 initial or restraint       12 an object of the restraint
-- 13 an object of it, or =       14 the accepted sum, in 64 bits      15 readings                   16 a reading
-- 17 a reading, names, other, or the end                              18 a name                     19 other, or the end
-- 20 a tag                       21 the bytes of that field           22 nothing: a job file holds no more
abbrev pub no_card : Card
no_card = record { wants = 1; bad = false; head = no_head; count = 0; set = 0; sum = pos 0; readings = 0; length = 0 }

-- the next word is to be k
abbrev pub next : ℕ → Card → Card
next k c = record { wants = k; bad = false; head = c.head; count = c.count; set = c.set; sum = c.sum; readings = c.readings; length = c.length }

-- the word is not what it was to be, and the card ends with it
abbrev pub fail : Card → Card
fail c = record { wants = c.wants; bad = true; head = c.head; count = c.count; set = c.set; sum = c.sum; readings = c.readings; length = c.length }

-- the same, with other sizes; with another count, of objects or of names, or a tag
abbrev pub sizing : ℕ → Head → Card → Card
sizing k h c = record { wants = k; bad = false; head = h; count = c.count; set = c.set; sum = c.sum; readings = c.readings; length = c.length }

abbrev pub counting : ℕ → ℕ → Card → Card
counting k i c = record { wants = k; bad = false; head = c.head; count = i; set = c.set; sum = c.sum; readings = c.readings; length = c.length }

-- with one more object in the restraint, with the accepted sum, with one more reading, with more bytes in the file
abbrev pub standing : ℕ → Card → Card
standing i c = record {
  wants = 13;
  bad = false;
  head = c.head;
  count = c.count;
  set = c.set + 2 ^ i;
  sum = c.sum;
  readings = c.readings;
  length = c.length;
}

abbrev pub summing : ℤ → Card → Card
summing M c = record { wants = 15; bad = false; head = c.head; count = c.count; set = c.set; sum = M; readings = c.readings; length = c.length }

abbrev pub weighed : Card → Card
weighed c = record {
  wants = 17;
  bad = false;
  head = c.head;
  count = c.count;
  set = c.set;
  sum = c.sum;
  readings = c.readings + 1;
  length = c.length;
}

abbrev pub longer : ℕ → Card → Card
longer k c = record {
  wants = c.wants;
  bad = c.bad;
  head = c.head;
  count = c.count;
  set = c.set;
  sum = c.sum;
  readings = c.readings;
  length = c.length + k;
}

-- the head with another n, flag, p or m
abbrev pub with_n : ℕ → Head → Head
with_n n h = record { n = n; flag = h.flag; p = h.p; m = h.m }

abbrev pub with_flag : ℕ → Head → Head
with_flag flag h = record { n = h.n; flag = flag; p = h.p; m = h.m }

abbrev pub with_p : ℕ → Head → Head
with_p p h = record { n = h.n; flag = h.flag; p = p; m = h.m }

abbrev pub with_m : ℕ → Head → Head
with_m m h = record { n = h.n; flag = h.flag; p = h.p; m = m }

-- ---- each word in its turn

module _ (c : Card) (w : List ℕ) where
  -- a word that is to be this one
  abbrev pub expect : List ℕ → Card → Card
  expect word after = cond (same w word) after (fail c)

  unfoldable pub take_kind : Card
  take_kind = cond (same w (ascii "residues")) (next 2 c) (expect (ascii "field") (sizing 2 (with_flag 2 c.head) c))

  unfoldable pub take_size : Card
  take_size = cond (is_some (number_of 255 w)) (sizing 3 (with_n (unwrap_or (number_of 255 w) 0) c.head) c) (fail c)

  unfoldable pub take_fixed : Card
  take_fixed = cond (same w (ascii "no")) (next 5 c) (expect (ascii "yes") (sizing 5 (with_flag (c.head.flag + 1) c.head) c))

  -- an object of the first left side, which says how many stand a side; a byte holds no more than 255
  unfoldable pub take_first : Card
  take_first = cond (is_some (object_of w)) (cond (ltb c.head.p 255) (sizing 7 (with_p (c.head.p + 1) c.head) c) (fail (next 22 c))) (fail c)

  unfoldable pub take_more : Card
  take_more = cond (same w (ascii "|")) (counting 10 0 c) take_first

  -- an object of a side of p: k is wanted after the last of them
  unfoldable pub take_object : ℕ → Card → Card
  take_object k after = cond (is_some (object_of w)) (cond (eqb (c.count + 1) c.head.p) after (counting k (c.count + 1) c)) (fail c)

  -- another block, of which a byte counts no more than 255, or the restraint
  unfoldable pub take_block : Card
  take_block = cond (same w (ascii "initial"))
      (cond (ltb c.head.m 255) (counting 8 0 c) (fail (next 22 c)))
      (expect (ascii "restraint") (next 12 c))

  -- an object of the restraint that is not yet in it
  unfoldable pub take_member : Card
  take_member = let i = member_of c.head w in cond (is_some i && eqb (member c.set (unwrap_or i 0)) 0) (standing (unwrap_or i 0) c) (fail c)

  unfoldable pub take_standard : Card
  take_standard = cond (same w (ascii "=")) (next 14 c) take_member

  unfoldable pub take_sum : Card
  take_sum = cond (is_some (signed_of w)) (summing (unwrap_or (signed_of w) (pos 0)) c) (fail c)

  unfoldable pub take_reading : Card
  take_reading = cond (is_reading w) (weighed c) (fail c)

  -- after a reading another one, the names of the v objects, or another optional field, whose tag is above that of the names
  unfoldable pub take_after : Card
  take_after = cond (same w (ascii "names"))
      (cond (eqb (objects c.head) 0) (counting 19 names_tag c) (counting 18 0 c))
      (cond (same w (ascii "other")) (counting 20 names_tag c) take_reading)

  unfoldable pub take_name : Card
  take_name = cond (is_name 8 w)
      (cond (eqb (c.count + 1) (objects c.head)) (counting 19 names_tag c) (counting 18 (c.count + 1) c))
      (fail c)

  unfoldable pub take_tag : Card
  take_tag = cond (is_tag c.count w) (counting 21 (hex_byte w) c) (fail c)

  unfoldable pub take_bytes : Card
  take_bytes = cond (is_body w) (next 19 c) (fail c)

  -- the word by what it is to be
  unfoldable pub taken : Card
  taken =
      cond (eqb c.wants 1) take_kind
      (cond (eqb c.wants 2) take_size
      (cond (eqb c.wants 3) (expect (ascii "fixed") (next 4 c))
      (cond (eqb c.wants 4) take_fixed
      (cond (eqb c.wants 5) (expect (ascii "initial") (next 6 c))
      (cond (eqb c.wants 6) take_first
      (cond (eqb c.wants 7) take_more
      (cond (eqb c.wants 8) (take_object 8 (next 9 c))
      (cond (eqb c.wants 9) (expect (ascii "|") (counting 10 0 c))
      (cond (eqb c.wants 10) (take_object 10 (sizing 11 (with_m (c.head.m + 1) c.head) c))
      (cond (eqb c.wants 11) take_block
      (cond (eqb c.wants 12) take_member
      (cond (eqb c.wants 13) take_standard
      (cond (eqb c.wants 14) take_sum
      (cond (eqb c.wants 15) (expect (ascii "readings") (next 16 c))
      (cond (eqb c.wants 16) take_reading
      (cond (eqb c.wants 17) take_after
      (cond (eqb c.wants 18) take_name
      (cond (eqb c.wants 19) (expect (ascii "other") (next 20 c))
      (cond (eqb c.wants 20) take_tag
      take_bytes)))))))))))))))))))

  -- the bytes of the file that the word gives: an object, a reading, the start of the names' field, a name, another optional field
  unfoldable pub object_bytes : List ℕ
  object_bytes = cond (is_some (object_of w)) (unwrap_or (object_of w) 0 ∷ []) []

  unfoldable pub reading_bytes : List ℕ
  reading_bytes = cond (is_reading w) (bytes_of 4 (wrapped 32 (unwrap_or (signed_of w) (pos 0)))) []

  unfoldable pub after_bytes : List ℕ
  after_bytes = cond (same w (ascii "names")) (names_tag ∷ bytes_of 2 (names_length c.head)) reading_bytes

  unfoldable pub field_bytes : List ℕ
  field_bytes = cond (is_body w) (c.count ∷ bytes_of 2 (length (body_of w)) ++ body_of w) []

  unfoldable pub given_bytes : List ℕ
  given_bytes =
      cond (leb 6 c.wants && leb c.wants 10) object_bytes
      (cond (eqb c.wants 16) reading_bytes
      (cond (eqb c.wants 17) after_bytes
      (cond (eqb c.wants 18) (name_of 8 w)
      (cond (eqb c.wants 21) field_bytes []))))

  -- the bytes that the word adds, and the card with it: after a word that is not what it was to be, nothing
  unfoldable pub adds : List ℕ
  adds = cond c.bad [] given_bytes

  unfoldable pub step : Card
  step = cond c.bad c (longer (length given_bytes) taken)

-- ---- all words

-- the card after these words, and the bytes that they add
unfoldable pub card_by : Card → List Word → Card
card_by c [] = c
card_by c (w ∷ ws) = card_by (step c w.bytes) ws

unfoldable pub bytes_by : Card → List Word → List ℕ
bytes_by c [] = []
bytes_by c (w ∷ ws) = adds c w.bytes ++ bytes_by (step c w.bytes) ws

-- the last word before which at most `wants` was wanted and there were at most `len` bytes, or `at` where there is none
abbrev pub within : ℕ → ℕ → Card → Bool
within wants len c = not c.bad && (leb c.wants wants && leb c.length len)

unfoldable pub word_by : ℕ → ℕ → Card → ℕ → List Word → ℕ
word_by wants len c at [] = at
word_by wants len c at (w ∷ ws) = word_by wants len (step c w.bytes) (cond (within wants len c) w.at at) ws

-- ---- the file of a card

abbrev pub card_of : List ℕ → Card
card_of s = card_by no_card (words s)

abbrev pub bytes_in : List ℕ → List ℕ
bytes_in s = bytes_by no_card (words s)

abbrev pub word_in : ℕ → ℕ → List ℕ → ℕ
word_in wants len s = word_by wants len no_card 0 (words s)

-- a field: its tag, the length of its body in two bytes, its body
abbrev pub field : ℕ → List ℕ → List ℕ
field tag body = tag ∷ bytes_of 2 (length body) ++ body

-- of the bytes that the words add: the blocks, the readings, the optional fields
abbrev pub block_bytes : Card → List ℕ → List ℕ
block_bytes c body = take (list_length c.head) body

abbrev pub readings_bytes : Card → List ℕ → List ℕ
readings_bytes c body = take (4 * c.readings) (drop (list_length c.head) body)

abbrev pub other_bytes : Card → List ℕ → List ℕ
other_bytes c body = drop (list_length c.head + 4 * c.readings) body

-- the four fields
unfoldable pub four_fields : Card → List ℕ → List ℕ
four_fields c body = field 1 (sizes_body c.head) ++ field 2 (block_bytes c body) ++ field 3 (restraint_body c.set c.sum) ++ field 4 (readings_bytes c body)

-- a card with names or other fields is a file of the second edition
abbrev pub is_second : Card → Bool
is_second c = ltb (list_length c.head + 4 * c.readings) c.length

unfoldable pub file_from : Card → List ℕ → List ℕ
file_from c body = cond (is_second c) (edition_field ++ four_fields c body ++ other_bytes c body) (four_fields c body)

unfoldable pub card_file : List ℕ → List ℕ
card_file s = file_from (card_of s) (bytes_in s)

-- ---- what is refused

-- a card has at most so many bytes, and its words add at most so many: with the starts of its fields a file of the second edition holds no more
abbrev pub card_limit : ℕ
card_limit = 65536

abbrev pub bytes_limit : ℕ
bytes_limit = file_limit2 - 36

-- a card may end here
abbrev pub is_whole : Card → Bool
is_whole c = eqb c.wants 17 || eqb c.wants 19

-- the word that a refusal of the file speaks of: the kind of design for its sizes, the first block for the balance, the restraint, the readings for their
-- number, and the very object or reading
abbrev pub wants_for : ℕ → ℕ
wants_for k = cond (eqb k 4) 1 (cond (eqb k 6) 5 (cond (eqb k 7 || eqb k 11) 11 (cond (eqb k 3) 15 21)))

abbrev pub bytes_before : ℕ → ℕ → ℕ
bytes_before k at = cond (eqb k 5) (at - blocks_at) (cond (eqb k 8) (at - (blocks_at + 22)) file_limit2)

-- a refusal of the file, moved to that word; `start` is where its four fields stand
abbrev pub moved_to : List ℕ → ℕ → Verdict → Verdict
moved_to s start (Ok done) = accepted
moved_to s start (Err why) = refused why.number (word_in (wants_for why.number) (bytes_before why.number (why.place - start)) s)

-- the tests of the file
unfoldable pub file_verdict : List ℕ → Verdict
file_verdict s = cond (is_second (card_of s)) (moved_to s start_at (read_verdict2 (card_file s))) (moved_to s 0 (read_verdict (card_file s)))

-- 19: the card cannot be read: it is too long, a word is not what it was to be, at that word; it ends too early, at its end; it holds more than a file
unfoldable pub card_verdict : List ℕ → Verdict
card_verdict s = let c = card_of s in
    cond (ltb card_limit (length s)) (refused 19 0)
    (cond c.bad (refused 19 (word_in 21 card_limit s))
    (cond (not (is_whole c)) (refused 19 (length s))
    (cond (ltb bytes_limit c.length) (refused 19 (word_in 21 bytes_limit s))
    (file_verdict s))))

-- what was wanted there, 0 where the card can be read
unfoldable pub card_wants : List ℕ → ℕ
card_wants s = let c = card_of s in
    cond (ltb card_limit (length s)) 22
    (cond (c.bad || not (is_whole c)) c.wants
    (cond (ltb bytes_limit c.length) 22 0))

-- the answer of making the file of a card in room for len bytes, and the room after
unfoldable pub card_answer : List ℕ → ℕ → CardRead
card_answer s len = let verdict = card_verdict s ⨾ room len (length (card_file s)) in
    record { verdict = verdict; wants = card_wants s; length = given verdict (length (card_file s)) 0 }

unfoldable pub card_after : List ℕ → List ℕ → List ℕ
card_after s out = put_after (card_verdict s ⨾ room (length out) (length (card_file s))) (card_file s) out

-- ---- where a byte stands, for a reader: its line, and its column in it, both from 1 on

abbrev pub line_at : List ℕ → ℕ → ℕ
line_at s k = occ 10 (take k s) + 1

unfoldable pub column_from : ℕ → List ℕ → ℕ
column_from column [] = column
column_from column (x ∷ s) = column_from (cond (eqb x 10) 1 (column + 1)) s

abbrev pub column_at : List ℕ → ℕ → ℕ
column_at s k = column_from 1 (take k s)
