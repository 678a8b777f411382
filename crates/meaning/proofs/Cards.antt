-- Cards, rows of a table under one theorem: the file of a card, comments and spacing, each word that is not what it was to be with its place, what the file
-- cannot hold, refusals at their word, names and other fields; and the card that is printed for a file. The figures were worked out apart from these
-- definitions. Assumes nothing.
use Prim.Native.Nat.{ℕ}
use mathlib.Core.Bool.{true, cond}
use mathlib.Core.List.{List, [], ◌∷◌, ◌++◌}
use mathlib.Core.Path.{◌≡◌, refl}
use lib.ListN.{length, take}
use Rattle.algebra.specs.Ranges.{sum, sum_ℕ, first_from}
use Rattle.meaning.specs.Design.{sized, occ, plus, left, right, company, opposition, balanced, beta, field_prime, digit_sum}
use Rattle.meaning.specs.Analysis.{members}
use Rattle.meaning.specs.Refusals.{number, place, offender, far_reading}
use Rattle.meaning.specs.Calls.{slices, contents}
use Rattle.meaning.specs.File.{big, numbers_at, field_verdict, fields, read_verdict}
use Rattle.meaning.specs.Writing.{bytes_of}
use Rattle.meaning.specs.Text.{ascii, digits, each, escaped, trimmed, name_text}
use Rattle.meaning.specs.Edition2.{edition_field, edition, four_of, optional_verdict, optionals, optional_fields, fields2, read_verdict2}
use Rattle.meaning.specs.SheetText.{same, digital, decimal, is_number, number_of, signed_of}
use Rattle.meaning.specs.Card.{
  words_from,
  object_of,
  member_of,
  is_hex,
  hex_digit,
  all_hex,
  hex_bytes,
  is_body,
  body_of,
  is_tag,
  is_name,
  name_of,
  is_reading,
  take_kind,
  take_size,
  take_fixed,
  take_first,
  take_more,
  take_object,
  take_block,
  take_member,
  take_standard,
  take_sum,
  take_reading,
  take_after,
  take_name,
  take_tag,
  take_bytes,
  taken,
  object_bytes,
  reading_bytes,
  after_bytes,
  field_bytes,
  given_bytes,
  adds,
  step,
  card_by,
  bytes_by,
  word_by,
  four_fields,
  file_from,
  card_file,
  file_verdict,
  card_verdict,
  card_wants,
  card_answer,
  line_at,
  column_from,
  column_at,
}
use Rattle.meaning.specs.CardText.{hex_texts, other_lines, card_text_of, card_text_of2}
use Rattle.meaning.proofs.Rows.{Row, holding, every}
use Rattle.meaning.proofs.Examples.{file_a}

-- what is said of a card: the number, the place, what was wanted, and how many bytes the file has
abbrev says : List ℕ → List ℕ → Row
says s = let r = card_answer s 16384 in holding (number r.verdict ∷ place r.verdict ∷ r.wants ∷ r.length ∷ [])

-- the card of example A from its third line on, and its first two lines with it
abbrev rest_a : List ℕ
rest_a = ascii "initial 1 4 | 2 3\nrestraint 0 1 =  7\nreadings 11 -3 4\n\t1 -8 # Friday\n"

abbrev card_a : List ℕ
card_a = ascii "# nine weights, Monday\nresidues 5\nfixed no\n" ++ rest_a

-- the head of a card of three objects, and a whole one up to its readings
abbrev three : List ℕ
three = ascii "residues 3 fixed no initial "

abbrev weighing : List ℕ
weighing = ascii "residues 3 fixed no initial 0 | 1 restraint 0 1 = 7 readings 1 2 3"

abbrev card_rows : List Row
card_rows =
    holding (card_file card_a) file_a
    ∷ says card_a (0 ∷ 0 ∷ 0 ∷ 56 ∷ [])
    ∷ holding (card_file (ascii "#\n#x\n residues#y 7\n5 fixed\tno\rinitial 1 4|2 3")) (card_file (ascii "residues 5 fixed no initial 1 4|2 3"))
    -- each word in its turn
    ∷ says [] (19 ∷ 0 ∷ 1 ∷ 0 ∷ [])
    ∷ says (ascii "residue 5") (19 ∷ 0 ∷ 1 ∷ 0 ∷ [])
    ∷ says (ascii " residues 256") (19 ∷ 10 ∷ 2 ∷ 0 ∷ [])
    ∷ says (ascii "field 9 fix") (19 ∷ 8 ∷ 3 ∷ 0 ∷ [])
    ∷ says (ascii "field 9 fixed 0") (19 ∷ 14 ∷ 4 ∷ 0 ∷ [])
    ∷ says (ascii "field 9 fixed yes") (19 ∷ 17 ∷ 5 ∷ 0 ∷ [])
    ∷ says (three ++ ascii "| 1") (19 ∷ 28 ∷ 6 ∷ 0 ∷ [])
    ∷ says (three ++ ascii "255") (19 ∷ 28 ∷ 6 ∷ 0 ∷ [])
    ∷ says (three ++ ascii "0 initial") (19 ∷ 30 ∷ 7 ∷ 0 ∷ [])
    ∷ says (three ++ ascii "0 | 1 2") (19 ∷ 34 ∷ 11 ∷ 0 ∷ [])
    ∷ says (three ++ ascii "0 inf | 1 restraint") (19 ∷ 38 ∷ 10 ∷ 0 ∷ [])
    ∷ says (three ++ ascii "0 | 1 initial |") (19 ∷ 42 ∷ 8 ∷ 0 ∷ [])
    ∷ says (three ++ ascii "0 | 1 initial 0 1") (19 ∷ 44 ∷ 9 ∷ 0 ∷ [])
    ∷ says (three ++ ascii "0 | 1 restraint =") (19 ∷ 44 ∷ 12 ∷ 0 ∷ [])
    ∷ says (three ++ ascii "0 | 1 restraint 64") (19 ∷ 44 ∷ 12 ∷ 0 ∷ [])
    ∷ says (three ++ ascii "0 | 1 restraint 63 63") (19 ∷ 47 ∷ 13 ∷ 0 ∷ [])
    ∷ says (three ++ ascii "0 | 1 restraint inf") (19 ∷ 44 ∷ 12 ∷ 0 ∷ [])
    ∷ says (three ++ ascii "0 | 1 restraint 0 = 9223372036854775808") (19 ∷ 48 ∷ 14 ∷ 0 ∷ [])
    ∷ says (three ++ ascii "0 | 1 restraint 0 = -9223372036854775808 reading") (19 ∷ 69 ∷ 15 ∷ 0 ∷ [])
    ∷ says (three ++ ascii "0 | 1 restraint 0 = 1 readings names") (19 ∷ 59 ∷ 16 ∷ 0 ∷ [])
    ∷ says (weighing ++ ascii " 2147483648") (19 ∷ 67 ∷ 17 ∷ 0 ∷ [])
    ∷ says (weighing ++ ascii " -2147483649") (19 ∷ 67 ∷ 17 ∷ 0 ∷ [])
    ∷ says (weighing ++ ascii " names a b") (19 ∷ 76 ∷ 18 ∷ 0 ∷ [])
    ∷ says (weighing ++ ascii " names a b ninebytes") (19 ∷ 77 ∷ 18 ∷ 0 ∷ [])
    ∷ says (weighing ++ ascii " names a b \\x2") (19 ∷ 77 ∷ 18 ∷ 0 ∷ [])
    ∷ says (weighing ++ ascii " names a b c d") (19 ∷ 79 ∷ 19 ∷ 0 ∷ [])
    ∷ says (weighing ++ ascii " other 80 -") (19 ∷ 73 ∷ 20 ∷ 0 ∷ [])
    ∷ says (weighing ++ ascii " other 82 - other 82 -") (19 ∷ 84 ∷ 20 ∷ 0 ∷ [])
    ∷ says (weighing ++ ascii " other 81 0") (19 ∷ 76 ∷ 21 ∷ 0 ∷ [])
    ∷ says (weighing ++ ascii " other 81") (19 ∷ 75 ∷ 21 ∷ 0 ∷ [])
    -- what is refused, at its word: sizes, balance, an object, the restraint, one standard, a reading, their number
    ∷ says weighing (0 ∷ 0 ∷ 0 ∷ 46 ∷ [])
    ∷ says (ascii " residues 2 fixed no initial 0 | 1 restraint 0 1 = 7 readings 1 2") (4 ∷ 1 ∷ 0 ∷ 0 ∷ [])
    ∷ says (ascii "residues 4 fixed no initial 0 | 1 restraint 0 1 = 7 readings 1 2 3 4") (6 ∷ 20 ∷ 0 ∷ 0 ∷ [])
    ∷ says (three ++ ascii "0 | 3 restraint 0 1 = 7 readings 1 2 3") (5 ∷ 32 ∷ 0 ∷ 0 ∷ [])
    ∷ says (three ++ ascii "0 | 1 restraint 0 3 = 7 readings 1 2 3") (7 ∷ 34 ∷ 0 ∷ 0 ∷ [])
    ∷ says (three ++ ascii "0 | 1 restraint 2 = 7 readings 1 2 3") (11 ∷ 34 ∷ 0 ∷ 0 ∷ [])
    ∷ says (three ++ ascii "0 | 1 restraint 0 1 = 7 readings 1 200000001 3") (8 ∷ 63 ∷ 0 ∷ 0 ∷ [])
    ∷ says (weighing ++ ascii " 4") (3 ∷ 52 ∷ 0 ∷ 0 ∷ [])
    ∷ says (weighing ++ ascii " 4 names a b c") (3 ∷ 52 ∷ 0 ∷ 0 ∷ [])
    -- names and other fields
    ∷ holding (card_file (weighing ++ ascii " names a \\x2ab ~ other 81 0aFF other ff -"))
    (edition_field ++ card_file weighing ++ (128 ∷ 0 ∷ 24 ∷ []) ++ ascii "a       *b      ~       " ++ (129 ∷ 0 ∷ 2 ∷ 10 ∷ 255 ∷ 255 ∷ 0 ∷ 0 ∷ []))
    ∷ says (weighing ++ ascii " names a b c other 81 0aFF") (0 ∷ 0 ∷ 0 ∷ 82 ∷ [])
    ∷ says (three ++ ascii "0 | 3 restraint 0 1 = 7 readings 1 2 3 other 81 -") (5 ∷ 32 ∷ 0 ∷ 0 ∷ [])
    ∷ holding (card_file (ascii "field 8 fixed yes initial inf | 3 restraint 0 inf = -1 readings -1"))
    (1 ∷ 0 ∷ 4 ∷ 8 ∷ 3 ∷ 1 ∷ 1 ∷ 2 ∷ 0 ∷ 2 ∷ 255 ∷ 3 ∷ 3 ∷ 0 ∷ 16 ∷ 0 ∷ 0 ∷ 0 ∷ 0 ∷ 0 ∷ 0 ∷ 1 ∷ 1 ∷ 255 ∷ 255 ∷ 255 ∷ 255 ∷ 255 ∷ 255 ∷ 255 ∷ 255 ∷ 4 ∷ 0 ∷ 4
    ∷ 255 ∷ 255 ∷ 255 ∷ 255 ∷ [])
    -- where a byte stands
    ∷ holding (line_at card_a 0 ∷ column_at card_a 0 ∷ line_at card_a 22 ∷ column_at card_a 22 ∷ line_at card_a 32 ∷ column_at card_a 32 ∷ []) (1 ∷ 1 ∷ 1 ∷ 23 ∷ 2 ∷ 10 ∷ [])
    -- printed
    ∷ holding (card_text_of file_a) (ascii "residues 5\nfixed no\ninitial 1 4 | 2 3\nrestraint 0 1 = 7\nreadings\n 11 -3 4 1 -8\n")
    ∷ holding (card_text_of (take 55 file_a)) (ascii "refused 1 33\n")
    ∷ holding (card_text_of2 (card_file (weighing ++ ascii " names a \\x20\\x2ab\\x23 \\x20 other 81 0aFF other ff -")))
    (ascii "residues 3\nfixed no\ninitial 0 | 1\nrestraint 0 1 = 7\nreadings\n 1 2 3\nnames a \\x20*b\\x23 \\x20\nother 81 0AFF\nother FF -\n")
    ∷ []

pub cards : every card_rows ≡ true
unfolding sum sum_ℕ first_from sized occ plus left right company opposition balanced beta field_prime digit_sum members offender far_reading slices contents big numbers_at
    field_verdict fields read_verdict bytes_of ascii digits each escaped trimmed name_text edition four_of optional_verdict optionals optional_fields fields2
    read_verdict2 same digital decimal is_number number_of signed_of words_from object_of member_of is_hex hex_digit all_hex hex_bytes is_body body_of is_tag is_name name_of
    is_reading take_kind take_size take_fixed take_first take_more take_object take_block take_member take_standard take_sum take_reading take_after take_name take_tag take_bytes
    taken object_bytes reading_bytes after_bytes field_bytes given_bytes adds step card_by bytes_by word_by four_fields file_from card_file file_verdict card_verdict card_wants
    card_answer column_from hex_texts other_lines card_text_of card_text_of2
cards = refl
