-- The card that is printed for a file: the text from which the same job is read. Assumes nothing.
use Rattle.std.specs.Prelude.{Ok, Err, ℕ, zero, suc, ◌+◌, ◌*◌, ◌%◌, cond, List, [], ◌∷◌, ◌++◌, get_or, take, drop, length, ℤ, pos, eqb, ltb, leb}
use Rattle.records.specs.declared.Head.{Head}
use Rattle.records.specs.declared.Listed.{Listed}
use Rattle.meaning.specs.Design.{objects, blocks}
use Rattle.meaning.specs.Analysis.{member, reading}
use Rattle.meaning.specs.Refusals.{Verdict, room}
use Rattle.meaning.specs.Calls.{given}
use Rattle.meaning.specs.File.{big, head_of, blocks_of, readings_of, set_of, sum_of, read_verdict}
use Rattle.meaning.specs.Text.{ascii, spaced, signed_text, each, line, hex_text, name_text, refused_line}
use Rattle.meaning.specs.Edition2.{four_of, names_tag, names_length, optional_at, names_at, put_after, read_verdict2}

-- residues or field, and n
abbrev pub kind_line : Head → List ℕ
kind_line h = line (cond (ltb h.flag 2) "residues" "field") (spaced h.n)

abbrev pub fixed_line : Head → List ℕ
fixed_line h = line "fixed" (ascii (cond (eqb (h.flag % 2) 1) " yes" " no"))

-- an object of a block, a space before it
abbrev pub object_text : ℕ → List ℕ
object_text x = cond (eqb x 255) (ascii " inf") (spaced x)

-- the p objects of a side that starts at a place of the block list
abbrev pub side_text : Head → List ℕ → ℕ → List ℕ
side_text h d at = each h.p (λ i. object_text (get_or d (at + i) 0))

-- initial block k
abbrev pub block_line : Head → List ℕ → ℕ → List ℕ
block_line h d k = line "initial" (side_text h d (2 * h.p * k) ++ ascii " |" ++ side_text h d (2 * h.p * k + h.p))

-- the restraint: its members and the accepted sum
abbrev pub member_text : ℕ → ℕ → List ℕ
member_text w i = cond (eqb (member w i) 1) (spaced i) []

abbrev pub restraint_line : Head → ℕ → ℤ → List ℕ
restraint_line h w M = line "restraint" (each (objects h) (member_text w) ++ ascii " =" ++ signed_text M)

-- the readings, those of an initial block on a line of their own
abbrev pub reading_text : Head → List ℤ → ℕ → List ℕ
reading_text h y k = cond (eqb (k % h.n) 0) (10 ∷ []) [] ++ signed_text (reading y k)

abbrev pub readings_lines : Head → List ℤ → List ℕ
readings_lines h y = line "readings" (each (blocks h) (reading_text h y))

-- the card of a job
abbrev pub card_text : Head → List ℕ → List ℤ → ℕ → ℤ → List ℕ
card_text h d y w M = kind_line h ++ fixed_line h ++ each h.m (block_line h d) ++ restraint_line h w M ++ readings_lines h y

-- ---- optional fields

-- the name of object i, whose eight bytes stand in a file whose names start at a place
abbrev pub name_at : List ℕ → ℕ → ℕ → List ℕ
name_at s at i = take 8 (drop (at + 8 * i) s)

-- the names, where there are any
abbrev pub names_line : List ℕ → List ℕ
names_line s = cond (eqb (names_at s) 0) [] (line "names" (each (objects (head_of (four_of s))) (λ i. 32 ∷ name_text (name_at s (names_at s) i))))

-- bytes in base 16, - where there are none
unfoldable pub hex_texts : List ℕ → List ℕ
hex_texts [] = []
hex_texts (x ∷ s) = hex_text x ++ hex_texts s

abbrev pub body_text : List ℕ → List ℕ
body_text [] = ascii "-"
body_text (x ∷ s) = hex_texts (x ∷ s)

-- another optional field: its tag and its bytes
abbrev pub other_line : List ℕ → ℕ → List ℕ
other_line s at = line "other" (32 ∷ hex_text (get_or s at 0) ++ (32 ∷ body_text (take (big s (at + 1) 2) (drop (at + 3) s))))

-- the optional fields from a place on, of which there are at most k
unfoldable pub other_lines : ℕ → List ℕ → ℕ → List ℕ
other_lines zero s at = []
other_lines (suc k) s at = cond (leb (length s) at) [] (other_line s at ++ other_lines k s (at + 3 + big s (at + 1) 2))

-- where those after the names start
abbrev pub others_at : List ℕ → ℕ
others_at s = cond (eqb (names_at s) 0) (optional_at s) (names_at s + names_length (head_of (four_of s)))

-- ---- the text for any file of either edition: its card, or the refusal alone

abbrev pub four_text : List ℕ → List ℕ
four_text s = card_text (head_of s) (blocks_of s) (readings_of s) (set_of s) (sum_of s)

abbrev pub card_under : Verdict → List ℕ → List ℕ
card_under (Ok done) s = four_text s
card_under (Err why) s = refused_line why.number why.place

unfoldable pub card_text_of : List ℕ → List ℕ
card_text_of s = card_under (read_verdict s) s

abbrev pub card_under2 : Verdict → List ℕ → List ℕ
card_under2 (Ok done) s = four_text (four_of s) ++ names_line s ++ other_lines (length s) s (others_at s)
card_under2 (Err why) s = refused_line why.number why.place

unfoldable pub card_text_of2 : List ℕ → List ℕ
card_text_of2 s = card_under2 (read_verdict2 s) s

-- the answer of putting a text into lent room, and the room after
abbrev pub text_answer : List ℕ → ℕ → Listed
text_answer text len = record { verdict = room len (length text); length = given (room len (length text)) (length text) 0 }

abbrev pub text_after : List ℕ → List ℕ → List ℕ
text_after text out = put_after (room (length out) (length text)) text out
