-- The text of another laboratory's sheet: a listing's lines `value` and `spread`, of which the hundredths, the degrees of freedom and k claim something.
-- Every other line is passed over. Assumes nothing.
use Rattle.std.specs.Prelude.{option_map, unwrap_or, is_some, None, Some, Option, ℕ, zero, suc, ◌+◌, ◌*◌, ◌-◌, Bool, true, false, cond, not, ◌&&◌, List, [], ◌∷◌, ◌++◌, drop, get_or, length, set, ℤ, pos, negsuc, neg_ℤ, ltb, eqb}
use Rattle.records.specs.declared.SheetSpread.{SheetSpread}
use Rattle.records.specs.declared.SheetRead.{SheetRead}
use Rattle.records.specs.declared.Spread.{Spread}
use Rattle.algebra.specs.Buffers.{over}
use Rattle.meaning.specs.Design.{occ}
use Rattle.meaning.specs.Publishing.{spreads, float}
use Rattle.meaning.specs.Text.{ascii}

-- the bytes before the first c, and those after it
unfoldable pub before : ℕ → List ℕ → List ℕ
before c [] = []
before c (x ∷ s) = cond (eqb x c) [] (x ∷ before c s)

unfoldable pub after : ℕ → List ℕ → List ℕ
after c [] = []
after c (x ∷ s) = cond (eqb x c) s (after c s)

-- what stands after the first k of the bytes c, and of it what stands before the next one: piece k of a text that is cut at each c
unfoldable pub rest : ℕ → ℕ → List ℕ → List ℕ
rest c zero s = s
rest c (suc k) s = after c (rest c k s)

unfoldable pub piece : ℕ → ℕ → List ℕ → List ℕ
piece c k s = before c (rest c k s)

-- line k of a text, and how many it has: the last one ends with the text
abbrev pub line_of : ℕ → List ℕ → List ℕ
line_of k s = piece 10 k s

abbrev pub lines_of : List ℕ → ℕ
lines_of s = occ 10 s + 1

-- word k of a line, and whether it has five
abbrev pub word_of : ℕ → List ℕ → List ℕ
word_of k l = piece 32 k l

abbrev pub five_words : List ℕ → Bool
five_words l = eqb (occ 32 l) 4

-- whether two words are the same
unfoldable pub same : List ℕ → List ℕ → Bool
same [] [] = true
same [] (y ∷ t) = false
same (x ∷ s) [] = false
same (x ∷ s) (y ∷ t) = eqb x y && same s t

-- whether every byte is a decimal digit
unfoldable pub digital : List ℕ → Bool
digital [] = true
digital (d ∷ w) = not (ltb d 48) && (not (ltb 57 d) && digital w)

-- the number that digits write after those of n
unfoldable pub decimal : ℕ → List ℕ → ℕ
decimal n [] = n
decimal n (d ∷ w) = decimal (10 * n + (d - 48)) w

-- whether a word is a number of at most so much
unfoldable pub is_number : ℕ → List ℕ → Bool
is_number limit w = not (eqb (length w) 0) && (digital w && not (ltb limit (decimal 0 w)))

-- the number that a word is, if it is one
unfoldable pub number_of : ℕ → List ℕ → Option ℕ
number_of limit w = cond (is_number limit w) (Some (decimal 0 w)) None

-- a minus before it, in 64 bits with a sign
unfoldable pub signed_of : List ℕ → Option ℤ
signed_of w = cond (eqb (get_or w 0 0) 45)
    (option_map (λ n. neg_ℤ (pos n)) (number_of 9223372036854775808 (drop 1 w)))
    (option_map (λ n. pos n) (number_of 9223372036854775807 w))

-- a number of 64 bits
abbrev pub word_number : ℕ → List ℕ → Option ℕ
word_number k l = number_of 18446744073709551615 (word_of k l)

-- what a line `value OBJECT NUMERATOR DENOMINATOR HUNDREDTHS` claims, where it is to name that object; the fraction claims nothing
unfoldable pub claim_of : ℕ → List ℕ → Option ℤ
claim_of object l = cond (five_words l && (is_some (word_number 1 l) && eqb (unwrap_or (word_number 1 l) 0) object))
    (signed_of (word_of 4 l)) None

-- what is claimed of the spread: f degrees of freedom, and the hundredths, or that there are none
abbrev pub spread_claim : ℕ → Option ℕ → Option SheetSpread
spread_claim f k = Some (record { freedom = f; hundredths = k })

-- what a line `spread Q VBETA F K`, or `none` for K, claims; Q and v·beta claim nothing
unfoldable pub spread_of : List ℕ → Option SheetSpread
spread_of l = cond (five_words l && is_some (word_number 3 l))
    (cond (same (word_of 4 l) (ascii "none"))
    (spread_claim (unwrap_or (word_number 3 l) 0) None)
    (cond (is_some (word_number 4 l)) (spread_claim (unwrap_or (word_number 3 l) 0) (word_number 4 l)) None))
    None

-- line k cannot be read
abbrev pub unread : ℕ → SheetRead → SheetRead
unread k r = record { line = Some k; count = r.count; spread = r.spread }

-- what is read with a `value` line, and with a `spread` line, of which there is one
unfoldable pub with_value : ℕ → List ℕ → SheetRead → SheetRead
with_value k l r = cond (is_some (claim_of r.count l)) (record { line = None; count = r.count + 1; spread = r.spread }) (unread k r)

unfoldable pub with_spread : ℕ → List ℕ → SheetRead → SheetRead
with_spread k l r = cond (not (is_some r.spread) && is_some (spread_of l)) (record { line = None; count = r.count; spread = spread_of l }) (unread k r)

-- what is read with line k; after a line that cannot be read, nothing
unfoldable pub with_line : ℕ → List ℕ → SheetRead → SheetRead
with_line k l r = cond (not (is_some r.line))
    (cond (same (word_of 0 l) (ascii "value")) (with_value k l r) (cond (same (word_of 0 l) (ascii "spread")) (with_spread k l r) r))
    r

-- the claim that a line adds
unfoldable pub added : List ℕ → SheetRead → List ℤ
added l r = cond (not (is_some r.line) && (same (word_of 0 l) (ascii "value") && is_some (claim_of r.count l))) (unwrap_or (claim_of r.count l) (pos 0) ∷ []) []

-- nothing read, and the line that cannot be, if there is one
abbrev pub nothing_read : Option ℕ → SheetRead
nothing_read line = record { line = line; count = 0; spread = None }

-- what is read in the first k lines of a text, and what they claim
unfoldable pub read_to : ℕ → List ℕ → SheetRead
read_to zero s = nothing_read None
read_to (suc k) s = with_line (suc k) (line_of k s) (read_to k s)

unfoldable pub claims_to : ℕ → List ℕ → List ℤ
claims_to zero s = []
claims_to (suc k) s = claims_to k s ++ added (line_of k s) (read_to k s)

-- a text without a spread line cannot be read at its last line
unfoldable pub ended : ℕ → SheetRead → SheetRead
ended k r = cond (not (is_some r.line) && not (is_some r.spread)) (unread k r) r

-- a text of more than 65,536 bytes is no sheet: none of it is read
abbrev pub is_short : List ℕ → Bool
is_short s = not (ltb 65536 (length s))

-- what is read of a sheet's text, and the hundredths that it claims, object after object
unfoldable pub sheet_of : List ℕ → SheetRead
sheet_of s = cond (is_short s) (ended (lines_of s) (read_to (lines_of s) s)) (nothing_read (Some 1))

unfoldable pub claims_of : List ℕ → List ℤ
claims_of s = cond (is_short s) (claims_to (lines_of s) s) []

-- a claim, or none, at a place of lent room
abbrev pub put : List ℤ → ℕ → List ℤ → List ℤ
put [] i out = out
put (x ∷ more) i out = set out i x

-- claims at the front of lent room, as far as it goes
unfoldable pub laid : List ℤ → List ℤ → List ℤ
laid claims out = over (length claims) (λ i. get_or claims i (pos 0)) out

-- the hundredths of a claimed spread; none beside degrees of freedom, and hundredths from 2 to the power 53 on, are right for no job: -100, which no spread is
abbrev pub spread_claimed : Option ℕ → ℤ
spread_claimed None = negsuc 99
spread_claimed (Some k) = cond (ltb k 9007199254740992) (pos k) (negsuc 99)

-- the spread that a sheet's text claims, as the calls that check a sheet take it
unfoldable pub claimed_spread : SheetSpread → Option Spread
claimed_spread q = cond (not (is_some q.hundredths) && eqb q.freedom 0) None (spreads (float (spread_claimed q.hundredths) 100) q.freedom)
