-- Texts of sheets, rows of a table under one theorem: example A's listing, what makes a line unreadable, and numbers at the ends of their ranges.
-- The figures were worked out apart from these definitions. Assumes nothing.
use Rattle.records.specs.declared.SheetSpread.{SheetSpread}
use Rattle.std.proofs.Common.{Option, Some, None, is_none, unwrap_or}
use Prim.Native.Nat.{ℕ, ◌+◌, ◌*◌}
use mathlib.Core.Bool.{Bool, true, false, cond}
use mathlib.Core.List.{List, [], ◌∷◌, ◌++◌}
use mathlib.Core.Path.{◌≡◌, refl}
use lib.IntN.{ℤ, pos, negsuc}
use Rattle.records.specs.declared.SheetRead.{SheetRead}
use Rattle.meaning.specs.Design.{occ}
use Rattle.meaning.specs.Text.{ascii, line}
use Rattle.meaning.specs.SheetText.{
  before,
  after,
  rest,
  piece,
  same,
  digital,
  decimal,
  is_number,
  number_of,
  signed_of,
  claim_of,
  spread_of,
  with_value,
  with_spread,
  with_line,
  added,
  read_to,
  claims_to,
  ended,
  sheet_of,
  claims_of,
}
use Rattle.meaning.proofs.Rows.{Row, holding, every}

-- what is read as a list: the line that cannot be, how many claims, and of the spread 1 or 0 for whether it is there and whether it is none, f, k
abbrev flag : Bool → ℕ
flag b = cond b 1 0

abbrev of_spread : Option SheetSpread → List ℕ
of_spread None = 0 ∷ 0 ∷ 0 ∷ 0 ∷ []
of_spread (Some q) = 1 ∷ flag (is_none q.hundredths) ∷ q.freedom ∷ unwrap_or q.hundredths 0 ∷ []

abbrev reads : List ℕ → List ℕ → Row
reads s = let r = sheet_of s in holding (unwrap_or r.line 0 ∷ r.count ∷ of_spread r.spread)

-- the size of each claim, twice, and one more where it is below 0
abbrev folded : List ℤ → List ℕ
folded [] = []
folded (pos n ∷ more) = (2 * n) ∷ folded more
folded (negsuc n ∷ more) = (2 * n + 3) ∷ folded more

abbrev claims : List ℕ → List ℕ → Row
claims s = holding (folded (claims_of s))

-- lines without numbers of their own, as a text has them
abbrev lines : List (List ℕ) → List ℕ
lines [] = []
lines (l ∷ more) = l ++ (10 ∷ []) ++ lines more

-- the listing of example A
abbrev values_a : List (List ℕ)
values_a = ascii "value 0 -3 10 -30" ∷ ascii "value 1 73 10 730" ∷ ascii "value 2 19 10 190" ∷ ascii "value 3 5 10 50" ∷ ascii "value 4 51 10 510" ∷ []

abbrev listing_a : List ℕ
listing_a = lines ((ascii "design 5 5 4 2 1 2" ∷ values_a) ++ (ascii "dev 0 5 5" ∷ ascii "dev 4 5 5" ∷ ascii "spread 25 5 1 223" ∷ []))

-- one line alone, in a text that has a spread line before it
abbrev after1 : List ℕ → List ℕ
after1 l = lines (ascii "spread - - 0 none" ∷ l ∷ [])

abbrev text_rows : List Row
text_rows =
    reads listing_a (0 ∷ 5 ∷ 1 ∷ 0 ∷ 1 ∷ 223 ∷ [])
    ∷ claims listing_a (61 ∷ 1460 ∷ 380 ∷ 100 ∷ 1020 ∷ [])
    ∷ reads [] (1 ∷ 0 ∷ 0 ∷ 0 ∷ 0 ∷ 0 ∷ [])
    ∷ reads (lines values_a) (6 ∷ 5 ∷ 0 ∷ 0 ∷ 0 ∷ 0 ∷ [])
    ∷ reads (lines (ascii "spread 25 5 1 223" ∷ [])) (0 ∷ 0 ∷ 1 ∷ 0 ∷ 1 ∷ 223 ∷ [])
    ∷ reads (ascii "spread 25 5 1 223") (0 ∷ 0 ∷ 1 ∷ 0 ∷ 1 ∷ 223 ∷ [])
    ∷ reads (lines (ascii "spread 25 5 0 none" ∷ [])) (0 ∷ 0 ∷ 1 ∷ 1 ∷ 0 ∷ 0 ∷ [])
    ∷ reads (lines (ascii "spread 25 5 4 none" ∷ [])) (0 ∷ 0 ∷ 1 ∷ 1 ∷ 4 ∷ 0 ∷ [])
    ∷ reads (lines (ascii "spread a b 1 18446744073709551615" ∷ [])) (0 ∷ 0 ∷ 1 ∷ 0 ∷ 1 ∷ 18446744073709551615 ∷ [])
    ∷ reads (lines (ascii "spread a b 1 18446744073709551616" ∷ [])) (1 ∷ 0 ∷ 0 ∷ 0 ∷ 0 ∷ 0 ∷ [])
    ∷ reads (lines (ascii "spread a b -1 2" ∷ [])) (1 ∷ 0 ∷ 0 ∷ 0 ∷ 0 ∷ 0 ∷ [])
    ∷ reads (lines (ascii "spread a b 1 None" ∷ [])) (1 ∷ 0 ∷ 0 ∷ 0 ∷ 0 ∷ 0 ∷ [])
    ∷ reads (lines (ascii "spread 25 5 1" ∷ [])) (1 ∷ 0 ∷ 0 ∷ 0 ∷ 0 ∷ 0 ∷ [])
    ∷ reads (after1 (ascii "spread - - 0 none")) (2 ∷ 0 ∷ 1 ∷ 1 ∷ 0 ∷ 0 ∷ [])
    ∷ reads (after1 (ascii "value")) (2 ∷ 0 ∷ 1 ∷ 1 ∷ 0 ∷ 0 ∷ [])
    ∷ reads (after1 (ascii "values")) (0 ∷ 0 ∷ 1 ∷ 1 ∷ 0 ∷ 0 ∷ [])
    ∷ reads (after1 (ascii " value 0 1 1 1")) (0 ∷ 0 ∷ 1 ∷ 1 ∷ 0 ∷ 0 ∷ [])
    ∷ reads (after1 (ascii "value 1 1 1 100")) (2 ∷ 0 ∷ 1 ∷ 1 ∷ 0 ∷ 0 ∷ [])
    ∷ reads (after1 (ascii "value 0 1 1 100 ")) (2 ∷ 0 ∷ 1 ∷ 1 ∷ 0 ∷ 0 ∷ [])
    ∷ reads (after1 (ascii "value 0 1 1 1 00")) (2 ∷ 0 ∷ 1 ∷ 1 ∷ 0 ∷ 0 ∷ [])
    ∷ reads (after1 (ascii "value 0  1 100")) (0 ∷ 1 ∷ 1 ∷ 1 ∷ 0 ∷ 0 ∷ [])
    ∷ reads (after1 (ascii "value 0 1 1 1.0")) (2 ∷ 0 ∷ 1 ∷ 1 ∷ 0 ∷ 0 ∷ [])
    ∷ reads (after1 (ascii "value 0 1 1 -")) (2 ∷ 0 ∷ 1 ∷ 1 ∷ 0 ∷ 0 ∷ [])
    ∷ reads (after1 (ascii "value 0 1 1 --1")) (2 ∷ 0 ∷ 1 ∷ 1 ∷ 0 ∷ 0 ∷ [])
    ∷ claims (after1 (ascii "value 0 1 1 9223372036854775807")) (18446744073709551614 ∷ [])
    ∷ reads (after1 (ascii "value 0 1 1 9223372036854775808")) (2 ∷ 0 ∷ 1 ∷ 1 ∷ 0 ∷ 0 ∷ [])
    ∷ claims (after1 (ascii "value 0 1 1 -9223372036854775808")) (18446744073709551617 ∷ [])
    ∷ reads (after1 (ascii "value 0 1 1 -9223372036854775809")) (2 ∷ 0 ∷ 1 ∷ 1 ∷ 0 ∷ 0 ∷ [])
    ∷ claims (after1 (ascii "value 000 1 1 -007")) (15 ∷ [])
    ∷ reads (lines (ascii "value 0 1 1 1" ∷ ascii "value 0 1 1 1" ∷ ascii "value 1 1 1 1" ∷ [])) (2 ∷ 1 ∷ 0 ∷ 0 ∷ 0 ∷ 0 ∷ [])
    ∷ reads (lines (ascii "value 0 1 1 1" ∷ ascii "value 2 1 1 1" ∷ ascii "spread a b 1 1" ∷ [])) (2 ∷ 1 ∷ 0 ∷ 0 ∷ 0 ∷ 0 ∷ [])
    ∷ []

pub sheet_texts : every text_rows ≡ true
unfolding ascii occ before after rest piece same digital decimal is_number number_of signed_of claim_of spread_of with_value with_spread with_line added read_to
    claims_to ended sheet_of claims_of
sheet_texts = refl
