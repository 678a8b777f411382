-- The starred examples A to I of the request and our own over nine elements, rows of one table, and the one theorem that every row holds. Assumes nothing.
use mathlib.Core.Bool.{true}
use mathlib.Core.List.{List, [], ◌∷◌}
use mathlib.Core.Path.{◌≡◌, refl}
use Prim.Native.Nat.{ℕ}
use lib.IntN.{pos, negsuc}
use Rattle.algebra.specs.Ranges.{sum, sum_ℕ, first_from}
use Rattle.meaning.specs.Design.{field_prime, sized, occ, digit_sum, plus, left, right, company, opposition, balanced, beta}
use Rattle.meaning.specs.Analysis.{
  total,
  members,
  restrained,
  numerator_of,
  denominator_of,
  along,
  difference,
  deviation_of,
  squared_readings,
  squared_totals,
  qOf,
  root,
  spread_hundredths,
  spread_hundredths_of,
}
use Rattle.meaning.specs.Publishing.{rank, shortfall, published}
use Rattle.meaning.specs.Wide.{wide}
use Rattle.meaning.specs.Refusals.{offender, far_reading}
use Rattle.meaning.specs.Calls.{design_verdict, judge_verdict, slices, contents}
use Rattle.meaning.specs.File.{big, numbers_at, field_verdict, fields, read_verdict}
use Rattle.meaning.specs.Text.{ascii, digits, each, text_of}
use Rattle.meaning.proofs.Rows.{Row, job, balances, refuses, within, across, lists, totals, publishes, head, every}

-- the 56 bytes of example A, field by field
abbrev pub file_a : List ℕ
file_a =
    1 ∷ 0 ∷ 4 ∷ 5 ∷ 0 ∷ 2 ∷ 1
    ∷ 2 ∷ 0 ∷ 4 ∷ 1 ∷ 4 ∷ 2 ∷ 3
    ∷ 3 ∷ 0 ∷ 16 ∷ 0 ∷ 0 ∷ 0 ∷ 0 ∷ 0 ∷ 0 ∷ 0 ∷ 3 ∷ 0 ∷ 0 ∷ 0 ∷ 0 ∷ 0 ∷ 0 ∷ 0 ∷ 7
    ∷ 4 ∷ 0 ∷ 20 ∷ 0 ∷ 0 ∷ 0 ∷ 11 ∷ 255 ∷ 255 ∷ 255 ∷ 253 ∷ 0 ∷ 0 ∷ 0 ∷ 4 ∷ 0 ∷ 0 ∷ 0 ∷ 1 ∷ 255 ∷ 255 ∷ 255 ∷ 248 ∷ []

-- example E as a job: restraint 0 and ∞, M -3, and seven readings
abbrev pub file_e : List ℕ
file_e =
    1 ∷ 0 ∷ 4 ∷ 7 ∷ 1 ∷ 4 ∷ 1
    ∷ 2 ∷ 0 ∷ 8 ∷ 255 ∷ 1 ∷ 2 ∷ 4 ∷ 0 ∷ 3 ∷ 5 ∷ 6
    ∷ 3 ∷ 0 ∷ 16 ∷ 0 ∷ 0 ∷ 0 ∷ 0 ∷ 0 ∷ 0 ∷ 0 ∷ 129 ∷ 255 ∷ 255 ∷ 255 ∷ 255 ∷ 255 ∷ 255 ∷ 255 ∷ 253
    ∷ 4 ∷ 0 ∷ 28 ∷ 0 ∷ 0 ∷ 0 ∷ 5 ∷ 255 ∷ 255 ∷ 255 ∷ 254 ∷ 0 ∷ 0 ∷ 0 ∷ 0 ∷ 0 ∷ 0 ∷ 0 ∷ 7 ∷ 0 ∷ 0 ∷ 0 ∷ 1 ∷ 255 ∷ 255 ∷ 255 ∷ 252 ∷ 0 ∷ 0 ∷ 0 ∷ 9 ∷ []

-- the two initial blocks of example G
abbrev blocks_g : List ℕ
blocks_g = 255 ∷ 1 ∷ 4 ∷ 5 ∷ 9 ∷ 3 ∷ 0 ∷ 8 ∷ 1 ∷ 2 ∷ 7 ∷ 6 ∷ []

-- nine elements, four a side (000, example 2.3.2): the even powers of x against the odd ones, x² + x + 2 = 0, x being 3
abbrev nine_field : List ℕ
nine_field = 1 ∷ 7 ∷ 2 ∷ 5 ∷ 3 ∷ 8 ∷ 6 ∷ 4 ∷ []

-- nine elements and ∞, five a side (000, example 2.6.2)
abbrev nine_field_fixed : List ℕ
nine_field_fixed = 255 ∷ 1 ∷ 7 ∷ 2 ∷ 5 ∷ 0 ∷ 3 ∷ 8 ∷ 6 ∷ 4 ∷ 0 ∷ 1 ∷ 7 ∷ 2 ∷ 5 ∷ 255 ∷ 3 ∷ 8 ∷ 6 ∷ 4 ∷ []

-- nine residues, one a side: each difference once
abbrev nine_residues : List ℕ
nine_residues = 0 ∷ 1 ∷ 0 ∷ 2 ∷ 0 ∷ 3 ∷ 0 ∷ 4 ∷ []

unfoldable pub table : List Row
unfolding ascii
table =
    -- A
    job file_a (negsuc 15 ∷ pos 22 ∷ negsuc 4 ∷ negsuc 11 ∷ pos 11 ∷ [])
    (ascii "design 5 5 4 2 1 2\nvalue 0 -3 10 -30\nvalue 1 73 10 730\nvalue 2 19 10 190\nvalue 3 5 10 50\nvalue 4 51 10 510\ndev 0 5 5\ndev 1 5 5\ndev 2 5 5\ndev 3 5 5\ndev 4 5 5\nspread 25 5 1 223\n")
    -- B
    ∷ balances (head 3 0 1 1) (0 ∷ 1 ∷ []) (record { v = 3; b = 3; r = 2; p = 1; l1 = 0; l2 = 1 }) 1
    -- C
    ∷ refuses (judge_verdict (head 4 0 1 1) (0 ∷ 1 ∷ [])) 6 0
    ∷ across (head 4 0 1 1) (0 ∷ 1 ∷ []) 2 0
    -- D
    ∷ balances (head 4 0 1 3) (0 ∷ 1 ∷ 0 ∷ 1 ∷ 0 ∷ 2 ∷ []) (record { v = 4; b = 12; r = 6; p = 1; l1 = 0; l2 = 2 }) 9
    ∷ across (head 4 0 1 3) (0 ∷ 1 ∷ 0 ∷ 1 ∷ 0 ∷ 2 ∷ []) 2 2
    -- E
    ∷ balances (head 7 1 4 1) (255 ∷ 1 ∷ 2 ∷ 4 ∷ 0 ∷ 3 ∷ 5 ∷ 6 ∷ []) (record { v = 8; b = 7; r = 7; p = 4; l1 = 3; l2 = 4 }) 0
    ∷ lists file_e
    (ascii "design 8 7 7 4 3 4\nvalue 0 -32 16 -200\nvalue 1 -20 16 -125\nvalue 2 -84 16 -525\nvalue 3 -52 16 -325\nvalue 4 -32 16 -200\nvalue 5 -56 16 -350\nvalue 6 -92 16 -575\nvalue 7 -16 16 -100\ndev 0 0 8\ndev 1 0 8\ndev 2 0 8\ndev 3 0 8\ndev 4 0 8\ndev 5 0 8\ndev 6 0 8\nspread 0 8 0 none\n")
    -- F
    ∷ balances (head 13 0 2 3) (1 ∷ 12 ∷ 8 ∷ 5 ∷ 4 ∷ 9 ∷ 6 ∷ 7 ∷ 3 ∷ 10 ∷ 11 ∷ 2 ∷ []) (record { v = 13; b = 39; r = 12; p = 2; l1 = 1; l2 = 2 }) 27
    -- G
    ∷ refuses (judge_verdict (head 11 1 3 2) blocks_g) 6 0
    ∷ within (head 11 1 3 2) blocks_g 4 3
    ∷ within (head 11 1 3 2) blocks_g 2 1
    -- H
    ∷ totals (head 7 0 2 3) 2 3 (negsuc 13) (pos 6649 ∷ pos 16533 ∷ negsuc 12136 ∷ pos 4926 ∷ pos 5058 ∷ negsuc 16704 ∷ negsuc 4323 ∷ [])
    (negsuc 10079 ∷ pos 9688 ∷ negsuc 47651 ∷ negsuc 13525 ∷ negsuc 13261 ∷ negsuc 56787 ∷ negsuc 32025 ∷ []) 28 (pos 62545461) 63177554 15 54849
    -- I: the fractions as objects outside the restraint have them; its two members, 1/8 and -1/8, are 13 and -13 since P3
    ∷ publishes (pos 1) 8 (pos 12)
    ∷ publishes (pos 3) 8 (pos 38)
    ∷ publishes (negsuc 0) 8 (negsuc 11)
    -- ours: balanced over the nine-element field, without ∞ and with it, and not modulo 9
    ∷ balances (head 9 2 4 1) nine_field (record { v = 9; b = 9; r = 8; p = 4; l1 = 3; l2 = 4 }) 1
    ∷ refuses (judge_verdict (head 9 0 4 1) nine_field) 6 0
    ∷ balances (head 9 3 5 2) nine_field_fixed (record { v = 10; b = 18; r = 18; p = 5; l1 = 8; l2 = 10 }) 9
    ∷ refuses (judge_verdict (head 9 1 5 2) nine_field_fixed) 6 0
    -- ours: balanced modulo 9, and not over the field, where 1 and 2 are opposite and arise as one difference
    ∷ balances (head 9 0 1 4) nine_residues (record { v = 9; b = 36; r = 8; p = 1; l1 = 0; l2 = 1 }) 28
    ∷ refuses (judge_verdict (head 9 2 1 4) nine_residues) 6 0
    ∷ []

pub examples : every table ≡ true
unfolding table wide field_prime sized occ digit_sum plus left right company opposition balanced beta total members restrained numerator_of denominator_of along difference deviation_of squared_readings squared_totals qOf root spread_hundredths spread_hundredths_of rank shortfall published offender far_reading design_verdict judge_verdict slices contents big numbers_at field_verdict fields read_verdict ascii digits each text_of sum sum_ℕ first_from
examples = refl
