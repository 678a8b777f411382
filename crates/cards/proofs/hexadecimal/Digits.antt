-- Digits in base 16: what they are worth, and a word of them, digit by digit. Assumes nothing.
use Prim.Native.Nat.{ℕ, zero, suc, ◌+◌, ◌*◌, ◌/◌, ◌%◌, ◌<◌, ◌≤◌}
use mathlib.Core.Path.{◌≡◌, refl, sym, ap, ◌∙◌}
use mathlib.Core.List.{List, [], ◌∷◌, ◌++◌, append-nil}
use mathlib.Core.Bool.{Bool, true, false, ◌&&◌, true≢false}
use native.Mathlib.Omega.{arith}
use native.Mathlib.Numerals.{add-one}
use native.Mathlib.Decide.{dec_le}
use native.Mathlib.Nat.{lt_of_not-le, add-zero}
use borrow.Author.Tests.{leb-true, eqb-true, lt-leb}
use lib.Dec.{eqb, leb}
use lib.ListN.{length, get_or, drop}
use lib.Seq.{drop-cons, get_or-drop}
use Rattle.std.specs.Char.{is_ascii_hexdigit}
use Rattle.std.specs.Int.{is_in_range}
use Rattle.std.specs.List.{list_all}
use Rattle.std.proofs.Math.Bool.{or_assoc}
use Rattle.std.proofs.lemmas.List.Recursion.{same_from_clauses}
use Rattle.meaning.specs.Text.{ascii}
use Rattle.meaning.specs.SheetText.{same}
use Rattle.meaning.specs.Card.{is_hex, hex_digit, hex_byte, all_hex, hex_bytes, is_body, body_of, is_tag}
use Rattle.cards.proofs.Choices.{either, and_first, and_second, second_false}

-- ---- one digit

-- the library's test asks for the same three ranges
pub hexdigit : (x : ℕ) → is_ascii_hexdigit x ≡ is_hex x
unfolding is_hex
hexdigit x = or_assoc (is_in_range 48 57 x) (is_in_range 65 70 x) (is_in_range 97 102 x)

-- a byte that is no digit
hex_past : (x : ℕ) → 102 < x → is_hex x ≡ false
unfolding is_hex
hex_past x h = rw (lt-leb x 57 (omega arith), lt-leb x 70 (omega arith), lt-leb x 102 h, second_false (leb 48 x) refl, second_false (leb 65 x) refl, second_false (leb 97 x) refl)

hex_before : (x : ℕ) → x < 48 → is_hex x ≡ false
unfolding is_hex
hex_before x h = rw (lt-leb 48 x h, lt-leb 65 x (omega arith), lt-leb 97 x (omega arith))

hex_gap : (x : ℕ) → 57 < x → x < 65 → is_hex x ≡ false
unfolding is_hex
hex_gap x l h = rw (lt-leb x 57 l, lt-leb 65 x h, lt-leb 97 x (omega arith), second_false (leb 48 x) refl)

hex_between : (x : ℕ) → 70 < x → x < 97 → is_hex x ≡ false
unfolding is_hex
hex_between x l h = rw (lt-leb x 57 (omega arith), lt-leb x 70 (omega arith), lt-leb 97 x h, second_false (leb 48 x) refl, second_false (leb 65 x) refl)

-- a digit
module _ (x : ℕ) (d : is_hex x ≡ true) where
  pub hex_most : x ≤ 102
  hex_most = by (dec_le x 102)
    where
      by : Dec (x ≤ 102) → x ≤ 102
      by (yes h) = h
      by (no f) = absurd (true≢false (sym d ∙ hex_past x (lt_of_not-le f)))

  pub hex_least : 48 ≤ x
  hex_least = by (dec_le 48 x)
    where
      by : Dec (48 ≤ x) → 48 ≤ x
      by (yes h) = h
      by (no f) = absurd (true≢false (sym d ∙ hex_before x (lt_of_not-le f)))

  pub hex_capital : 57 < x → 65 ≤ x
  hex_capital l = by (dec_le 65 x)
    where
      by : Dec (65 ≤ x) → 65 ≤ x
      by (yes h) = h
      by (no f) = absurd (true≢false (sym d ∙ hex_gap x l (lt_of_not-le f)))

  pub hex_small : 70 < x → 97 ≤ x
  hex_small l = by (dec_le 97 x)
    where
      by : Dec (97 ≤ x) → 97 ≤ x
      by (yes h) = h
      by (no f) = absurd (true≢false (sym d ∙ hex_between x l (lt_of_not-le f)))

  -- it is worth at most 15
  pub digit-most : hex_digit x ≤ 15
  unfolding hex_digit
  digit-most = either Low (leb x 57) (λ t. omega (arith, leb-true x 57 t))
      (λ t. either Low (leb x 70) (λ u. omega (arith, leb-true x 70 u)) (λ u. omega (arith, hex_most)))
    where
      Low : ℕ → Type 0
      Low v = v ≤ 15

-- ---- a word of digits

module _ (w : List ℕ) (i : ℕ) (more : i < length w) where
  pub all_here : all_hex (drop i w) ≡ (is_hex (get_or w i 0) && all_hex (drop (i + 1) w))
  unfolding all_hex
  all_here = rw (drop-cons w i 0 more, add-one i)

pub every_hex : (w : List ℕ) → list_all is_ascii_hexdigit w ≡ all_hex w
unfolding all_hex
every_hex w = same_from_clauses (list_all is_ascii_hexdigit) all_hex (λ x b. is_ascii_hexdigit x && b) refl (λ x v. refl)
    (λ x v. ap (λ (b : Bool). b && all_hex v) (sym (hexdigit x))) w

-- two digits in front of others
pub pair_hex : (d t : List ℕ) → length d ≡ 2 → all_hex (d ++ t) ≡ true → (is_hex (get_or d 0 0) ≡ true) × (is_hex (get_or d 1 0) ≡ true) × (all_hex t ≡ true)
unfolding all_hex
pair_hex [] t e h = absurd (omega arith)
pair_hex (a ∷ []) t e h = absurd (omega arith)
pair_hex (a ∷ b ∷ []) t e h =
    let later = and_second (is_hex a) (is_hex b && all_hex t) h in
    (and_first (is_hex a) (is_hex b && all_hex t) h, and_first (is_hex b) (all_hex t) later, and_second (is_hex b) (all_hex t) later)
pair_hex (a ∷ b ∷ c ∷ d) t e h = absurd (omega arith)

-- alone
pub two_digits : (w : List ℕ) → length w ≡ 2 → all_hex w ≡ true → (is_hex (get_or w 0 0) ≡ true) × (is_hex (get_or w 1 0) ≡ true)
two_digits w e h = let p = pair_hex w [] e (ap all_hex (append-nil w) ∙ h) in (p.0, p.1)

-- and the byte that they write
pub pair_bytes : (d t : List ℕ) → length d ≡ 2 → hex_bytes (length (d ++ t) / 2) (d ++ t) ≡ hex_byte d ∷ hex_bytes (length t / 2) t
unfolding hex_bytes
pair_bytes [] t e = absurd (omega arith)
pair_bytes (a ∷ []) t e = absurd (omega arith)
pair_bytes (a ∷ b ∷ []) t e = let one : suc (suc (length t)) / 2 ≡ suc (length t / 2) = omega arith in rw one
pair_bytes (a ∷ b ∷ c ∷ d) t e = absurd (omega arith)

pub bytes-none : {k : ℕ} (w : List ℕ) → k ≡ 0 → hex_bytes k w ≡ []
unfolding hex_bytes
bytes-none w e = rw e

pub hex_long : (k : ℕ) (w : List ℕ) → length (hex_bytes k w) ≡ k
unfolding hex_bytes
hex_long zero w = refl
hex_long (suc k) w = ap suc (hex_long k (drop 2 w))

-- the two digits at the front of what is left
pub byte_here : (w : List ℕ) (i : ℕ) → hex_byte (drop i w) ≡ 16 * hex_digit (get_or w i 0) + hex_digit (get_or w (i + 1) 0)
byte_here w i = rw (get_or-drop i w 0 0, get_or-drop i w 1 0) (ap (λ (x : ℕ). 16 * hex_digit (get_or w x 0) + hex_digit (get_or w (i + 1) 0)) (add-zero i))

-- two digits write a byte
pub byte_most : (w : List ℕ) (i : ℕ) → is_hex (get_or w i 0) ≡ true → is_hex (get_or w (i + 1) 0) ≡ true → hex_byte (drop i w) ≤ 255
byte_most w i d e = rw (byte_here w i) (omega (arith, digit-most (get_or w i 0) d, digit-most (get_or w (i + 1) 0) e))

-- ---- a tag

module _ (least : ℕ) (w : List ℕ) (t : is_tag least w ≡ true) where
  pub tag_long : length w ≡ 2
  unfolding is_tag
  tag_long = eqb-true (length w) 2 (and_first _ _ t)

  tag_hex : all_hex (drop 0 w) ≡ true
  unfolding is_tag
  tag_hex = and_first _ _ (and_second (eqb (length w) 2) _ t)

  pub tag_first : is_hex (get_or w 0 0) ≡ true
  tag_first = and_first _ _ (sym (all_here w 0 (omega (arith, tag_long))) ∙ tag_hex)

  tag_rest : all_hex (drop 1 w) ≡ true
  tag_rest = and_second (is_hex (get_or w 0 0)) (all_hex (drop 1 w)) (sym (all_here w 0 (omega (arith, tag_long))) ∙ tag_hex)

  pub tag_second : is_hex (get_or w 1 0) ≡ true
  tag_second = and_first (is_hex (get_or w 1 0)) (all_hex (drop 2 w)) (sym (all_here w 1 (omega (arith, tag_long))) ∙ tag_rest)

  pub tag_most : hex_byte w ≤ 255
  tag_most = byte_most w 0 tag_first tag_second

-- ---- the body of an optional field

module _ (w : List ℕ) where
  pub body-none : same w (ascii "-") ≡ true → body_of w ≡ []
  unfolding body_of
  body-none e = rw e

  pub body_is : same w (ascii "-") ≡ false → is_body w ≡ true → (all_hex w ≡ true) × (length w % 2 ≡ 0)
  unfolding is_body
  body_is e t =
      let both : (eqb (length w % 2) 0 && all_hex w) ≡ true = rw e at t in
      (and_second (eqb (length w % 2) 0) (all_hex w) both, eqb-true (length w % 2) 0 (and_first (eqb (length w % 2) 0) (all_hex w) both))
