-- Names and bytes in base 16 as words of a card: each is a word, and reads as the bytes that it was made of.
--     name-long, name-word, name-is, name-read     a name of eight bytes
--     tag_word, tag_read                            a tag
--     body-long, body-word, body_is, body-read      the body of another optional field
-- Assumes nothing.
use mathlib.Core.Path.{◌≡◌, refl, sym, ap, ap₂, ◌∙◌}
use mathlib.Core.Bool.{Bool, true, false, cond, not, ◌&&◌}
use mathlib.Core.List.{List, [], ◌∷◌, ◌++◌}
use Prim.Native.Nat.{ℕ, zero, suc, ◌+◌, ◌*◌, ◌/◌, ◌%◌, ◌≤◌, ◌<◌}
use native.Mathlib.Omega.{arith}
use lib.Dec.{eqb, ltb}
use lib.ListN.{length, length-append}
use borrow.Author.Tests.{lt-ltb, le-ltb, le-leb, lt-leb, eq-eqb, ne_eqb, ltb-true, ltb-false, eqb-true, eqb-false, not-true}
use Rattle.algebra.proofs.Tests.{and_left, and_right, and_both}
use Rattle.meaning.specs.Writing.{Bytes}
use Rattle.meaning.specs.Text.{ascii, hex_letter, hex_text, escaped_byte, escaped, trimmed, name_text}
use Rattle.meaning.specs.SheetText.{same}
use Rattle.meaning.specs.Card.{is_hex, hex_digit, hex_byte, all_hex, hex_bytes, is_body, body_of, is_tag, is_name, name_of}
use Rattle.meaning.specs.CardText.{hex_texts, body_text}
use Rattle.laws.proofs.Bytes.{bytes-none, bytes-more}
use Rattle.laws.proofs.CardsWords.{parts, wordly}

-- ---- a digit of base 16

module _ (d : ℕ) (l : d < 16) where
  pub letter_digit : hex_digit (hex_letter d) ≡ d
  unfolding hex_digit
  letter_digit = by (ltb d 10) refl
    where
      by : (b : Bool) → ltb d 10 ≡ b → hex_digit (cond b (48 + d) (55 + d)) ≡ d
      by true e = rw (le-leb (48 + d) 57 (omega (arith, ltb-true d 10 e))) (omega arith)
      by false e = rw (lt-leb (55 + d) 57 (omega (arith, ltb-false d 10 e)), le-leb (55 + d) 70 (omega arith)) (omega arith)

  letter_hex : is_hex (hex_letter d) ≡ true
  unfolding is_hex
  letter_hex = by (ltb d 10) refl
    where
      by : (b : Bool) → ltb d 10 ≡ b → is_hex (cond b (48 + d) (55 + d)) ≡ true
      by true e = rw (le-leb 48 (48 + d) (omega arith), le-leb (48 + d) 57 (omega (arith, ltb-true d 10 e)))
      by false e = rw (
        le-leb 48 (55 + d) (omega arith),
        lt-leb (55 + d) 57 (omega (arith, ltb-false d 10 e)),
        le-leb 65 (55 + d) (omega (arith, ltb-false d 10 e)),
        le-leb (55 + d) 70 (omega arith),
      )

  letter_least : 48 ≤ hex_letter d
  letter_least = by (ltb d 10)
    where
      by : (b : Bool) → 48 ≤ cond b (48 + d) (55 + d)
      by true = omega arith
      by false = omega arith

-- a byte from 0 on stands in a word
from_zero : (x : ℕ) → 48 ≤ x → parts x ≡ false
from_zero x l = rw (le-ltb x 33 (omega arith), ne_eqb x 35 (λ q. absurd (omega (arith, q))))

wordly-append : (v w : List ℕ) → wordly v ≡ true → wordly w ≡ true → wordly (v ++ w) ≡ true
unfolding wordly
wordly-append [] w e f = f
wordly-append (x ∷ v) w e f =
    and_both (and_left (not (parts x)) (wordly v) e) (wordly-append v w (and_right (not (parts x)) (wordly v) e) f)

-- a byte in two digits
module _ (x : ℕ) (l : x < 256) where
  high : x / 16 < 16
  high = omega arith

  low : x % 16 < 16
  low = omega arith

  text_worth : 16 * hex_digit (hex_letter (x / 16)) + hex_digit (hex_letter (x % 16)) ≡ x
  text_worth = omega (arith, letter_digit (x / 16) high, letter_digit (x % 16) low)

  -- is a word
  pub tag_word : wordly (hex_text x) ≡ true
  unfolding wordly
  tag_word = rw (from_zero _ (letter_least (x / 16) high), from_zero _ (letter_least (x % 16) low))

  -- and reads as that byte, and as a tag
  pub tag_byte : hex_byte (hex_text x) ≡ x
  tag_byte = text_worth

  text_hex : all_hex (hex_text x) ≡ true
  unfolding all_hex
  text_hex = rw (letter_hex (x / 16) high, letter_hex (x % 16) low)

  pub tag_read : (least : ℕ) → least < x → is_tag least (hex_text x) ≡ true
  unfolding is_tag
  tag_read least m = rw (text_hex, tag_byte, lt-ltb least x m)

-- ---- a name

-- a byte that stands for itself
abbrev itself : ℕ → Bool
itself x = ltb 32 x && (ltb x 127 && (not (eqb x 35) && not (eqb x 92)))

record Itself (x : ℕ) : Type 0 where
  above : 32 < x
  below : x < 127
  no_hash : eqb x 35 ≡ false
  no_slash : eqb x 92 ≡ false

stands : (x : ℕ) → itself x ≡ true → Itself x
stands x e =
    let b = ltb x 127 && (not (eqb x 35) && not (eqb x 92)) in
    let c = not (eqb x 35) && not (eqb x 92) in
    let r = and_right (ltb 32 x) b e in
    let q = and_right (ltb x 127) c r in
    record {
      above = ltb-true 32 x (and_left (ltb 32 x) b e);
      below = ltb-true x 127 (and_left (ltb x 127) c r);
      no_hash = not-true (eqb x 35) (and_left (not (eqb x 35)) (not (eqb x 92)) q);
      no_slash = not-true (eqb x 92) (and_right (not (eqb x 35)) (not (eqb x 92)) q);
    }

module _ (x : ℕ) (l : x < 256) where
  byte_wordly : wordly (escaped_byte x) ≡ true
  unfolding wordly
  byte_wordly = by (itself x) refl
    where
      by : (b : Bool) → itself x ≡ b → wordly (cond b (x ∷ []) (92 ∷ 120 ∷ hex_text x)) ≡ true
      by true e = let i = stands x e in rw (le-ltb x 33 i.above, i.no_hash)
      by false e = tag_word x l

  byte_is : (k : ℕ) (rest : List ℕ) → is_name (suc k) (escaped_byte x ++ rest) ≡ is_name k rest
  unfolding is_name
  byte_is k rest = by (itself x) refl
    where
      by : (b : Bool) → itself x ≡ b → is_name (suc k) (cond b (x ∷ []) (92 ∷ 120 ∷ hex_text x) ++ rest) ≡ is_name k rest
      by true e = let i = stands x e in rw (i.no_slash, le-leb x 126 (omega (arith, i.below)))
      by false e = rw (letter_hex (x / 16) (high x l), letter_hex (x % 16) (low x l))

  byte_read : (k : ℕ) (rest : List ℕ) → name_of (suc k) (escaped_byte x ++ rest) ≡ x ∷ name_of k rest
  unfolding name_of
  byte_read k rest = by (itself x) refl
    where
      by : (b : Bool) → itself x ≡ b → name_of (suc k) (cond b (x ∷ []) (92 ∷ 120 ∷ hex_text x) ++ rest) ≡ x ∷ name_of k rest
      by true e = let i = stands x e in rw i.no_slash
      by false e = ap (λ (z : ℕ). z ∷ name_of k rest) (text_worth x l)

module _ where
  -- the bytes of a list but its first
  later : (x : ℕ) (s : List ℕ) → Bytes (x ∷ s) → Bytes s
  later x s b i l = b (suc i) (omega arith)

  escaped-word : (s : List ℕ) → Bytes s → wordly (escaped s) ≡ true
  unfolding escaped wordly
  escaped-word [] b = refl
  escaped-word (x ∷ s) b = wordly-append (escaped_byte x) (escaped s) (byte_wordly x (b 0 (omega arith))) (escaped-word s (later x s b))

  escaped-is : (k : ℕ) (s : List ℕ) → Bytes s → length s ≤ k → is_name k (escaped s) ≡ true
  unfolding escaped is_name
  escaped-is zero [] b l = refl
  escaped-is (suc k) [] b l = refl
  escaped-is zero (x ∷ s) b l = absurd (omega arith)
  escaped-is (suc k) (x ∷ s) b l = byte_is x (b 0 (omega arith)) k (escaped s) ∙ escaped-is k s (later x s b) (omega arith)

  escaped-long : (s : List ℕ) → 0 < length s → 0 < length (escaped s)
  unfolding escaped
  escaped-long [] l = absurd (omega arith)
  escaped-long (x ∷ s) l = rw length-append (omega (arith, some x))
    where
      some : (x : ℕ) → 0 < length (escaped_byte x)
      some x = by (itself x)
        where
          by : (b : Bool) → 0 < length (cond b (x ∷ []) (92 ∷ 120 ∷ hex_text x))
          by true = omega arith
          by false = omega arith

  -- a name without the spaces that fill it up: bytes, no more than it had, and read with them again
  trimmed-bytes : (s : List ℕ) → Bytes s → Bytes (trimmed s)
  unfolding trimmed
  trimmed-bytes [] b = b
  trimmed-bytes (x ∷ s) b = by (eqb x 32 && eqb (length (trimmed s)) 0) (trimmed-bytes s (later x s b))
    where
      by : (t : Bool) → Bytes (trimmed s) → Bytes (cond t [] (x ∷ trimmed s))
      by true c = bytes-none
      by false c = bytes-more x (trimmed s) (b 0 (omega arith)) c

  trimmed-most : (s : List ℕ) → length (trimmed s) ≤ length s
  unfolding trimmed
  trimmed-most [] = omega arith
  trimmed-most (x ∷ s) = by (eqb x 32 && eqb (length (trimmed s)) 0) (trimmed-most s)
    where
      by : (t : Bool) → length (trimmed s) ≤ length s → length (cond t [] (x ∷ trimmed s)) ≤ suc (length s)
      by true l = omega arith
      by false l = omega arith

  no_bytes : (s : List ℕ) → length s ≡ 0 → s ≡ []
  no_bytes [] e = refl
  no_bytes (x ∷ s) e = absurd (omega arith)

  trimmed-read : (s : List ℕ) → Bytes s → name_of (length s) (escaped (trimmed s)) ≡ s
  unfolding trimmed escaped name_of
  trimmed-read [] b = refl
  trimmed-read (x ∷ s) b = by (eqb x 32 && eqb (length (trimmed s)) 0) refl (trimmed-read s (later x s b))
    where
      by : (t : Bool) → eqb x 32 && eqb (length (trimmed s)) 0 ≡ t → name_of (length s) (escaped (trimmed s)) ≡ s →
          name_of (suc (length s)) (escaped (cond t [] (x ∷ trimmed s))) ≡ x ∷ s
      by true e ih =
          let space : x ≡ 32 = eqb-true x 32 (and_left (eqb x 32) (eqb (length (trimmed s)) 0) e) in
          let none : trimmed s ≡ [] = no_bytes (trimmed s) (eqb-true _ _ (and_right (eqb x 32) (eqb (length (trimmed s)) 0) e)) in
          ap₂ (λ (y : ℕ) (r : List ℕ). y ∷ r) (sym space) (ap (λ (r : List ℕ). name_of (length s) (escaped r)) (sym none) ∙ ih)
      by false e ih = byte_read x (b 0 (omega arith)) (length s) (escaped (trimmed s)) ∙ ap (λ (r : List ℕ). x ∷ r) ih

-- at most four bytes for each of a name
escaped-most : (s : List ℕ) → length (escaped s) ≤ 4 * length s
unfolding escaped
escaped-most [] = omega arith
escaped-most (x ∷ s) = rw length-append (omega (arith, four x, escaped-most s))
  where
    four : (x : ℕ) → length (escaped_byte x) ≤ 4
    four x = by (itself x)
      where
        by : (b : Bool) → length (cond b (x ∷ []) (92 ∷ 120 ∷ hex_text x)) ≤ 4
        by true = omega arith
        by false = omega arith

pub name-most : (s : List ℕ) → length (name_text s) ≤ 4 * length s + 4
unfolding name_text
name-most s = by (eqb (length (trimmed s)) 0)
  where
    by : (t : Bool) → length (cond t (escaped (32 ∷ [])) (escaped (trimmed s))) ≤ 4 * length s + 4
    by true = omega (arith, escaped-most (32 ∷ []))
    by false = omega (arith, escaped-most (trimmed s), trimmed-most s)

-- a name that fills its bytes
module _ (x : ℕ) (s : List ℕ) (b : Bytes (x ∷ s)) where
  abbrev name : List ℕ
  name = x ∷ s

  pub name-long : 0 < length (name_text name)
  unfolding name_text
  name-long = by (eqb (length (trimmed name)) 0) refl
    where
      by : (t : Bool) → eqb (length (trimmed name)) 0 ≡ t → 0 < length (cond t (escaped (32 ∷ [])) (escaped (trimmed name)))
      by true e = escaped-long (32 ∷ []) (omega arith)
      by false e = escaped-long (trimmed name) (positive (length (trimmed name)) (eqb-false _ _ e))
        where
          positive : (n : ℕ) → (n ≡ 0 → ⊥) → 0 < n
          positive n h = omega (arith, h)

  space_bytes : Bytes (32 ∷ [])
  space_bytes = bytes-more 32 [] (omega arith) bytes-none

  pub name-word : wordly (name_text name) ≡ true
  unfolding name_text
  name-word = by (eqb (length (trimmed name)) 0)
    where
      by : (t : Bool) → wordly (cond t (escaped (32 ∷ [])) (escaped (trimmed name))) ≡ true
      by true = escaped-word (32 ∷ []) space_bytes
      by false = escaped-word (trimmed name) (trimmed-bytes name b)

  pub name-is : is_name (length name) (name_text name) ≡ true
  unfolding name_text
  name-is = by (eqb (length (trimmed name)) 0)
    where
      by : (t : Bool) → is_name (length name) (cond t (escaped (32 ∷ [])) (escaped (trimmed name))) ≡ true
      by true = escaped-is (length name) (32 ∷ []) space_bytes (omega arith)
      by false = escaped-is (length name) (trimmed name) (trimmed-bytes name b) (trimmed-most name)

  pub name-read : name_of (length name) (name_text name) ≡ name
  unfolding name_text name_of escaped
  name-read = by (eqb (length (trimmed name)) 0) refl
    where
      by : (t : Bool) → eqb (length (trimmed name)) 0 ≡ t → name_of (length name) (cond t (escaped (32 ∷ [])) (escaped (trimmed name))) ≡ name
      by true e = byte_read 32 (omega arith) (length s) []
          ∙ ap (λ (r : List ℕ). name_of (length name) (escaped r)) (sym (no_bytes (trimmed name) (eqb-true _ _ e))) ∙ trimmed-read name b
      by false e = trimmed-read name b

-- ---- the body of a field

texts-long : (s : List ℕ) → length (hex_texts s) ≡ 2 * length s
unfolding hex_texts
texts-long [] = refl
texts-long (x ∷ s) = omega (arith, texts-long s)

texts_hex : (s : List ℕ) → Bytes s → all_hex (hex_texts s) ≡ true
unfolding hex_texts all_hex
texts_hex [] b = refl
texts_hex (x ∷ s) b =
    let l = b 0 (omega arith) in rw (letter_hex (x / 16) (high x l), letter_hex (x % 16) (low x l)) (texts_hex s (later x s b))

texts-word : (s : List ℕ) → Bytes s → wordly (hex_texts s) ≡ true
unfolding hex_texts wordly
texts-word [] b = refl
texts-word (x ∷ s) b = wordly-append (hex_text x) (hex_texts s) (tag_word x (b 0 (omega arith))) (texts-word s (later x s b))

texts-read : (s : List ℕ) → Bytes s → hex_bytes (length s) (hex_texts s) ≡ s
unfolding hex_texts hex_bytes
texts-read [] b = refl
texts-read (x ∷ s) b = ap₂ (λ (y : ℕ) (r : List ℕ). y ∷ r) (text_worth x (b 0 (omega arith))) (texts-read s (later x s b))

-- two digits a byte, one for no bytes
pub body-most : (s : List ℕ) → length (body_text s) ≤ 2 * length s + 1
unfolding ascii
body-most [] = omega arith
body-most (x ∷ s) = omega (arith, texts-long (x ∷ s))

pub body-long : (s : List ℕ) → 0 < length (body_text s)
unfolding ascii hex_texts
body-long [] = omega arith
body-long (x ∷ s) = omega arith

pub body-word : (s : List ℕ) → Bytes s → wordly (body_text s) ≡ true
unfolding ascii wordly
body-word [] b = refl
body-word (x ∷ s) b = texts-word (x ∷ s) b

-- the word of no bytes, which digits are not
dash : same (ascii "-") (ascii "-") ≡ true
unfolding same ascii
dash = refl

no_dash : (x : ℕ) (s : List ℕ) → x < 256 → same (hex_texts (x ∷ s)) (ascii "-") ≡ false
unfolding hex_texts same ascii
no_dash x s l = rw (ne_eqb (hex_letter (x / 16)) 45 (λ q. absurd (omega (arith, letter_least (x / 16) (high x l), q))))

pub body_is : (s : List ℕ) → Bytes s → is_body (body_text s) ≡ true
unfolding is_body
body_is [] b = rw dash
body_is (x ∷ s) b =
    let two : length (hex_texts (x ∷ s)) % 2 ≡ 0 = omega (arith, texts-long (x ∷ s)) in
    rw (no_dash x s (b 0 (omega arith)), eq-eqb (length (hex_texts (x ∷ s)) % 2) 0 two, texts_hex (x ∷ s) b)

pub body-read : (s : List ℕ) → Bytes s → body_of (body_text s) ≡ s
unfolding body_of
body-read [] b = rw dash
body-read (x ∷ s) b =
    let half : length (hex_texts (x ∷ s)) / 2 ≡ length (x ∷ s) = omega (arith, texts-long (x ∷ s)) in
    rw (no_dash x s (b 0 (omega arith)), half) (texts-read (x ∷ s) b)
