-- A word by what is wanted: which card it makes, and which bytes it gives. Assumes nothing.
use Prim.Native.Nat.{ℕ, ◌+◌, ◌^◌, ◌<◌, ◌≤◌}
use mathlib.Core.Path.{◌≡◌, refl, sym, ap, subst, ◌∙◌}
use mathlib.Core.List.{List, [], ◌∷◌, ◌++◌}
use mathlib.Core.Bool.{Bool, true, false, cond, not, ◌&&◌, false≢true}
use native.Mathlib.Decide.{dec_le}
use native.Mathlib.Nat.{lt_of_not-le}
use native.Mathlib.Omega.{arith}
use borrow.Author.Tests.{ltb-true, ne_eqb, le-leb, lt-leb}
use lib.Dec.{eqb, leb}
use lib.IntN.{ℤ, pos, negsuc}
use lib.ListN.{length}
use lib.Signed.{mag}
use Rattle.records.specs.declared.Card.{Card}
use Rattle.std.specs.Prelude.{None, Some}
use Rattle.algebra.specs.Buffers.{Wrote}
use Rattle.algebra.proofs.Writing.{kept, nothing}
use Rattle.meaning.specs.Text.{ascii}
use Rattle.meaning.specs.SheetText.{signed_of}
use Rattle.meaning.specs.Writing.{bytes_of, wrapped}
use Rattle.meaning.specs.Card.{object_of, is_body, body_of, is_name, name_of, is_int32, is_reading, next, counting, sizing, with_m, expect, take_kind, take_size, take_fixed, take_first, take_more, take_object, take_block, take_member, take_standard, take_sum, take_reading, take_after, take_name, take_tag, take_bytes, taken, object_bytes, reading_bytes, after_bytes, field_bytes, given_bytes, step}
use Rattle.writing.proofs.Shortened.{bits_short}
use Rattle.cards.specs.Putting.{Puts}
use Rattle.cards.proofs.Going.{place}

module _ (c : Card) (w : List ℕ) where
  -- the card with the word where j is wanted
  abbrev taken_by : ℕ → Card
  taken_by j =
      cond (eqb j 1) (take_kind c w)
      (cond (eqb j 2) (take_size c w)
      (cond (eqb j 3) (expect c w (ascii "fixed") (next 4 c))
      (cond (eqb j 4) (take_fixed c w)
      (cond (eqb j 5) (expect c w (ascii "initial") (next 6 c))
      (cond (eqb j 6) (take_first c w)
      (cond (eqb j 7) (take_more c w)
      (cond (eqb j 8) (take_object c w 8 (next 9 c))
      (cond (eqb j 9) (expect c w (ascii "|") (counting 10 0 c))
      (cond (eqb j 10) (take_object c w 10 (sizing 11 (with_m (c.head.m + 1) c.head) c))
      (cond (eqb j 11) (take_block c w)
      (cond (eqb j 12) (take_member c w)
      (cond (eqb j 13) (take_standard c w)
      (cond (eqb j 14) (take_sum c w)
      (cond (eqb j 15) (expect c w (ascii "readings") (next 16 c))
      (cond (eqb j 16) (take_reading c w)
      (cond (eqb j 17) (take_after c w)
      (cond (eqb j 18) (take_name c w)
      (cond (eqb j 19) (expect c w (ascii "other") (next 20 c))
      (cond (eqb j 20) (take_tag c w)
      (take_bytes c w))))))))))))))))))))

  pub taken_at : (j : ℕ) → c.wants ≡ j → taken_by j ≡ taken c w
  unfolding taken
  taken_at j e = ap taken_by (sym e)

  -- the bytes that it gives there
  abbrev given_by : ℕ → List ℕ
  given_by j =
      cond (leb 6 j && leb j 10) (object_bytes c w)
      (cond (eqb j 16) (reading_bytes c w)
      (cond (eqb j 17) (after_bytes c w)
      (cond (eqb j 18) (name_of 8 w)
      (cond (eqb j 21) (field_bytes c w) []))))

  pub given-at : (j : ℕ) → c.wants ≡ j → given_by j ≡ given_bytes c w
  unfolding given_bytes
  given-at j e = ap given_by (sym e)

  pub given-object : 6 ≤ c.wants → c.wants ≤ 10 → object_bytes c w ≡ given_bytes c w
  unfolding given_bytes
  given-object l h = rw (le-leb 6 c.wants l, le-leb c.wants 10 h)

  module _ (a : c.wants ≡ 16 → ⊥) (b : c.wants ≡ 17 → ⊥) (d : c.wants ≡ 18 → ⊥) (e : c.wants ≡ 21 → ⊥) where
    given-low : c.wants < 6 → [] ≡ given_bytes c w
    unfolding given_bytes
    given-low h = rw (lt-leb 6 c.wants h, ne_eqb c.wants 16 a, ne_eqb c.wants 17 b, ne_eqb c.wants 18 d, ne_eqb c.wants 21 e)

    given_high : 10 < c.wants → [] ≡ given_bytes c w
    unfolding given_bytes
    given_high h = rw (le-leb 6 c.wants (omega arith), lt-leb c.wants 10 h, ne_eqb c.wants 16 a, ne_eqb c.wants 17 b, ne_eqb c.wants 18 d, ne_eqb c.wants 21 e)

    pub given_other : (6 ≤ c.wants → 10 < c.wants) → [] ≡ given_bytes c w
    given_other f = by (dec_le 6 c.wants)
      where
        by : Dec (6 ≤ c.wants) → [] ≡ given_bytes c w
        by (yes h) = given_high (f h)
        by (no g) = given-low (lt_of_not-le g)

  -- a name that is none makes the card bad
  pub name-good : c.wants ≡ 18 → not (taken c w).bad ≡ true → is_name 8 w ≡ true
  unfolding take_name
  name-good e t = by (is_name 8 w) refl
    where
      by : (b : Bool) → is_name 8 w ≡ b → is_name 8 w ≡ true
      by true q = q
      by false q =
          let bad : true ≡ (taken c w).bad = (rw q) ∙ ap (λ (d : Card). d.bad) (taken_at 18 e) in
          absurd (false≢true (ap not bad ∙ t))

  -- ---- each kind of bytes

  pub object-none : None ≡ object_of w → [] ≡ object_bytes c w
  unfolding object_bytes
  object-none e = rw (← e)

  -- a word that is no number, and a number of more than 32 bits
  pub reading-none : None ≡ signed_of w → [] ≡ reading_bytes c w
  unfolding reading_bytes is_reading
  reading-none e = rw (← e)

  pub reading-wide : (z : ℤ) → Some z ≡ signed_of w → is_int32 z ≡ false → [] ≡ reading_bytes c w
  unfolding reading_bytes is_reading
  reading-wide z is e = rw (← is, e)

  pub reading-some : (z : ℤ) → Some z ≡ signed_of w → is_int32 z ≡ true → bytes_of 4 (wrapped 64 z) ≡ reading_bytes c w
  unfolding reading_bytes is_reading
  reading-some z is e = rw (← is, e) (bits_short z (by z e))
    where
      by : (z : ℤ) → is_int32 z ≡ true → mag z < 2 ^ 31
      by (pos x) t = ltb-true x (2 ^ 31) t
      by (negsuc x) t = ltb-true x (2 ^ 31) t

  pub field-none : is_body w ≡ false → [] ≡ field_bytes c w
  unfolding field_bytes
  field-none e = rw e

  pub field-some : is_body w ≡ true → (k : ℕ) → k ≡ length (body_of w) → c.count ∷ bytes_of 2 k ++ body_of w ≡ field_bytes c w
  unfolding field_bytes
  field-some e k q = rw (e, ← q)

-- ---- what is put

pub puts_named : {g : Bool} {o a s t : List ℕ} {at r : ℕ} → Puts g o at s a r → s ≡ t → Puts g o at t a r
puts_named {g} {o} {a} {s} {t} {at} {r} p e = subst (λ (x : List ℕ). Puts g o at x a r) e p

pub puts : {o a s : List ℕ} {at r : ℕ} (g : Bool) → Wrote o at s a r → at ≤ 4294967296 → length s ≤ 65600 → Puts g o at s a r
puts g p h l = record { place = place p (omega arith); long = kept p; bytes = λ t. p }

pub puts_none : (g : Bool) (o : List ℕ) (at : ℕ) → Puts g o at [] o at
puts_none g o at = record { place = omega arith; long = refl; bytes = λ t. nothing o at }

pub puts_where : {g h : Bool} {o a s : List ℕ} {at r : ℕ} → (h ≡ true → g ≡ true) → Puts g o at s a r → Puts h o at s a r
puts_where f p = record { place = p.place; long = p.long; bytes = λ t. p.bytes (f t) }

-- ---- a card with the word, and its bytes

module _ (c : Card) (w : List ℕ) where
  pub bad-step : c.bad ≡ true → c ≡ step c w
  unfolding step
  bad-step e = rw e
