-- The restraint and the readings of a card: the members of its set, the accepted sum, a reading for each block. Assumes nothing.
use Rattle.std.proofs.Common.{Some}
use mathlib.Core.Path.{◌≡◌, refl, sym, ap, ap₂, ◌∙◌, subst}
use mathlib.Core.Bool.{Bool, true, false, cond}
use mathlib.Core.List.{List, [], ◌∷◌, ◌++◌, append_assoc, append-nil}
use Prim.Native.Nat.{ℕ, zero, suc, ◌+◌, ◌*◌, ◌/◌, ◌%◌, ◌^◌, ◌≤◌, ◌<◌, zero-le}
use native.Mathlib.Nat.{pow-suc, pow-le-pow_right, mod-lt, mod-eq_of_lt, div-eq_of_lt}
use native.Mathlib.Numerals.{add-one}
use native.Mathlib.Omega.{arith}
use lib.Arith.{mod-mul}
use lib.Dec.{eqb, lit<}
use lib.IntN.{ℤ, pos, nat_abs}
use lib.ListN.{length, take}
use lib.Seq.{take-suc, take_all}
use borrow.Author.Tests.{ne_eqb, eqb-true, eqb-false}
use Rattle.records.specs.declared.Head.{Head}
use Rattle.records.specs.declared.Card.{Card}
use Rattle.meaning.specs.Analysis.{member, reading}
use Rattle.meaning.specs.Refusals.{reading_limit}
use Rattle.meaning.specs.Writing.{bytes_of, wrapped, readings_body}
use Rattle.meaning.specs.Text.{ascii, digits, spaced, signed_text, each, line}
use Rattle.meaning.specs.SheetText.{same}
use Rattle.meaning.specs.Card.{member_of, take_member, take_standard, take_sum, take_reading, take_after, take_block, taken, reading_bytes, after_bytes, given_bytes}
use Rattle.meaning.specs.CardText.{member_text, reading_text}
use Rattle.laws.proofs.CardsWords.{wordly, Apart}
use Rattle.laws.proofs.CardsNumbers.{
  digits_long,
  digits-word,
  digits-read,
  not-digits,
  signed_word,
  signed-text,
  signed-long,
  signed_word_lem,
  signed-not,
  signed-read,
  reading-word,
}
use Rattle.laws.proofs.CardsSteps.{Says, Any, then, says_none, says_as, says-each, says_newline, adding_word, quiet_word, quiet_line, state}

-- ---- the set, member by member

positive : (i : ℕ) → 0 < 2 ^ i
positive i = pow-le-pow_right {n = 2} (lit< tt) {i = 0} {j = i} zero-le

-- a place of a number: what lies below the next one
next_place : (w i : ℕ) → w % 2 ^ suc i ≡ member w i * 2 ^ i + w % 2 ^ i
next_place w i = ap (λ (x : ℕ). w % x) (pow-suc 2 i ∙ turn (2 ^ i)) ∙ mod-mul w (lit< tt) (positive i)
  where
    turn : (x : ℕ) → x * 2 ≡ 2 * x
    turn x = omega arith

-- what lies below a place has no one at it
none_there : (w i : ℕ) → member (w % 2 ^ i) i ≡ 0
none_there w i = ap (λ (x : ℕ). x % 2) (div-eq_of_lt (mod-lt w (positive i)))

bit : (w i : ℕ) → eqb (member w i) 1 ≡ false → member w i ≡ 0
bit w i e = two (member w i) (mod-lt (w / 2 ^ i) (lit< tt)) (eqb-false (member w i) 1 e)
  where
    two : (x : ℕ) → x < 2 → (x ≡ 1 → ⊥) → x ≡ 0
    two x l n = omega (arith, n)

-- no bytes, however often
each_none : (v : ℕ) → each v (λ i. []) ≡ []
unfolding each
each_none zero = refl
each_none (suc v) = append-nil (each v (λ i. [])) ∙ each_none v

module _ (h : Head) (c len : ℕ) where
  -- the restraint with these members so far
  abbrev within : ℕ → ℕ → Card
  within k set = state k h c set (pos 0) 0 len

  member-read : (i : ℕ) → i ≤ 63 → member_of h (digits 20 i) ≡ Some i
  unfolding member_of ascii
  member-read i l = rw (not-digits i 105 (110 ∷ 102 ∷ []) (omega arith)) (digits-read i 63 l (omega arith))

  member-says : (b : Bool) (set i : ℕ) → i ≤ 63 → member set i ≡ 0 → Says Apart (within (cond b 12 13) set) (spaced i) (within 13 (set + 2 ^ i)) []
  unfolding taken take_member take_standard given_bytes ascii
  member-says true set i l e =
      quiet_word (within 12 set) refl (digits 20 i) (digits_long i) (digits-word i) {d = within 13 (set + 2 ^ i)} (rw (member-read i l, e)) refl
  member-says false set i l e =
      quiet_word (within 13 set) refl (digits 20 i) (digits_long i) (digits-word i) {d = within 13 (set + 2 ^ i)}
      (rw (not-digits i 61 [] (omega arith), member-read i l, e)) refl

  module _ (w : ℕ) where
    -- those below i
    abbrev below : ℕ → Card
    below i = within (cond (eqb (w % 2 ^ i) 0) 12 13) (w % 2 ^ i)

    below-says : (i : ℕ) → i ≤ 63 → Says Apart (below i) (member_text w i) (below (suc i)) []
    below-says i l = by (eqb (member w i) 1) refl
      where
        by : (b : Bool) → eqb (member w i) 1 ≡ b → Says Apart (below i) (cond b (spaced i) []) (below (suc i)) []
        by true e =
            let more : w % 2 ^ i + 2 ^ i ≡ w % 2 ^ suc i =
            omega (arith, next_place w i, ap (λ (x : ℕ). x * 2 ^ i) (eqb-true (member w i) 1 e)) in
            let some : eqb (w % 2 ^ suc i) 0 ≡ false = ne_eqb (w % 2 ^ suc i) 0 (λ q. absurd (omega (arith, q, more, positive i))) in
            says_as (ap₂ (λ (x : Bool) (y : ℕ). within (cond x 12 13) y) (sym some) more) refl
            (member-says (eqb (w % 2 ^ i) 0) (w % 2 ^ i) i l (none_there w i))
        by false e =
            let same_place : w % 2 ^ i ≡ w % 2 ^ suc i = omega (arith, next_place w i, ap (λ (x : ℕ). x * 2 ^ i) (bit w i e)) in
            says_as (ap (λ (x : ℕ). within (cond (eqb x 0) 12 13) x) same_place) refl (says_none (below i))

    -- all of them
    members_say : (v : ℕ) → v ≤ 63 → 0 < w → w < 2 ^ v → Says Apart (within 12 0) (each v (member_text w)) (within 13 w) []
    members_say v few some inside =
        let nothing : w % 2 ^ 0 ≡ 0 = omega arith in
        let all : w % 2 ^ v ≡ w = mod-eq_of_lt inside in
        subst (λ (x : Card). Says Apart x (each v (member_text w)) (within 13 w) []) (ap (λ (x : ℕ). within (cond (eqb x 0) 12 13) x) nothing)
        (says_as (ap (λ (x : ℕ). within (cond (eqb x 0) 12 13) x) all ∙ ap (λ (x : Bool). within (cond x 12 13) w) (ne_eqb w 0 (λ q. absurd (omega (arith, q)))))
        (each_none v) (says-each v (member_text w) below (λ i. []) (λ i l. below-says i (omega arith))))

  -- ---- the line

  sum-says : (w : ℕ) (M : ℤ) → nat_abs M ≤ 9223372036854775807 → Says Apart (within 14 w) (signed_text M) (state 15 h c w M 0 len) []
  unfolding taken take_sum given_bytes
  sum-says w M l =
      subst (λ (t : List ℕ). Says Apart (within 14 w) t (state 15 h c w M 0 len) []) (sym (signed-text M))
      (quiet_word (within 14 w) refl (signed_word M) (signed-long M) (signed_word_lem M) {d = state 15 h c w M 0 len} (rw (signed-read M l)) refl)

  equals_says : (w : ℕ) → Says Apart (within 13 w) (ascii " =") (within 14 w) []
  unfolding ascii wordly same taken take_standard given_bytes
  equals_says w = quiet_word (within 13 w) refl (ascii "=") (omega arith) refl refl refl

  pub restraint-says : (v w : ℕ) (M : ℤ) → v ≤ 63 → 0 < w → w < 2 ^ v → nat_abs M ≤ 9223372036854775807 →
      Says Any (within 11 0) (line "restraint" (each v (member_text w) ++ ascii " =" ++ signed_text M)) (state 15 h c w M 0 len) []
  unfolding ascii wordly same taken take_block given_bytes
  restraint-says v w M few some inside near =
      quiet_line (within 11 0) refl (ascii "restraint") (omega arith) refl refl refl (each v (member_text w) ++ ascii " =" ++ signed_text M)
      (then (then (members_say w v few some inside) (equals_says w)) (sum-says w M near))

-- ---- the readings

-- the bytes of the first of them
readings-first : (y : List ℤ) (k : ℕ) → k ≤ length y → each k (λ k. bytes_of 4 (wrapped 32 (reading y k))) ≡ readings_body (take k y)
unfolding each readings_body
readings-first y zero l = refl
readings-first y (suc k) l =
    ap (λ (x : List ℕ). x ++ bytes_of 4 (wrapped 32 (reading y k))) (readings-first y k (omega arith))
    ∙ sym (one_more (take k y) (reading y k)) ∙ ap readings_body (sym (take-suc y k (pos 0) l))
  where
    one_more : (y : List ℤ) (z : ℤ) → readings_body (y ++ (z ∷ [])) ≡ readings_body y ++ bytes_of 4 (wrapped 32 z)
    one_more [] z = append-nil (bytes_of 4 (wrapped 32 z))
    one_more (x ∷ y) z = ap (λ (r : List ℕ). bytes_of 4 (wrapped 32 x) ++ r) (one_more y z)
        ∙ sym (append_assoc (bytes_of 4 (wrapped 32 x)) (readings_body y) (bytes_of 4 (wrapped 32 z)))

module _ (h : Head) (c w : ℕ) (M : ℤ) (len : ℕ) where
  -- after k readings
  abbrev read : ℕ → Card
  read zero = state 16 h c w M 0 (len + 4 * 0)
  read (suc k) = state 17 h c w M (suc k) (len + 4 * suc k)

  after_one : (k : ℕ) → state 17 h c w M (k + 1) (len + 4 * k + 4) ≡ state 17 h c w M (suc k) (len + 4 * suc k)
  after_one k = ap₂ (λ (x y : ℕ). state 17 h c w M x y) (add-one k) (omega arith)

  one-reading : (k : ℕ) (z : ℤ) → nat_abs z ≤ reading_limit → Says Apart (read k) (signed_text z) (read (suc k)) (bytes_of 4 (wrapped 32 z))
  unfolding taken take_reading take_after given_bytes reading_bytes after_bytes ascii bytes_of
  one-reading zero z l =
      subst (λ (t : List ℕ). Says Apart (read 0) t (read 1) (bytes_of 4 (wrapped 32 z))) (sym (signed-text z))
      (says_as (after_one 0) refl
      (adding_word (read 0) refl (signed_word z) (signed-long z) (signed_word_lem z) {d = state 17 h c w M 1 (len + 4 * 0)} {b = bytes_of 4 (wrapped 32 z)}
      (rw (reading-word z l)) (rw (reading-word z l, signed-read z (omega arith)))))
  one-reading (suc k) z l =
      subst (λ (t : List ℕ). Says Apart (read (suc k)) t (read (suc (suc k))) (bytes_of 4 (wrapped 32 z))) (sym (signed-text z))
      (says_as (after_one (suc k)) refl
      (adding_word (read (suc k)) refl (signed_word z) (signed-long z) (signed_word_lem z) {d = state 17 h c w M (suc k + 1) (len + 4 * suc k)} {b = bytes_of 4 (wrapped 32 z)}
      (rw (signed-not z 110 (97 ∷ 109 ∷ 101 ∷ 115 ∷ []) (omega arith), signed-not z 111 (116 ∷ 104 ∷ 101 ∷ 114 ∷ []) (omega arith), reading-word z l))
      (rw (signed-not z 110 (97 ∷ 109 ∷ 101 ∷ 115 ∷ []) (omega arith), reading-word z l, signed-read z (omega arith)))))

  -- on a new line or not
  line_or_not : (b : Bool) (k : ℕ) → Says Apart (read k) (cond b (10 ∷ []) []) (read k) []
  line_or_not true k = says_newline (read k)
  line_or_not false k = says_none (read k)

  pub readings_say : (y : List ℤ) → 0 < length y → ((k : ℕ) → k < length y → nat_abs (reading y k) ≤ reading_limit) →
      Says Any (state 15 h c w M 0 len) (line "readings" (each (length y) (reading_text h y))) (state 17 h c w M (length y) (len + 4 * length y)) (readings_body y)
  unfolding ascii wordly same taken given_bytes
  readings_say y some near =
      says_as (last (length y) some) (readings-first y (length y) (omega arith) ∙ ap readings_body (take_all (length y) y (omega arith)))
      (quiet_line (state 15 h c w M 0 len) refl (ascii "readings") (omega arith) refl (ap (λ (x : ℕ). state 16 h c w M 0 x) (nothing len)) refl
      (each (length y) (reading_text h y))
      (says-each (length y) (reading_text h y) read (λ k. bytes_of 4 (wrapped 32 (reading y k)))
      (λ k l. then (line_or_not (eqb (k % h.n) 0) k) (one-reading k (reading y k) (near k l)))))
    where
      nothing : (x : ℕ) → x ≡ x + 4 * 0
      nothing x = omega arith

      last : (k : ℕ) → 0 < k → read k ≡ state 17 h c w M k (len + 4 * k)
      last zero l = absurd (omega arith)
      last (suc k) l = refl
