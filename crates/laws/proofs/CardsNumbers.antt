-- A number in digits, as a word of a card: it is a word, and it reads as that number.
--     digits-word     digits are a word
--     digits-read     and read as their number
--     signed_word_lem, signed-read, reading-word   a number with its sign
--     not-digits      digits are no other word
-- Assumes nothing.
use Rattle.std.proofs.Common.{Some}
use mathlib.Core.Path.{◌≡◌, refl, ◌∙◌}
use mathlib.Core.Bool.{Bool, true, false, cond, not, ◌&&◌}
use mathlib.Core.List.{List, [], ◌∷◌, ◌++◌}
use Prim.Native.Nat.{ℕ, zero, suc, ◌+◌, ◌-◌, ◌*◌, ◌/◌, ◌%◌, ◌^◌, ◌≤◌, ◌<◌}
use native.Mathlib.Nat.{pow-suc, div-lt_iff_lt-mul}
use native.Mathlib.Omega.{arith}
use lib.Dec.{eqb, ltb, lit<}
use lib.IntN.{ℤ, pos, negsuc, nat_abs}
use lib.ListN.{length, get_or, length-append}
use borrow.Author.Tests.{lt-ltb, le-ltb, ne_eqb, ltb-true, ltb-false, not-true}
use Rattle.algebra.proofs.Tests.{and_left, and_right, and_both}
use Rattle.meaning.specs.Refusals.{reading_limit}
use Rattle.meaning.specs.Text.{digits, signed_text}
use Rattle.meaning.specs.SheetText.{same, digital, decimal, is_number, number_of, signed_of}
use Rattle.meaning.specs.Card.{is_int32, is_reading}
use Rattle.laws.proofs.CardsWords.{wordly}

-- ---- digits

digital-more : (w : List ℕ) (d : ℕ) → digital w ≡ true → 48 ≤ d → d ≤ 57 → digital (w ++ (d ∷ [])) ≡ true
unfolding digital
digital-more [] d e l m = rw (le-ltb d 48 l, le-ltb 57 d m)
digital-more (x ∷ w) d e l m =
    let r = and_right (not (ltb x 48)) (not (ltb 57 x) && digital w) e in
    and_both (and_left (not (ltb x 48)) (not (ltb 57 x) && digital w) e)
    (and_both (and_left (not (ltb 57 x)) (digital w) r) (digital-more w d (and_right (not (ltb 57 x)) (digital w) r) l m))

decimal-more : (k : ℕ) (w : List ℕ) (d : ℕ) → decimal k (w ++ (d ∷ [])) ≡ 10 * decimal k w + (d - 48)
unfolding decimal
decimal-more k [] d = refl
decimal-more k (x ∷ w) d = decimal-more (10 * k + (x - 48)) w d

digits-digital : (s n : ℕ) → digital (digits s n) ≡ true
unfolding digits digital
digits-digital zero n = refl
digits-digital (suc s) n = by (ltb n 10) refl (digits-digital s (n / 10))
  where
    by : (b : Bool) → ltb n 10 ≡ b → digital (digits s (n / 10)) ≡ true → digital (cond b ((48 + n) ∷ []) (digits s (n / 10) ++ ((48 + n % 10) ∷ []))) ≡ true
    by true e ih = digital-more [] (48 + n) refl (omega arith) (omega (arith, ltb-true n 10 e))
    by false e ih = digital-more (digits s (n / 10)) (48 + n % 10) ih (omega arith) (omega arith)

decimal_step : (s n : ℕ) (b : Bool) → ltb n 10 ≡ b → (10 ≤ n → decimal 0 (digits s (n / 10)) ≡ n / 10) →
    decimal 0 (cond b ((48 + n) ∷ []) (digits s (n / 10) ++ ((48 + n % 10) ∷ []))) ≡ n
unfolding decimal
decimal_step s n true e ih = omega arith
decimal_step s n false e ih = decimal-more 0 (digits s (n / 10)) (48 + n % 10) ∙ omega (arith, ih (ltb-false n 10 e))

digits_decimal : (s n : ℕ) → n < 10 ^ suc s → decimal 0 (digits (suc s) n) ≡ n
unfolding digits
digits_decimal zero n h = decimal_step 0 n (ltb n 10) refl (λ l. absurd (omega arith))
digits_decimal (suc s) n h =
    decimal_step (suc s) n (ltb n 10) refl (λ l. digits_decimal s (n / 10) ((div-lt_iff_lt-mul (lit< tt)).1 (rw pow-suc at h)))

digits-some : (s n : ℕ) → 0 < length (digits (suc s) n)
unfolding digits
digits-some s n = by (ltb n 10)
  where
    by : (b : Bool) → 0 < length (cond b ((48 + n) ∷ []) (digits s (n / 10) ++ ((48 + n % 10) ∷ [])))
    by true = omega arith
    by false = rw length-append (omega arith)

-- ---- as a word of a card

-- every digit stands in a word
digital-wordly : (w : List ℕ) → digital w ≡ true → wordly w ≡ true
unfolding digital wordly
digital-wordly [] e = refl
digital-wordly (x ∷ w) e =
    let low : 48 ≤ x = ltb-false x 48 (not-true (ltb x 48) (and_left (not (ltb x 48)) (not (ltb 57 x) && digital w) e)) in
    let rest = and_right (not (ltb x 48)) (not (ltb 57 x) && digital w) e in
    rw (le-ltb x 33 (omega arith), ne_eqb x 35 (λ q. absurd (omega (arith, q)))) (digital-wordly w (and_right (not (ltb 57 x)) (digital w) rest))

-- digits are no word that begins with a byte above 9
digital-not : (w : List ℕ) (y : ℕ) (v : List ℕ) → digital w ≡ true → 57 < y → same w (y ∷ v) ≡ false
unfolding digital same
digital-not [] y v e l = refl
digital-not (x ∷ w) y v e l =
    let rest = and_right (not (ltb x 48)) (not (ltb 57 x) && digital w) e in
    let high : x ≤ 57 = ltb-false 57 x (not-true (ltb 57 x) (and_left (not (ltb 57 x)) (digital w) rest)) in
    rw (ne_eqb x y (λ q. absurd (omega (arith, q))))

-- nor do they begin with a minus
digital-plain : (w : List ℕ) → digital w ≡ true → eqb (get_or w 0 0) 45 ≡ false
unfolding digital
digital-plain [] e = refl
digital-plain (x ∷ w) e =
    let low : 48 ≤ x = ltb-false x 48 (not-true (ltb x 48) (and_left (not (ltb x 48)) (not (ltb 57 x) && digital w) e)) in
    ne_eqb x 45 (λ q. absurd (omega (arith, q)))

module _ (n : ℕ) where
  pub digits_long : 0 < length (digits 20 n)
  digits_long = digits-some 19 n

  pub digits-word : wordly (digits 20 n) ≡ true
  digits-word = digital-wordly (digits 20 n) (digits-digital 20 n)

  pub not-digits : (y : ℕ) (v : List ℕ) → 57 < y → same (digits 20 n) (y ∷ v) ≡ false
  not-digits y v l = digital-not (digits 20 n) y v (digits-digital 20 n) l

  -- they read as their number
  pub digits-read : (limit : ℕ) → n ≤ limit → n < 10 ^ 20 → number_of limit (digits 20 n) ≡ Some n
  unfolding number_of is_number
  digits-read limit l h =
      rw (ne_eqb (length (digits 20 n)) 0 (λ q. absurd (omega (arith, digits_long, q))), digits-digital 20 n, digits_decimal 19 n h, le-ltb limit n l)

-- ---- with a sign

-- the word
abbrev pub signed_word : ℤ → List ℕ
signed_word (pos n) = digits 20 n
signed_word (negsuc n) = 45 ∷ digits 20 (suc n)

pub signed-text : (z : ℤ) → signed_text z ≡ 32 ∷ signed_word z
signed-text (pos n) = refl
signed-text (negsuc n) = refl

pub signed-long : (z : ℤ) → 0 < length (signed_word z)
signed-long (pos n) = digits_long n
signed-long (negsuc n) = omega arith

pub signed_word_lem : (z : ℤ) → wordly (signed_word z) ≡ true
unfolding wordly
signed_word_lem (pos n) = digits-word n
signed_word_lem (negsuc n) = digits-word (suc n)

pub signed-not : (z : ℤ) (y : ℕ) (v : List ℕ) → 57 < y → same (signed_word z) (y ∷ v) ≡ false
unfolding same
signed-not (pos n) y v l = not-digits n y v l
signed-not (negsuc n) y v l = rw (ne_eqb 45 y (λ q. absurd (omega (arith, q))))

pub signed-read : (z : ℤ) → nat_abs z ≤ 9223372036854775807 → signed_of (signed_word z) ≡ Some z
unfolding signed_of
signed-read (pos n) l = rw (digital-plain (digits 20 n) (digits-digital 20 n), digits-read n 9223372036854775807 l (omega arith))
signed-read (negsuc n) l = rw (digits-read (suc n) 9223372036854775808 (omega arith) (omega arith))

-- a reading within its limit
pub reading-word : (z : ℤ) → nat_abs z ≤ reading_limit → is_reading (signed_word z) ≡ true
unfolding is_reading
reading-word z l = rw (signed-read z (omega arith)) (small z l)
  where
    small : (z : ℤ) → nat_abs z ≤ reading_limit → is_int32 z ≡ true
    small (pos n) l = lt-ltb n (2 ^ 31) (omega arith)
    small (negsuc n) l = lt-ltb n (2 ^ 31) (omega arith)
