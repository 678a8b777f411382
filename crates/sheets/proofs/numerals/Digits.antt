-- Numbers in digits: one step of reading one, and when a word is none. Assumes nothing.
use Prim.Native.Nat.{ℕ, ◌+◌, ◌*◌, ◌-◌, ◌<◌, ◌≤◌}
use mathlib.Core.Path.{◌≡◌, refl, sym, ap, ◌∙◌}
use mathlib.Core.List.{List, [], ◌∷◌}
use mathlib.Core.Bool.{Bool, true, false, not, ◌&&◌}
use native.Mathlib.Numerals.{add-one}
use native.Mathlib.Omega.{arith}
use native.Mathlib.Decide.{dec_le}
use native.Mathlib.Nat.{lt_of_not-le}
use borrow.Author.Tests.{ne_eqb, lt-ltb, le-ltb}
use lib.Dec.{eqb, ltb}
use lib.IntN.{pos, neg_ℤ}
use lib.ListN.{get_or, length, drop}
use lib.Seq.{drop-cons, drop-length}
use denote.Ref.{Bor}
use Rattle.std.proofs.Common.{Option, Some, None}
use Rattle.std.specs.Option.{MatchOption, unwrap_or}
use Rattle.std.proofs.lemmas.Option.{cond_some, none-some}
use Rattle.std.specs.Char.{is_ascii_digit}
use Rattle.std.specs.List.{list_all}
use Rattle.std.proofs.lemmas.Bool.Decides.{nat_tests}
use Rattle.meaning.specs.SheetText.{digital, decimal, is_number, number_of, signed_of}
use Rattle.sheets.specs.Arguments.{in_digits, in_decimal}

and_false : (a : Bool) → (a && false) ≡ false
and_false true = refl
and_false false = refl

-- the library's test of one digit is the specification's two
digit_test : (d : ℕ) (b : Bool) → (not (ltb d 48) && (not (ltb 57 d) && b)) ≡ (is_ascii_digit d && b)
digit_test d b = grind (arith, nat_tests)

pub digital_is : (w : List ℕ) → digital w ≡ list_all is_ascii_digit w
unfolding digital
digital_is [] = refl
digital_is (d ∷ w) = digit_test d (digital w) ∙ ap (λ (b : Bool). is_ascii_digit d && b) (digital_is w)

module _ (w : List ℕ) (i : ℕ) (more : i < length w) where
  -- what stands here is a digit, or none
  pub digit_here : is_ascii_digit (get_or w i 0) ≡ true → digital (drop i w) ≡ digital (drop (i + 1) w)
  unfolding digital
  digit_here h = rw (drop-cons w i 0 more, digit_test, h, add-one i)

  pub no_digit_here : is_ascii_digit (get_or w i 0) ≡ false → digital (drop i w) ≡ false
  unfolding digital
  no_digit_here h = rw (drop-cons w i 0 more, digit_test, h)

  -- one digit more
  pub decimal-later : (n : ℕ) → decimal n (drop i w) ≡ decimal (10 * n + (get_or w i 0 - 48)) (drop (i + 1) w)
  unfolding decimal
  decimal-later n = rw (drop-cons w i 0 more, add-one i)

-- the end
module _ (w : List ℕ) (i : ℕ) (end : i ≡ length w) where
  pub digital-end : digital (drop i w) ≡ true
  unfolding digital
  digital-end = rw (end, drop-length)

  pub decimal-end : (n : ℕ) → decimal n (drop i w) ≡ n
  unfolding decimal
  decimal-end n = rw (end, drop-length)

-- more digits make no number smaller
pub decimal_grows : (n : ℕ) (w : List ℕ) → n ≤ decimal n w
unfolding decimal
decimal_grows n [] = omega arith
decimal_grows n (d ∷ w) = omega (arith, decimal_grows (10 * n + (d - 48)) w)

module _ (limit : ℕ) (w : List ℕ) where
  -- a word with another byte
  pub no_digits : digital w ≡ false → number_of limit w ≡ None
  unfolding number_of is_number
  no_digits e = rw (e, and_false)

  -- a word with no byte
  pub no_word : eqb (length w) 0 ≡ true → number_of limit w ≡ None
  unfolding number_of is_number
  no_word e = rw e

  -- a number above the limit
  pub too_large : limit < decimal 0 w → number_of limit w ≡ None
  unfolding number_of is_number
  too_large h = rw (lt-ltb limit (decimal 0 w) h, and_false, and_false)

  -- a number
  pub is-number : eqb (length w) 0 ≡ false → digital w ≡ true → (n : ℕ) → decimal 0 w ≡ n → n ≤ limit → number_of limit w ≡ Some n
  unfolding number_of is_number
  is-number some e n f h = rw (some, e, f, le-ltb limit n h)

  -- what is read is within the limit
  pub within : (n : ℕ) → Some n ≡ number_of limit w → n ≤ limit
  unfolding number_of
  within n e = by (dec_le (decimal 0 w) limit)
    where
      by : Dec (decimal 0 w ≤ limit) → n ≤ limit
      by (yes h) = omega (arith, h, (cond_some (is_number limit w) (decimal 0 w) n (sym e)).1)
      by (no f) = absurd (none-some n (sym (too_large (lt_of_not-le f)) ∙ sym e))

-- ---- with a sign

-- what does not begin with a minus
no_minus : (w : List ℕ) → ((t : List ℕ) → w ≡ 45 ∷ t → ⊥) → eqb (get_or w 0 0) 45 ≡ false
no_minus [] f = refl
no_minus (x ∷ w) f = ne_eqb x 45 (λ e. f w (ap (λ (y : ℕ). y ∷ w) e))

-- a minus, and what stands behind it
module _ (w t : List ℕ) (e : w ≡ 45 ∷ t) where
  pub minus-none : number_of 9223372036854775808 t ≡ None → signed_of w ≡ None
  unfolding signed_of
  minus-none f = rw (e, f)

  pub minus-some : (n : ℕ) → number_of 9223372036854775808 t ≡ Some n → signed_of w ≡ Some (neg_ℤ (pos n))
  unfolding signed_of
  minus-some n f = rw (e, f)

-- no minus
module _ (w : List ℕ) (no : (t : List ℕ) → w ≡ 45 ∷ t → ⊥) where
  pub plain-none : number_of 9223372036854775807 w ≡ None → signed_of w ≡ None
  unfolding signed_of
  plain-none f = rw (no_minus w no, f)

  pub plain-some : (n : ℕ) → number_of 9223372036854775807 w ≡ Some n → signed_of w ≡ Some (pos n)
  unfolding signed_of
  plain-some n f = rw (no_minus w no, f)

-- ---- digits, however many

pub in_digits_is : (w : List ℕ) → in_digits w ≡ (not (eqb (length w) 0) && list_all is_ascii_digit w)
unfolding in_digits
in_digits_is w = ap (λ (b : Bool). not (eqb (length w) 0) && b) (digital_is w)

pub digits_of_some : (w : List ℕ) → eqb (length w) 0 ≡ false → list_all is_ascii_digit w ≡ in_digits w
digits_of_some w some = rw (in_digits_is, some)

-- the digits are what stands behind a minus, or the whole word where it begins with none
pub behind_minus : (w : Bor (List ℕ)) (o : Option (Bor (List ℕ))) →
    MatchOption o ((s : List ℕ) → w.now ≡ 45 ∷ s → ⊥) (λ (x : Bor (List ℕ)). w.now ≡ 45 ∷ x.now) → in_digits (unwrap_or o w).now ≡ in_decimal w.now
unfolding in_decimal
behind_minus w None h = rw (no_minus w.now h)
behind_minus w (Some x) h = rw h
