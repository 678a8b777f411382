-- The digits of a number: one digit, or those of its tenth and one more. Assumes nothing.
use mathlib.Core.Path.{◌≡◌, refl, ap, ◌∙◌}
use mathlib.Core.Bool.{Bool, true, false, cond}
use mathlib.Core.List.{List, [], ◌∷◌, ◌++◌}
use Prim.Native.Nat.{ℕ, zero, suc, ◌+◌, ◌/◌, ◌%◌, ◌^◌, ◌≤◌, ◌<◌}
use native.Mathlib.Nat.{pow-suc, div-lt_iff_lt-mul}
use native.Mathlib.Omega.{arith}
use lib.Dec.{ltb, lit<}
use borrow.Author.Tests.{ltb-false, lt-ltb, le-ltb}
use Rattle.algebra.specs.Buffers.{write}
use Rattle.algebra.proofs.Writing.{write-append}
use Rattle.meaning.specs.Text.{digits}

-- the same number under two lengths, where the digits of its tenth are the same
same_tenth : (s t n : ℕ) → (10 ≤ n → digits s (n / 10) ≡ digits t (n / 10)) → digits (suc s) n ≡ digits (suc t) n
unfolding digits
same_tenth s t n rest = by (ltb n 10) refl
  where
    by : (b : Bool) → ltb n 10 ≡ b →
        cond b ((48 + n) ∷ []) (digits s (n / 10) ++ ((48 + n % 10) ∷ [])) ≡ cond b ((48 + n) ∷ []) (digits t (n / 10) ++ ((48 + n % 10) ∷ []))
    by true e = refl
    by false e = ap (λ (x : List ℕ). x ++ ((48 + n % 10) ∷ [])) (rest (ltb-false n 10 e))

-- one more place changes nothing below 10 to the power of the places
one_more_place : (s n : ℕ) → n < 10 ^ suc s → digits (suc s) n ≡ digits (suc (suc s)) n
one_more_place zero n h = same_tenth zero 1 n (λ l. absurd (omega arith))
one_more_place (suc s) n h = same_tenth (suc s) (suc (suc s)) n (λ l. one_more_place s (n / 10) ((div-lt_iff_lt-mul (lit< tt)).1 (rw pow-suc at h)))

-- below 10 it is one digit
pub digits-one : (s n : ℕ) → n < 10 → digits (suc s) n ≡ (48 + n) ∷ []
unfolding digits
digits-one s n h = rw (lt-ltb n 10 h)

digits_split : (s n : ℕ) → 10 ≤ n → digits (suc s) n ≡ digits s (n / 10) ++ ((48 + n % 10) ∷ [])
unfolding digits
digits_split s n h = rw (le-ltb n 10 h)

-- from 10 on, the digits of the tenth and then the last one
pub digits_more : (s n : ℕ) → 10 ≤ n → n / 10 < 10 ^ suc s → digits (suc (suc s)) n ≡ digits (suc (suc s)) (n / 10) ++ ((48 + n % 10) ∷ [])
digits_more s n h l = rw (digits_split (suc s) n h, one_more_place s (n / 10) l)

-- ---- a number of 64 bits, put from a place on

module _ (o : List ℕ) (at n : ℕ) where
  -- below 10 its digit
  pub put_one_digit : n < 10 → write o at (digits 20 n) ≡ write o at ((48 + n) ∷ [])
  put_one_digit h = ap (write o at) (digits-one 19 n h)

  -- from 10 on the digits of its tenth, and then its last one
  pub put_more_digits : 10 ≤ n → n < 2 ^ 64 →
      write o at (digits 20 n) ≡ write (write o at (digits 20 (n / 10))).0 (write o at (digits 20 (n / 10))).1 ((48 + n % 10) ∷ [])
  put_more_digits h l =
      ap (write o at) (digits_more 18 n h (omega arith)) ∙ write-append o at (digits 20 (n / 10)) ((48 + n % 10) ∷ [])
