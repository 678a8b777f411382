-- How long the text of a number is at most, each line of the listing (its word, its numbers, a newline), and lines one after the other. Only a
-- deviation's line needs bounds of its numbers to be short. Assumes nothing.
use Rattle.std.proofs.Common.{Some, Option, None}
use mathlib.Core.Bool.{Bool, true, false, cond}
use mathlib.Core.Path.{◌≡◌, refl}
use mathlib.Core.List.{List, [], ◌∷◌, ◌++◌}
use Prim.Native.Nat.{ℕ, zero, suc, ◌+◌, ◌*◌, ◌/◌, ◌%◌, ◌^◌, ◌≤◌, ◌<◌}
use native.Mathlib.Nat.{pow-suc, div-lt_iff_lt-mul, suc-mul}
use native.Mathlib.Omega.{arith}
use lib.Dec.{ltb, lit<}
use lib.IntN.{ℤ, pos, negsuc}
use lib.ListN.{length, length-append}
use borrow.Author.Tests.{ltb-false}
use Rattle.records.specs.declared.Parameters.{Parameters}
use Rattle.records.specs.declared.Spread.{Spread}
use Rattle.records.specs.declared.Spreading.{Spreading}
use Rattle.records.specs.declared.Wide.{Wide}
use Rattle.meaning.specs.Wide.{value}
use Rattle.meaning.specs.Text.{ascii, digits, spaced, wide_text, signed_text, each, line, design_line, value_line, dev_line, last_word, spread_line}

-- one digit more than the tenth has
one-longer : (s k n : ℕ) → (10 ≤ n → length (digits s (n / 10)) ≤ k) → length (digits (suc s) n) ≤ suc k
unfolding digits
one-longer s k n rest = by (ltb n 10) refl
  where
    by : (b : Bool) → ltb n 10 ≡ b → length (cond b ((48 + n) ∷ []) (digits s (n / 10) ++ ((48 + n % 10) ∷ []))) ≤ suc k
    by true e = omega arith
    by false e = rw length-append (omega (arith, rest (ltb-false n 10 e)))

-- as many digits as there are places, at most
digits_places : (s n : ℕ) → length (digits s n) ≤ s
unfolding digits
digits_places zero n = omega arith
digits_places (suc s) n = one-longer s s n (λ l. digits_places s (n / 10))

-- as many digits as the power of ten that the number is below, at most
digits_power : (s k n : ℕ) → n < 10 ^ suc k → length (digits (suc s) n) ≤ suc k
digits_power zero k n h = omega (arith, digits_places 1 n)
digits_power (suc s) zero n h = one-longer (suc s) zero n (λ l. absurd (omega arith))
digits_power (suc s) (suc k) n h = one-longer (suc s) (suc k) n (λ l. digits_power s k (n / 10) ((div-lt_iff_lt-mul (lit< tt)).1 (rw pow-suc at h)))

-- below 10 to the power k + 1 a number has at most k + 1 digits, and its text one byte more
pub spaced-length : (k n : ℕ) → n < 10 ^ suc k → length (spaced n) ≤ k + 2
spaced-length k n h = omega (arith, digits_power 19 k n h)

-- the text of any number
pub spaced-most : (n : ℕ) → length (spaced n) ≤ 21
spaced-most n = omega (arith, digits_places 20 n)

-- the text of any number of two words
pub wide-most : (w : Wide) → length (wide_text w) ≤ 40
wide-most w = omega (arith, digits_places 39 (value w))

-- the text of any signed number
pub signed-most : (x : ℤ) → length (signed_text x) ≤ 22
signed-most (pos n) = omega (arith, digits_places 20 n)
signed-most (negsuc n) = omega (arith, digits_places 20 (suc n))

-- n lines of at most m bytes each
pub each-length : (n m : ℕ) (f : ℕ → List ℕ) → ((i : ℕ) → i < n → length (f i) ≤ m) → length (each n f) ≤ n * m
unfolding each
each-length zero m f h = omega arith
each-length (suc n) m f h = rw (length-append, suc-mul) (omega (arith, each-length n m f (λ i l. h i (omega arith)), h n (omega arith)))

-- the parameters
pub design-length : (p : Parameters) → length (design_line p) ≤ 133
unfolding ascii
design-length p = simp length-append
    (omega (arith, spaced-most p.v, spaced-most p.b, spaced-most p.r, spaced-most p.p, spaced-most p.l1, spaced-most p.l2))

-- a value
pub value-length : (i : ℕ) (a : ℤ) (d : ℕ) (hundredths : ℤ) → length (value_line i a d hundredths) ≤ 92
unfolding ascii
value-length i a d hundredths = simp length-append (omega (arith, spaced-most i, signed-most a, spaced-most d, signed-most hundredths))

-- a deviation, of a block of at most m + 1 digits and a denominator of at most n + 1
pub dev_length : (m n k : ℕ) (a : ℤ) (d : ℕ) → k < 10 ^ suc m → d < 10 ^ suc n → length (dev_line k a d) ≤ m + n + 30
unfolding ascii
dev_length m n k a d block denominator = simp length-append (omega (arith, spaced-length m k block, signed-most a, spaced-length n d denominator))

last-length : (s : Option Spread) (k : ℕ) → length (last_word s k) ≤ 21
unfolding ascii
last-length (Some spread) k = spaced-most k
last-length None k = omega arith

-- the spread
pub spread-length : (s : Spreading) → length (spread_line s) ≤ 110
unfolding ascii
spread-length s = simp length-append
    (omega (arith, wide-most s.q, spaced-most s.vbeta, spaced-most s.freedom, last-length s.spread s.hundredths))

-- a refusal
pub refused-length : (k place : ℕ) → length (line "refused" (spaced k ++ spaced place)) ≤ 50
unfolding ascii
refused-length k place = simp length-append (omega (arith, spaced-most k, spaced-most place))
