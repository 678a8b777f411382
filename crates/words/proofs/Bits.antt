-- Laws of a bit: its places one by one, and the count of ones.
--     ones_sum          the count of ones is the sum of the bits
-- Assumes nothing.
use mathlib.Core.Path.{◌≡◌, refl, sym, ap, ap₂, ◌∙◌}
use mathlib.Core.Bool.{Bool, cond}
use Prim.Native.Nat.{ℕ, zero, suc, ◌+◌, ◌*◌, ◌/◌, ◌%◌, ◌^◌, ◌≤◌, ◌<◌}
use native.Mathlib.Nat.{pow-suc, pow-succ', div-div-eq-div-mul, mod-lt, zero-lt-suc, one-mul, div-one, mul-le-mul, le_of_suc-le-suc}
use native.Mathlib.Numerals.{add-one}
use native.Mathlib.Omega.{arith}
use native.Mathlib.Decide.{ℕ_discrete}
use borrow.Author.Tests.{eq-eqb, ne_eqb}
use lib.Arith.{lt-one}
use lib.Pow.{shl_exact, shr_lt}
use lib.Dec.{eqb, lit<}
use lib.Count.{ones, ones_step}
use Rattle.algebra.specs.Ranges.{sum_ℕ}
use Rattle.algebra.proofs.Sums.{sumℕ_cong, sumℕ-first}
use Rattle.meaning.specs.Analysis.{member}

-- 2 is above 0
pub two_pos : 0 < 2
two_pos = zero-lt-suc 1

-- ---- a bit

-- a bit is 0 or 1
pub bit-most : (w i : ℕ) → member w i ≤ 1
bit-most w i = le_of_suc-le-suc (mod-lt (w / 2 ^ i) two_pos)

-- the lowest bit
pub bit-zero : (w : ℕ) → member w 0 ≡ w % 2
bit-zero w = rw div-one

-- a higher bit is one of the half
pub bit-suc : (w i : ℕ) → member w (suc i) ≡ member (w / 2) i
bit-suc w i = rw (pow-succ', ← div-div-eq-div-mul)

-- no bit of 0 is 1
pub bit-none : (i : ℕ) → member 0 i ≡ 0
bit-none zero = refl
bit-none (suc i) = bit-suc 0 i ∙ bit-none i

-- half of a number of n + 1 places has n
pub half_lt : (n w : ℕ) → w < 2 ^ suc n → w / 2 < 2 ^ n
half_lt n w h = shr_lt n 1 (rw add-one h)

-- a word of n places has no bit from n on
pub bit_past : (n w i : ℕ) → w < 2 ^ n → n ≤ i → member w i ≡ 0
bit_past zero w i h l = ap (λ (x : ℕ). member x i) (lt-one h) ∙ bit-none i
bit_past (suc n) w zero h l = absurd (omega arith)
bit_past (suc n) w (suc i) h l = bit-suc w i ∙ bit_past n (w / 2) i (half_lt n w h) (omega arith)

-- so an object of it is below n
pub one_below : (n w i : ℕ) → w < 2 ^ n → member w i ≡ 1 → i < n
one_below zero w i h e = absurd (omega (arith, e, bit_past 0 w i h (omega arith)))
one_below (suc n) w zero h e = omega arith
one_below (suc n) w (suc i) h e = omega (arith, one_below n (w / 2) i (half_lt n w h) (sym (bit-suc w i) ∙ e))

-- a number with no bit is 0
none-set : (n w : ℕ) → w ≤ n → ((i : ℕ) → member w i ≡ 0) → w ≡ 0
none-set zero w l h = omega arith
none-set (suc n) w l h = omega (arith, h 0, bit-zero w, none-set n (w / 2) (omega arith) (λ i. sym (bit-suc w i) ∙ h (suc i)))

-- a number with no bit from n on has n places
pub bits_below : (n w : ℕ) → ((i : ℕ) → n ≤ i → member w i ≡ 0) → w < 2 ^ n
bits_below zero w h = omega (arith, none-set w w (omega arith) (λ i. h i (omega arith)))
bits_below (suc n) w h = omega (arith, pow-suc 2 n, bits_below n (w / 2) (λ i l. sym (bit-suc w i) ∙ h (suc i) (omega arith)))

-- ---- one place

-- 1 where i is x, and 0 otherwise
abbrev pub once : ℕ → ℕ → ℕ
once i x = cond (eqb i x) 1 0

-- it is 1
pub once-same : (i x : ℕ) → i ≡ x → once i x ≡ 1
once-same i x e = ap (λ (t : Bool). cond t 1 0) (eq-eqb i x e)

-- it is 0
pub once-other : (i x : ℕ) → (i ≡ x → ⊥) → once i x ≡ 0
once-other i x e = ap (λ (t : Bool). cond t 1 0) (ne_eqb i x e)

-- the next numbers are the same just where these are
pub once-suc : (i x : ℕ) → once (suc i) (suc x) ≡ once i x
once-suc i x = by (ℕ_discrete i x)
  where
    by : Dec (i ≡ x) → once (suc i) (suc x) ≡ once i x
    by (yes e) = once-same (suc i) (suc x) (ap suc e) ∙ sym (once-same i x e)
    by (no e) = once-other (suc i) (suc x) (λ q. e (omega arith)) ∙ sym (once-other i x e)

-- ---- the count of ones

-- 0 has no ones
pub ones_zero : ones 0 ≡ 0
unfolding ones
ones_zero = refl

-- the count of ones of a word of n places is the sum of its bits
pub ones_sum : (n w : ℕ) → w < 2 ^ n → ones w ≡ sum_ℕ n (member w)
unfolding sum_ℕ
ones_sum zero w h = ap ones (lt-one h) ∙ ones_zero
ones_sum (suc n) w h =
    ones_step w
    ∙ ap₂ (λ (x y : ℕ). x + y) (sym (bit-zero w))
    (ones_sum n (w / 2) (half_lt n w h) ∙ sumℕ_cong n (member (w / 2)) (λ (k : ℕ). member w (suc k)) (λ k l. sym (bit-suc w k)))
    ∙ sym (sumℕ-first n (member w))

-- ---- two bits, and a mask of one place

-- a product of two bits is at most 1
pub product-most : (w u i j : ℕ) → member w i * member u j ≤ 1
product-most w u i j = mul-le-mul (bit-most w i) (bit-most u j)

-- 1 << i is the word of place i alone
pub shl_one : (i : ℕ) → i ≤ 63 → (1 * 2 ^ i) % 2 ^ 64 ≡ 2 ^ i
shl_one i h = shl_exact 1 i 64 (lit< tt) (omega arith) ∙ one-mul (2 ^ i)
