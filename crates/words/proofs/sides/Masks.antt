-- The ones that are left of a word under a mask of one or two places.
--     place-left        under a mask of one place the bit is left
--     pair_byte         under a mask of two places every one is left just where both bits are 1
-- Assumes nothing.
use mathlib.Core.Path.{◌≡◌, refl, sym, ap, ap₂, ◌∙◌}
use Prim.Native.Nat.{ℕ, zero, suc, ◌+◌, ◌*◌, ◌/◌, ◌%◌, ◌^◌, ◌≤◌, ◌<◌, min}
use native.Mathlib.Nat.{pow-suc, mod-lt, zero-mul, mul-mod_left, mul-div_cancel}
use native.Mathlib.Omega.{arith}
use native.Mathlib.Decide.{ℕ_discrete}
use lib.Arith.{digits_div, digits_mod}
use lib.Bits.{bit_and, bit_or, and_step, and_zero_r, or_zero_r, or_self, and_self, or_comm, or_mod, or_shr}
use lib.Count.{ones, ones_step}
use lib.Dec.{eqb}
use mathlib.Core.Bool.{Bool, true, false, false≢true}
use borrow.Author.Tests.{eqb-true, eq-eqb}
use mir.Val.{bool_byte}
use Rattle.meaning.specs.Analysis.{member}
use Rattle.words.proofs.Bits.{two_pos, ones_zero, bit-most, bit-zero, bit-suc, shl_one}

-- ---- under a mask

-- the lowest place of both, and the rest
ones_and : (w m : ℕ) → ones (bit_and w m) ≡ min (w % 2) (m % 2) + ones (bit_and (w / 2) (m / 2))
ones_and w m =
    ap ones (and_step w m) ∙ ones_step (bit_and (w / 2) (m / 2) * 2 + min (w % 2) (m % 2))
    ∙ ap₂ (λ (x y : ℕ). x + ones y) (digits_mod (bit_and (w / 2) (m / 2)) low) (digits_div (bit_and (w / 2) (m / 2)) low)
  where
    low : min (w % 2) (m % 2) < 2
    low = omega (arith, mod-lt w two_pos)

-- half of a power of 2 is the power below
pow_half : (i : ℕ) → 2 ^ suc i / 2 ≡ 2 ^ i
pow_half i = rw pow-suc (mul-div_cancel (2 ^ i) two_pos)

-- a power of 2 above 1 is even
pow_even : (i : ℕ) → 2 ^ suc i % 2 ≡ 0
pow_even i = rw pow-suc (mul-mod_left (2 ^ i) 2)

-- under a mask of one place the bit is left
ones_one : (i w : ℕ) → ones (bit_and w (2 ^ i)) ≡ member w i
ones_one zero w = ones_and w 1 ∙ rw (and_zero_r, ones_zero) (omega (arith, bit-zero w))
ones_one (suc i) w = rw (ones_and, pow_half, pow_even, ones_one i (w / 2), bit-suc) (omega arith)

-- the lowest place under a mask made of two, and the rest
ones_and_or : (w a b : ℕ) → ones (bit_and w (bit_or a b)) ≡ min (w % 2) (bit_or (a % 2) (b % 2)) + ones (bit_and (w / 2) (bit_or (a / 2) (b / 2)))
ones_and_or w a b = ones_and w (bit_or a b) ∙ ap₂ (λ (x y : ℕ). min (w % 2) x + ones (bit_and (w / 2) y)) (or_mod a b 1) (or_shr a b 1)

-- under a mask of two places both bits are left
ones_two : (i j w : ℕ) → (i ≡ j → ⊥) → ones (bit_and w (bit_or (2 ^ i) (2 ^ j))) ≡ member w i + member w j
ones_two zero zero w h = absurd (h refl)
ones_two zero (suc j) w h = rw (ones_and_or, pow_half, pow_even, ones_one j (w / 2), bit-suc) (omega (arith, bit-zero w))
ones_two (suc i) zero w h = rw (ones_and_or, pow_half, pow_even, or_zero_r, ones_one i (w / 2), bit-suc) (omega (arith, bit-zero w))
ones_two (suc i) (suc j) w h =
    rw (ones_and_or, pow_half i, pow_half j, pow_even i, pow_even j, ones_two i j (w / 2) (λ e. h (ap suc e)), bit-suc w i, bit-suc w j) (omega arith)

-- the power of a place has the bit of that place
bit_pow : (i : ℕ) → member (2 ^ i) i ≡ 1
bit_pow zero = refl
bit_pow (suc i) = rw (bit-suc, pow_half) (bit_pow i)

-- a bit of a mask made of two
bit_or_lem : (a b k : ℕ) → member (bit_or a b) k ≡ bit_or (member a k) (member b k)
bit_or_lem a b k = ap (λ (x : ℕ). x % 2) (or_shr a b k) ∙ or_mod (a / 2 ^ k) (b / 2 ^ k) 1

-- a bit that is 1 in one of two masks is 1 in both together
or_one : (x : ℕ) → x ≤ 1 → bit_or 1 x ≡ 1
or_one zero h = refl
or_one (suc zero) h = refl
or_one (suc (suc x)) h = absurd (omega arith)

-- a mask of two places has two ones
ones_pair : (i j : ℕ) → (i ≡ j → ⊥) → ones (bit_or (2 ^ i) (2 ^ j)) ≡ 2
ones_pair i j h =
    ap ones (sym (and_self (bit_or (2 ^ i) (2 ^ j)))) ∙ ones_two i j (bit_or (2 ^ i) (2 ^ j)) h
    ∙ ap₂ (λ (x y : ℕ). x + y) (first i j) (ap (λ (x : ℕ). member x j) (or_comm (2 ^ i) (2 ^ j)) ∙ first j i)
  where
    first : (i j : ℕ) → member (bit_or (2 ^ i) (2 ^ j)) i ≡ 1
    first i j = rw (bit_or_lem, bit_pow) (or_one (member (2 ^ j) i) (bit-most (2 ^ j) i))

-- a mask of one place has a single one
ones_pow : (i : ℕ) → ones (2 ^ i) ≡ 1
ones_pow i = ap ones (sym (and_self (2 ^ i))) ∙ ones_one i (2 ^ i) ∙ bit_pow i

-- ---- products of two bits

-- two bits that are both 1
product_full : (x y : ℕ) → x ≤ 1 → y ≤ 1 → x + y ≡ 2 → 1 ≡ x * y
product_full x y hx hy e =
    let ex : x ≡ 1 = omega arith in
    let ey : y ≡ 1 = omega arith in
    rw (ex, ey)

-- two bits of which one is 0
product-part : (x y : ℕ) → x ≤ 1 → y ≤ 1 → (x + y ≡ 2 → ⊥) → 0 ≡ x * y
product-part zero y hx hy e = sym (zero-mul y)
product-part (suc zero) y hx hy e = omega (arith, e)
product-part (suc (suc x)) y hx hy e = omega arith

-- ---- masks as the code makes them

-- under 1 << i the bit is left
pub place-left : (w i : ℕ) → i ≤ 63 → ones (bit_and w ((1 * 2 ^ i) % 2 ^ 64)) ≡ member w i
place-left w i h = rw (shl_one i h) (ones_one i w)

-- (1 << i) | (1 << j)
abbrev pair_mask : ℕ → ℕ → ℕ
pair_mask i j = bit_or ((1 * 2 ^ i) % 2 ^ 64) ((1 * 2 ^ j) % 2 ^ 64)

module _ (w i j : ℕ) (hi : i ≤ 63) (hj : j ≤ 63) where
  -- under the mask of a pair of one place
  at_one : i ≡ j → (ones (bit_and w (pair_mask i j)) ≡ member w i) × (ones (pair_mask i j) ≡ 1)
  at_one q = rw (shl_one i hi, shl_one j hj, ← q, or_self) (ones_one i w, ones_pow i)

  -- under the mask of a pair of two places
  at-two : (i ≡ j → ⊥) → (ones (bit_and w (pair_mask i j)) ≡ member w i + member w j) × (ones (pair_mask i j) ≡ 2)
  at-two q = rw (shl_one i hi, shl_one j hj) (ones_two i j w q, ones_pair i j q)

  -- every one of the pair is left: both bits are 1
  pair_full : ones (bit_and w (pair_mask i j)) ≡ ones (pair_mask i j) → 1 ≡ member w i * member w j
  pair_full e = by (ℕ_discrete i j)
    where
      by : Dec (i ≡ j) → 1 ≡ member w i * member w j
      by (yes q) = product_full (member w i) (member w j) (bit-most w i) (bit-most w j) (omega (arith, at_one q, e, ap (member w) q))
      by (no q) = product_full (member w i) (member w j) (bit-most w i) (bit-most w j) (omega (arith, at-two q, e))

  -- not every one of the pair is left: one of the bits is 0
  pair-part : (ones (bit_and w (pair_mask i j)) ≡ ones (pair_mask i j) → ⊥) → 0 ≡ member w i * member w j
  pair-part f = by (ℕ_discrete i j)
    where
      by : Dec (i ≡ j) → 0 ≡ member w i * member w j
      by (yes q) = product-part (member w i) (member w j) (bit-most w i) (bit-most w j) (λ s. f (omega (arith, at_one q, s, ap (member w) q)))
      by (no q) = product-part (member w i) (member w j) (bit-most w i) (bit-most w j) (λ s. f (omega (arith, at-two q, s)))

  -- 1 where every one of the pair is left, and 0 otherwise
  pub pair_byte : bool_byte (eqb (ones (bit_and w (pair_mask i j))) (ones (pair_mask i j))) ≡ member w i * member w j
  pair_byte = go (eqb (ones (bit_and w (pair_mask i j))) (ones (pair_mask i j))) refl
    where
      go : (b : Bool) → eqb (ones (bit_and w (pair_mask i j))) (ones (pair_mask i j)) ≡ b → bool_byte b ≡ member w i * member w j
      go true e = pair_full (eqb-true _ _ e)
      go false e = pair-part (λ q. false≢true (sym e ∙ eq-eqb _ _ q))
