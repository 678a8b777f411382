-- The published hundredths, by the nearest whole number.
--     published-near, published-even   at most a half away, and even where they are a half away
-- Assumes nothing.
use mathlib.Core.Path.{◌≡◌, refl, sym, ◌∙◌, ap, subst}
use mathlib.Core.Logic.{◌⊎◌, inl, inr}
use Prim.Native.Nat.{ℕ, suc, ◌+◌, ◌*◌, ◌%◌, ◌≤◌, ◌<◌}
use native.Mathlib.Omega.{arith}
use native.Mathlib.Decide.{dec_le}
use lib.IntN.{ℤ, pos, negsuc, nat_abs, ◌-ℤ◌, ◌*ℤ◌}
use Rattle.algebra.proofs.Solver.{◌⊗◌, ◌⊝◌, ⊖◌, #, ◌≐◌, ring₂, ring₃}
use Rattle.algebra.proofs.Order.{pos_sub}
use Rattle.algebra.proofs.Bounds.{abs_neg}
use Rattle.meaning.specs.Publishing.{minus, nearest, nearest_hundredths}
use Rattle.laws.proofs.Rounding.{Nearest, nearest-is, signed-size}

-- two numbers that are at most c apart
gap-most : (a b c : ℕ) → a ≤ b + c → b ≤ a + c → nat_abs (pos a -ℤ pos b) ≤ c
gap-most a b c p r = go (dec_le b a)
  where
    go : Dec (b ≤ a) → nat_abs (pos a -ℤ pos b) ≤ c
    go (yes o) = omega (arith, ap nat_abs (pos_sub a b o))
    go (no o) = omega (
      arith,
      ap nat_abs (pos_sub b a (omega arith)),
      ap nat_abs (ring₂ (λ a b. a ⊝ b ≐ ⊖ (b ⊝ a)) (pos a) (pos b) refl),
      abs_neg (pos b -ℤ pos a),
    )

-- and how far, exactly
gap-exact : (a b c : ℕ) → nat_abs (pos a -ℤ pos b) ≡ c → (a ≡ b + c) ⊎ (b ≡ a + c)
gap-exact a b c e = go (dec_le b a)
  where
    go : Dec (b ≤ a) → (a ≡ b + c) ⊎ (b ≡ a + c)
    go (yes o) = inl (omega (arith, ap nat_abs (pos_sub a b o)))
    go (no o) = inr (omega (
      arith,
      ap nat_abs (pos_sub b a (omega arith)),
      ap nat_abs (ring₂ (λ a b. a ⊝ b ≐ ⊖ (b ⊝ a)) (pos a) (pos b) refl),
      abs_neg (pos b -ℤ pos a),
    ))

-- twice the distance from the fraction to its hundredths, in the same size below zero as above
distance : (a : ℤ) (d : ℕ) → nat_abs (pos 2 *ℤ (pos 100 *ℤ a -ℤ nearest_hundredths a d *ℤ pos d)) ≡ nat_abs
    (pos (2 * (100 * nat_abs a)) -ℤ pos (2 * (nearest (100 * nat_abs a) d * d)))
distance (pos n) d = ap nat_abs (ring₃ (λ a k d. # 2 ⊗ (# 100 ⊗ a ⊝ k ⊗ d) ≐ # 2 ⊗ (# 100 ⊗ a) ⊝ # 2 ⊗ (k ⊗ d)) (pos n) (pos (nearest (100 * n) d)) (pos d) refl)
distance (negsuc n) d =
    ap nat_abs (ring₃ (λ a k d. # 2 ⊗ (# 100 ⊗ (⊖ a) ⊝ (⊖ k) ⊗ d) ≐ ⊖ (# 2 ⊗ (# 100 ⊗ a) ⊝ # 2 ⊗ (k ⊗ d))) (pos (suc n))
    (pos (nearest (100 * suc n) d)) (pos d) refl)
    ∙ abs_neg (pos (2 * (100 * suc n)) -ℤ pos (2 * (nearest (100 * suc n) d * d)))

-- the hundredths of a / d are at most a half away from 100 a / d
pub published-near : (a : ℤ) (d : ℕ) → 0 < d → nat_abs (pos 2 *ℤ (pos 100 *ℤ a -ℤ nearest_hundredths a d *ℤ pos d)) ≤ d
published-near a d l = let n = nearest-is (100 * nat_abs a) d l in
    subst (λ (z : ℕ). z ≤ d) (sym (distance a d)) (gap-most (2 * (100 * nat_abs a)) (2 * (nearest (100 * nat_abs a) d * d)) d n.above n.below)

-- where they are a half away they are even
pub published-even : (a : ℤ) (d : ℕ) → 0 < d → nat_abs (pos 2 *ℤ (pos 100 *ℤ a -ℤ nearest_hundredths a d *ℤ pos d)) ≡ d → nat_abs (nearest_hundredths a d) % 2 ≡ 0
published-even a d l e =
    ap (λ (z : ℕ). z % 2) (signed-size (minus a) (nearest (100 * nat_abs a) d))
    ∙ go (gap-exact (2 * (100 * nat_abs a)) (2 * (nearest (100 * nat_abs a) d * d)) d (sym (distance a d) ∙ e))
  where
    n : Nearest (100 * nat_abs a) d (nearest (100 * nat_abs a) d)
    n = nearest-is (100 * nat_abs a) d l

    go : (2 * (100 * nat_abs a) ≡ 2 * (nearest (100 * nat_abs a) d * d) + d) ⊎ (2 * (nearest (100 * nat_abs a) d * d) ≡ 2 * (100 * nat_abs a) + d) →
        nearest (100 * nat_abs a) d % 2 ≡ 0
    go (inl p) = n.even-above p
    go (inr p) = n.even-below p
