-- How large the numbers of an accepted job are over the whole range of the request: they all fit 64 bits, but for 10,000 Q, and what is cast to an
-- f64 is below 2^53.
--     repeats_most                                                β(v-1) is at most b
--     total-most, restrained-most, difference-most                sums over blocks, over the restraint set, over a block
--     squared_readings_most, squared_totals_most, q_by_vbeta, ratio_most   what the spread is made from
-- What vβ bounds stands in SizesMost.
-- Assumes nothing.
use mathlib.Core.Path.{◌≡◌, refl, ap, subst}
use mathlib.Core.Bool.{true}
use mathlib.Core.List.{List}
use Prim.Native.Nat.{ℕ, ◌+◌, ◌-◌, ◌*◌, ◌/◌, ◌≤◌, ◌<◌}
use native.Mathlib.Nat.{mul-le-mul_left, mul-le-mul_right, le_of_mul-le-mul_left, mul-pos, div-add-mod'}
use native.Mathlib.Omega.{arith}
use lib.IntN.{ℤ, pos, nat_abs, ◌*ℤ◌}
use lib.Signed.{◌≤ℤ◌}
use Rattle.algebra.specs.Ranges.{sum, sum_ℕ}
use Rattle.algebra.proofs.Solver.{◌⊕◌, ◌⊝◌, ◌≐◌, ring₂}
use Rattle.algebra.proofs.Order.{le-+, pos_nonneg}
use Rattle.algebra.proofs.Sums.{sum_sq_nonneg}
use Rattle.algebra.proofs.Bounds.{abs-*, abs_sub, abs-*-le, abs_mono, abs_square, abs_sum, abs_weighted}
use Rattle.records.specs.declared.Head.{Head}
use Rattle.meaning.specs.Design.{objects, blocks, occ, left, right, balanced, beta}
use Rattle.meaning.specs.Analysis.{sq, reading, sign, total, member, members, restrained, vbeta, difference, squared_readings, squared_totals, q, qOf}
use Rattle.laws.proofs.Chains.{Sound, Readings}
use Rattle.laws.proofs.Clean.{block-once}
use Rattle.laws.proofs.Incidence.{block_size}
use Rattle.laws.proofs.Counting.{incidence}
use Rattle.laws.proofs.CountingNumbers.{parameters}
use Rattle.laws.proofs.Matrix.{difference_signs}
use Rattle.laws.proofs.Solution.{members-most}
use Rattle.laws.proofs.Analysis.{q_nonneg, vbeta-some}
use Rattle.meaning.specs.Refusals.{reading_limit}
use Rattle.laws.specs.Fits.{Fits}
use Rattle.laws.specs.Limits.{total_limit, squares_limit}

-- ---- the parameters

module _ (h : Head) (d : List ℕ) (s : Sound h d) (e : balanced h d ≡ true) where
  -- no object stands in more blocks than there are
  pub repeats_most : beta h d * (objects h - 1) ≤ blocks h
  repeats_most = fewer_than_blocks (beta h d) (objects h) (objects h - 1) h.p (blocks h)
      (omega (arith, s.sizes.n_least)) s.sizes.sides-fit (parameters h d s e).size
    where
      -- β v (v - 1) = 2 p b with 2 p at most v, so β (v - 1) is at most b
      fewer_than_blocks : (β v w p b : ℕ) → 0 < v → 2 * p ≤ v → 2 * p * b ≡ β * v * w → β * w ≤ b
      fewer_than_blocks β v w p b l m e = le_of_mul-le-mul_left {k = v} (omega (arith, e, mul-le-mul_right b m)) l

-- ---- sums

-- the sum of the squared readings, of blocks or not
pub reading_squares_most : (h : Head) (y : List ℤ) → Fits h → Readings h y → nat_abs (squared_readings h y) ≤ squares_limit
unfolding squared_readings
reading_squares_most h y s r = omega (
  arith,
  abs_sum (blocks h) (reading_limit * reading_limit) (λ k. sq (reading y k)) (λ k l. abs_square (reading y k) reading_limit (r.readings-most k l)),
  s.blocks-most,
)

module _ (h : Head) (d : List ℕ) (s : Sound h d) where
  -- a sign is at most 1
  pub sign-most : (k i : ℕ) → k < blocks h → nat_abs (sign h d k i) ≤ 1
  sign-most k i l = omega (arith, abs_sub (pos (occ i (left h d k))) (pos (occ i (right h d k))), block-once h d s k l i)

  -- the sum of f over the left of a block less that over the right, where f is at most B
  pub difference-most : (B : ℕ) (f : ℕ → ℤ) (k : ℕ) → k < blocks h → ((i : ℕ) → i < objects h → nat_abs (f i) ≤ B) → nat_abs (difference h d f k) ≤ B * 50
  difference-most B f k l most = omega (
    arith,
    ap nat_abs (difference_signs h d s f k l),
    abs_weighted (objects h) B (sign h d k) f (λ i. occ i (left h d k) + occ i (right h d k))
        (λ i o. abs_sub (pos (occ i (left h d k))) (pos (occ i (right h d k)))) most,
    mul-le-mul_left B few,
  )
    where
      few : sum_ℕ (objects h) (λ i. occ i (left h d k) + occ i (right h d k)) ≤ 50
      few = omega (
        arith,
        block_size (blocks h) (objects h) h.p (λ k i. occ i (left h d k)) (λ k i. occ i (right h d k)) (incidence h d s) k l,
        s.sizes.sides-fit,
        s.sizes.objects-most,
      )

  module _ (y : List ℤ) (r : Readings h y) where
    -- a total so far, after c blocks
    pub total_partial : (c i : ℕ) → c ≤ blocks h → nat_abs (sum c (λ k. sign h d k i *ℤ reading y k)) ≤ c * reading_limit
    total_partial c i m = abs_sum c reading_limit (λ k. sign h d k i *ℤ reading y k)
        (λ k l. abs-*-le (sign h d k i) (reading y k) 1 reading_limit (sign-most k i (omega arith)) (r.readings-most k (omega arith)))

    -- a total
    pub total-most : (i : ℕ) → nat_abs (total h d y i) ≤ total_limit
    unfolding total
    total-most i = omega (arith, total_partial (blocks h) i (omega arith), s.sizes.blocks-most)

    -- S, over the first c objects and over all
    pub restrained-most : (c w : ℕ) → c ≤ objects h → nat_abs (restrained c w (total h d y)) ≤ 50 * total_limit
    unfolding restrained members
    restrained-most c w m = omega (
      arith,
      abs_weighted c total_limit (λ i. pos (member w i)) (total h d y) (member w) (λ i l. omega arith) (λ i l. total-most i),
      members-most c w,
      s.sizes.objects-most,
    )

    -- the sum of the squared readings
    pub squared_readings_most : nat_abs (squared_readings h y) ≤ squares_limit
    squared_readings_most = reading_squares_most h y s.sizes r

    -- the sum of the squared totals
    pub squared_totals_most : nat_abs (squared_totals h d y) ≤ 50 * (total_limit * total_limit)
    unfolding squared_totals
    squared_totals_most = omega (
      arith,
      abs_sum (objects h) (total_limit * total_limit) (λ i. sq (total h d y i)) (λ i l. abs_square (total h d y i) total_limit (total-most i)),
      s.sizes.objects-most,
    )

    module _ (e : balanced h d ≡ true) where
      -- Q, by vβ
      pub q_by_vbeta : qOf h d y ≤ vbeta h d * squares_limit
      unfolding qOf squared_totals
      q_by_vbeta = omega (
        arith,
        abs_mono (q (vbeta h d) (squared_readings h y) (squared_totals h d y)) (pos (vbeta h d) *ℤ squared_readings h y)
            (subst (λ z. pos 0 ≤ℤ z) (q_nonneg h d s e y) (pos_nonneg (qOf h d y)))
            (le-+ (sum_sq_nonneg (objects h) (total h d y)) (ring₂ (λ a c. a ⊝ c ⊕ c ≐ a) (pos (vbeta h d) *ℤ squared_readings h y) (squared_totals h d y) refl)),
        abs-* (pos (vbeta h d)) (squared_readings h y),
        mul-le-mul_left (vbeta h d) squared_readings_most,
      )

      -- the ratio under the root, whatever f is
      pub ratio_most : (f : ℕ) → 0 < f → 10000 * qOf h d y / (vbeta h d * f) ≤ 10000 * squares_limit
      ratio_most f l = small (10000 * qOf h d y) (vbeta h d) f (vbeta-some h d s e) l (omega (arith, q_by_vbeta))
        where
          small : (x c f : ℕ) → 0 < c → 0 < f → x ≤ c * (10000 * squares_limit) → x / (c * f) ≤ 10000 * squares_limit
          small x c f lc lf m = le_of_mul-le-mul_left {k = c * f} (omega (arith, div-add-mod' x (c * f), m, mul-le-mul_left c lf)) (mul-pos lc lf)
