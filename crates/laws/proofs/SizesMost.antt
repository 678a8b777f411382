-- How large the numbers of an accepted job are, from the bound on vβ.
--     vbeta-most                                         vβ is at most 2,600, since β(v-1) is at most b
--     numerator-most, denominator-most, deviation_most   what is listed
--     q_most, q_in_range, hundredths-most                what the spread is made from
--     published-most                                     published hundredths
-- Assumes nothing.
use mathlib.Core.Path.{◌≡◌, refl, ap}
use mathlib.Core.Bool.{true}
use mathlib.Core.List.{List}
use Prim.Native.Nat.{ℕ, zero, suc, ◌+◌, ◌-◌, ◌*◌, ◌^◌, ◌≤◌, ◌<◌}
use native.Mathlib.Nat.{mul-le-mul, mul-le-mul_left, le_of_mul-le-mul_left}
use native.Mathlib.Omega.{arith}
use native.Mathlib.Decide.{dec_lt}
use borrow.Author.Tests.{ltb-true}
use lib.IntN.{ℤ, pos, nat_abs, ◌-ℤ◌, ◌*ℤ◌}
use Rattle.algebra.proofs.Bounds.{abs-+, abs_sub, abs-*-le}
use Rattle.records.specs.declared.Head.{Head}
use Rattle.meaning.specs.Design.{objects, blocks, balanced, beta}
use Rattle.meaning.specs.Analysis.{reading, total, members, restrained, vbeta, numerator_of, denominator_of, difference, deviation_of, qOf, freedom, spread_hundredths, spread_hundredths_of}
use Rattle.meaning.specs.Publishing.{published}
use Rattle.laws.proofs.Chains.{Sound, Readings, Job}
use Rattle.laws.proofs.Solution.{members-most}
use Rattle.laws.proofs.Analysis.{vbeta-some}
use Rattle.meaning.specs.Refusals.{reading_limit, sum_limit}
use Rattle.laws.specs.Limits.{total_limit, squares_limit, qLimit, numerator_limit}
use Rattle.laws.proofs.Rounding.{spread-largest}
use Rattle.laws.proofs.Column.{published-size}
use Rattle.laws.proofs.Sizes.{repeats_most, total-most, restrained-most, difference-most, q_by_vbeta}

module _ (h : Head) (d : List ℕ) (s : Sound h d) (e : balanced h d ≡ true) where
  -- vβ is at most 2,600
  pub vbeta-most : vbeta h d ≤ 2600
  vbeta-most = go (beta h d) (objects h) (objects h - 1) (omega (arith, s.sizes.n_least)) (omega (arith, s.sizes.n_least))
      (omega (arith, repeats_most h d s e, s.sizes.blocks-most))
    where
      go : (β v w : ℕ) → v ≡ w + 1 → 1 ≤ w → β * w ≤ 1300 → v * β ≤ 2600
      go β v w a b c = omega (arith, ap (λ (z : ℕ). z * β) a, mul-le-mul_left β b)

  -- a denominator is at most 130,000
  pub denominator-most : (w : ℕ) → denominator_of h d w ≤ 130000
  unfolding denominator_of
  denominator-most w =
      let t : members (objects h) w ≤ 50 = omega (arith, members-most (objects h) w, s.sizes.objects-most) in
      omega (arith, mul-le-mul t vbeta-most)

module _ (h : Head) (d : List ℕ) (s : Sound h d) (y : List ℤ) (r : Readings h y) (e : balanced h d ≡ true) where
  -- a value's numerator
  pub numerator-most : (w : ℕ) (M : ℤ) (i : ℕ) → nat_abs M ≤ sum_limit → nat_abs (numerator_of h d y w M i) ≤ numerator_limit
  unfolding numerator_of
  numerator-most w M i m =
      let t : members (objects h) w ≤ 50 = omega (arith, members-most (objects h) w, s.sizes.objects-most) in
      omega (
        arith,
        abs-+ (pos (members (objects h) w) *ℤ total h d y i -ℤ restrained (objects h) w (total h d y)) (pos (vbeta h d) *ℤ M),
        abs_sub (pos (members (objects h) w) *ℤ total h d y i) (restrained (objects h) w (total h d y)),
        abs-*-le (pos (members (objects h) w)) (total h d y i) 50 total_limit t (total-most h d s y r i),
        restrained-most h d s y r (objects h) w (omega arith),
        abs-*-le (pos (vbeta h d)) M 2600 sum_limit (vbeta-most h d s e) m,
      )

  -- a deviation's numerator
  pub deviation_most : (k : ℕ) → k < blocks h → nat_abs (deviation_of h d y k) ≤ 2600 * reading_limit + 50 * total_limit
  unfolding deviation_of
  deviation_most k l = omega (
    arith,
    abs_sub (pos (vbeta h d) *ℤ reading y k) (difference h d (total h d y) k),
    abs-*-le (pos (vbeta h d)) (reading y k) 2600 reading_limit (vbeta-most h d s e) (r.readings-most k l),
    difference-most h d s total_limit (total h d y) k l (λ i m. total-most h d s y r i),
  )

  -- Q
  pub q_most : qOf h d y ≤ qLimit
  q_most = omega (arith, q_by_vbeta h d s y r e, vbeta-most h d s e)

  -- 10,000 Q is in the range of the root
  pub q_in_range : 10000 * qOf h d y < 4 ^ 64
  q_in_range = under (10000 * qOf h d y) (10000 * qLimit) (omega (arith, q_most)) (ltb-true (10000 * qLimit) (4 ^ 64) refl)
    where
      under : (a b : ℕ) {c : ℕ} → a ≤ b → b < c → a < c
      under a b l m = omega arith

  -- k of the job
  pub hundredths-most : spread_hundredths_of h d y ≤ 721110255092
  unfolding spread_hundredths_of spread_hundredths
  hundredths-most = go (freedom h)
    where
      least : (k x c f : ℕ) → 0 < c → 0 < f → k * k * c * f ≤ x → x ≤ c * (10000 * squares_limit) → k ≤ 721110255092
      least k x c f lc lf a b = root_of k (le_of_mul-le-mul_left {k = c} (omega (arith, a, b, mul-le-mul_left (k * k * c) lf)) lc)
        where
          root_of : (k : ℕ) → k * k ≤ 10000 * squares_limit → k ≤ 721110255092
          root_of k m = choose (dec_lt 721110255092 k)
            where
              choose : Dec (721110255092 < k) → k ≤ 721110255092
              choose (yes o) = let o' : 721110255093 ≤ k = omega arith in omega (arith, mul-le-mul o' o')
              choose (no o) = omega arith

      go : (f : ℕ) → spread_hundredths (qOf h d y) (vbeta h d) f ≤ 721110255092
      go zero = omega arith
      go (suc f) = least (spread_hundredths (qOf h d y) (vbeta h d) (suc f)) (10000 * qOf h d y) (vbeta h d) (suc f) (vbeta-some h d s e) (omega arith)
          (spread-largest (qOf h d y) (vbeta h d) (suc f) (vbeta-some h d s e) (omega arith) q_in_range).0 (omega (arith, q_by_vbeta h d s y r e))

-- published hundredths
pub published-most : (h : Head) (d : List ℕ) (y : List ℤ) (w : ℕ) (M : ℤ) → Job h d y w M → (i : ℕ) → nat_abs (published h d y w M i) ≤ 100 * numerator_limit + 1
published-most h d y w M j i = omega (
  arith,
  published-size h d y w M j i,
  numerator-most h d j.measures.design y j.measures.readings j.measures.even w M i j.restraint.sum-most,
)
