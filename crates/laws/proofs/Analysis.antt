-- What the totals, values, deviations and Q of a job are: the laws of `Solution` at a design's signs, in the request's names.
--     totals_cancel       the totals of a sound design add to 0
--     restraint-kept      the values keep the restraint
--     deviation_is        a deviation is the one under the exact values
--     squares_add         the squared deviations add to Q over vβ, so Q is never below 0
--     least_strict        any other values that keep the restraint have larger squares
--     hundredths-near     what hundredths near the values cost
-- Assumes nothing.
use mathlib.Core.Path.{◌≡◌, sym, ◌∙◌, ap, subst₂}
use mathlib.Core.Bool.{true}
use mathlib.Core.List.{List}
use Prim.Native.Nat.{ℕ, ◌*◌, ◌≤◌, ◌<◌}
use native.Mathlib.Nat.{mul-pos}
use native.Mathlib.Omega.{arith}
use lib.IntN.{ℤ, pos, nat_abs, ◌+ℤ◌, ◌-ℤ◌, ◌*ℤ◌}
use lib.Signed.{◌≤ℤ◌, ◌<ℤ◌}
use Rattle.algebra.specs.Ranges.{sum}
use Rattle.algebra.proofs.Order.{natural}
use Rattle.algebra.proofs.Sums.{sum_cong}
use Rattle.records.specs.declared.Head.{Head}
use Rattle.meaning.specs.Design.{objects, blocks, balanced, beta}
use Rattle.meaning.specs.Analysis.{
  sq,
  reading,
  sign,
  total,
  members,
  restrained,
  vbeta,
  numerator_of,
  denominator_of,
  difference,
  deviation_of,
  squared_readings,
  squared_totals,
  q,
  qOf,
}
use Rattle.laws.proofs.Chains.{Sound, Job}
use Rattle.laws.proofs.CountingNumbers.{parameters}
use Rattle.laws.proofs.LeastSquares.{apart, rows_cancel}
use Rattle.laws.proofs.Matrix.{signs_cancel, difference_signs, design_matrix}
use Rattle.laws.proofs.Solution.{
  members-some,
  top_kept,
  apart-values,
  squares,
  squares_Q,
  Q_nonneg,
  squares-values,
  least_Q,
  hundredths-least,
  hundredths-excess,
}

-- the sum of the squared deviations of the values a i / e, times e²
abbrev pub squares_over : Head → List ℕ → List ℤ → ℤ → (ℕ → ℤ) → ℤ
squares_over h d y e a = sum (blocks h) (λ k. sq (e *ℤ reading y k -ℤ difference h d a k))

-- the totals of a sound design add to 0, balanced or not
pub totals_cancel : (h : Head) (d : List ℕ) → Sound h d → (y : List ℤ) → sum (objects h) (total h d y) ≡ pos 0
unfolding total
totals_cancel h d s y = rows_cancel (blocks h) (objects h) (sign h d) (signs_cancel h d s) (reading y)

-- the values keep the restraint, of whatever design
pub restraint-kept : (h : Head) (d : List ℕ) (y : List ℤ) (w : ℕ) (M : ℤ) →
    restrained (objects h) w (numerator_of h d y w M) ≡ M *ℤ pos (denominator_of h d w)
unfolding numerator_of denominator_of
restraint-kept h d y w M = top_kept (objects h) (beta h d) w M (total h d y)

-- a deviation by the signs
deviation_signs : (h : Head) (d : List ℕ) → Sound h d → (y : List ℤ) (e : ℤ) (a : ℕ → ℤ) (k : ℕ) → k < blocks h →
    e *ℤ reading y k -ℤ difference h d a k ≡ apart (objects h) (sign h d) (reading y) e a k
deviation_signs h d s y e a k l = ap (λ z. e *ℤ reading y k -ℤ z) (difference_signs h d s a k l)

-- the squares by the signs
pub squares_signs : (h : Head) (d : List ℕ) → Sound h d → (y : List ℤ) (e : ℤ) (a : ℕ → ℤ) →
    squares_over h d y e a ≡ squares (blocks h) (objects h) (sign h d) (reading y) e a
squares_signs h d s y e a = sum_cong (blocks h) _ _ (λ k l. ap sq (deviation_signs h d s y e a k l))

-- a deviation over vβ is that of the reading under the exact values
pub deviation_is : (h : Head) (d : List ℕ) → Sound h d → (y : List ℤ) (w : ℕ) (M : ℤ) (k : ℕ) → k < blocks h →
    pos (members (objects h) w) *ℤ deviation_of h d y k ≡ pos (denominator_of h d w) *ℤ reading y k -ℤ difference h d (numerator_of h d y w M) k
unfolding deviation_of numerator_of denominator_of
deviation_is h d s y w M k l =
    ap (λ z. pos (members (objects h) w) *ℤ z) (deviation_signs h d s y (pos (vbeta h d)) (total h d y) k l)
    ∙ apart-values (objects h) (beta h d) (sign h d) (reading y) (total h d y) w M k (signs_cancel h d s k l)
    ∙ sym (deviation_signs h d s y (pos (denominator_of h d w)) (numerator_of h d y w M) k l)

-- what is not below 0 is its own size
own-size : (z : ℤ) → pos 0 ≤ℤ z → pos (nat_abs z) ≡ z
own-size z l = let (n, e) = natural l in ap (λ (x : ℤ). pos (nat_abs x)) (sym e) ∙ e

module _ (h : Head) (d : List ℕ) (s : Sound h d) (e : balanced h d ≡ true) where
  -- there are objects
  pub some-objects : 0 < objects h
  some-objects = omega (arith, s.sizes.n_least)

  -- vβ is above 0
  pub vbeta-some : 0 < vbeta h d
  vbeta-some = mul-pos some-objects (parameters h d s e).positive

  module _ (y : List ℤ) where
    -- Q is never below 0, so its size is all of it
    pub q_nonneg : pos (qOf h d y) ≡ q (vbeta h d) (squared_readings h y) (squared_totals h d y)
    unfolding qOf squared_readings squared_totals total
    q_nonneg = own-size (q (vbeta h d) (squared_readings h y) (squared_totals h d y))
        (Q_nonneg (blocks h) (objects h) (beta h d) (sign h d) (design_matrix h d s e) (reading y) some-objects (parameters h d s e).positive)

    -- the squared deviations add to vβ Q
    pub squares_add : sum (blocks h) (λ k. sq (deviation_of h d y k)) ≡ pos (vbeta h d) *ℤ pos (qOf h d y)
    unfolding deviation_of squared_readings squared_totals total
    squares_add =
        squares_signs h d s y (pos (vbeta h d)) (total h d y)
        ∙ squares_Q (blocks h) (objects h) (beta h d) (sign h d) (design_matrix h d s e) (reading y)
        ∙ ap (λ z. pos (vbeta h d) *ℤ z) (sym q_nonneg)

    -- the squares of the exact values, times their denominator twice, are t² vβ Q
    pub exact-over : (w : ℕ) (M : ℤ) →
        squares_over h d y (pos (denominator_of h d w)) (numerator_of h d y w M) ≡ sq (pos (members (objects h) w)) *ℤ (pos (vbeta h d) *ℤ pos (qOf h d y))
    unfolding numerator_of denominator_of squared_readings squared_totals total
    exact-over w M =
        squares_signs h d s y (pos (denominator_of h d w)) (numerator_of h d y w M)
        ∙ squares-values (blocks h) (objects h) (beta h d) (sign h d) (design_matrix h d s e) (reading y) w M
        ∙ ap (λ z. sq (pos (members (objects h) w)) *ℤ (pos (vbeta h d) *ℤ z)) (sym q_nonneg)

    module _ (w : ℕ) (M : ℤ) (t : 0 < members (objects h) w) where
      -- other values a i / b that keep the restraint have larger squares than the exact ones, which have Q over vβ
      pub least_strict : (b : ℕ) (a : ℕ → ℤ) → restrained (objects h) w a ≡ M *ℤ pos b →
          (i : ℕ) → i < objects h → (a i *ℤ pos (denominator_of h d w) ≡ numerator_of h d y w M i *ℤ pos b → ⊥) →
          (sq (pos b) *ℤ pos (qOf h d y)) <ℤ (pos (vbeta h d) *ℤ squares_over h d y (pos b) a)
      unfolding numerator_of denominator_of squared_readings squared_totals total
      least_strict b a keeps i l differs = subst₂ ◌<ℤ◌
          (ap (λ z. sq (pos b) *ℤ z) (sym q_nonneg)) (ap (λ z. pos (vbeta h d) *ℤ z) (sym (squares_signs h d s y (pos b) a)))
          (least_Q (blocks h) (objects h) (beta h d) (sign h d) (design_matrix h d s e) (reading y) some-objects
          (parameters h d s e).positive w M t b a keeps i l differs)

      -- no hundredths have smaller squares than the exact values
      pub hundredths-above : (x : ℕ → ℤ) → (pos 10000 *ℤ pos (qOf h d y)) ≤ℤ (pos (vbeta h d) *ℤ squares_over h d y (pos 100) x)
      unfolding squared_readings squared_totals total
      hundredths-above x = subst₂ ◌≤ℤ◌
          (ap (λ z. pos 10000 *ℤ z) (sym q_nonneg)) (ap (λ z. pos (vbeta h d) *ℤ z) (sym (squares_signs h d s y (pos 100) x)))
          (hundredths-least (blocks h) (objects h) (beta h d) (sign h d) (design_matrix h d s e) (reading y) some-objects
          (parameters h d s e).positive w M t x)

      -- hundredths that are at most one away from the exact values have squares at most βv²/10,000 larger
      pub hundredths-near : (x : ℕ → ℤ) →
          ((i : ℕ) → i < objects h → nat_abs (pos 100 *ℤ numerator_of h d y w M i -ℤ x i *ℤ pos (denominator_of h d w)) ≤ denominator_of h d w) →
          (pos (vbeta h d) *ℤ squares_over h d y (pos 100) x)
          ≤ℤ (pos 10000 *ℤ pos (qOf h d y) +ℤ pos (beta h d * objects h * objects h) *ℤ pos (vbeta h d))
      unfolding numerator_of denominator_of squared_readings squared_totals total
      hundredths-near x near = subst₂ ◌≤ℤ◌
          (ap (λ z. pos (vbeta h d) *ℤ z) (sym (squares_signs h d s y (pos 100) x)))
          (ap (λ z. pos 10000 *ℤ z +ℤ pos (beta h d * objects h * objects h) *ℤ pos (vbeta h d)) (sym q_nonneg))
          (hundredths-excess (blocks h) (objects h) (beta h d) (sign h d) (design_matrix h d s e) (reading y) some-objects
          (parameters h d s e).positive w M t x near)

-- the restraint set of an accepted job has a member
pub job-members : (h : Head) (d : List ℕ) (y : List ℤ) (w : ℕ) (M : ℤ) → Job h d y w M → 0 < members (objects h) w
job-members h d y w M j = members-some (objects h) w j.restraint.set-some j.restraint.set-inside

-- its denominator is above 0
pub job-denominator : (h : Head) (d : List ℕ) (y : List ℤ) (w : ℕ) (M : ℤ) → Job h d y w M → 0 < denominator_of h d w
unfolding denominator_of
job-denominator h d y w M j = mul-pos (job-members h d y w M j) (vbeta-some h d j.measures.design j.measures.even)
