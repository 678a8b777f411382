-- The range of a standard uncertainty as facts, and its hundredths inside it: one more than the root of the quotient. Assumes nothing.
use Rattle.std.proofs.Common.{Option, None}
use mathlib.Core.Path.{◌≡◌, refl, sym, ap, ◌∙◌}
use mathlib.Core.Bool.{Bool, true, false, cond, ◌&&◌}
use mathlib.Core.List.{List}
use Prim.Native.Nat.{ℕ, zero, suc, ◌+◌, ◌-◌, ◌*◌, ◌/◌, ◌^◌, ◌≤◌, ◌<◌}
use native.Mathlib.Nat.{
  mul-le-mul,
  mul-le-mul_right,
  mul-pos,
  mod-lt,
  div-add-mod',
  div-le_self,
  div-div-eq-div-mul,
  lt_of_le_of_lt,
  lt-suc_self,
  lt_trans,
}
use native.Mathlib.Omega.{arith}
use borrow.Author.Tests.{ltb-true, lt-ltb, leb-true, le-leb}
use lib.Dec.{ltb, leb, lit<}
use lib.Ieee.{Float}
use lib.IntN.{ℤ, pos}
use Rattle.algebra.proofs.Tests.{and_left, and_right, and_both}
use Rattle.records.specs.declared.Head.{Head}
use Rattle.records.specs.declared.Uncertainty.{Uncertainty}
use Rattle.meaning.specs.Analysis.{root, qOf, vbeta, denominator_of, factor, freedom}
use Rattle.meaning.specs.Publishing.{float}
use Rattle.meaning.specs.Certificate.{states, least_over, uncertainty_hundredths, uncertainty_from}
use Rattle.laws.proofs.Rounding.{root-largest}
use Rattle.laws.proofs.Chains.{Job}
use Rattle.laws.proofs.Analysis.{job-denominator}
use Rattle.laws.proofs.SizesMost.{denominator-most}
use Rattle.laws.proofs.Variance.{factor-most}
use Rattle.arithmetic.specs.Hundredths.{ranged}
use Rattle.arithmetic.specs.Quotient.{quotient_of}
use Rattle.arithmetic.specs.Uncertainties.{stated, uncertainty_in}
use Rattle.arithmetic.proofs.Exact.{quotient_is}
use Rattle.arithmetic.proofs.Spreads.{Ranged, ranged-is, is-ranged, root_lt, spread_range}

-- ---- the range

-- the five numbers are in their range
pub record InRange (q tvb vbeta freedom factor : ℕ) : Type 0 where
  pub tvb_some : 0 < tvb
  pub tvb_most : tvb ≤ 130000
  pub factor-most : factor ≤ 51
  pub spread : Ranged q vbeta freedom

module _ (q e s f c : ℕ) where
  -- the test accepts only such numbers
  pub stated-is : stated q e s f c ≡ true → InRange q e s f c
  unfolding stated
  stated-is t =
      let a = and_left (ltb 0 e && (leb e 130000 && leb c 51)) (ranged q s f) t in
      let b = and_right (ltb 0 e) (leb e 130000 && leb c 51) a in
      record {
        tvb_some = ltb-true _ _ (and_left (ltb 0 e) (leb e 130000 && leb c 51) a);
        tvb_most = leb-true _ _ (and_left (leb e 130000) (leb c 51) b);
        factor-most = leb-true _ _ (and_right (leb e 130000) (leb c 51) b);
        spread = ranged-is q s f (and_right (ltb 0 e && (leb e 130000 && leb c 51)) (ranged q s f) t);
      }

  -- and all such numbers
  pub is-stated : InRange q e s f c → stated q e s f c ≡ true
  unfolding stated
  is-stated r =
      and_both (and_both (lt-ltb _ _ r.tvb_some) (and_both (le-leb _ _ r.tvb_most) (le-leb _ _ r.factor-most))) (is-ranged q s f r.spread)

  module _ (r : InRange q e s f c) where
    -- t·v·beta·v·beta is above 0 and fits half a word
    pub divisor_range : (0 < e * s) × (e * s < 2 ^ 32)
    divisor_range = (mul-pos r.tvb_some r.spread.vbeta-some, omega (arith, mul-le-mul r.tvb_most r.spread.vbeta-most))

    -- 10,000·Q·factor is far below 2 ^ 128
    pub scaled_most : q * (10000 * c) < 2 ^ 103
    scaled_most =
        let few : 10000 * c ≤ 510000 = omega (arith, r.factor-most) in
        let most : q ≤ 9671406556917033397649408 = omega (arith, r.spread.q_most) in
        omega (arith, mul-le-mul most few)

-- ---- the least whole number

module _ (x d : ℕ) (some : 0 < d) (few : x < 4 ^ 64) where
  -- it reaches x: its square times d is not below
  pub least_reaches : x ≤ least_over x d * least_over x d * d
  unfolding least_over
  least_reaches = by x few
    where
      by : (x : ℕ) → x < 4 ^ 64 → x ≤ least_over x d * least_over x d * d
      by zero few = omega arith
      by (suc x) few =
          let r = root-largest 64 (x / d) (lt_of_le_of_lt (div-le_self x d) (lt_trans (lt-suc_self x) few)) in
          omega (arith, div-add-mod' x d, mod-lt x some, mul-le-mul_right d r.1)

  -- and no lesser one does
  pub least-least : 0 < least_over x d → (least_over x d - 1) * (least_over x d - 1) * d < x
  unfolding least_over
  least-least = by x few
    where
      by : (x : ℕ) → x < 4 ^ 64 → 0 < least_over x d → (least_over x d - 1) * (least_over x d - 1) * d < x
      by zero few l = absurd (omega arith)
      by (suc x) few l =
          let r = root-largest 64 (x / d) (lt_of_le_of_lt (div-le_self x d) (lt_trans (lt-suc_self x) few)) in
          let e : root 64 (x / d) + 1 - 1 ≡ root 64 (x / d) = omega arith in
          rw e (omega (arith, div-add-mod' x d, mul-le-mul_right d r.0))

-- ---- the hundredths

-- of nothing
least-none : (x d : ℕ) → x ≤ 0 → least_over x d ≡ 0
unfolding least_over
least-none zero d h = refl
least-none (suc x) d h = absurd (omega arith)

-- of something, divided in two steps
least-some : (x a b : ℕ) → 0 < x → least_over x (a * b) ≡ root 64 ((x - 1) / a / b) + 1
unfolding least_over
least-some zero a b h = absurd (omega arith)
least-some (suc x) a b h =
    let e : suc x - 1 ≡ x = omega arith in
    ap (λ (n : ℕ). root 64 n + 1) (sym (ap (λ (n : ℕ). n / a / b) e ∙ div-div-eq-div-mul x a b))

-- the product as the code makes it
scaled_is : (q c : ℕ) → 10000 * q * c ≡ q * (10000 * c)
scaled_is q c = omega arith

module _ (q e s f c : ℕ) (l : 0 < f) where
  -- Q or the factor is 0
  pub hundredths-none : q * (10000 * c) ≤ 0 → uncertainty_hundredths q e s f c ≡ 0
  unfolding uncertainty_hundredths
  hundredths-none h = by f l
    where
      by : (f : ℕ) → 0 < f → uncertainty_hundredths q e s f c ≡ 0
      by zero l = absurd (omega arith)
      by (suc f) l = least-none (10000 * q * c) (e * s * suc f) (omega (arith, scaled_is q c))

  -- neither is
  pub hundredths-some : 0 < q * (10000 * c) → uncertainty_hundredths q e s f c ≡ root 64 ((q * (10000 * c) - 1) / (e * s) / f) + 1
  unfolding uncertainty_hundredths
  hundredths-some h = by f l
    where
      by : (f : ℕ) → 0 < f → uncertainty_hundredths q e s f c ≡ root 64 ((q * (10000 * c) - 1) / (e * s) / f) + 1
      by zero l = absurd (omega arith)
      by (suc f) l = ap (λ (n : ℕ). least_over n (e * s * suc f)) (scaled_is q c) ∙ least-some (q * (10000 * c)) (e * s) (suc f) h

-- a root of so little is an f64 exactly
pub root-small : (x : ℕ) → x < 2 ^ 103 → root 64 x < 2 ^ 52
root-small x h =
    let low : root 64 x * root 64 x ≤ x = (root-largest 64 x (lt_trans h (lit< tt))).0 in
    root_lt (root 64 x) (2 ^ 52) (omega arith)

-- so are the hundredths
pub hundredths-small : (q e s f c : ℕ) → InRange q e s f c → 0 < f → uncertainty_hundredths q e s f c < 2 ^ 53
hundredths-small q e s f c r l = by (q * (10000 * c)) refl
  where
    by : (x : ℕ) → q * (10000 * c) ≡ x → uncertainty_hundredths q e s f c < 2 ^ 53
    by zero h = omega (arith, hundredths-none q e s f c l (omega arith))
    by (suc x) h =
        let y = (q * (10000 * c) - 1) / (e * s) / f in
        let under : y ≤ q * (10000 * c) = omega (arith, div-le_self ((q * (10000 * c) - 1) / (e * s)) f, div-le_self (q * (10000 * c) - 1) (e * s)) in
        omega (arith, hundredths-some q e s f c l (omega arith), root-small y (omega (arith, scaled_most q e s f c r)))

-- ---- the enum

-- with no freedom none is stated
pub none_free : (q e s c : ℕ) → uncertainty_in q e s 0 c ≡ None
unfolding uncertainty_in
none_free q e s c = by (stated q e s 0 c)
  where
    by : (t : Bool) → ◌≡◌ {A = Option Uncertainty} (cond t None None) None
    by true = refl
    by false = refl

-- outside the range none is
pub none_outside : (q e s f c : ℕ) → stated q e s f c ≡ false → uncertainty_in q e s f c ≡ None
unfolding uncertainty_in
none_outside q e s f c t = rw t

-- inside it is the definition's
pub uncertainty_is : (q e s f c : ℕ) → InRange q e s f c → uncertainty_in q e s f c ≡ uncertainty_from q e s f c
unfolding uncertainty_in
uncertainty_is q e s f c r = rw (is-stated q e s f c r)

-- with freedom it holds the hundredths, and these over 100
pub some-stated : (q e s f c u : ℕ) (x : Float) → InRange q e s f c → 0 < f → u ≡ uncertainty_hundredths q e s f c → x ≡ quotient_of (pos u) 100
    → states u x ≡ uncertainty_in q e s f c
some-stated q e s zero c u x r l g h = absurd (omega arith)
some-stated q e s (suc f) c u x r l g h =
    let small : u < 2 ^ 53 = omega (arith, hundredths-small q e s (suc f) c r l) in
    ap (λ (y : Float). states u y) (h ∙ quotient_is (pos u) 100 (record { top = small; above = omega arith; bottom = omega arith }))
    ∙ ap (λ (n : ℕ). states n (float (pos n) 100)) g ∙ sym (uncertainty_is q e s (suc f) c r)

-- ---- an accepted job

-- the numbers that the standard uncertainty of its object i is made from are in their range
pub job_in_range : (h : Head) (d : List ℕ) (y : List ℤ) (w : ℕ) (M : ℤ) → Job h d y w M → (i : ℕ) →
    InRange (qOf h d y) (denominator_of h d w) (vbeta h d) (freedom h) (factor h w i)
job_in_range h d y w M j i = let m = j.measures in record {
  tvb_some = job-denominator h d y w M j;
  tvb_most = denominator-most h d m.design m.even w;
  factor-most = omega (arith, factor-most h w i, m.design.sizes.objects-most);
  spread = spread_range h d m.design m.even y m.readings;
}
