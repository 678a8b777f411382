-- The range as facts, and the hundredths inside it: the root of 10,000·Q by v·beta·f. Assumes nothing.
use Rattle.std.proofs.Common.{Option}
use mathlib.Core.Path.{◌≡◌, refl, ap, ◌∙◌}
use mathlib.Core.Bool.{Bool, true, false, cond, ◌&&◌}
use Prim.Native.Nat.{ℕ, zero, suc, ◌*◌, ◌/◌, ◌^◌, ◌≤◌, ◌<◌}
use native.Mathlib.Nat.{mul-le-mul, mul-pos, div-le_self, lt_of_le_of_lt, lt_of_not-le, lt_trans}
use native.Mathlib.Decide.{dec_le}
use native.Mathlib.Omega.{arith}
use borrow.Author.Tests.{ltb-true, lt-ltb, leb-true, le-leb}
use lib.Dec.{ltb, leb, lit<}
use Rattle.algebra.proofs.Tests.{and_left, and_right, and_both}
use Rattle.meaning.specs.Design.{balanced}
use Rattle.meaning.specs.Analysis.{root, spread_hundredths, qOf, vbeta, freedom}
use mathlib.Core.List.{List}
use lib.Ieee.{Float}
use lib.IntN.{ℤ, pos}
use Rattle.records.specs.declared.Head.{Head}
use Rattle.records.specs.declared.Spreading.{Spreading}
use Rattle.records.specs.declared.Wide.{Wide}
use Rattle.records.specs.declared.Spread.{Spread}
use Rattle.meaning.specs.Publishing.{spreads, spread_of}
use Rattle.meaning.specs.Wide.{value, wide}
use Rattle.arithmetic.specs.Quotient.{quotient_of}
use Rattle.arithmetic.proofs.Exact.{quotient_is}
use Rattle.arithmetic.specs.Hundredths.{ranged, hundredths_from, spreading_from}
use Rattle.laws.proofs.Rounding.{root-largest}
use Rattle.laws.proofs.Chains.{Sound, Readings}
use Rattle.laws.proofs.Analysis.{vbeta-some}
use Rattle.laws.proofs.SizesMost.{vbeta-most, q_most}
use Rattle.arithmetic.proofs.Words.{exact}

-- ---- the range

-- the three numbers are in their range
pub record Ranged (q vbeta freedom : ℕ) : Type 0 where
  pub q_most : q < 2 ^ 83
  pub vbeta-some : 0 < vbeta
  pub vbeta-most : vbeta ≤ 2600
  pub freedom-most : freedom ≤ 83200

module _ (q s f : ℕ) where
  -- the test accepts only such numbers
  pub ranged-is : ranged q s f ≡ true → Ranged q s f
  unfolding ranged
  ranged-is e =
      let a = and_right (ltb q (2 ^ 83)) (ltb 0 s && (leb s 2600 && leb f 83200)) e in
      let b = and_right (ltb 0 s) (leb s 2600 && leb f 83200) a in
      record {
        q_most = ltb-true _ _ (and_left (ltb q (2 ^ 83)) (ltb 0 s && (leb s 2600 && leb f 83200)) e);
        vbeta-some = ltb-true _ _ (and_left (ltb 0 s) (leb s 2600 && leb f 83200) a);
        vbeta-most = leb-true _ _ (and_left (leb s 2600) (leb f 83200) b);
        freedom-most = leb-true _ _ (and_right (leb s 2600) (leb f 83200) b);
      }

  -- and all such numbers
  pub is-ranged : Ranged q s f → ranged q s f ≡ true
  unfolding ranged
  is-ranged r = and_both (lt-ltb _ _ r.q_most) (and_both (lt-ltb _ _ r.vbeta-some) (and_both (le-leb _ _ r.vbeta-most) (le-leb _ _ r.freedom-most)))

-- v·beta·f is above 0 and fits
pub product_range : (q s f : ℕ) → Ranged q s f → 0 < f → (0 < s * f) × (s * f < 2 ^ 32)
product_range q s f r l =
    (mul-pos r.vbeta-some l, omega (arith, mul-le-mul r.vbeta-most r.freedom-most))

-- ---- the hundredths

-- 10,000·Q over anything is far below what the root of the definition takes
few : (q d : ℕ) → q < 2 ^ 83 → 10000 * q / d < 4 ^ 64
few q d h =
    let most : 10000 * q < 2 ^ 97 = omega arith in
    lt_of_le_of_lt (div-le_self (10000 * q) d) (lt_trans most (lit< tt))

-- 10,000·Q is far below 2 ^ 128
pub scaled_fits : (q : ℕ) → q < 2 ^ 83 → q * 10000 < 2 ^ 120
scaled_fits q h = omega arith

-- with no freedom it is 0
pub no_freedom : (q s : ℕ) → hundredths_from q s 0 ≡ 0
unfolding hundredths_from spread_hundredths
no_freedom q s = by (ranged q s 0)
  where
    by : (t : Bool) → ◌≡◌ {A = ℕ} (cond t 0 0) 0
    by true = refl
    by false = refl

-- inside the range it is k
pub hundredths-is : (q s f : ℕ) → Ranged q s f → hundredths_from q s f ≡ spread_hundredths q s f
unfolding hundredths_from
hundredths-is q s f r = rw (is-ranged q s f r)

-- which is, with freedom, the root of the quotient
pub root_of_quotient : (q s f : ℕ) → Ranged q s f → 0 < f → hundredths_from q s f ≡ root 64 (10000 * q / (s * f))
unfolding spread_hundredths
root_of_quotient q s zero r l = absurd (omega arith)
root_of_quotient q s (suc f) r l = hundredths-is q s (suc f) r

-- outside it is 0
pub hundredths-none : (q s f : ℕ) → ranged q s f ≡ false → hundredths_from q s f ≡ 0
unfolding hundredths_from
hundredths-none q s f e = rw e

-- a number whose square is below that of another is below it
pub root_lt : (a b : ℕ) → a * a < b * b → a < b
root_lt a b h = by (dec_le b a)
  where
    by : Dec (b ≤ a) → a < b
    by (yes l) = absurd (omega (arith, mul-le-mul l l))
    by (no f) = lt_of_not-le f

-- k is an f64 exactly
small : (q s f : ℕ) → q < 2 ^ 83 → spread_hundredths q s f < 2 ^ 53
unfolding spread_hundredths
small q s zero h = omega arith
small q s (suc f) h =
    let x = 10000 * q / (s * suc f) in
    let l : x ≤ 10000 * q = div-le_self (10000 * q) (s * suc f) in
    let low : root 64 x * root 64 x ≤ x = (root-largest 64 x (few q (s * suc f) h)).0 in
    let r : root 64 x < 2 ^ 49 = root_lt (root 64 x) (2 ^ 49) (omega arith) in
    omega arith

-- so are the hundredths, always
pub hundredths-small : (q s f : ℕ) → hundredths_from q s f < 2 ^ 53
unfolding hundredths_from
hundredths-small q s f = by (ranged q s f) refl
  where
    by : (t : Bool) → ranged q s f ≡ t → cond t (spread_hundredths q s f) 0 < 2 ^ 53
    by true e = small q s f (ranged-is q s f e).q_most
    by false e = omega arith

-- ---- the enum

-- with freedom it holds the hundredths over 100
pub some-spread : (k f : ℕ) (x : Float) → k < 2 ^ 53 → 0 < f → x ≡ quotient_of (pos k) 100 → spreads x f ≡ spread_of k f
some-spread k zero x h l e = absurd (omega arith)
some-spread k (suc f) x h l e = ap (λ (y : Float). spreads y (suc f)) (e ∙ quotient_is (pos k) 100 (record { top = h; above = omega arith; bottom = omega arith }))

-- a spread is made from its hundredths and its enum
pub spreading_is : (q : Wide) (s f k : ℕ) (x : Option Spread) → k ≡ hundredths_from (value q) s f → x ≡ spread_of k f
    → ◌≡◌ {A = Spreading} (record { q = q; vbeta = s; freedom = f; hundredths = k; spread = x }) (spreading_from q s f)
spreading_is q s f k x e g = λ j. record { q = q; vbeta = s; freedom = f; hundredths = e j; spread = (g ∙ ap (λ (k : ℕ). spread_of k f) e) j }

-- ---- an accepted job

module _ (h : Head) (d : List ℕ) (s : Sound h d) (b : balanced h d ≡ true) (y : List ℤ) (r : Readings h y) where
  -- the numbers that its spread is made from are in their range
  pub spread_range : Ranged (qOf h d y) (vbeta h d) (freedom h)
  spread_range = record {
    q_most = omega (arith, q_most h d s y r b);
    vbeta-some = vbeta-some h d s b;
    vbeta-most = vbeta-most h d s b;
    freedom-most = omega (arith, s.sizes.blocks-most, s.sizes.n_least);
  }

  -- and Q is what its two words mean
  pub q_words : value (wide (qOf h d y)) ≡ qOf h d y
  q_words = exact (qOf h d y) (omega (arith, q_most h d s y r b)) refl
