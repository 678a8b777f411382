-- The two roundings of a job: hundredths to the nearest, an exact half to the even one, and the root downwards.
--     nearest-is, nearest_determined   what the nearest whole number is, and that nothing else is; the hundredths by it are in RoundingPublished
--     root-largest, spread-largest     the root, and k of a job
-- Assumes nothing.
use mathlib.Core.Path.{◌≡◌, refl, sym, ◌∙◌, ap, ap₂, subst}
use mathlib.Core.Bool.{Bool, true, false, cond}
use Prim.Native.Nat.{ℕ, zero, suc, ◌+◌, ◌-◌, ◌*◌, ◌/◌, ◌%◌, ◌^◌, ◌≤◌, ◌<◌}
use native.Mathlib.Nat.{mod-lt, div-add-mod', mul-le-mul, mul-le-mul_right, mul-pos}
use native.Mathlib.Omega.{arith}
use native.Mathlib.Decide.{dec_lt, dec_le}
use lib.Dec.{ltb, leb}
use lib.IntN.{ℤ, pos, nat_abs, ◌-ℤ◌, ◌*ℤ◌}
use lib.Pow.{pow-add}
use borrow.Author.Tests.{lt-ltb, le-ltb, le-leb, lt-leb}
use Rattle.algebra.proofs.Solver.{◌⊗◌, ◌⊝◌, ⊖◌, #, ◌≐◌, ring₃}
use Rattle.algebra.proofs.Bounds.{abs-*, abs_neg}
use Rattle.meaning.specs.Publishing.{signed, nearest}
use Rattle.meaning.specs.Analysis.{root, spread_hundredths}

-- ---- the nearest whole number

-- n is nearest to a / d: at most a half away, and even where it is a half away
pub record Nearest (a d n : ℕ) : Type 0 where
  pub above : 2 * a ≤ 2 * (n * d) + d
  pub below : 2 * (n * d) ≤ 2 * a + d
  pub even-above : 2 * a ≡ 2 * (n * d) + d → n % 2 ≡ 0
  pub even-below : 2 * (n * d) ≡ 2 * a + d → n % 2 ≡ 0

-- `nearest` is
pub nearest-is : (a d : ℕ) → 0 < d → Nearest a d (nearest a d)
nearest-is a d l = go (dec_lt (2 * (a % d)) d) (dec_lt d (2 * (a % d)))
  where
    parts : a ≡ a / d * d + a % d
    parts = sym (div-add-mod' a d)

    small : a % d < d
    small = mod-lt a l

    go : Dec (2 * (a % d) < d) → Dec (d < 2 * (a % d)) → Nearest a d (nearest a d)
    go (yes o) z = subst (Nearest a d)
        (sym (ap (λ (t : Bool). cond t (a / d) (cond (ltb d (2 * (a % d))) (a / d + 1) (a / d + a / d % 2))) (lt-ltb _ _ o))) (record {
          above = omega (arith, parts);
          below = omega (arith, parts);
          even-above = λ e. omega (arith, parts, e);
          even-below = λ e. omega (arith, parts, e);
        })
    go (no o) (yes z) = subst (Nearest a d)
        (sym (ap₂ (λ (t u : Bool). cond t (a / d) (cond u (a / d + 1) (a / d + a / d % 2))) (le-ltb (2 * (a % d)) d (omega arith)) (lt-ltb _ _ z))) (record {
          above = omega (arith, parts, small);
          below = omega (arith, parts, small);
          even-above = λ e. omega (arith, parts, small, e);
          even-below = λ e. omega (arith, parts, small, e);
        })
    go (no o) (no z) = subst (Nearest a d)
        (sym (ap₂ (λ (t u : Bool). cond t (a / d) (cond u (a / d + 1) (a / d + a / d % 2))) (le-ltb (2 * (a % d)) d (omega arith))
        (le-ltb d (2 * (a % d)) (omega arith)))) (half (a / d) (a / d % 2) parts even bit)
      where
        bit : a / d % 2 ≤ 1
        bit = omega (arith, mod-lt (a / d) {m = 2} (omega arith))

        even : (a / d + a / d % 2) % 2 ≡ 0
        even = omega arith

        half : (q e : ℕ) → a ≡ q * d + a % d → (q + e) % 2 ≡ 0 → e ≤ 1 → Nearest a d (q + e)
        half q zero p ev b = record { above = omega (arith, p); below = omega (arith, p); even-above = λ u. ev; even-below = λ u. ev }
        half q (suc zero) p ev b = record { above = omega (arith, p); below = omega (arith, p); even-above = λ u. ev; even-below = λ u. ev }
        half q (suc (suc e)) p ev b = absurd (none e b)
          where
            none : (e : ℕ) → suc (suc e) ≤ 1 → ⊥
            none e b = omega arith

-- and there is no other
pub nearest_determined : (a d m n : ℕ) → 0 < d → Nearest a d m → Nearest a d n → m ≡ n
nearest_determined a d m n l x y = go (dec_lt m n) (dec_lt n m)
  where
    -- of two, the greater would be one more, with a / d half way between, and both even
    apart : (m n : ℕ) → Nearest a d m → Nearest a d n → m < n → ⊥
    apart m n x y o = far (n - m - 1) (omega arith)
      where
        far : (g : ℕ) → n ≡ m + 1 + g → ⊥
        far zero e = omega (
          arith,
          x.above,
          y.below,
          ap (λ (z : ℕ). z * d) e,
          x.even-above (omega (arith, x.above, y.below, ap (λ (z : ℕ). z * d) e)),
          y.even-below (omega (arith, x.above, y.below, ap (λ (z : ℕ). z * d) e)),
        )
        far (suc g) e = omega (arith, x.above, y.below, ap (λ (z : ℕ). z * d) e, l)

    go : Dec (m < n) → Dec (n < m) → m ≡ n
    go (yes o) z = absurd (apart m n x y o)
    go (no o) (yes z) = absurd (apart n m y x z)
    go (no o) (no z) = omega arith

-- ---- hundredths

-- the same distance as a difference of two fractions has it: x hundredths less a / d, over 100 d
pub twice-apart : (a x : ℤ) (d : ℕ) → nat_abs (pos 2 *ℤ (pos 100 *ℤ a -ℤ x *ℤ pos d)) ≡ 2 * nat_abs (x *ℤ pos d -ℤ a *ℤ pos 100)
twice-apart a x d =
    abs-* (pos 2) (pos 100 *ℤ a -ℤ x *ℤ pos d)
    ∙ ap (λ (n : ℕ). 2 * n)
    (ap nat_abs (ring₃ (λ a x d. # 100 ⊗ a ⊝ x ⊗ d ≐ ⊖ (x ⊗ d ⊝ a ⊗ # 100)) a x (pos d) refl) ∙ abs_neg (x *ℤ pos d -ℤ a *ℤ pos 100))

-- the size of a number with a sign
pub signed-size : (b : Bool) (n : ℕ) → nat_abs (signed b n) ≡ n
signed-size false n = refl
signed-size true n = abs_neg (pos n)

-- ---- the root

-- `root s x` is the largest whole number whose square is at most x, for x below 4 to the power s
pub root-largest : (s x : ℕ) → x < 4 ^ s → (root s x * root s x ≤ x) × (x < (root s x + 1) * (root s x + 1))
unfolding root
root-largest zero x l = (omega arith, omega (arith, l))
root-largest (suc s) x l = go (dec_le ((2 * r + 1) * (2 * r + 1)) x) (root-largest s (x / 4) quarter)
  where
    r : ℕ
    r = root s (x / 4)

    power : 4 ^ suc s ≡ 4 * 4 ^ s
    power = ap (λ (n : ℕ). 4 ^ n) (omega arith) ∙ pow-add 4 1 s

    quarter : x / 4 < 4 ^ s
    quarter = omega (arith, power)

    go : Dec ((2 * r + 1) * (2 * r + 1) ≤ x) → (r * r ≤ x / 4) × (x / 4 < (r + 1) * (r + 1)) →
        (cond (leb ((2 * r + 1) * (2 * r + 1)) x) (2 * r + 1) (2 * r) * cond (leb ((2 * r + 1) * (2 * r + 1)) x) (2 * r + 1) (2 * r) ≤ x)
        × (x < (cond (leb ((2 * r + 1) * (2 * r + 1)) x) (2 * r + 1) (2 * r) + 1) * (cond (leb ((2 * r + 1) * (2 * r + 1)) x) (2 * r + 1) (2 * r) + 1))
    go (yes o) (a, b) = subst (λ (t : Bool). (cond t (2 * r + 1) (2 * r) * cond t (2 * r + 1) (2 * r) ≤ x) ×
        (x < (cond t (2 * r + 1) (2 * r) + 1) * (cond t (2 * r + 1) (2 * r) + 1))) (sym (le-leb _ _ o))
        (o, omega (arith, b))
    go (no o) (a, b) = subst (λ (t : Bool). (cond t (2 * r + 1) (2 * r) * cond t (2 * r + 1) (2 * r) ≤ x) ×
        (x < (cond t (2 * r + 1) (2 * r) + 1) * (cond t (2 * r + 1) (2 * r) + 1))) (sym (lt-leb _ x (omega arith)))
        (omega (arith, a), omega arith)

-- two numbers that are each the largest are one
pub root_unique : (x m n : ℕ) → m * m ≤ x → x < (m + 1) * (m + 1) → n * n ≤ x → x < (n + 1) * (n + 1) → m ≡ n
root_unique x m n a b c e = go (dec_lt m n) (dec_lt n m)
  where
    go : Dec (m < n) → Dec (n < m) → m ≡ n
    go (yes o) z = let o' : m + 1 ≤ n = omega arith in omega (arith, mul-le-mul o' o')
    go (no o) (yes z) = let z' : n + 1 ≤ m = omega arith in omega (arith, mul-le-mul z' z')
    go (no o) (no z) = omega arith

-- so a number that is the largest is the root
pub root_is : (s x k : ℕ) → x < 4 ^ s → k * k ≤ x → x < (k + 1) * (k + 1) → k ≡ root s x
root_is s x k l a b = let r = root-largest s x l in root_unique x k (root s x) a b r.0 r.1

-- k of a job: the largest whole number with k k vβ f at most 10,000 Q
pub spread-largest : (q vb f : ℕ) → 0 < vb → 0 < f → 10000 * q < 4 ^ 64 →
    (spread_hundredths q vb f * spread_hundredths q vb f * vb * f ≤ 10000 * q)
    × (10000 * q < (spread_hundredths q vb f + 1) * (spread_hundredths q vb f + 1) * vb * f)
unfolding spread_hundredths
spread-largest q vb zero lv lf lq = absurd (none lf)
  where
    none : 0 < 0 → ⊥
    none l = omega arith
spread-largest q vb (suc f) lv lf lq = times (root 64 x) (root-largest 64 x (under x (10000 * q) (4 ^ 64) below lq))
  where
    D : ℕ
    D = vb * suc f

    x : ℕ
    x = 10000 * q / D

    under : (a b c : ℕ) → a ≤ b → b < c → a < c
    under a b c l m = omega arith

    some : 0 < D
    some = mul-pos lv lf

    parts : 10000 * q ≡ x * D + 10000 * q % D
    parts = sym (div-add-mod' (10000 * q) D)

    below : x ≤ 10000 * q
    below = omega (arith, parts, mul-le-mul_right x some)

    flat : (k : ℕ) → k * k * D ≡ k * k * vb * suc f
    flat k = turn (k * k) vb (suc f)
      where
        turn : (a b c : ℕ) → a * (b * c) ≡ a * b * c
        turn a b c = omega arith

    times : (k : ℕ) → (k * k ≤ x) × (x < (k + 1) * (k + 1)) → (k * k * vb * suc f ≤ 10000 * q) × (10000 * q < (k + 1) * (k + 1) * vb * suc f)
    times k (a, b) = (
      subst (λ (z : ℕ). z ≤ 10000 * q) (flat k) (omega (arith, parts, mul-le-mul_right D a)),
      subst (λ (z : ℕ). 10000 * q < z) (flat (k + 1)) (omega (arith, parts, mod-lt (10000 * q) some, mul-le-mul_right D b)),
    )
