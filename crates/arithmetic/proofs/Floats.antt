-- The f64 of a fraction of two whole numbers. Rounding in the normal range is off by at most half of the last digit, so by at most one part in 2 ^
-- 53; two whole numbers below 2 ^ 53 are cast exactly, and their quotient is one rounding. The laws are over any format, so that no power of 2 is
-- worked out. Assumes nothing.
use mathlib.Core.Path.{◌≡◌, refl, sym, ap, ◌∙◌, subst}
use Prim.Native.Nat.{ℕ, zero, suc, ◌+◌, ◌-◌, ◌*◌, ◌/◌, ◌%◌, ◌^◌, ◌≤◌, ◌<◌, compare, Ordering}
use native.Mathlib.Nat.{
  le_trans,
  le_of_eq,
  le_of_lt,
  lt_of_le_of_lt,
  mul_comm,
  mul_assoc,
  mul_right_comm,
  mul_left_comm,
  mul-pos,
  mul-le-mul_right,
  mul-le-mul_left,
  mul-le-mul,
  zero-lt-suc,
  zero-mul,
  mul-one,
  mul-sub,
  add-mul,
  le-mul_of_pos_right,
  pow-succ',
  div-div-eq-div-mul,
  lt_irrefl,
  le_of_mul-le-mul_right,
  div-add-mod',
  div-le_self,
  le-div_iff_mul-le,
  mod-lt,
}
use native.Mathlib.Omega.{arith}
use mathlib.Core.Bool.{Bool, true, false, not, cond}
use lib.Dec.{T, is_le, compare_is_eq, eqb, leb→le, nleb→lt, eqb→eq, eqb_refl, le→leb, lt→ltb, lit<, lit≤}
use lib.IntN.{ℤ, pos, negsuc, nat_abs}
use lib.Arith.{lt_of_le-ne}
use lib.Pow.{pow-add, pow_pos, pow_mono, pow-lt, shl_lt}
use lib.Ieee.{Float, nan, inf, fin, Format, binary32, binary64, prec, emax, low, up, down, size, nearest, round, div, unlike, of_int, in_float}
use lib.Ieee.Digits.{size-le, size_reaches}
use lib.Ieee.Fits.{round_is, nearest-le, kept-lt, two, two-le_pos, down_pos}
use lib.Ieee.Exact.{HasValue, units_val}
use lib.Ieee.Back.{round_whole}
use lib.Ieee.Nearest.{closest}
use lib.Ieee.Order.{drop, kept}
use lib.Ieee.Scale.{round_same, normal_of_fraction}
use Rattle.meaning.specs.Publishing.{minus, gap, float, Near}

-- x has the sign s, and its size is within one part in 2 ^ p of n / d
abbrev NearSize : ℕ → Float → Bool → ℕ → ℕ → Type 0
NearSize p nan s n d = ⊥
NearSize p (inf t) s n d = ⊥
NearSize p (fin t m e) s n d = (t ≡ s) × (gap (m * up e * d) (n * down e) * 2 ^ p ≤ n * down e)

-- ---- what `compare` says
abbrev Cmp : Ordering → ℕ → ℕ → Type 0
Cmp Ordering.lt a b = a < b
Cmp Ordering.eq a b = a ≡ b
Cmp Ordering.gt a b = b < a

-- it says so
cmp : (a b : ℕ) → Cmp (compare a b) a b
cmp a b = go (compare a b) (leb→le a b) (nleb→lt a b) (eqb→eq a b) (λ (e : a ≡ b). subst (λ (x : ℕ). T (eqb a x)) e (eqb_refl a))
  where
    go : (o : Ordering) → (T (is_le o) → a ≤ b) → (T (not (is_le o)) → b < a) → (T (compare_is_eq o) → a ≡ b) → (a ≡ b → T (compare_is_eq o)) → Cmp o a b
    go Ordering.lt h k e n = lt_of_le-ne (h tt) n
    go Ordering.eq h k e n = e tt
    go Ordering.gt h k e n = k tt

-- ---- `closest a b` is within a half of a / b
-- q is a's whole part by b, and x the remainder; y is q * b
half : (o : Ordering) (q x y b : ℕ) → y ≡ q * b → Cmp o (x * 2) b → x < b → gap (nearest q o * b) (y + x) * 2 ≤ b
half Ordering.lt q x y b e c l = omega arith
half Ordering.eq q x y b e c l = tie (q % 2) (omega arith)
  where
    tie : (t : ℕ) → t < 2 → gap ((q + t) * b) (y + x) * 2 ≤ b
    tie zero h = omega arith
    tie (suc zero) h = omega arith
    tie (suc (suc t)) h = omega arith
half Ordering.gt q x y b e c l = omega arith

-- so is the nearest whole number, of any fraction
closest_near : (a b : ℕ) → 0 < b → gap (closest a b * b) a * 2 ≤ b
closest_near a b B =
    subst (λ (z : ℕ). gap (closest a b * b) z * 2 ≤ b) (div-add-mod' a b)
    (half (compare (a % b * 2) b) (a / b) (a % b) (a / b * b) b refl (cmp (a % b * 2) b) (mod-lt a B))

-- ---- the distance of multiples
gap_mul : (a b c : ℕ) → gap (a * c) (b * c) ≡ gap a b * c
gap_mul a b c =
    let x : (a - b) * c ≡ a * c - b * c = mul_comm (a - b) c ∙ mul-sub c a b ∙ simp mul_comm in
    let y : (b - a) * c ≡ b * c - a * c = mul_comm (b - a) c ∙ mul-sub c b a ∙ simp mul_comm in
    sym (add-mul (a - b) (b - a) c ∙ cc)

-- a value w / l that is near n / d makes its float near it
carry : (p : ℕ) (x : Float) (s : Bool) (w l n d : ℕ) → 0 < l → HasValue x s w l → gap (w * d) (n * l) * 2 ^ p ≤ n * l → NearSize p x s n d
carry p nan s w l n d L v h = v
carry p (inf t) s w l n d L v h = v
carry p (fin t m e) s w l n d L v h =
    let c = down e in
    let a = m * up e in
    let x : a * d * l ≡ w * d * c = mul_right_comm a d l ∙ ap (λ (z : ℕ). z * d) v.1 ∙ mul_right_comm w c d in
    let y : n * c * l ≡ n * l * c = mul_right_comm n c l in
    let g : gap (a * d) (n * c) * l ≡ gap (w * d) (n * l) * c = sym (gap_mul (a * d) (n * c) l) ∙ ap (λ (z : ℕ). gap z (n * c * l)) x
    ∙ ap (λ (z : ℕ). gap (w * d * c) z) y ∙ gap_mul (w * d) (n * l) c in
    let k : gap (a * d) (n * c) * 2 ^ p * l ≡ gap (w * d) (n * l) * 2 ^ p * c = mul_right_comm (gap (a * d) (n * c)) (2 ^ p) l
    ∙ ap (λ (z : ℕ). z * 2 ^ p) g ∙ mul_right_comm (gap (w * d) (n * l)) c (2 ^ p) in
    (v.0, le_of_mul-le-mul_right (le_trans (le_of_eq k) (le_trans (mul-le-mul_right c h) (le_of_eq (sym y)))) L)

-- ---- n / d in the normal range, in units of the format's smallest value
twice : (p : ℕ) → 0 < p → 2 * 2 ^ (p - 1) ≡ 2 ^ p
twice zero h = absurd (lt_irrefl 0 h)
twice (suc p) h = ap (λ (z : ℕ). 2 * 2 ^ z) (less p) ∙ sym (pow-succ' 2 p)
  where
    less : (k : ℕ) → suc k - 1 ≡ k
    less k = omega arith

-- what is cut off leaves the largest digit
under-size : (z p : ℕ) → 0 < p → p ≤ z → p - 1 + (z - p) < z
under-size z p P h = omega arith

-- the digits that are kept are within one part in 2 ^ p
kept_near : (p N d : ℕ) → 0 < p → 0 < d → p ≤ size (N / d) → gap (kept p N d * 2 ^ drop p N d * d) N * 2 ^ p ≤ N
kept_near p N d P D h =
    let k = drop p N d in
    let u = d * 2 ^ k in
    let q = kept p N d in
    let e : q * 2 ^ k * d ≡ q * u = mul_assoc q (2 ^ k) d ∙ ap (λ (z : ℕ). q * z) (mul_comm (2 ^ k) d) in
    let a : 2 ^ (p - 1 + k) * d ≤ N = (le-div_iff_mul-le D).0 (size_reaches (N / d) (p - 1 + k) (under-size (size (N / d)) p P h)) in
    let b : 2 ^ (p - 1 + k) * d ≡ u * 2 ^ (p - 1) = ap (λ (z : ℕ). z * d) (pow-add 2 (p - 1) k) ∙ mul_assoc (2 ^ (p - 1)) (2 ^ k) d
    ∙ mul_comm (2 ^ (p - 1)) (2 ^ k * d) ∙ ap (λ (z : ℕ). z * 2 ^ (p - 1)) (mul_comm (2 ^ k) d) in
    let c : gap (q * u) N * 2 * 2 ^ (p - 1) ≤ u * 2 ^ (p - 1) = mul-le-mul_right (2 ^ (p - 1)) (closest_near N u (mul-pos D (pow_pos k))) in
    let f : gap (q * u) N * 2 * 2 ^ (p - 1) ≡ gap (q * u) N * 2 ^ p = mul_assoc (gap (q * u) N) 2 (2 ^ (p - 1))
    ∙ ap (λ (z : ℕ). gap (q * u) N * z) (twice p P) in
    subst (λ (z : ℕ). gap z N * 2 ^ p ≤ N) (sym e) (le_trans (le_of_eq (sym f)) (le_trans c (le_trans (le_of_eq (sym b)) a)))

-- so is the rounding, where it does not overflow
round_near : (f : Format) (s : Bool) (n d : ℕ) → 0 < d → prec f ≤ size (n * 2 ^ low f / d)
    → kept (prec f) (n * 2 ^ low f) d * 2 ^ drop (prec f) (n * 2 ^ low f) d < 2 ^ (low f + suc (emax f)) → NearSize (prec f) (round f s n d) s n d
round_near f s n d D h o =
    let p = prec f in
    let N = n * 2 ^ low f in
    carry p (round f s n d) s (kept p N d * 2 ^ drop p N d) (2 ^ low f) n d (pow_pos (low f))
    (subst (λ (z : Float). HasValue z s (kept p N d * 2 ^ drop p N d) (2 ^ low f)) (sym (round_is f s n d)) (units_val f s (kept p N d) (drop p N d) o))
    (kept_near p N d (two-le_pos p (two f)) D h)

-- ---- two whole numbers below 2 ^ prec: the fraction is in the normal range, and far from overflow
wide : (f : Format) → prec f - 1 + prec f ≤ low f
wide binary32 = lit≤ tt
wide binary64 = lit≤ tt

-- and no overflow is near
tall : (f : Format) → prec f + low f < low f + suc (emax f)
tall binary32 = lit< tt
tall binary64 = lit< tt

-- such a fraction has all its digits
is_normal : (f : Format) (n d : ℕ) → 0 < n → 0 < d → d < 2 ^ prec f → prec f ≤ size (n * 2 ^ low f / d)
is_normal f n d A D h =
    normal_of_fraction f n d D
    (le_trans (mul-le-mul_left (2 ^ (prec f - 1)) (le_of_lt h))
    (le_trans (le_of_eq (sym (pow-add 2 (prec f - 1) (prec f))))
    (le_trans (pow_mono (wide f)) (le_trans (le-mul_of_pos_right (2 ^ low f) A) (le_of_eq (mul_comm (2 ^ low f) n))))))

-- what a size is above p
spare : (z p l : ℕ) → z ≤ p + l → z - p ≤ l
spare z p l h = omega arith

-- such a fraction does not overflow
no_overflow : (f : Format) (n d : ℕ) → n < 2 ^ prec f → kept (prec f) (n * 2 ^ low f) d * 2 ^ drop (prec f) (n * 2 ^ low f) d < 2 ^ (low f + suc (emax f))
no_overflow f n d h =
    let p = prec f in
    let N = n * 2 ^ low f in
    let k = drop p N d in
    let u = d * 2 ^ k in
    let a : k ≤ low f = spare (size (N / d)) p (low f) (size-le (N / d) (p + low f) (lt_of_le_of_lt (div-le_self N d) (shl_lt p (low f) h))) in
    let b : kept p N d ≤ 2 ^ p = le_trans (nearest-le (N / u) (compare (N % u * 2) u))
    (subst (λ (x : ℕ). x < 2 ^ p) (div-div-eq-div-mul N d (2 ^ k)) (kept-lt p (N / d))) in
    lt_of_le_of_lt (mul-le-mul b (pow_mono a)) (lt_of_le_of_lt (le_of_eq (sym (pow-add 2 p (low f)))) (pow-lt (tall f)))

-- 0 / d is a zero with the sign
round_zero : (f : Format) (s : Bool) (d : ℕ) → 0 < d → round f s 0 d ≡ fin s 0 (pos 0)
unfolding round
round_zero f s d D = round_same f s 0 d 0 1 D (lit< tt) (zero-mul 1 ∙ sym (zero-mul d)) ∙ at f
  where
    at : (g : Format) → round g s 0 1 ≡ fin s 0 (pos 0)
    at binary32 = refl
    at binary64 = refl

-- 0 is near 0
zero-near : (f : Format) (s : Bool) (d : ℕ) → 0 < d → NearSize (prec f) (round f s 0 d) s 0 d
zero-near f s d D = subst (λ (z : Float). NearSize (prec f) z s 0 d) (sym (round_zero f s d D)) (refl, simp zero-mul (lit≤ tt))

-- the rounding of such a fraction is within one part in 2 ^ p
whole-near : (f : Format) (s : Bool) (n d : ℕ) → n < 2 ^ prec f → 0 < d → d < 2 ^ prec f → NearSize (prec f) (round f s n d) s n d
whole-near f s zero d h D k = zero-near f s d D
whole-near f s (suc n) d h D k = round_near f s (suc n) d D (is_normal f (suc n) d (zero-lt-suc n) D k) (no_overflow f (suc n) d h)

-- ---- the quotient of two floats that are whole numbers
unlike_false : (s : Bool) → unlike s false ≡ s
unlike_false true = refl
unlike_false false = refl

-- the division of two whole numbers is one rounding
div_at : (f : Format) (x y : Float) (s : Bool) (a b : ℕ) → 0 < b → HasValue x s a 1 → HasValue y false b 1 → div f x y ≡ round f s a b
unfolding div
div_at f nan y s a b B v w = absurd v
div_at f (inf t) y s a b B v w = absurd v
div_at f (fin t m e) nan s a b B v w = absurd w
div_at f (fin t m e) (inf r) s a b B v w = absurd w
div_at f (fin t m e) (fin r k g) s a b B v w = go (eqb k 0) (eqb→eq k 0)
  where
    x : m * up e ≡ a * down e
    x = sym (mul-one (m * up e)) ∙ v.1

    y : k * up g ≡ b * down g
    y = sym (mul-one (k * up g)) ∙ w.1

    K : 0 < k * up g
    K = subst (λ (z : ℕ). 0 < z) (sym y) (mul-pos B (down_pos g))

    same : m * up e * down g * b ≡ a * (k * up g * down e)
    same =
        ap (λ (z : ℕ). z * down g * b) x
        ∙ (simp (mul_assoc, mul_comm, mul_left_comm))
        ∙ sym (ap (λ (z : ℕ). a * (z * down e)) y)

    go : (z : Bool) → (T z → k ≡ 0) →
        cond z (cond (eqb m 0) nan (inf (unlike t r))) (round f (unlike t r) (m * up e * down g) (k * up g * down e)) ≡ round f s a b
    go true h = absurd (lt_irrefl 0 (subst (λ (z : ℕ). 0 < z) (ap (λ (z : ℕ). z * up g) (h tt) ∙ zero-mul (up g)) K))
    go false h =
        ap (λ (z : Bool). round f (unlike z r) (m * up e * down g) (k * up g * down e)) v.0
        ∙ ap (λ (z : Bool). round f (unlike s z) (m * up e * down g) (k * up g * down e)) w.0
        ∙ ap (λ (z : Bool). round f z (m * up e * down g) (k * up g * down e)) (unlike_false s)
        ∙ round_same f s (m * up e * down g) (k * up g * down e) a b (mul-pos K (down_pos e)) B same

-- ---- signed integers as `f64`s
pub in_float_lem : (z : ℤ) → nat_abs z < 2 ^ 53 → T (in_float binary64 z)
unfolding in_float
in_float_lem (pos n) h = le→leb n (2 ^ 53) (le_of_lt h)
in_float_lem (negsuc n) h = lt→ltb n (2 ^ 53) (le_of_lt h)

-- the cast is the number
of_int_value : (z : ℤ) → nat_abs z < 2 ^ 53 → HasValue (of_int binary64 z) (minus z) (nat_abs z) 1
unfolding of_int
of_int_value (pos n) h = round_whole binary64 false n (le_of_lt h)
of_int_value (negsuc n) h = round_whole binary64 true (suc n) (le_of_lt h)

-- ---- the quotient of two casts

-- it is the fraction, rounded once
pub quotient_float : (a : ℤ) (d : ℕ) → nat_abs a < 2 ^ 53 → 0 < d → d < 2 ^ 53 → div binary64 (of_int binary64 a) (of_int binary64 (pos d)) ≡ float a d
quotient_float a d h D k = div_at binary64 (of_int binary64 a) (of_int binary64 (pos d)) (minus a) (nat_abs a) d D (of_int_value a h) (of_int_value (pos d) k)

-- the two ways to say near are one
near : (p : ℕ) (x : Float) (a : ℤ) (d : ℕ) → NearSize p x (minus a) (nat_abs a) d → Near p x a d
near p nan a d h = h
near p (inf t) a d h = h
near p (fin t m e) a d h = h

-- it has the fraction's sign, and is at most the fraction's size divided by 2 ^ 53 away from it
pub float-near : (a : ℤ) (d : ℕ) → nat_abs a < 2 ^ 53 → 0 < d → d < 2 ^ 53 → Near 53 (float a d) a d
float-near a d h D k = near 53 (float a d) a d (whole-near binary64 (minus a) (nat_abs a) d h D k)
