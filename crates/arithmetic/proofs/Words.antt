-- Numbers of two words: what a number's words are, and back; a product by halves of 32 bits. Assumes nothing.
use mathlib.Core.Bool.{Bool, true, false}
use mir.Val.{bool_byte}
use Rattle.std.specs.Bool.{FalseIff}
use mathlib.Core.Path.{◌≡◌, sym, ap, ◌∙◌}
use Prim.Native.Nat.{ℕ, ◌+◌, ◌*◌, ◌-◌, ◌/◌, ◌%◌, ◌^◌, ◌≤◌, ◌<◌}
use native.Mathlib.Nat.{div-lt_iff_lt-mul, div-add-mod', mod-eq_of_lt, mod-lt, mod-add-mod, add-mod-mod, add-mul-div_right, add-mul-mod_self_right, mul-le-mul, mul-le-mul_right, lt_trans}
use native.Mathlib.Omega.{arith}
use lib.Dec.{lit<}
use Rattle.records.specs.declared.Wide.{Wide}
use Rattle.meaning.specs.Wide.{value, wide}

-- ---- carrying

-- the law of carrying: n is k words and l, so its low word is l, and its high word is k without what is above a word
pub words : (n k h l : ℕ) → h ≡ k % 2 ^ 64 → l < 2 ^ 64 → n ≡ k * 2 ^ 64 + l → ◌≡◌ {A = Wide} (record { high = h; low = l }) (wide n)
unfolding wide
words n k h l f b e =
    let p : n / 2 ^ 64 ≡ k = omega arith in
    let q : n % 2 ^ 64 ≡ l = omega arith in
    rw (p, q, f)

-- a number below 2 ^ 128 is what its words mean
pub value-wide : (n : ℕ) → n < 2 ^ 128 → value (wide n) ≡ n
unfolding wide
value-wide n h =
    let k : n / 2 ^ 64 < 2 ^ 64 = (div-lt_iff_lt-mul (lit< tt)).1 h in
    rw (mod-eq_of_lt k) (div-add-mod' n (2 ^ 64))

-- so an answer that fits means its number; below 2 ^ 120 omega reads the bound
pub exact : {x : Wide} (n : ℕ) → n < 2 ^ 120 → x ≡ wide n → value x ≡ n
exact n h e = ap value e ∙ value-wide n (lt_trans h (lit< tt))

-- the words of a call's answer
pub low-is : {w : Wide} (n : ℕ) → w ≡ wide n → w.low ≡ n % 2 ^ 64
unfolding wide
low-is n e = ap (λ (w : Wide). w.low) e

pub high_is : {w : Wide} (n : ℕ) → w ≡ wide n → w.high ≡ n / 2 ^ 64 % 2 ^ 64
unfolding wide
high_is n e = ap (λ (w : Wide). w.high) e

-- which are words
pub are_words : {x : Wide} (n : ℕ) → x ≡ wide n → (x.high < 2 ^ 64) × (x.low < 2 ^ 64)
are_words n e = (rw (high_is n e) (mod-lt (n / 2 ^ 64) (lit< tt)), rw (low-is n e) (mod-lt n (lit< tt)))

-- p words and q are p words and what q carries, and the rest of q
split : (p q : ℕ) → p * 2 ^ 64 + q ≡ (p + q / 2 ^ 64) * 2 ^ 64 + q % 2 ^ 64
split p q = omega arith

-- p words and q, from their own words: the low word is q's, and the high word that of p and what q carries
pub carried : (n p q : ℕ) {low high top : Wide} → low ≡ wide q → high ≡ wide p → top ≡ wide (high.low + low.high) → n ≡ p * 2 ^ 64 + q
    → ◌≡◌ {A = Wide} (record { high = top.low; low = low.low }) (wide n)
carried n p q {low} {high} {top} e f g h =
    words n (p + q / 2 ^ 64) top.low low.low
    (low-is (high.low + low.high) g ∙ rw (low-is p f, high_is q e, mod-add-mod, add-mod-mod))
    (rw (low-is q e) (mod-lt q (lit< tt)))
    (h ∙ split p q ∙ rw (low-is q e))

-- ---- what is lost is never missed: a loop's sum needs no bound until its end

-- a number in its two words and what is above them
above : (w n : ℕ) → n ≡ n / w % w * w + n % w + n / w / w * w * w
above w n = omega (arith, div-add-mod' n w, ap (λ (z : ℕ). z * w) (div-add-mod' (n / w) w))

-- what is above the words is lost
above_lost : (n k : ℕ) → wide (n + k * 2 ^ 64 * 2 ^ 64) ≡ wide n
unfolding wide
above_lost n k = rw (add-mul-div_right n (k * 2 ^ 64) (lit< tt), add-mul-mod_self_right (n / 2 ^ 64) k (2 ^ 64), add-mul-mod_self_right n (k * 2 ^ 64) (2 ^ 64))

-- a sum of the words' number is a sum of the number
pub wide_add : (n m : ℕ) → wide (value (wide n) + m) ≡ wide (n + m)
unfolding wide
wide_add n m =
    let k = n / 2 ^ 64 / 2 ^ 64 in
    sym (ap wide (moved (n / 2 ^ 64 % 2 ^ 64 * 2 ^ 64 + n % 2 ^ 64) (k * 2 ^ 64 * 2 ^ 64) n m (above (2 ^ 64) n))
    ∙ above_lost (n / 2 ^ 64 % 2 ^ 64 * 2 ^ 64 + n % 2 ^ 64 + m) k)
  where
    moved : (v k n m : ℕ) → n ≡ v + k → n + m ≡ v + m + k
    moved v k n m e = omega arith

-- ---- order

-- fewer words, with less than a word over, are less
pub fewer : (w h k l m : ℕ) → h < k → l < w → h * w + l < k * w + m
fewer w h k l m f g = omega (arith, mul-le-mul_right w f)

-- less than w words of w, with less than a word over
below_square : (w h l : ℕ) → h < w → l < w → h * w + l < w * w
below_square w h l f g = omega (arith, fewer w h w l 0 f g)

-- a product of two numbers below w is below its square
product-below : (w a b : ℕ) → a < w → b < w → a * b < w * w
product-below w a b f g = omega (arith, mul-le-mul f g)

-- two words are below 2 ^ 128
pub value-most : (x : Wide) → x.high < 2 ^ 64 → x.low < 2 ^ 64 → value x < 2 ^ 128
value-most x f g = below_square (2 ^ 64) x.high x.low f g

-- a product of two words is what its own words mean
pub product_value : {x : Wide} (a b : ℕ) → a < 2 ^ 64 → b < 2 ^ 64 → x ≡ wide (a * b) → value x ≡ a * b
product_value a b f g e = ap value e ∙ value-wide (a * b) (product-below (2 ^ 64) a b f g)

-- ---- halves of 32 bits

-- a product of two halves leaves room for two halves more
pub room : {a b : ℕ} → a < 2 ^ 32 → b < 2 ^ 32 → a * b ≤ 18446744065119617025
room {a} {b} h k = mul-le-mul {n₂ = 4294967295} {m₂ = 4294967295} (omega arith) (omega arith)

-- the law of halves: a product of two numbers is made from the products of their halves, from the lowest on, and what each carries
pub halves : (a b c d : ℕ) → let first = b * d in let second = a * d + first / 2 ^ 32 in let third = b * c + second % 2 ^ 32 in
    (a * 2 ^ 32 + b) * (c * 2 ^ 32 + d) ≡ (a * c + second / 2 ^ 32 + third / 2 ^ 32) * 2 ^ 64 + (third % 2 ^ 32 * 2 ^ 32 + first % 2 ^ 32)
halves a b c d = omega arith

-- ---- a carry and a borrow as the code has them

-- a sum of two words is what is carried and the low word
pub carry_is : (n : ℕ) (carry : Bool) → n < 2 * 2 ^ 64 → FalseIff carry (n < 2 ^ 64) → n ≡ bool_byte carry * 2 ^ 64 + n % 2 ^ 64
carry_is n true m f = omega (arith, f)
carry_is n false m f = omega (arith, f)

-- a difference of numbers of two words, where the low words borrow and where they do not
pub borrow_is : (h k l m low : ℕ) (borrow : Bool) → k * 2 ^ 64 + m < h * 2 ^ 64 + l → l < 2 ^ 64 → m < 2 ^ 64 → low < 2 ^ 64 →
    (low + m) % 2 ^ 64 ≡ l → FalseIff borrow (m ≤ l) → h * 2 ^ 64 + l - (k * 2 ^ 64 + m) ≡ (h - k - bool_byte borrow) * 2 ^ 64 + low
borrow_is h k l m low true less a b c e f = omega (arith, f)
borrow_is h k l m low false less a b c e f = omega (arith, f)
