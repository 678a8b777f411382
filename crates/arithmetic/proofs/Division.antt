-- Division of a number in parts, the highest first. Assumes nothing.
use mathlib.Core.Path.{◌≡◌, sym, ap, ◌∙◌}
use mathlib.Core.Bool.{true, false, ◌&&◌}
use Prim.Native.Nat.{ℕ, ◌+◌, ◌*◌, ◌/◌, ◌%◌, ◌^◌, ◌≤◌, ◌<◌}
use native.Mathlib.Nat.{div-add-mod', div-le_self, div-lt_iff_lt-mul, mod-eq_of_lt, mod-lt, add-mul-div_right, add-mul-mod_self_right, lt_of_le_of_lt}
use native.Mathlib.Omega.{arith}
use borrow.Author.Tests.{lt-ltb, le-ltb}
use Rattle.algebra.proofs.Tests.{and_both, and_fails_left, and_fails_right}
use lib.Dec.{ltb, lit<}
use Rattle.records.specs.declared.Wide.{Wide}
use Rattle.arithmetic.specs.declared.wide.Divided.{Divided}
use Rattle.meaning.specs.Wide.{value, wide, wide_zero}
use Rattle.arithmetic.specs.Division.{divided}
use Rattle.arithmetic.proofs.Words.{words, are_words, value-wide, value-most, fewer}

-- what is left of the higher part stands before the lower part
module _ (b h l d : ℕ) (some : 0 < d) where
  regroup : h * b + l ≡ h % d * b + l + h / d * b * d
  regroup = omega (arith, ap (λ (z : ℕ). z * b) (div-add-mod' h d))

  -- the quotient of two parts
  pub quotient_parts : (h * b + l) / d ≡ h / d * b + (h % d * b + l) / d
  quotient_parts = rw (regroup, add-mul-div_right (h % d * b + l) (h / d * b) some) (omega arith)

  -- and what is left
  pub rest-parts : (h * b + l) % d ≡ (h % d * b + l) % d
  rest-parts = rw (regroup, add-mul-mod_self_right)

-- what is left, with a part after it, has a quotient of one part
pub one-part : (b r l d : ℕ) → r < d → l < b → (r * b + l) / d < b
one-part b r l d f g =
    let some : 0 < d = omega arith in
    let below : r * b + l < b * d = omega (arith, fewer b r d l 0 f g) in
    (div-lt_iff_lt-mul some).1 below

-- ---- a number of two words

module _ (x : Wide) (d : ℕ) where
  -- the first division of a half: what the high word leaves, and the higher half of the low word
  abbrev pub first : ℕ
  first = x.high % d * 2 ^ 32 + x.low / 2 ^ 32

  -- and the second
  abbrev pub second : ℕ
  second = first % d * 2 ^ 32 + x.low % 2 ^ 32

module _ (x : Wide) (d : ℕ) (f : x.low < 2 ^ 64) (some : 0 < d) where
  half : x.low / 2 ^ 32 < 2 ^ 32
  half = omega arith

  -- the number in its three parts
  abbrev upper : ℕ
  upper = x.high * 2 ^ 32 + x.low / 2 ^ 32

  whole : value x ≡ upper * 2 ^ 32 + x.low % 2 ^ 32
  whole = omega arith

  -- each half of the low word gives half a word
  pub first-half : first x d / d < 2 ^ 32
  first-half = one-part (2 ^ 32) (x.high % d) (x.low / 2 ^ 32) d (mod-lt x.high some) half

  pub second-half : second x d / d < 2 ^ 32
  second-half = one-part (2 ^ 32) (first x d % d) (x.low % 2 ^ 32) d (mod-lt (first x d) some) (mod-lt x.low (lit< tt))

  -- the quotient
  pub quotient_is : value x / d ≡ x.high / d * 2 ^ 64 + (first x d / d * 2 ^ 32 + second x d / d)
  quotient_is =
      let a : (upper * 2 ^ 32 + x.low % 2 ^ 32) / d ≡ upper / d * 2 ^ 32 + (upper % d * 2 ^ 32 + x.low % 2 ^ 32) / d =
      quotient_parts (2 ^ 32) upper (x.low % 2 ^ 32) d some in
      let b : upper / d ≡ x.high / d * 2 ^ 32 + first x d / d = quotient_parts (2 ^ 32) x.high (x.low / 2 ^ 32) d some in
      let c : upper % d ≡ first x d % d = rest-parts (2 ^ 32) x.high (x.low / 2 ^ 32) d some in
      rw (whole, a, b, c) (omega arith)

  -- and what is left
  pub rest-is : value x % d ≡ second x d % d
  rest-is =
      let a : (upper * 2 ^ 32 + x.low % 2 ^ 32) % d ≡ (upper % d * 2 ^ 32 + x.low % 2 ^ 32) % d = rest-parts (2 ^ 32) upper (x.low % 2 ^ 32) d some in
      let c : upper % d ≡ first x d % d = rest-parts (2 ^ 32) x.high (x.low / 2 ^ 32) d some in
      rw (whole, a, c)

-- inside the range
pub division : (x : Wide) (d : ℕ) → x.high < 2 ^ 64 → x.low < 2 ^ 64 → 0 < d → d < 2 ^ 32
    → ◌≡◌ {A = Divided} (record { quotient = record { high = x.high / d; low = first x d / d * 2 ^ 32 + second x d / d }; rest = second x d % d })
    (divided (value x) d)
unfolding divided
division x d f g some most =
    let t : (ltb 0 d && ltb d (2 ^ 32)) ≡ true = and_both (lt-ltb _ _ some) (lt-ltb _ _ most) in
    let h : x.high / d < 2 ^ 64 = lt_of_le_of_lt (div-le_self x.high d) f in
    let q = words (value x / d) (x.high / d) (x.high / d) (first x d / d * 2 ^ 32 + second x d / d) (sym (mod-eq_of_lt h))
    (omega (arith, first-half x d g some, second-half x d g some)) (quotient_is x d g some) in
    rw t (λ j. record { quotient = q j; rest = sym (rest-is x d g some) j })

-- outside
no_division : (x : Wide) (d : ℕ) → (ltb 0 d && ltb d (2 ^ 32)) ≡ false
    → ◌≡◌ {A = Divided} (record { quotient = wide_zero; rest = 0 }) (divided (value x) d)
unfolding divided
no_division x d e = rw e

pub by_zero : (x : Wide) (d : ℕ) → d ≤ 0 → ◌≡◌ {A = Divided} (record { quotient = wide_zero; rest = 0 }) (divided (value x) d)
by_zero x d h = no_division x d (and_fails_left (ltb d (2 ^ 32)) (le-ltb _ _ h))

pub by_large : (x : Wide) (d : ℕ) → 2 ^ 32 ≤ d → ◌≡◌ {A = Divided} (record { quotient = wide_zero; rest = 0 }) (divided (value x) d)
by_large x d h = no_division x d (and_fails_right (ltb 0 d) (le-ltb _ _ h))

-- what an answer inside the range says
module _ {r : Divided} (x : Wide) (d : ℕ) (f : x.high < 2 ^ 64) (g : x.low < 2 ^ 64) (some : 0 < d) (most : d < 2 ^ 32) (e : r ≡ divided (value x) d) where
  inside : r ≡ record { quotient = wide (value x / d); rest = value x % d }
  unfolding divided
  inside = let t : (ltb 0 d && ltb d (2 ^ 32)) ≡ true = and_both (lt-ltb _ _ some) (lt-ltb _ _ most) in e ∙ rw t

  -- its quotient
  pub quotient_value : value r.quotient ≡ value x / d
  quotient_value = ap (λ (z : Divided). value z.quotient) inside ∙ value-wide (value x / d) (lt_of_le_of_lt (div-le_self (value x) d) (value-most x f g))

  -- whose two words are words
  pub quotient_words : (r.quotient.high < 2 ^ 64) × (r.quotient.low < 2 ^ 64)
  quotient_words = are_words (value x / d) (ap (λ (z : Divided). z.quotient) inside)

  -- and its rest
  pub rest-value : r.rest ≡ value x % d
  rest-value = ap (λ (z : Divided). z.rest) inside
