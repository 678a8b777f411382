-- The objects of a word one by one, lowest first.
--     lowest_trailing         the lowest place with a 1 has as many zeros below it as the language counts
--     lowest_one, lowest_lt   the bit there is 1, and it is a place of the word
--     some_left, none_left    there is one just where the word is not 0
--     rest_wrapped            the word without it, as the code makes it
--     rest-bit                a bit of the word is that of the rest, but for the lowest
--     rest-here, rest-other   the same at the lowest place, and at another
--     rest-less               the rest is less, so that a walk ends
--     Left, left_lowest       within a walk: what is left of a word is part of it, and its lowest object is one of the word
-- Assumes nothing.
use mathlib.Core.Path.{◌≡◌, refl, sym, ap, ◌∙◌}
use Prim.Native.Nat.{ℕ, zero, suc, ◌+◌, ◌-◌, ◌/◌, ◌%◌, ◌^◌, ◌≤◌, ◌<◌}
use mathlib.Core.Bool.{false}
use native.Mathlib.Nat.{pow-suc, mod-lt, zero-lt-suc, not-suc-le-zero}
use native.Mathlib.Omega.{arith}
use native.Mathlib.Decide.{ℕ_discrete, dec_le}
use borrow.Author.Tests.{eq-eqb, ne_eqb}
use lib.Dec.{eqb}
use lib.Arith.{lt-one}
use lib.Pow.{pow_pos}
use lib.Bits.{bit_and, and_step, and_self}
use lib.Count.{count_trailing_zeros, trailing_le, trailing_of_zero, under}
use Rattle.algebra.specs.Ranges.{first_from}
use Rattle.algebra.proofs.Tests.{first-is, first_from_none}
use Rattle.meaning.specs.Analysis.{member}
use Rattle.words.specs.Bits.{lowest_of, without_lowest}
use Rattle.words.proofs.Bits.{half_lt, bit-zero, bit-suc, bit-most, bit_past, once, once-same, once-other, once-suc}

-- ---- the zeros below the lowest 1

-- above them stands a 1
trailing_one : (k w : ℕ) → count_trailing_zeros k w < k → member w (count_trailing_zeros k w) ≡ 1
unfolding count_trailing_zeros
trailing_one zero w h = absurd (not-suc-le-zero h)
trailing_one (suc k) w h = go (w % 2) refl h (trailing_one k (w / 2))
  where
    go : (d : ℕ) → w % 2 ≡ d → under d (count_trailing_zeros k (w / 2)) < suc k →
        (count_trailing_zeros k (w / 2) < k → member (w / 2) (count_trailing_zeros k (w / 2)) ≡ 1) → member w (under d (count_trailing_zeros k (w / 2))) ≡ 1
    go zero e l later = bit-suc w (count_trailing_zeros k (w / 2)) ∙ later (omega arith)
    go (suc d) e l later = bit-zero w ∙ omega (arith, mod-lt w (zero-lt-suc 1))

-- each of them is a 0
trailing_before : (k w j : ℕ) → j < count_trailing_zeros k w → member w j ≡ 0
unfolding count_trailing_zeros
trailing_before zero w j l = absurd (not-suc-le-zero l)
trailing_before (suc k) w j l = go (w % 2) refl j l (trailing_before k (w / 2))
  where
    go : (d : ℕ) → w % 2 ≡ d → (j : ℕ) → j < under d (count_trailing_zeros k (w / 2)) → ((j : ℕ) → j < count_trailing_zeros k (w / 2) → member (w / 2) j ≡ 0) → member w j ≡ 0
    go zero e zero l later = bit-zero w ∙ e
    go zero e (suc j) l later = bit-suc w j ∙ later j (omega arith)
    go (suc d) e j l later = absurd (not-suc-le-zero l)

-- a word of n places that is not 0 has fewer than n
trailing_lt : (n k w : ℕ) → 0 < w → w < 2 ^ n → n ≤ k → count_trailing_zeros k w < n
unfolding count_trailing_zeros
trailing_lt zero k w p h l = absurd (omega (arith, lt-one h))
trailing_lt (suc n) zero w p h l = absurd (not-suc-le-zero l)
trailing_lt (suc n) (suc k) w p h l = go (w % 2) refl (λ q. trailing_lt n k (w / 2) q (half_lt n w h) (omega arith))
  where
    go : (d : ℕ) → w % 2 ≡ d → (0 < w / 2 → count_trailing_zeros k (w / 2) < n) → under d (count_trailing_zeros k (w / 2)) < suc n
    go zero e later = let q : 0 < w / 2 = omega arith in omega (arith, later q)
    go (suc d) e later = omega arith

-- ---- the lowest place

-- it is above as many zeros as the language counts
pub lowest_trailing : (w : ℕ) → count_trailing_zeros 64 w ≡ lowest_of w
unfolding lowest_of
lowest_trailing w = sym (by (ℕ_discrete (count_trailing_zeros 64 w) 64))
  where
    before : (j : ℕ) → j < count_trailing_zeros 64 w → eqb (member w j) 1 ≡ false
    before j l = ne_eqb (member w j) 1 (λ e. omega (arith, trailing_before 64 w j l))

    by : Dec (count_trailing_zeros 64 w ≡ 64) → first_from (λ i. eqb (member w i) 1) 0 64 ≡ count_trailing_zeros 64 w
    by (yes e) = first_from_none (λ i. eqb (member w i) 1) 0 64 (λ j a l. before j (omega arith)) ∙ sym e
    by (no e) =
        let l : count_trailing_zeros 64 w < 64 = omega (arith, trailing_le 64 w) in
        first-is (λ i. eqb (member w i) 1) 0 64 (count_trailing_zeros 64 w) (omega arith) (omega arith) (λ j a m. before j m)
        (eq-eqb (member w (count_trailing_zeros 64 w)) 1 (trailing_one 64 w l))

-- in a word of n places that is not 0 it is one of them
pub lowest_lt : (n w : ℕ) → 0 < w → w < 2 ^ n → n ≤ 64 → lowest_of w < n
lowest_lt n w p h l = rw (← lowest_trailing w) (trailing_lt n 64 w p h l)

-- and its bit is 1
pub lowest_one : (w : ℕ) → 0 < w → w < 2 ^ 64 → member w (lowest_of w) ≡ 1
lowest_one w p h = rw (← lowest_trailing w) (trailing_one 64 w (trailing_lt 64 64 w p h (omega arith)))

-- a word with a lowest place has an object
pub some_left : (w : ℕ) → lowest_of w < 64 → 0 < w
some_left zero l = absurd (omega (arith, lowest_trailing 0, trailing_of_zero 64))
some_left (suc w) l = omega arith

-- a word with none is 0
pub none_left : (w : ℕ) → w < 2 ^ 64 → 64 ≤ lowest_of w → w ≡ 0
none_left zero h l = refl
none_left (suc w) h l = absurd (omega (arith, lowest_lt 64 (suc w) (omega arith) h (omega arith)))

-- ---- the rest

-- w & (w - 1), for a word of k places
masked : (k w : ℕ) → 0 < w → w < 2 ^ k → bit_and w (w - 1) ≡ w - 2 ^ count_trailing_zeros k w
unfolding count_trailing_zeros
masked zero w p h = absurd (omega (arith, lt-one h))
masked (suc k) w p h = go (w % 2) refl (λ q. masked k (w / 2) q (half_lt k w h))
  where
    go : (d : ℕ) → w % 2 ≡ d → (0 < w / 2 → bit_and (w / 2) (w / 2 - 1) ≡ w / 2 - 2 ^ count_trailing_zeros k (w / 2)) →
        bit_and w (w - 1) ≡ w - 2 ^ under d (count_trailing_zeros k (w / 2))
    go zero e later =
        let half : (w - 1) / 2 ≡ w / 2 - 1 = omega arith in
        let q : 0 < w / 2 = omega arith in
        rw (and_step, half, e, later q) (omega (arith, pow-suc 2 (count_trailing_zeros k (w / 2))))
    go (suc d) e later =
        let half : (w - 1) / 2 ≡ w / 2 = omega arith in
        rw (and_step, half, and_self) (omega (arith, mod-lt w (zero-lt-suc 1)))

-- a place with a 1 is within the word
one-within : (w x : ℕ) → member w x ≡ 1 → 2 ^ x ≤ w
one-within w x h = by (dec_le (2 ^ x) w)
  where
    by : Dec (2 ^ x ≤ w) → 2 ^ x ≤ w
    by (yes l) = l
    by (no n) = absurd (omega (arith, bit_past x w x (omega (arith, n)) (omega arith)))

-- a 1 that is taken away leaves every other bit
bit-less : (x i w : ℕ) → member w x ≡ 1 → member (w - 2 ^ x) i + once i x ≡ member w i
bit-less zero zero w h = omega (arith, bit-zero w, bit-zero (w - 1), h)
bit-less zero (suc i) w h =
    let odd : w % 2 ≡ 1 = sym (bit-zero w) ∙ h in
    let half : (w - 1) / 2 ≡ w / 2 = omega arith in
    rw (bit-suc (w - 1) i, half, bit-suc w i) (omega (arith, once-other (suc i) 0 (λ e. omega arith)))
bit-less (suc x) zero w h =
    let low : (w - 2 ^ suc x) % 2 ≡ w % 2 = omega (arith, pow-suc 2 x, one-within w (suc x) h) in
    omega (arith, bit-zero (w - 2 ^ suc x), low, bit-zero w, once-other 0 (suc x) (λ e. omega arith))
bit-less (suc x) (suc i) w h =
    let half : (w - 2 ^ suc x) / 2 ≡ w / 2 - 2 ^ x = omega (arith, pow-suc 2 x) in
    rw (bit-suc (w - 2 ^ suc x) i, half, bit-suc w i, once-suc i x) (bit-less x i (w / 2) (sym (bit-suc w x) ∙ h))

module _ (w : ℕ) (p : 0 < w) (h : w < 2 ^ 64) where
  -- the rest, made by a mask
  rest_masked : bit_and w (w - 1) ≡ without_lowest w
  unfolding without_lowest
  rest_masked = masked 64 w p h ∙ ap (λ (x : ℕ). w - 2 ^ x) (lowest_trailing w)

  -- every bit but the lowest stays
  pub rest-bit : (i : ℕ) → member (without_lowest w) i + once i (lowest_of w) ≡ member w i
  unfolding without_lowest
  rest-bit i = bit-less (lowest_of w) i w (lowest_one w p h)

  -- the lowest is gone
  pub rest-here : member (without_lowest w) (lowest_of w) ≡ 0
  rest-here = omega (arith, rest-bit (lowest_of w), lowest_one w p h, once-same (lowest_of w) (lowest_of w) refl)

  -- another stays
  pub rest-other : (i : ℕ) → (i ≡ lowest_of w → ⊥) → member (without_lowest w) i ≡ member w i
  rest-other i e = omega (arith, rest-bit i, once-other i (lowest_of w) e)

-- the rest of a word that is not 0 is less
pub rest-less : (w : ℕ) → 0 < w → without_lowest w < w
unfolding without_lowest
rest-less w p = omega (arith, pow_pos (lowest_of w))

-- of 0 there is no rest
rest-none : without_lowest 0 ≡ 0
unfolding without_lowest
rest-none = omega arith

-- the rest as the code makes it, where 0 - 1 wraps
pub rest_wrapped : (w : ℕ) → w < 2 ^ 64 → bit_and w ((w + 18446744073709551615) % 18446744073709551616) ≡ without_lowest w
rest_wrapped zero h = sym rest-none
rest_wrapped (suc w) h =
    let e : (suc w + 18446744073709551615) % 18446744073709551616 ≡ suc w - 1 = omega arith in
    rw e (rest_masked (suc w) (omega arith) h)

-- ---- within a walk

-- rest is what is left of the word w
pub record Left (w rest : ℕ) : Type 0 where
  pub less : rest ≤ w
  pub part : (i : ℕ) → member rest i ≡ 1 → member w i ≡ 1

-- nothing was taken yet
pub left-all : (w : ℕ) → Left w w
left-all w = record { less = omega arith; part = λ i e. e }

module _ (w rest : ℕ) (h : w < 2 ^ 64) (p : 0 < rest) (k : Left w rest) where
  -- the lowest object is one of the word
  pub left_lowest : member w (lowest_of rest) ≡ 1
  left_lowest = k.part (lowest_of rest) (lowest_one rest p (omega (arith, k.less)))

  -- it is taken
  pub left-rest : Left w (without_lowest rest)
  left-rest = record {
    less = omega (arith, rest-less rest p, k.less);
    part = λ i e. k.part i (omega (arith, rest-bit rest p (omega (arith, k.less)) i, bit-most rest i));
  }
