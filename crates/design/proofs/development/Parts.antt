-- The words of a side, and where they stand in a development.
--     word_more              the first byte's bit and the rest
--     word-most              a side of at most 25 objects is below 2 ^ 55
--     left-lent, right-lent  word 2nj + 2s is initial block j's left side at the shift s, and the next its right side
-- Assumes nothing.
use Prim.Native.Nat.{ℕ, ◌+◌, ◌-◌, ◌*◌, ◌/◌, ◌%◌, ◌^◌, ◌≤◌, ◌<◌}
use mathlib.Core.Path.{◌≡◌, sym, ap, ◌∙◌}
use mathlib.Core.Bool.{true}
use mathlib.Core.List.{List, [], ◌∷◌, map}
use native.Mathlib.Numerals.{add-one}
use native.Mathlib.Omega.{arith}
use native.Mathlib.Nat.{one-mul, mul_assoc, mul_comm, mul-suc, mul-le-mul_left}
use lib.Arith.{digits_div, digits_mod}
use lib.Dec.{lit<}
use lib.Pow.{pow_mono, shl_exact}
use lib.ListN.{length, get_or, take, drop}
use lib.Seq.{drop-cons, drop-length}
use Rattle.records.specs.declared.Head.{Head}
use Rattle.meaning.specs.Design.{moved, left, right}
use Rattle.meaning.specs.Refusals.{in_range}
use Rattle.meaning.specs.Calls.{word, word_at}
use Rattle.laws.specs.Fits.{Fits}
use Rattle.laws.proofs.Occurrences.{Each, each-head, each_tail}
use Rattle.laws.proofs.Clean.{moved_range}

-- an object is below 50
pub moved_below : (h : Head) (s x : ℕ) → Fits h → s < h.n → in_range h x ≡ true → moved h s x < 50
moved_below h s x f l t = omega (arith, moved_range h s f.has_addition_lem l x t, f.objects-most)

-- so it is at most 50
pub moved-most : (h : Head) (s x : ℕ) → Fits h → s < h.n → in_range h x ≡ true → moved h s x ≤ 50
moved-most h s x f l t = omega (arith, moved_below h s x f l t)

-- the first byte's bit and the word of the rest
pub word_more : (g : ℕ → ℕ) (xs : List ℕ) (k : ℕ) → k < length xs → word (map g (drop k xs)) ≡ 2 ^ g (get_or xs k 0) + word (map g (drop (k + 1) xs))
unfolding word
word_more g xs k h = rw (drop-cons xs k 0 h, add-one k)

-- no byte is left
pub word_none : (g : ℕ → ℕ) (xs : List ℕ) (k : ℕ) → k ≡ length xs → word (map g (drop k xs)) ≡ 0
unfolding word
word_none g xs k e = rw (e, drop-length)

-- each object adds at most 2 ^ 50
word_le : (g : ℕ → ℕ) (xs : List ℕ) → Each (λ x. g x ≤ 50) xs → word (map g xs) ≤ length xs * 2 ^ 50
unfolding word
word_le g [] h = omega arith
word_le g (x ∷ xs) h = omega (arith, word_le g xs (each_tail (λ x. g x ≤ 50) x xs h), pow_mono {j = 50} (each-head (λ x. g x ≤ 50) x xs h))

-- a side of at most 25 objects is below 2 ^ 55: none of its sums wraps
pub word-most : (h : Head) (s : ℕ) (xs : List ℕ) → Fits h → s < h.n → length xs ≤ 25 → Each (λ x. in_range h x ≡ true) xs
    → word (map (moved h s) xs) < 2 ^ 55
word-most h s xs f l m t = omega (arith, word_le (moved h s) xs (λ i o. moved-most h s (get_or xs i 0) f l (t i o)))

-- 1 << r
pub bit_of : (r : ℕ) → r ≤ 50 → (1 * 2 ^ r) % 2 ^ 64 ≡ 2 ^ r
bit_of r h = shl_exact 1 r 64 (lit< tt) (omega arith) ∙ one-mul (2 ^ r)

-- part j of t parts of size a lies within them
pub part_in : (a j t : ℕ) → j < t → a * j + a ≤ a * t
part_in a j t h = omega (arith, mul-le-mul_left a h, mul-suc a j)

-- the next part begins where this one ends
pub part-next : (a j : ℕ) → a * j + a ≡ a * (j + 1)
part-next a j = sym (ap (λ (k : ℕ). a * k) (add-one j) ∙ mul-suc a j)

-- the words of all blocks, two ways to count them
pub twice : (n m : ℕ) → 2 * n * m ≡ 2 * (m * n)
twice n m = mul_assoc 2 n m ∙ ap (λ (k : ℕ). 2 * k) (mul_comm n m)

module _ (h : Head) (d : List ℕ) (j s : ℕ) (below : s < h.n) where
  -- the block at shift s of initial block j
  block-is : (h.n * j + s) / h.n ≡ j
  block-is = ap (λ (k : ℕ). (k + s) / h.n) (mul_comm h.n j) ∙ digits_div j below

  -- its shift
  shift_is : (h.n * j + s) % h.n ≡ s
  shift_is = ap (λ (k : ℕ). (k + s) % h.n) (mul_comm h.n j) ∙ digits_mod j below

  -- word 2nj + 2s is the left of initial block j at the shift s
  left_at : word (map (moved h s) (take h.p (drop (2 * h.p * j) d))) ≡ word_at h d (2 * h.n * j + 2 * s)
  unfolding word_at left
  left_at =
      let a : 2 * h.n * j ≡ 2 * (h.n * j) = mul_assoc 2 h.n j in
      let q : (2 * h.n * j + 2 * s) / 2 ≡ h.n * j + s = omega arith in
      let r : (2 * h.n * j + 2 * s) % 2 ≡ 0 = omega arith in
      rw (q, r, block-is, shift_is)

  -- the next word is its right
  right-at : word (map (moved h s) (take h.p (drop (2 * h.p * j + h.p) d))) ≡ word_at h d (2 * h.n * j + (2 * s + 1))
  unfolding word_at right
  right-at =
      let a : 2 * h.n * j ≡ 2 * (h.n * j) = mul_assoc 2 h.n j in
      let q : (2 * h.n * j + (2 * s + 1)) / 2 ≡ h.n * j + s = omega arith in
      let r : (2 * h.n * j + (2 * s + 1)) % 2 ≡ 1 = omega arith in
      rw (q, r, block-is, shift_is)

  -- with the left side as the code lends it
  pub left-lent : word (map (moved h s) (take (2 * h.p * j + h.p - 2 * h.p * j) (drop (2 * h.p * j) d))) ≡ word_at h d (2 * h.n * j + 2 * s)
  left-lent =
      let e : 2 * h.p * j + h.p - 2 * h.p * j ≡ h.p = omega arith in
      rw e left_at

  -- with the right side as the code lends it
  pub right-lent : word (map (moved h s) (take (2 * h.p * j + h.p + h.p - (2 * h.p * j + h.p)) (drop (2 * h.p * j + h.p) d))) ≡ word_at h d
      (2 * h.n * j + (2 * s + 1))
  right-lent =
      let e : 2 * h.p * j + h.p + h.p - (2 * h.p * j + h.p) ≡ h.p = omega arith in
      rw e right-at
