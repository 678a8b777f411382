-- The words of a list of blocks.
--     word_more, word_none, word-most   a side's word, byte by byte; it does not wrap
--     left-lent, right-lent             word 2k is block k's left side, and the next its right side
--     list_in_words                     the words of an accepted list, as the counting takes them
-- Assumes nothing.
use Prim.Native.Nat.{ℕ, ◌+◌, ◌-◌, ◌*◌, ◌/◌, ◌%◌, ◌^◌, ◌≤◌, ◌<◌}
use mathlib.Core.Path.{◌≡◌, sym, ap, ◌∙◌}
use mathlib.Core.List.{List, [], ◌∷◌}
use native.Mathlib.Numerals.{add-one}
use native.Mathlib.Omega.{arith}
use native.Mathlib.Nat.{one-mul}
use lib.Dec.{lit<}
use lib.Pow.{pow_mono, shl_exact}
use lib.ListN.{length, get_or, take, drop}
use lib.Seq.{drop-cons, drop-length}
use Rattle.algebra.specs.Buffers.{over}
use Rattle.algebra.proofs.Filling.{get_d_over, length_over}
use Rattle.meaning.specs.Calls.{word}
use Rattle.meaning.specs.Groups.{left_of, right_of}
use Rattle.laws.proofs.Occurrences.{Each, each-head, each_tail}
use Rattle.laws.proofs.Groups.{Listed, list_left, list_right, list-once}
use Rattle.balance.proofs.Blocks.{InWords}
use Rattle.groups.specs.Words.{list_word_at}

-- the first byte's bit and the word of the rest
pub word_more : (xs : List ℕ) (k : ℕ) → k < length xs → word (drop k xs) ≡ 2 ^ get_or xs k 0 + word (drop (k + 1) xs)
unfolding word
word_more xs k h = rw (drop-cons xs k 0 h, add-one k)

-- no byte is left
pub word_none : (xs : List ℕ) (k : ℕ) → k ≡ length xs → word (drop k xs) ≡ 0
unfolding word
word_none xs k e = rw (e, drop-length)

-- each object adds at most 2 ^ 50
word_le : (xs : List ℕ) → Each (λ x. x < 50) xs → word xs ≤ length xs * 2 ^ 50
unfolding word
word_le [] h = omega arith
word_le (x ∷ xs) h =
    let small = each-head (λ x. x < 50) x xs h in
    let least : x ≤ 50 = omega arith in
    omega (arith, word_le xs (each_tail (λ x. x < 50) x xs h), pow_mono {j = 50} least)

-- a side of at most 25 objects is below 2 ^ 55: none of its sums wraps
pub word-most : (xs : List ℕ) → length xs ≤ 25 → Each (λ x. x < 50) xs → word xs < 2 ^ 55
word-most xs l h = omega (arith, word_le xs h)

-- 1 << r
pub bit_of : (r : ℕ) → r ≤ 50 → (1 * 2 ^ r) % 2 ^ 64 ≡ 2 ^ r
bit_of r h = shl_exact 1 r 64 (lit< tt) (omega arith) ∙ one-mul (2 ^ r)

module _ (p : ℕ) (d : List ℕ) (k : ℕ) where
  -- word 2k is the left of block k
  pub left_at : list_word_at p d (2 * k) ≡ word (left_of p d k)
  unfolding list_word_at
  left_at =
      let q : 2 * k / 2 ≡ k = omega arith in
      let r : 2 * k % 2 ≡ 0 = omega arith in
      rw (q, r)

  -- the next word is its right
  pub right-at : list_word_at p d (2 * k + 1) ≡ word (right_of p d k)
  unfolding list_word_at
  right-at =
      let q : (2 * k + 1) / 2 ≡ k = omega arith in
      let r : (2 * k + 1) % 2 ≡ 1 = omega arith in
      rw (q, r)

  -- with the sides as the code lends them
  pub left-lent : word (take (2 * p * k + p - 2 * p * k) (drop (2 * p * k) d)) ≡ list_word_at p d (2 * k)
  unfolding left_of
  left-lent =
      let e : 2 * p * k + p - 2 * p * k ≡ p = omega arith in
      rw e (sym left_at)

  pub right-lent : word (take (2 * p * k + p + p - (2 * p * k + p)) (drop (2 * p * k + p) d)) ≡ list_word_at p d (2 * k + 1)
  unfolding right_of
  right-lent =
      let e : 2 * p * k + p + p - (2 * p * k + p) ≡ p = omega arith in
      rw e (sym right-at)

-- they are all there
pub list-long : (count p : ℕ) (d l : List ℕ) {ws : List ℕ} → count ≤ 1300 → length l ≡ 2600 → ws ≡ over (2 * count) (list_word_at p d) l → 2 * count ≤ length ws
list-long count p d l few whole w = omega (arith, ap length w, length_over (2 * count) (list_word_at p d) l)

-- the words of an accepted list
pub list_in_words : (count v p : ℕ) (d groups l : List ℕ) {ws : List ℕ} → Listed count v p d groups → length l ≡ 2600
    → ws ≡ over (2 * count) (list_word_at p d) l → InWords count v (left_of p d) (right_of p d) ws
list_in_words count v p d groups l {ws} s whole w = record {
  v_most = s.fits.v_most;
  once = list-once count v p d groups s;
  left_in = list_left count v p d groups s;
  right_in = list_right count v p d groups s;
  left_word = λ k m. at (2 * k) (omega arith) ∙ left_at p d k;
  right-word = λ k m. at (2 * k + 1) (omega arith) ∙ right-at p d k;
}
  where
    at : (c : ℕ) → c < 2 * count → get_or ws c 0 ≡ list_word_at p d c
    at c m = let f = s.fits in ap (λ (t : List ℕ). get_or t c 0) w ∙ get_d_over (2 * count) (list_word_at p d) l 0 c m (omega arith)
