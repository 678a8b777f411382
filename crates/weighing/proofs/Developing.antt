-- Totals over words: how a loop builds one, how large it is, and that over the words of a sound design it is the total of the definition.
--     total-more, total-small, total-most     over any words
--     filled_at, filled_most, filled_squares  what a room that was filled with them holds
--     Laid, laid, laid-squares                the words of a sound design: signs, totals and squared totals are the design's
-- Assumes nothing.
use mathlib.Core.Path.{◌≡◌, sym, ap, ap₂, ◌∙◌, subst}
use mathlib.Core.Bool.{Bool, true, false, cond}
use mathlib.Core.List.{List}
use Prim.Native.Nat.{ℕ, ◌+◌, ◌*◌, ◌/◌, ◌%◌, ◌^◌, ◌≤◌, ◌<◌}
use native.Mathlib.Nat.{le_trans}
use native.Mathlib.Omega.{arith}
use borrow.Author.Tests.{eq-eqb, ne_eqb}
use lib.Dec.{eqb}
use lib.ListN.{get_or, length}
use lib.IntN.{ℤ, pos, nat_abs, ◌+ℤ◌, ◌-ℤ◌, ◌*ℤ◌}
use Rattle.algebra.specs.Buffers.{over}
use Rattle.algebra.proofs.Filling.{length_over, get_d_over}
use Rattle.algebra.proofs.Sums.{sum-none, sum_more, sum_cong, sumℕ_cong}
use Rattle.algebra.proofs.Bounds.{abs_between, abs-*-le, abs_sum, sum-squares}
use Rattle.records.specs.declared.Head.{Head}
use Rattle.meaning.specs.Design.{objects, blocks, left, right}
use Rattle.meaning.specs.Analysis.{reading, sign, total, squared_totals, member}
use Rattle.meaning.specs.Refusals.{reading_limit}
use Rattle.meaning.specs.Calls.{word, word_at}
use Rattle.laws.specs.Fits.{Fits}
use Rattle.laws.proofs.Chains.{Sound}
use Rattle.laws.proofs.Clean.{left-objects, right-objects, block-once}
use Rattle.words.proofs.Bits.{bit-most}
use Rattle.words.proofs.Members.{bit_word, word_below}
use Rattle.weighing.proofs.SquareSums.{squares}
use Rattle.laws.specs.Limits.{total_limit}
use Rattle.weighing.specs.Developed.{sign_in, total_in, squared_totals_in, Weighed, Within}

-- ---- over any words

-- a sign is at most 1 in size
pub sign-most : (words : List ℕ) (k i : ℕ) → nat_abs (sign_in words k i) ≤ 1
sign-most words k i = abs_between (member (get_or words (2 * k) 0) i) (member (get_or words (2 * k + 1) 0) i) 1 (bit-most _ i) (bit-most _ i)

module _ (words : List ℕ) (y : List ℤ) where
  -- of no block it is 0
  pub total-none : (i : ℕ) → pos 0 ≡ total_in words y 0 i
  unfolding total_in
  total-none i = sum-none _

  -- one block more
  pub total-more : (k i : ℕ) → total_in words y (k + 1) i ≡ total_in words y k i +ℤ sign_in words k i *ℤ reading y k
  unfolding total_in
  total-more k i = sum_more k _

  -- each block adds at most a reading
  pub total-small : (k b i : ℕ) → Weighed words y b → k ≤ b → nat_abs (total_in words y k i) ≤ k * reading_limit
  unfolding total_in
  total-small k b i w l =
      abs_sum k reading_limit (λ j. sign_in words j i *ℤ reading y j)
      (λ j m. le_trans (abs-*-le (sign_in words j i) (reading y j) 1 reading_limit (sign-most words j i) (w.readings-most j (omega arith))) (omega arith))

  -- so a total is at most 260,000,000 in size
  pub total-most : (b i : ℕ) → Weighed words y b → nat_abs (total_in words y b i) ≤ total_limit
  total-most b i w = omega (arith, total-small b b i w (omega arith), w.blocks-most)

-- ---- a room that was filled with them

module _ (words : List ℕ) (y : List ℤ) (b v : ℕ) (room totals : List ℤ) (m : v ≤ length room) (e : totals ≡ over v (total_in words y b) room) where
  -- a total stands at its place
  pub filled_at : (i : ℕ) → i < v → get_or totals i (pos 0) ≡ total_in words y b i
  filled_at i l = ap (λ (x : List ℤ). get_or x i (pos 0)) e ∙ get_d_over v (total_in words y b) room (pos 0) i l m

  -- at most 260,000,000 in size
  pub filled_most : Weighed words y b → (i : ℕ) → i < v → nat_abs (get_or totals i (pos 0)) ≤ total_limit
  filled_most w i l = subst (λ (z : ℤ). nat_abs z ≤ total_limit) (sym (filled_at i l)) (total-most words y b i w)

  -- and their squares add to the sum that is promised
  pub filled_squares : squares totals v ≡ squared_totals_in words y b v
  filled_squares = sumℕ_cong v _ _ (λ i l. ap (λ (z : ℤ). nat_abs z * nat_abs z) (filled_at i l))

-- ---- over the words of a sound design

-- the words hold the development of the design
pub record Developed (h : Head) (d : List ℕ) (words : List ℕ) : Type 0 where
  pub at : (c : ℕ) → c < 2 * blocks h → get_or words c 0 ≡ word_at h d c

-- no word of a development has an object at v or above
word-within : (h : Head) (d : List ℕ) → Sound h d → (c : ℕ) → c < 2 * blocks h → word_at h d c < 2 ^ objects h
unfolding word_at
word-within h d s c b = by (eqb (c % 2) 0)
  where
    k : c / 2 < blocks h
    k = omega arith

    by : (t : Bool) → cond t (word (left h d (c / 2))) (word (right h d (c / 2))) < 2 ^ objects h
    by true = word_below (objects h) (left h d (c / 2)) (λ x. omega (arith, block-once h d s (c / 2) k x)) (left-objects h d s (c / 2) k)
    by false = word_below (objects h) (right h d (c / 2)) (λ x. omega (arith, block-once h d s (c / 2) k x)) (right-objects h d s (c / 2) k)

module _ (h : Head) (d : List ℕ) (words : List ℕ) (s : Sound h d) (w : Developed h d words) where
  -- the left word of block k
  left_word : (k : ℕ) → k < blocks h → get_or words (2 * k) 0 ≡ word (left h d k)
  unfolding word_at
  left_word k l =
      let even : 2 * k % 2 ≡ 0 = omega arith in
      let half : 2 * k / 2 ≡ k = omega arith in
      w.at (2 * k) (omega arith) ∙ rw (eq-eqb (2 * k % 2) 0 even, half)

  -- its right word
  right-word : (k : ℕ) → k < blocks h → get_or words (2 * k + 1) 0 ≡ word (right h d k)
  unfolding word_at
  right-word k l =
      let half : (2 * k + 1) / 2 ≡ k = omega arith in
      w.at (2 * k + 1) (omega arith) ∙ rw (ne_eqb ((2 * k + 1) % 2) 0 (λ e. omega arith), half)

  -- a sign in the words is the sign of the definition
  pub sign-is : (k i : ℕ) → k < blocks h → sign_in words k i ≡ sign h d k i
  sign-is k i l =
      ap₂ (λ (a b : ℕ). pos a -ℤ pos b)
      (ap (λ (x : ℕ). member x i) (left_word k l) ∙ bit_word (left h d k) (λ x. omega (arith, block-once h d s k l x)) i)
      (ap (λ (x : ℕ). member x i) (right-word k l) ∙ bit_word (right h d k) (λ x. omega (arith, block-once h d s k l x)) i)

  -- and a total is the total
  pub total-is : (y : List ℤ) (i : ℕ) → total_in words y (blocks h) i ≡ total h d y i
  unfolding total_in total
  total-is y i = sum_cong (blocks h) _ _ (λ k l. ap (λ (x : ℤ). x *ℤ reading y k) (sign-is k i l))

-- ---- the words of a sound design, once they are laid

-- the words hold the development
pub record Laid (h : Head) (d : List ℕ) (words : List ℕ) : Type 0 where
  pub sizes : Fits h
  pub long : 2 * blocks h ≤ length words
  pub signs : (k i : ℕ) → k < blocks h → sign_in words k i ≡ sign h d k i
  pub totals : (y : List ℤ) (i : ℕ) → total_in words y (blocks h) i ≡ total h d y i
  pub within : Within words (blocks h) (objects h)

-- words that were written over by the development are so
pub laid : (h : Head) (d : List ℕ) (l words : List ℕ) → Sound h d → 2 * blocks h ≤ length l → words ≡ over (2 * blocks h) (word_at h d) l → Laid h d words
laid h d l words s m e = record {
  sizes = s.sizes;
  long = subst (λ (x : List ℕ). 2 * blocks h ≤ length x) (sym e) (omega (arith, length_over (2 * blocks h) (word_at h d) l));
  signs = sign-is h d words s at;
  totals = total-is h d words s at;
  within = record { below = λ c b. subst (λ (x : ℕ). x < 2 ^ objects h) (sym (at.at c b)) (word-within h d s c b) };
}
  where
    at : Developed h d words
    at = record { at = λ c b. ap (λ (x : List ℕ). get_or x c 0) e ∙ get_d_over (2 * blocks h) (word_at h d) l 0 c b m }

-- the squares of its totals add to the squared totals of the design
pub laid-squares : (h : Head) (d : List ℕ) (y : List ℤ) (words : List ℕ) → Laid h d words →
    squared_totals_in words y (blocks h) (objects h) ≡ nat_abs (squared_totals h d y)
unfolding squared_totals
laid-squares h d y words l = sumℕ_cong (objects h) _ _ (λ i b. ap (λ (z : ℤ). nat_abs z * nat_abs z) (l.totals y i))
    ∙ sym (ap nat_abs (sum-squares (objects h) (total h d y)))
