-- A reading added to the totals of the objects of a word, one by one, lowest first.
--     more_in, more-not          a total with it, for an object that is in the word and for one that is not
--     walk-most, added-room      within the walk and after it a room stays in its range
--     block-added, block_room    with both words of a block, the totals have one block more; there is room for them
--     cleared                    the room before the first block
-- Assumes nothing.
use mathlib.Core.Path.{◌≡◌, refl, sym, ap, ◌∙◌, subst}
use mathlib.Core.List.{List, [], ◌∷◌, ◌++◌}
use Prim.Native.Nat.{ℕ, zero, suc, ◌+◌, ◌*◌, ◌^◌, ◌≤◌, ◌<◌}
use native.Mathlib.Nat.{le_of_suc-le-suc}
use native.Mathlib.Omega.{arith}
use lib.ListN.{get_or, length, drop, replicate}
use lib.IntN.{ℤ, pos, nat_abs, ◌+ℤ◌, ◌-ℤ◌, ◌*ℤ◌}
use Rattle.algebra.specs.Buffers.{over}
use Rattle.algebra.proofs.Filling.{length_over, get_d_over, over_ext}
use Rattle.algebra.proofs.Solver.{◌⊕◌, ◌⊗◌, ◌⊝◌, #, ◌≐◌, ring₂, ring₄}
use Rattle.algebra.proofs.Bounds.{abs-+, abs_sub, abs-*-le}
use Rattle.meaning.specs.Analysis.{reading, member}
use Rattle.words.proofs.Bits.{bit-most, bit_past, one_below}
use Rattle.words.proofs.Changing.{each_twice, each_keeps, each_over, each_long, walked, walk-near}
use Rattle.weighing.specs.Developed.{total_in, Weighed, Room, more, added, block_added}
use Rattle.meaning.specs.Refusals.{reading_limit}
use Rattle.laws.specs.Limits.{total_limit}
use Rattle.weighing.proofs.Developing.{total-none, total-more, total-small}

-- the total that stands at place i
abbrev at : List ℤ → ℕ → ℤ
at l i = get_or l i (pos 0)

-- ---- the objects of a word

module _ (w : ℕ) (y : ℤ) where
  -- y is added where the object is in the word
  pub more_in : (i : ℕ) (t : ℤ) → member w i ≡ 1 → t +ℤ y ≡ more w y i t
  unfolding more
  more_in i t e = ring₂ (λ t y. t ⊕ y ≐ t ⊕ # 1 ⊗ y) t y refl ∙ ap (λ (b : ℕ). t +ℤ pos b *ℤ y) (sym e)

  -- and nothing where it is not
  pub more-not : (i : ℕ) (t : ℤ) → member w i ≡ 0 → more w y i t ≡ t
  unfolding more
  more-not i t e = ap (λ (b : ℕ). t +ℤ pos b *ℤ y) e ∙ ring₂ (λ t y. t ⊕ # 0 ⊗ y ≐ t) t y refl

  module _ (h : nat_abs y ≤ reading_limit) where
    -- a total and what it becomes are at most a reading apart in size
    abbrev Near : ℤ → ℤ → Type 0
    Near t u = (nat_abs t ≤ nat_abs u + reading_limit) × (nat_abs u ≤ nat_abs t + reading_limit)

    more-near : (i : ℕ) (t : ℤ) → Near t (more w y i t)
    unfolding more
    more-near i t = (omega (arith, most, ap nat_abs back, abs_sub (more w y i t) (pos (member w i) *ℤ y)), omega (arith, most, abs-+ t (pos (member w i) *ℤ y)))
      where
        most : nat_abs (pos (member w i) *ℤ y) ≤ 1 * reading_limit
        most = abs-*-le (pos (member w i)) y 1 reading_limit (bit-most w i) h

        back : more w y i t -ℤ pos (member w i) *ℤ y ≡ t
        back = ring₂ (λ t u. t ⊕ u ⊝ u ≐ t) t (pos (member w i) *ℤ y) refl

    -- so within the walk a total is at most two readings larger than it was
    pub walk-most : (rest : ℕ) (now l : List ℤ) (i : ℕ) → walked rest (more w y) now ≡ walked w (more w y) l →
        nat_abs (at now i) ≤ nat_abs (at l i) + 2 * reading_limit
    walk-most rest now l i e =
        let (a, b) = walk-near Near (λ t. (omega arith, omega arith)) (more w y) more-near rest w now l (pos 0) i e in
        omega (arith, a.0, b.1)

    -- and after it at most one
    pub added-room : (l : List ℤ) (u B : ℕ) → Room l u B → Room (added w y l) u (B + reading_limit)
    added-room l u B r = record {
      held = λ i e. let (a, b) = r.held i e in
          (omega (arith, each_long (more w y) l), omega (arith, (each_keeps (λ k. Near) (pos 0) (λ k. (omega arith, omega arith)) (more w y) more-near l i).1));
    }

-- ---- the words of a block

module _ (words : List ℕ) (y : List ℤ) (v k : ℕ) (l now : List ℤ) (b : v ≤ length l) (e : now ≡ over v (total_in words y k) l) where
  abbrev left : ℕ
  left = get_or words (2 * k) 0

  abbrev right : ℕ
  right = get_or words (2 * k + 1) 0

  -- a total with the reading of block k for both of its words has one block more
  total-next : (i : ℕ) → more right (pos 0 -ℤ reading y k) i (more left (reading y k) i (total_in words y k i)) ≡ total_in words y (k + 1) i
  unfolding more
  total-next i =
      ring₄ (λ t l r y. t ⊕ l ⊗ y ⊕ r ⊗ (# 0 ⊝ y) ≐ t ⊕ (l ⊝ r) ⊗ y) (total_in words y k i) (pos (member left i)) (pos (member right i)) (reading y k) refl
      ∙ sym (total-more words y k i)

  -- so has a room of them
  pub block-added : left < 2 ^ v → right < 2 ^ v → block_added words y k now ≡ over v (total_in words y (k + 1)) l
  block-added m n =
      ap (block_added words y k) e ∙ each_twice _ _ (over v _ l)
      ∙ each_over _ v _ l (λ i t a. more-not right _ i _ (bit_past v right i n a) ∙ more-not left _ i t (bit_past v left i m a))
      ∙ over_ext v _ _ l (λ i a. total-next i)

  -- and before that every object of a word that has them below v has its place, with a total of k blocks
  pub block_room : (n w C : ℕ) → Weighed words y n → k ≤ n → w < 2 ^ v → total_limit ≤ C → Room now w C
  block_room n w C g m h f = record { held = λ i o. let a = one_below v w i h o in (inside i a, near i a) }
    where
      inside : (i : ℕ) → i < v → i < length now
      inside i a = omega (arith, ap length e, length_over v (total_in words y k) l)

      near : (i : ℕ) → i < v → nat_abs (at now i) ≤ C
      near i a =
          subst (λ (z : ℤ). nat_abs z ≤ C) (sym (ap (λ (m : List ℤ). at m i) e ∙ get_d_over v _ l (pos 0) i a b))
          (omega (arith, total-small words y k n i g m, g.blocks-most))

-- a front that is filled with 0
filled : (v : ℕ) (l : List ℤ) → v ≤ length l → replicate v (pos 0) ++ drop v l ≡ over v (λ i. pos 0) l
unfolding over
filled zero l h = refl
filled (suc v) [] h = absurd (omega arith)
filled (suc v) (x ∷ l) h = ap (λ (t : List ℤ). pos 0 ∷ t) (filled v l (le_of_suc-le-suc h))

-- holds the totals of no block
pub cleared : (v : ℕ) (l zeros : List ℤ) (words : List ℕ) (y : List ℤ) → v ≤ length l → zeros ≡ replicate v (pos 0) →
    zeros ++ drop v l ≡ over v (total_in words y 0) l
cleared v l zeros words y h e = rw e (filled v l h ∙ over_ext v _ _ l (λ i a. total-none words y i))
