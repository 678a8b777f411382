-- Sums of a room of totals over the objects of a word: the walk that builds one, how large it is, and what a block's two words make of it.
--     set_rest                            a sum is its lowest object's total and the sum over the rest
--     set-within                          over a word with its objects below v, v places are enough
--     SetWalk, set-goes, set-ends, so_far_small   the walk
--     set-small, fitted_small             how large
--     fitted_signs                        by the signs of a block's words
--     set_agrees, fitted_agrees           from two rooms of the same totals
--     held_by                             every object of such a word has its total
--     totalled, numerators_agree, deviations_agree   what a room that was filled with the totals over words holds, and what is made from it
-- Assumes nothing.
use mathlib.Core.Path.{◌≡◌, refl, sym, ap, ap₂, ◌∙◌, subst}
use mathlib.Core.List.{List}
use Prim.Native.Nat.{ℕ, ◌+◌, ◌-◌, ◌*◌, ◌^◌, ◌≤◌, ◌<◌}
use native.Mathlib.Nat.{le_trans}
use native.Mathlib.Decide.{ℕ_discrete}
use native.Mathlib.Omega.{arith}
use lib.IntN.{ℤ, pos, nat_abs, ◌+ℤ◌, ◌-ℤ◌, ◌*ℤ◌}
use lib.ListN.{get_or, length}
use Rattle.algebra.specs.Ranges.{sum}
use Rattle.algebra.specs.Buffers.{over}
use Rattle.algebra.proofs.Filling.{over_ext}
use Rattle.algebra.proofs.Sums.{sum_add, sum_sub, sum_ext, sum_cong, sum-zero, sum_only, sum_split}
use Rattle.algebra.proofs.Solver.{◌⊕◌, ◌⊗◌, ◌⊝◌, #, ◌≐◌, ring₁, ring₃}
use Rattle.algebra.proofs.Order.{comb₁}
use Rattle.algebra.proofs.Bounds.{abs-*-le, abs_sub, abs_sum}
use Rattle.records.specs.declared.Head.{Head}
use Rattle.meaning.specs.Design.{objects, blocks}
use Rattle.meaning.specs.Analysis.{reading, member, members, restrained, numerator}
use Rattle.words.specs.Bits.{lowest_of, without_lowest}
use Rattle.words.proofs.Bits.{bit-most, bit-none, bit_past, one_below, once, once-same, once-other}
use Rattle.words.proofs.Walk.{Left, left-rest, lowest_lt, rest-bit}
use Rattle.weighing.specs.Developed.{sign_in, total_in}
use Rattle.weighing.proofs.Developing.{filled_at, filled_most}
use Rattle.weighing.proofs.Refusing.{Weighable}
use Rattle.laws.specs.Limits.{total_limit}
use Rattle.analysis.specs.Worked.{total_at, Totalled, Held, over_set, numerator_in, fitted_in, deviation_in}

-- ---- over any word

module _ (f : ℕ → ℤ) where
  -- a sum is its lowest object's and the sum over the rest
  pub set_rest : (w : ℕ) → 0 < w → w < 2 ^ 64 → restrained 64 w f ≡ f (lowest_of w) +ℤ restrained 64 (without_lowest w) f
  unfolding restrained
  set_rest w p h =
      sum_ext 64 _ _ (λ i. ap (λ (b : ℕ). pos b *ℤ f i) (sym (rest-bit w p h i))
      ∙ ring₃ (λ a b t. (a ⊕ b) ⊗ t ≐ b ⊗ t ⊕ a ⊗ t) (pos (member (without_lowest w) i)) (pos (once i (lowest_of w))) (f i) refl)
      ∙ sum_add 64 (λ i. pos (once i (lowest_of w)) *ℤ f i) (λ i. pos (member (without_lowest w) i) *ℤ f i)
      ∙ ap (λ (z : ℤ). z +ℤ sum 64 (λ i. pos (member (without_lowest w) i) *ℤ f i)) one
    where
      other : (j : ℕ) → j < 64 → (lowest_of w ≡ j → ⊥) → pos (once j (lowest_of w)) *ℤ f j ≡ pos 0
      other j l n = ap (λ (b : ℕ). pos b *ℤ f j) (once-other j (lowest_of w) (λ e. n (sym e))) ∙ ring₁ (λ t. # 0 ⊗ t ≐ # 0) (f j) refl

      one : sum 64 (λ i. pos (once i (lowest_of w)) *ℤ f i) ≡ f (lowest_of w)
      one =
          sum_only 64 (lowest_of w) (λ i. pos (once i (lowest_of w)) *ℤ f i) (lowest_lt 64 w p h (omega arith)) other
          ∙ ap (λ (b : ℕ). pos b *ℤ f (lowest_of w)) (once-same (lowest_of w) (lowest_of w) refl) ∙ ring₁ (λ t. # 1 ⊗ t ≐ t) (f (lowest_of w)) refl

  -- over no object it is 0
  pub set-nothing : restrained 64 0 f ≡ pos 0
  unfolding restrained
  set-nothing = sum_cong 64 _ (λ i. pos 0) (λ i l. ap (λ (b : ℕ). pos b *ℤ f i) (bit-none i) ∙ ring₁ (λ t. # 0 ⊗ t ≐ # 0) (f i) refl) ∙ sum-zero 64

  -- where a word has its objects below v, v places are enough
  pub set-within : (v w : ℕ) → v ≤ 64 → w < 2 ^ v → restrained 64 w f ≡ restrained v w f
  unfolding restrained
  set-within v w l h =
      let all : 64 ≡ v + (64 - v) = omega arith in
      ap (λ (n : ℕ). sum n (λ i. pos (member w i) *ℤ f i)) all
      ∙ sum_split v (64 - v) (λ i. pos (member w i) *ℤ f i)
      ∙ ap (λ (z : ℤ). sum v (λ i. pos (member w i) *ℤ f i) +ℤ z)
      (sum_cong (64 - v) _ (λ i. pos 0)
      (λ i a. ap (λ (b : ℕ). pos b *ℤ f (v + i)) (bit_past v w (v + i) h (omega arith)) ∙ ring₁ (λ t. # 0 ⊗ t ≐ # 0) (f (v + i)) refl) ∙ sum-zero (64 - v))
      ∙ ring₁ (λ t. t ⊕ # 0 ≐ t) (sum v (λ i. pos (member w i) *ℤ f i)) refl

-- ---- over a room of totals

module _ (totals : List ℤ) (w : ℕ) (r : Held totals w) where
  -- each object adds at most a total; so over a part of the word
  pub part_small : (rest : ℕ) → ((i : ℕ) → member rest i ≡ 1 → member w i ≡ 1) → nat_abs (over_set rest (total_at totals)) ≤ 64 * total_limit
  unfolding restrained
  part_small rest part = omega (arith, abs_sum 64 total_limit (λ i. pos (member rest i) *ℤ total_at totals i) (λ i l. by i (ℕ_discrete (member rest i) 1)))
    where
      by : (i : ℕ) → Dec (member rest i ≡ 1) → nat_abs (pos (member rest i) *ℤ total_at totals i) ≤ total_limit
      by i (yes e) = le_trans (abs-*-le (pos (member rest i)) (total_at totals i) 1 total_limit (bit-most rest i) (r.held i (part i e)).1) (omega arith)
      by i (no n) =
          let none : member rest i ≡ 0 = omega (arith, n, bit-most rest i) in
          subst (λ (z : ℤ). nat_abs z ≤ total_limit)
          (sym (ap (λ (b : ℕ). pos b *ℤ total_at totals i) none ∙ ring₁ (λ t. # 0 ⊗ t ≐ # 0) (total_at totals i) refl)) (omega arith)

  -- over all of it
  pub set-small : nat_abs (over_set w (total_at totals)) ≤ 64 * total_limit
  set-small = part_small w (λ i e. e)

-- the walk: rest is what is left of the word w, and so far the total of every object that is not
pub record SetWalk (w : ℕ) (totals : List ℤ) (rest : ℕ) (so_far : ℤ) : Type 0 where
  pub left : Left w rest
  pub sums : so_far +ℤ over_set rest (total_at totals) ≡ over_set w (total_at totals)

module _ (w : ℕ) (totals : List ℤ) where
  -- all was added
  pub set-ends : (so_far : ℤ) → SetWalk w totals 0 so_far → so_far ≡ over_set w (total_at totals)
  set-ends so_far k = sym (ap (λ (z : ℤ). so_far +ℤ z) (set-nothing (total_at totals)) ∙ ring₁ (λ t. t ⊕ # 0 ≐ t) so_far refl) ∙ k.sums

  module _ (rest : ℕ) (so_far : ℤ) (h : w < 2 ^ 64) (p : 0 < rest) (k : SetWalk w totals rest so_far) where
    -- the lowest object is taken
    pub set-goes : (z : ℤ) → z ≡ so_far +ℤ total_at totals (lowest_of rest) → SetWalk w totals (without_lowest rest) z
    set-goes z e = record {
      left = left-rest w rest h p k.left;
      sums =
          ap (λ (x : ℤ). x +ℤ over_set (without_lowest rest) (total_at totals)) e
          ∙ ring₃ (λ s t r. s ⊕ t ⊕ r ≐ s ⊕ (t ⊕ r)) so_far (total_at totals (lowest_of rest)) (over_set (without_lowest rest) (total_at totals)) refl
          ∙ ap (λ (x : ℤ). so_far +ℤ x) (sym (set_rest (total_at totals) rest p (omega (arith, k.left.less)))) ∙ k.sums;
    }

  -- what was added is the difference of two sums
  pub so_far_small : (rest : ℕ) (so_far : ℤ) → Held totals w → SetWalk w totals rest so_far → nat_abs so_far ≤ 128 * total_limit
  so_far_small rest so_far r k =
      let taken : so_far ≡ over_set w (total_at totals) -ℤ over_set rest (total_at totals) =
      comb₁ (pos 1) k.sums (ring₃ (λ s a b. s ⊝ (b ⊝ a) ≐ # 1 ⊗ (s ⊕ a ⊝ b)) so_far (over_set rest (total_at totals)) (over_set w (total_at totals)) refl) in
      subst (λ (z : ℤ). nat_abs z ≤ 128 * total_limit) (sym taken)
      (omega (
        arith,
        abs_sub (over_set w (total_at totals)) (over_set rest (total_at totals)),
        set-small totals w r,
        part_small totals w r rest k.left.part,
      ))

-- ---- the words of a block

-- every object of a word that has them below v has its total
pub held_by : (totals : List ℤ) (v w : ℕ) → Totalled totals v → w < 2 ^ v → Held totals w
held_by totals v w t h = record { held = λ i e. let l = one_below v w i h e in (omega (arith, t.few), t.most i l) }

-- two sums over such a word agree where their totals do
pub set_agrees : (f g : ℕ → ℤ) (v w : ℕ) → v ≤ 64 → w < 2 ^ v → ((i : ℕ) → i < v → f i ≡ g i) → restrained 64 w f ≡ restrained 64 w g
unfolding restrained
set_agrees f g v w l h e = set-within f v w l h ∙ sum_cong v _ _ (λ i m. ap (λ (t : ℤ). pos (member w i) *ℤ t) (e i m)) ∙ sym (set-within g v w l h)

-- each side of a block is at most that of 64 totals
pub fitted_small : (words : List ℕ) (totals : List ℤ) (k : ℕ) → Held totals (get_or words (2 * k) 0) → Held totals (get_or words (2 * k + 1) 0) →
    nat_abs (fitted_in words (total_at totals) k) ≤ 128 * total_limit
fitted_small words totals k a b =
    le_trans (abs_sub (over_set (get_or words (2 * k) 0) (total_at totals)) (over_set (get_or words (2 * k + 1) 0) (total_at totals)))
    (omega (arith, set-small totals (get_or words (2 * k) 0) a, set-small totals (get_or words (2 * k + 1) 0) b))

module _ (words : List ℕ) (k v : ℕ) (l : v ≤ 64) (a : get_or words (2 * k) 0 < 2 ^ v) (b : get_or words (2 * k + 1) 0 < 2 ^ v) where
  -- a block is fitted by the signs of its words
  pub fitted_signs : (T : ℕ → ℤ) → fitted_in words T k ≡ sum v (λ i. sign_in words k i *ℤ T i)
  unfolding restrained
  fitted_signs T =
      ap₂ ◌-ℤ◌ (set-within T v (get_or words (2 * k) 0) l a) (set-within T v (get_or words (2 * k + 1) 0) l b)
      ∙ sym (sum_sub v _ _)
      ∙ sum_ext v _ _ (λ i. ring₃ (λ l r t. l ⊗ t ⊝ r ⊗ t ≐ (l ⊝ r) ⊗ t) (pos (member (get_or words (2 * k) 0) i))
      (pos (member (get_or words (2 * k + 1) 0) i)) (T i) refl)

  -- two fits agree where their totals do
  pub fitted_agrees : (f g : ℕ → ℤ) → ((i : ℕ) → i < v → f i ≡ g i) → fitted_in words f k ≡ fitted_in words g k
  fitted_agrees f g e = ap₂ ◌-ℤ◌ (set_agrees f g v (get_or words (2 * k) 0) l a e) (set_agrees f g v (get_or words (2 * k + 1) 0) l b e)

-- ---- a room that was filled with the totals over words

module _ (h : Head) (y : List ℤ) (words : List ℕ) (room totals : List ℤ) (s : Weighable h words y (length room))
    (e : totals ≡ over (objects h) (total_in words y (blocks h)) room) where
  abbrev T : ℕ → ℤ
  T = total_in words y (blocks h)

  few : objects h ≤ 64
  few = omega (arith, s.fit.objects-most)

  agrees : (i : ℕ) → i < objects h → total_at totals i ≡ T i
  agrees = filled_at words y (blocks h) (objects h) room totals s.roomy e

  -- every total is in its range
  pub totalled : Totalled totals (objects h)
  totalled = record {
    few = s.fit.objects-most;
    most = filled_most words y (blocks h) (objects h) room totals s.roomy e s.weighed;
  }

  -- the numerators that are made from it are those of the words
  pub numerators_agree : (w vb : ℕ) (M : ℤ) (values : List ℤ) → w < 2 ^ objects h →
      over (objects h) (numerator_in (total_at totals) (objects h) w vb M) values ≡ over (objects h) (numerator_in T (objects h) w vb M) values
  numerators_agree w vb M values g =
      over_ext (objects h) _ _ values
      (λ i l. ap₂ (λ (t S : ℤ). numerator (members (objects h) w) t S vb M) (agrees i l) (set_agrees (total_at totals) T (objects h) w few g agrees))

  -- and so are the deviation numerators
  pub deviations_agree : (vb : ℕ) (deviations : List ℤ) →
      over (blocks h) (deviation_in words y (total_at totals) vb) deviations ≡ over (blocks h) (deviation_in words y T vb) deviations
  deviations_agree vb deviations =
      over_ext (blocks h) _ _ deviations (λ k l. ap (λ (F : ℤ). pos vb *ℤ reading y k -ℤ F)
      (fitted_agrees words k (objects h) few (s.within.below (2 * k) (omega arith)) (s.within.below (2 * k + 1) (omega arith)) (total_at totals) T agrees))
