-- What is drawn from words is what the definitions say of the design, and how large it is.
--     draws, goes_before          the generator, block by block
--     between-none, between-more, between-small    a sum between two words, as a loop builds it
--     reading_small               a reading that is drawn is an i32
--     knows, drawn, true-sum      of an accepted practice
-- Assumes nothing.
use Rattle.std.proofs.Common.{
  ◌≡◌,
  ℕ,
  zero,
  suc,
  ◌+◌,
  ◌*◌,
  ◌^◌,
  ◌<◌,
  ◌≤◌,
  List,
  length,
  get_or,
  ℤ,
  pos,
  ◌+ℤ◌,
  ◌-ℤ◌,
  ◌*ℤ◌,
  nat_abs,
  sym,
  refl,
  ap,
  ◌∙◌,
  le_trans,
  lt_of_le_of_lt,
  arith,
  lit<,
  w32,
  SFits,
}
use native.Mathlib.Numerals.{unary_clauses}
use Rattle.algebra.specs.Ranges.{sum}
use Rattle.algebra.proofs.Bounds.{mag_abs, abs_between, abs-+, abs-*-le, abs_sum}
use Rattle.algebra.proofs.Solver.{◌⊗◌, ◌⊝◌, #, ◌≐◌, ring₂}
use Rattle.algebra.proofs.Sums.{sum-none, sum_more, sum_ext}
use Rattle.records.specs.declared.Head.{Head}
use Rattle.meaning.specs.Design.{objects, blocks}
use Rattle.meaning.specs.Analysis.{member, restrained}
use Rattle.meaning.specs.Practice.{step, state, noise, truth, truth_limit, width_limit, practice_reading, true_sum}
use Rattle.laws.proofs.Matrix.{difference_signs}
use Rattle.laws.proofs.Practice.{Practised, noise-most}
use Rattle.words.proofs.Bits.{bit-most, bit-none}
use Rattle.weighing.specs.Developed.{sign_in}
use Rattle.weighing.proofs.Developing.{Laid}
use Rattle.practice.specs.Drawn.{Known, between, reading_in, before}

-- ---- the generator

-- the number before a block, stepped, is the block's own
pub draws : (start k : ℕ) → step (before start k) ≡ state start k
unfolding before state
draws start zero = refl
draws start (suc k) = refl

-- which is the one before the next block
pub goes_before : (start k : ℕ) → state start k ≡ before start (k + 1)
unfolding before
goes_before start k = simp unary_clauses refl

-- the start stands before the first
pub starts_before : (start : ℕ) → start ≡ before start 0
unfolding before
starts_before start = refl

-- ---- a sum between two words

-- an object's part of it
abbrev part : List ℤ → ℕ → ℕ → ℕ → ℤ
part u a b i = (pos (member a i) -ℤ pos (member b i)) *ℤ truth u i

-- over the first n objects
unfoldable pub among : List ℤ → ℕ → ℕ → ℕ → ℤ
among u a b n = sum n (part u a b)

module _ (u : List ℤ) (a b : ℕ) where
  -- over none
  pub among_none : pos 0 ≡ among u a b 0
  unfolding among
  among_none = sum-none _

  -- over one more
  pub among-more : (n : ℕ) → among u a b n +ℤ part u a b n ≡ among u a b (n + 1)
  unfolding among
  among-more n = sym (sum_more n (part u a b))

  -- over all
  pub among-all : among u a b (length u) ≡ between u a b
  unfolding among between
  among-all = refl

  module _ (known : Known u) where
    -- each object adds at most 3,000
    pub among-small : (n : ℕ) → n ≤ length u → nat_abs (among u a b n) ≤ 150000
    unfolding among
    among-small n l = omega (arith, known.few, abs_sum n truth_limit (part u a b) (λ i m. each i (omega arith)))
      where
        each : (i : ℕ) → i < length u → nat_abs (part u a b i) ≤ truth_limit
        each i m =
            let signed : nat_abs (pos (member a i) -ℤ pos (member b i)) ≤ 1 = abs_between (member a i) (member b i) 1 (bit-most a i) (bit-most b i) in
            le_trans (abs-*-le (pos (member a i) -ℤ pos (member b i)) (truth u i) 1 truth_limit signed (known.most i m)) (omega arith)

    pub between-small : nat_abs (between u a b) ≤ 150000
    between-small = rw (← among-all) (among-small (length u) (omega arith))

-- ---- a reading

-- a number of this size is an i32
pub short_fits : (z : ℤ) → nat_abs z ≤ 150128 → SFits w32 z
short_fits z l = record { sfits = lt_of_le_of_lt (le_trans (mag_abs z) l) (lit< tt) }

-- with noise it is at most 150,128 in size
pub reading_small : (words : List ℕ) (u : List ℤ) (w x k : ℕ) → Known u → w ≤ width_limit → x < 2 ^ 32 → nat_abs (reading_in words u w x k) ≤ 150128
unfolding reading_in
reading_small words u w x k known l m = omega (
  arith,
  abs-+ (between u (get_or words (2 * k) 0) (get_or words (2 * k + 1) 0)) (noise w x),
  between-small u (get_or words (2 * k) 0) (get_or words (2 * k + 1) 0) known,
  noise-most w x l m,
)

-- ---- of an accepted practice

module _ (h : Head) (d : List ℕ) (u : List ℤ) (w : ℕ) (p : Practised h d u w) where
  -- its true values are known
  pub knows : Known u
  knows = record {
    few = omega (arith, p.truths-long, p.design.sizes.objects-most);
    most = λ i l. p.truths-most i (omega (arith, p.truths-long));
  }

  -- what is drawn from the words of its design is its reading
  pub drawn : (words : List ℕ) → Laid h d words → (start k : ℕ) → k < blocks h → reading_in words u w (state start k) k ≡ practice_reading h d u start w k
  unfolding reading_in between practice_reading
  drawn words laid start k l = ap (λ (z : ℤ). z +ℤ noise w (state start k)) (
      ap (λ (n : ℕ). sum n (λ i. sign_in words k i *ℤ truth u i)) p.truths-long
      ∙ sum_ext (objects h) _ _ (λ i. ap (λ (z : ℤ). z *ℤ truth u i) (laid.signs k i l))
      ∙ sym (difference_signs h d p.design (truth u) k l))

  -- between the restraint set and no object stands the true sum
  pub true-sum : (set : ℕ) → between u set 0 ≡ true_sum h u set
  unfolding between restrained
  true-sum set =
      ap (λ (n : ℕ). sum n (part u set 0)) p.truths-long
      ∙ sum_ext (objects h) _ _ (λ i. ap (λ (m : ℕ). (pos (member set i) -ℤ pos m) *ℤ truth u i) (bit-none i)
      ∙ ring₂ (λ m t. (m ⊝ # 0) ⊗ t ≐ m ⊗ t) (pos (member set i)) (truth u i) refl)
