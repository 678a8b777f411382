-- Practice readings and the practice job. The readings of width 0 are what the true values make of each block, so the totals are those of the transpose
-- after the matrix, and the values come out as the true ones; noise adds at most 128.
--     Practised, practised-is       what an accepted practice is
--     reading-most                  a practice reading is at most 150,128 in size, whatever the width
--     practice_job_lem                  so a practice job is judged by its restraint alone, once practice is accepted
--     true-values, true-deviations, true_q    width 0 with M the true sum: the true values, no deviation, no Q
-- Assumes nothing.
use mathlib.Core.Path.{◌≡◌, refl, sym, ◌∙◌, ap, ap₂}
use mathlib.Core.Logic.{⊎_elim}
use mathlib.Core.Bool.{Bool, true, false, cond, ◌&&◌}
use mathlib.Core.List.{List}
use Prim.Native.Nat.{ℕ, zero, suc, ◌+◌, ◌-◌, ◌*◌, ◌/◌, ◌^◌, ◌≤◌, ◌<◌}
use native.Mathlib.Nat.{zero-add, le_trans, mul-pos, div-lt_iff_lt-mul}
use native.Mathlib.Omega.{arith}
use borrow.Author.Tests.{eq-eqb, eqb-true, leb-true, ltb-true, ltb-false, le-ltb}
use lib.Dec.{eqb, leb, ltb}
use lib.IntN.{ℤ, pos, negsuc, nat_abs, ◌+ℤ◌, ◌-ℤ◌, ◌*ℤ◌}
use lib.ListN.{length}
use Rattle.algebra.specs.Ranges.{sum}
use Rattle.algebra.proofs.Bounds.{abs_between, abs-+, abs-*-le, abs_sum}
use Rattle.algebra.proofs.Order.{pos_inj, *ℤ-is-zero}
use Rattle.algebra.proofs.Solver.{◌⊕◌, ◌⊗◌, ◌⊝◌, #, ◌≐◌, ring₁, ring₄, ring₅, ring₆}
use Rattle.algebra.proofs.Sums.{sum_cong, sum_ext, sum-zero, sum_sub, sum-scale, sum_scale_r, pos_sum}
use Rattle.algebra.proofs.Tests.{and_left, and_right, all-at, first_from_none}
use Rattle.records.specs.declared.Head.{Head}
use Rattle.meaning.specs.Design.{objects, blocks, sized, list_length, occ, left, right, balanced, beta}
use Rattle.meaning.specs.Analysis.{
  sq,
  reading,
  sign,
  total,
  member,
  members,
  restrained,
  vbeta,
  numerator_of,
  denominator_of,
  difference,
  deviation_of,
  qOf,
  root,
  spread_hundredths,
  spread_hundredths_of,
  freedom,
}
use Rattle.meaning.specs.Refusals.{Verdict, ◌⨾◌, accepted, clean, in_balance, restraint, far_reading, in_reach, reading_limit}
use Rattle.meaning.specs.Calls.{slices, contents, job_verdict}
use Rattle.meaning.specs.Practice.{step, state, noise, truth, truth_limit, width_limit, near, practised, practice_reading, listed, practice_readings, true_sum}
use Rattle.laws.proofs.Chains.{opened, held, accepts, goes_on, accepted-last, test_yes, fits, sized_yes, Sound}
use Rattle.laws.proofs.Clean.{block-once}
use Rattle.laws.proofs.LeastSquares.{fit, normal_operator, fit_linear, not-zero}
use Rattle.laws.proofs.Matrix.{signs_cancel, difference_signs, design_matrix}
use Rattle.laws.proofs.Analysis.{squares_add, vbeta-some}

-- ---- a list of numbers

-- it has as many as were asked for
pub listed-long : (n : ℕ) (f : ℕ → ℤ) → length (listed n f) ≡ n
unfolding listed
listed-long zero f = refl
listed-long (suc n) f = ap suc (listed-long n (λ i. f (suc i)))

-- and entry k is f k
pub listed_at : (n : ℕ) (f : ℕ → ℤ) (k : ℕ) → k < n → reading (listed n f) k ≡ f k
unfolding listed
listed_at zero f k l = absurd (omega arith)
listed_at (suc n) f zero l = refl
listed_at (suc n) f (suc k) l = listed_at n (λ i. f (suc i)) k (omega arith)

-- ---- an accepted practice

-- a sound, balanced design, a true value for each object, each in its range, and the width in its
pub record Practised (h : Head) (d : List ℕ) (u : List ℤ) (w : ℕ) : Type 0 where
  pub design : Sound h d
  pub even : balanced h d ≡ true
  pub truths-long : length u ≡ objects h
  pub truths-most : (i : ℕ) → i < objects h → nat_abs (truth u i) ≤ truth_limit
  pub width-most : w ≤ width_limit

pub practised-is : (h : Head) (d : List ℕ) (u : List ℤ) (w : ℕ) → practised h d u w ≡ accepted → Practised h d u w
unfolding practised near
practised-is h d u w e =
    let a = opened _ _ e in
    let b = opened _ _ a.0 in
    let c = opened _ _ b.0 in
    let f = opened _ _ c.0 in
    let g = opened _ _ f.0 in
    let long : length u ≡ objects h = eqb-true _ _ (held _ _ _ f.1) in
    let both = held (near u && leb w width_limit) 16 0 a.1 in
    record {
      design = record { sizes = fits h (held _ _ _ g.0); long = eqb-true _ _ (held _ _ _ g.1); clean = eqb-true _ _ (held _ _ _ c.1) };
      even = held _ _ _ b.1;
      truths-long = long;
      truths-most = λ i l. leb-true _ _ (all-at (length u) (λ i. leb (nat_abs (truth u i)) truth_limit) (and_left _ _ both) i (omega (arith, long)));
      width-most = leb-true w width_limit (and_right (near u) _ both);
    }

-- ---- how large

-- the generator stays within 32 bits
pub state-most : (start k : ℕ) → state start k < 2 ^ 32
unfolding state step
state-most start zero = omega arith
state-most start (suc k) = omega arith

-- the noise of a width: above 0 it is this
pub noise-some : (w x : ℕ) → 0 < w → noise w x ≡ pos (x / 2 ^ (32 - w)) -ℤ pos (2 ^ (w - 1))
unfolding noise
noise-some zero x l = absurd (omega arith)
noise-some (suc w) x l = let e : suc w - 1 ≡ w = omega arith in ap (λ (n : ℕ). pos (x / 2 ^ (32 - suc w)) -ℤ pos (2 ^ n)) (sym e)

-- two naturals that are at most B apart have a difference of at most B in size
apart-most : (a b B : ℕ) → a ≤ b + B → b ≤ a + B → nat_abs (pos a -ℤ pos b) ≤ B
apart-most a zero B l m = omega arith
apart-most a (suc b) B l m = by (ltb a (suc b)) refl
  where
    by : (t : Bool) → ltb a (suc b) ≡ t → nat_abs (cond t (negsuc (suc b - suc a)) (pos (a - suc b))) ≤ B
    by true e = omega (arith, ltb-true a (suc b) e)
    by false e = omega (arith, ltb-false a (suc b) e)

-- the noise of any width is at most 128 in size
pub noise-most : (w x : ℕ) → w ≤ width_limit → x < 2 ^ 32 → nat_abs (noise w x) ≤ 128
unfolding noise
noise-most zero x l m = omega arith
noise-most (suc zero) x l m = apart-most (x / 2147483648) 1 128 (omega arith) (omega arith)
noise-most (suc (suc zero)) x l m = apart-most (x / 1073741824) 2 128 (omega arith) (omega arith)
noise-most (suc (suc (suc zero))) x l m = apart-most (x / 536870912) 4 128 (omega arith) (omega arith)
noise-most (suc (suc (suc (suc zero)))) x l m = apart-most (x / 268435456) 8 128 (omega arith) (omega arith)
noise-most (suc (suc (suc (suc (suc zero))))) x l m = apart-most (x / 134217728) 16 128 (omega arith) (omega arith)
noise-most (suc (suc (suc (suc (suc (suc zero)))))) x l m = apart-most (x / 67108864) 32 128 (omega arith) (omega arith)
noise-most (suc (suc (suc (suc (suc (suc (suc zero))))))) x l m = apart-most (x / 33554432) 64 128 (omega arith) (omega arith)
noise-most (suc (suc (suc (suc (suc (suc (suc (suc zero)))))))) x l m = apart-most (x / 16777216) 128 128 (omega arith) (omega arith)
noise-most (suc (suc (suc (suc (suc (suc (suc (suc (suc w))))))))) x l m = absurd (omega arith)

module _ (h : Head) (d : List ℕ) (u : List ℤ) (w : ℕ) (p : Practised h d u w) where
  -- what the true values make of a block is at most 50 of them
  pub difference-most : (k : ℕ) → k < blocks h → nat_abs (difference h d (truth u) k) ≤ 150000
  difference-most k l = rw (difference_signs h d p.design (truth u) k l)
      (omega (arith, p.design.sizes.objects-most, abs_sum (objects h) truth_limit (λ i. sign h d k i *ℤ truth u i) each))
    where
      each : (i : ℕ) → i < objects h → nat_abs (sign h d k i *ℤ truth u i) ≤ truth_limit
      each i m =
          let one = block-once h d p.design k l i in
          let signed : nat_abs (sign h d k i) ≤ 1 = abs_between (occ i (left h d k)) (occ i (right h d k)) 1 (omega (arith, one)) (omega (arith, one)) in
          le_trans (abs-*-le (sign h d k i) (truth u i) 1 truth_limit signed (p.truths-most i m)) (omega arith)

  -- with noise a reading is at most 150,128 in size
  pub reading-most : (start k : ℕ) → k < blocks h → nat_abs (practice_reading h d u start w k) ≤ 150128
  unfolding practice_reading
  reading-most start k l = omega (
    arith,
    abs-+ (difference h d (truth u) k) (noise w (state start k)),
    difference-most k l,
    noise-most w (state start k) p.width-most (state-most start k),
  )

  -- ---- the practice job

  module _ (start : ℕ) where
    abbrev y : List ℤ
    y = practice_readings h d u start w

    -- its readings
    pub readings-long : length y ≡ blocks h
    readings-long = listed-long (blocks h) (practice_reading h d u start w)

    pub readings_are : (k : ℕ) → k < blocks h → reading y k ≡ practice_reading h d u start w k
    readings_are k l = listed_at (blocks h) (practice_reading h d u start w) k l

    -- none is out of range
    pub readings-reach : in_reach y ≡ accepted
    unfolding far_reading
    readings-reach = test_yes (eqb (far_reading y) (length y)) 8 (far_reading y) (eq-eqb (far_reading y) (length y)
        (first_from_none (λ k. ltb reading_limit (nat_abs (reading y k))) 0 (length y) (λ k a b. near_enough k (omega (arith, readings-long)))
        ∙ zero-add (length y)))
      where
        near_enough : (k : ℕ) → k < blocks h → ltb reading_limit (nat_abs (reading y k)) ≡ false
        near_enough k l = le-ltb reading_limit (nat_abs (reading y k)) (rw (readings_are k l) (omega (arith, reading-most start k l)))

    -- so the restraint alone is judged
    pub practice_job_lem : (set : ℕ) (M : ℤ) → job_verdict h d y set M ≡ restraint h set M
    unfolding job_verdict slices contents
    practice_job_lem set M =
        goes_on (clean h d ⨾ in_balance h d ⨾ restraint h set M ⨾ in_reach y) (accepts (accepts (test_yes (sized h) 4 0 (sym (sized_yes h p.design.sizes)))
        (test_yes (eqb (length d) (list_length h)) 3 0 (eq-eqb _ _ p.design.long)))
        (test_yes (eqb (length y) (blocks h)) 3 0 (eq-eqb _ _ readings-long)))
        ∙ ap (λ (v : Verdict). v ⨾ in_reach y) (goes_on (restraint h set M)
        (accepts (test_yes _ 5 _ (eq-eqb _ _ p.design.clean)) (test_yes (balanced h d) 6 0 p.even)))
        ∙ ap (λ (v : Verdict). restraint h set M ⨾ v) readings-reach ∙ accepted-last (restraint h set M)

-- ---- no spread from no Q

root_none : root 64 0 ≡ 0
unfolding root
root_none = refl

no_spread_lem : (vb f : ℕ) → 0 < vb → spread_hundredths 0 vb f ≡ 0
unfolding spread_hundredths
no_spread_lem vb zero l = refl
no_spread_lem vb (suc f) l =
    let some : 0 < vb * suc f = mul-pos l (suc-some f) in
    let low : 0 / (vb * suc f) < 1 = (div-lt_iff_lt-mul some).1 (omega (arith, some)) in
    let none : 0 / (vb * suc f) ≡ 0 = omega (arith, low) in
    ap (root 64) none ∙ root_none
  where
    suc-some : (n : ℕ) → 0 < suc n
    suc-some n = omega arith

-- ---- readings with no noise: each is what the values f make of its block

module _ (h : Head) (d : List ℕ) (s : Sound h d) (e : balanced h d ≡ true) (f : ℕ → ℤ) (y : List ℤ)
    (reads : (k : ℕ) → k < blocks h → reading y k ≡ difference h d f k) where
  -- β times the sum of the values
  abbrev c : ℤ
  c = pos (beta h d) *ℤ sum (objects h) f

  -- a total is vβ times the value, less c
  plain-total : (i : ℕ) → i < objects h → total h d y i ≡ pos (beta h d) *ℤ pos (objects h) *ℤ f i -ℤ c
  unfolding total
  plain-total i l =
      sum_cong (blocks h) _ _ (λ k m. ap (λ r. sign h d k i *ℤ r) (reads k m ∙ difference_signs h d s f k m))
      ∙ normal_operator (blocks h) (objects h) (beta h d) (sign h d) (design_matrix h d s e) f i l

  -- every deviation is 0
  pub plain_deviation : (k : ℕ) → k < blocks h → deviation_of h d y k ≡ pos 0
  unfolding deviation_of
  plain_deviation k l =
      ap₂ (λ r D. pos (vbeta h d) *ℤ r -ℤ D) (reads k l ∙ difference_signs h d s f k l) (difference_signs h d s (total h d y) k l ∙ fitted)
      ∙ ring₄ (λ v b F c. v ⊗ b ⊗ F ⊝ (b ⊗ v ⊗ F ⊝ c ⊗ # 0) ≐ # 0) (pos (objects h)) (pos (beta h d)) (fit (objects h) (sign h d) f k) c refl
    where
      ones : fit (objects h) (sign h d) (λ i. pos 1) k ≡ pos 0
      ones = sum_ext (objects h) _ _ (λ i. ring₁ (λ x. x ⊗ # 1 ≐ x) (sign h d k i) refl) ∙ signs_cancel h d s k l

      fitted : sum (objects h) (λ i. sign h d k i *ℤ total h d y i)
          ≡ pos (beta h d) *ℤ pos (objects h) *ℤ fit (objects h) (sign h d) f k -ℤ c *ℤ pos 0
      fitted =
          sum_cong (objects h) _ _ (λ i m. ap (λ t. sign h d k i *ℤ t) (plain-total i m
          ∙ ring₄ (λ b v t c. b ⊗ v ⊗ t ⊝ c ≐ b ⊗ v ⊗ t ⊝ c ⊗ # 1) (pos (beta h d)) (pos (objects h)) (f i) c refl))
          ∙ fit_linear (objects h) (sign h d) (pos (beta h d) *ℤ pos (objects h)) c f (λ i. pos 1) k
          ∙ ap (λ z. pos (beta h d) *ℤ pos (objects h) *ℤ fit (objects h) (sign h d) f k -ℤ c *ℤ z) ones

  -- so Q is 0
  pub plain_q : qOf h d y ≡ 0
  plain_q = ⊎_elim (λ z. absurd (not-zero (vbeta h d) (vbeta-some h d s e) z)) (λ z. pos_inj (qOf h d y) 0 z)
      (*ℤ-is-zero (pos (vbeta h d)) (pos (qOf h d y)) (sym (squares_add h d s e y)
      ∙ sum_cong (blocks h) _ (λ k. pos 0) (λ k l. ap sq (plain_deviation k l)) ∙ sum-zero (blocks h)))

  -- and k is 0
  pub plain_k : spread_hundredths_of h d y ≡ 0
  unfolding spread_hundredths_of
  plain_k = ap (λ (Q : ℕ). spread_hundredths Q (vbeta h d) (freedom h)) plain_q ∙ no_spread_lem (vbeta h d) (freedom h) (vbeta-some h d s e)

  -- their totals over the restraint set
  over-set : (w : ℕ) → restrained (objects h) w (total h d y)
      ≡ pos (beta h d) *ℤ pos (objects h) *ℤ restrained (objects h) w f -ℤ pos (members (objects h) w) *ℤ c
  unfolding restrained members
  over-set w =
      sum_cong (objects h) _ _ (λ j m. ap (λ t. pos (member w j) *ℤ t) (plain-total j m)
      ∙ ring₅ (λ m b v x c. m ⊗ (b ⊗ v ⊗ x ⊝ c) ≐ b ⊗ v ⊗ (m ⊗ x) ⊝ m ⊗ c) (pos (member w j)) (pos (beta h d)) (pos (objects h)) (f j) c refl)
      ∙ sum_sub (objects h) _ _
      ∙ ap₂ ◌-ℤ◌ (sum-scale (objects h) (pos (beta h d) *ℤ pos (objects h)) _)
      (sum_scale_r (objects h) c (λ j. pos (member w j)) ∙ ap (λ t. t *ℤ c) (sym (pos_sum (objects h) (member w))))

  -- with M their sum over the restraint set, the exact values are these values
  pub plain-values : (w i : ℕ) → i < objects h → numerator_of h d y w (restrained (objects h) w f) i ≡ f i *ℤ pos (denominator_of h d w)
  unfolding numerator_of denominator_of
  plain-values w i l =
      ap₂ (λ T S. pos (members (objects h) w) *ℤ T -ℤ S +ℤ pos (vbeta h d) *ℤ restrained (objects h) w f) (plain-total i l) (over-set w)
      ∙ ring₆ (λ t b v x c m. t ⊗ (b ⊗ v ⊗ x ⊝ c) ⊝ (b ⊗ v ⊗ m ⊝ t ⊗ c) ⊕ v ⊗ b ⊗ m ≐ x ⊗ (t ⊗ (v ⊗ b))) (pos (members (objects h) w)) (pos (beta h d))
      (pos (objects h)) (f i) c (restrained (objects h) w f) refl

-- ---- a practice job of width 0

module _ (h : Head) (d : List ℕ) (u : List ℤ) (p : Practised h d u 0) (start : ℕ) where
  abbrev y₀ : List ℤ
  y₀ = practice_readings h d u start 0

  -- its readings have no noise
  pub no_noise : (k : ℕ) → k < blocks h → reading y₀ k ≡ difference h d (truth u) k
  unfolding practice_reading noise
  no_noise k l = readings_are h d u 0 p start k l ∙ ring₁ (λ x. x ⊕ # 0 ≐ x) (difference h d (truth u) k) refl

  -- the exact values are the true values
  pub true-values : (set i : ℕ) → i < objects h → numerator_of h d y₀ set (true_sum h u set) i ≡ truth u i *ℤ pos (denominator_of h d set)
  true-values set i l = plain-values h d p.design p.even (truth u) y₀ no_noise set i l

  -- every deviation is 0
  pub true-deviations : (k : ℕ) → k < blocks h → deviation_of h d y₀ k ≡ pos 0
  true-deviations k l = plain_deviation h d p.design p.even (truth u) y₀ no_noise k l

  -- and so are Q and k
  pub true_q : qOf h d y₀ ≡ 0
  true_q = plain_q h d p.design p.even (truth u) y₀ no_noise

  pub true_k : spread_hundredths_of h d y₀ ≡ 0
  true_k = plain_k h d p.design p.even (truth u) y₀ no_noise
