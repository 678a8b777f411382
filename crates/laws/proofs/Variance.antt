-- The variance factor of an object is the sum of the squares of the coefficients with which the readings enter its value. With `mark i j`, t where j is
-- i, less 1 where j is a member, a coefficient is what its block makes of the marks of i. The marks add to 0, so the products of the coefficients
-- of two objects, over all blocks, are vβ times the products of their marks.
--     values_linear       a value is the sum of coefficient times reading, and M over t, for every set of readings
--     factor-squares      the squares of an object's coefficients add to its factor
--     factor_products     the products of two objects' coefficients add to 1 less how many of the two are members
--     all-members         where t is v, every object is a member
--     factor-most         a factor is at most v + 1
-- Assumes nothing.
use mathlib.Core.Path.{◌≡◌, refl, sym, ◌∙◌, ap, ap₂, ◌≡⟨◌⟩◌, ◌∎}
use mathlib.Core.Bool.{Bool, true, false, cond}
use mathlib.Core.List.{List}
use Prim.Native.Nat.{ℕ, zero, suc, ◌+◌, ◌-◌, ◌*◌, ◌≤◌, ◌<◌}
use native.Mathlib.Omega.{arith}
use native.Mathlib.Decide.{ℕ_discrete}
use lib.Dec.{eqb}
use lib.IntN.{ℤ, pos, ◌+ℤ◌, ◌-ℤ◌, ◌*ℤ◌, +ℤ_invr}
use Rattle.algebra.specs.Ranges.{sum, sum_ℕ}
use Rattle.algebra.proofs.Solver.{◌⊕◌, ◌⊗◌, ◌⊝◌, #, ◌≐◌, ring₂, ring₃, ring₄, ring₅}
use Rattle.algebra.proofs.Order.{pos_sub}
use Rattle.algebra.proofs.Sums.{sum_cong, sum_ext, sum_sub, sum-scale, sum_delta, if-eq, if-ne, sumℕ_le_const}
use Rattle.records.specs.declared.Head.{Head}
use Rattle.meaning.specs.Design.{objects, blocks, balanced, beta}
use Rattle.meaning.specs.Analysis.{
  sq,
  reading,
  sign,
  total,
  member,
  members,
  restrained,
  vbeta,
  numerator_of,
  denominator_of,
  coefficient,
  factor,
}
use Rattle.laws.proofs.Chains.{Sound}
use Rattle.laws.proofs.LeastSquares.{Matrix, fit, totals, adjoint, normal_operator}
use Rattle.laws.proofs.Matrix.{design_matrix}
use Rattle.laws.proofs.Solution.{members-most, members-sum}
use Rattle.laws.proofs.Column.{member-most}

-- ---- the coefficients, of any readings

-- what the readings make of t times an object's signs less the signs of the restraint set is t·T(i) less S, whatever X is
linear : (b v w : ℕ) (X : ℕ → ℕ → ℤ) (y : ℕ → ℤ) (t : ℤ) (i : ℕ) →
    sum b (λ k. (t *ℤ X k i -ℤ restrained v w (X k)) *ℤ y k) ≡ t *ℤ totals b X y i -ℤ restrained v w (totals b X y)
unfolding restrained
linear b v w X y t i =
    sum b (λ k. (t *ℤ X k i -ℤ over k) *ℤ y k) ≡⟨ sum_ext b _ _
    (λ k. ring₄ (λ t x r y. (t ⊗ x ⊝ r) ⊗ y ≐ t ⊗ (x ⊗ y) ⊝ y ⊗ r) t (X k i) (over k) (y k) refl) ⟩
    sum b (λ k. t *ℤ (X k i *ℤ y k) -ℤ y k *ℤ over k) ≡⟨ sum_sub b _ _ ∙ ap₂ ◌-ℤ◌ (sum-scale b t _) across ⟩
    t *ℤ totals b X y i -ℤ sum v (λ j. pos (member w j) *ℤ totals b X y j) ∎
  where
    over : ℕ → ℤ
    over k = sum v (λ j. pos (member w j) *ℤ X k j)

    across : sum b (λ k. y k *ℤ over k) ≡ sum v (λ j. pos (member w j) *ℤ totals b X y j)
    across =
        sum_ext b _ _ (λ k. ap (λ z. y k *ℤ z) (sum_ext v _ _ (λ j. ring₂ (λ c x. c ⊗ x ≐ x ⊗ c) (pos (member w j)) (X k j) refl)))
        ∙ adjoint b v X y (λ j. pos (member w j))

-- the value of object i is, for every set of readings, the sum over the blocks of coefficient times reading, and M over t
pub values_linear : (h : Head) (d : List ℕ) (y : List ℤ) (w : ℕ) (M : ℤ) (i : ℕ) →
    numerator_of h d y w M i ≡ sum (blocks h) (λ k. coefficient h d w i k *ℤ reading y k) +ℤ pos (vbeta h d) *ℤ M
unfolding numerator_of coefficient total
values_linear h d y w M i =
    ap (λ z. z +ℤ pos (vbeta h d) *ℤ M) (sym (linear (blocks h) (objects h) w (sign h d) (reading y) (pos (members (objects h) w)) i))

-- ---- the marks of an object

module _ (v w : ℕ) where
  -- t where j is i, less 1 where j is a member
  abbrev mark : ℕ → ℕ → ℤ
  mark i j = cond (eqb i j) (pos (members v w)) (pos 0) -ℤ pos (member w j)

  -- f over the marks of i is t·f(i) less f over the restraint set
  marked : (i : ℕ) → i < v → (f : ℕ → ℤ) → sum v (λ j. f j *ℤ mark i j) ≡ pos (members v w) *ℤ f i -ℤ restrained v w f
  unfolding restrained
  marked i l f =
      sum_ext v _ (λ j. cond (eqb i j) (pos (members v w) *ℤ f j) (pos 0) -ℤ pos (member w j) *ℤ f j)
      (λ j. split (eqb i j) (pos (members v w)) (f j) (pos (member w j)))
      ∙ sum_sub v _ _ ∙ ap (λ z. z -ℤ sum v (λ j. pos (member w j) *ℤ f j)) (sum_delta v i (λ j. pos (members v w) *ℤ f j) l)
    where
      split : (same : Bool) (t x m : ℤ) → x *ℤ (cond same t (pos 0) -ℤ m) ≡ cond same (t *ℤ x) (pos 0) -ℤ m *ℤ x
      split true t x m = ring₃ (λ t x m. x ⊗ (t ⊝ m) ≐ t ⊗ x ⊝ m ⊗ x) t x m refl
      split false t x m = ring₂ (λ x m. x ⊗ (# 0 ⊝ m) ≐ # 0 ⊝ m ⊗ x) x m refl

  -- the marks add to 0
  marks_cancel : (i : ℕ) → i < v → sum v (mark i) ≡ pos 0
  marks_cancel i l =
      sum_sub v _ _ ∙ ap₂ ◌-ℤ◌ (sum_delta v i (λ j. pos (members v w)) l) (members-sum v w) ∙ +ℤ_invr (pos (members v w))

  -- a member counts once, and counted twice over it still does
  members-squared : restrained v w (λ j. pos (member w j)) ≡ pos (members v w)
  unfolding restrained
  members-squared = sum_ext v _ _ (λ j. ap pos (once (member w j) (member-most w j))) ∙ members-sum v w
    where
      once : (m : ℕ) → m ≤ 1 → m * m ≡ m
      once zero l = refl
      once (suc zero) l = refl
      once (suc (suc m)) l = omega arith

  -- the products of the marks of two objects, which may be one
  marks_product : (i j : ℕ) → i < v → j < v → sum v (λ l. mark j l *ℤ mark i l)
      ≡ pos (members v w) *ℤ (cond (eqb j i) (pos (members v w)) (pos 0) -ℤ pos (member w i))
      -ℤ (pos (members v w) *ℤ pos (member w j) -ℤ pos (members v w))
  unfolding restrained
  marks_product i j l o = marked i l (mark j) ∙ ap (λ z. pos (members v w) *ℤ mark j i -ℤ z) over
    where
      over : restrained v w (mark j) ≡ pos (members v w) *ℤ pos (member w j) -ℤ pos (members v w)
      over = marked j o (λ k. pos (member w k)) ∙ ap (λ z. pos (members v w) *ℤ pos (member w j) -ℤ z) members-squared

  -- what the blocks make of the marks of two objects: the marks add to 0, so the products are vβ times those of the marks
  fits_product : (b β : ℕ) (X : ℕ → ℕ → ℤ) → Matrix b v β X → (i j : ℕ) → i < v → j < v →
      sum b (λ k. fit v X (mark i) k *ℤ fit v X (mark j) k) ≡ pos β *ℤ pos v *ℤ sum v (λ l. mark j l *ℤ mark i l)
  fits_product b β X m i j l o =
      sum b (λ k. fit v X (mark i) k *ℤ fit v X (mark j) k) ≡⟨ adjoint b v X (fit v X (mark i)) (mark j) ⟩
      sum v (λ l. mark j l *ℤ totals b X (fit v X (mark i)) l) ≡⟨ sum_cong v _ _
      (λ n p. ap (λ z. mark j n *ℤ z) (normal_operator b v β X m (mark i) n p ∙ ap (λ z. pos β *ℤ pos v *ℤ mark i n -ℤ pos β *ℤ z) (marks_cancel i l))
      ∙ ring₄ (λ u b v x. u ⊗ (b ⊗ v ⊗ x ⊝ b ⊗ # 0) ≐ b ⊗ v ⊗ (u ⊗ x)) (mark j n) (pos β) (pos v) (mark i n) refl) ⟩
      sum v (λ n. pos β *ℤ pos v *ℤ (mark j n *ℤ mark i n)) ≡⟨ sum-scale v (pos β *ℤ pos v) _ ⟩
      pos β *ℤ pos v *ℤ sum v (λ n. mark j n *ℤ mark i n) ∎

-- ---- the coefficients of a balanced design

-- t times t - 1 for a member, t times t + 1 for any other object
squares_are : (m t b v : ℕ) → m ≤ 1 → 0 < t →
    pos b *ℤ pos v *ℤ (pos t *ℤ (pos t -ℤ pos m) -ℤ (pos t *ℤ pos m -ℤ pos t)) ≡ pos (cond (eqb m 1) (t - 1) (t + 1)) *ℤ pos (t * (v * b))
squares_are zero t b v l o =
    ring₃ (λ t b v. b ⊗ v ⊗ (t ⊗ (t ⊝ # 0) ⊝ (t ⊗ # 0 ⊝ t)) ≐ (t ⊕ # 1) ⊗ (t ⊗ (v ⊗ b))) (pos t) (pos b) (pos v) refl
squares_are (suc zero) t b v l o =
    ring₃ (λ t b v. b ⊗ v ⊗ (t ⊗ (t ⊝ # 1) ⊝ (t ⊗ # 1 ⊝ t)) ≐ (t ⊝ # 1) ⊗ (t ⊗ (v ⊗ b))) (pos t) (pos b) (pos v) refl
    ∙ ap (λ z. z *ℤ pos (t * (v * b))) (sym (pos_sub t 1 o))
squares_are (suc (suc m)) t b v l o = absurd (none l)
  where
    none : suc (suc m) ≤ 1 → ⊥
    none l = omega arith

module _ (h : Head) (d : List ℕ) (s : Sound h d) (e : balanced h d ≡ true) (w : ℕ) where
  -- a coefficient is what its block makes of the marks
  by_marks : (i k : ℕ) → i < objects h → coefficient h d w i k ≡ fit (objects h) (sign h d) (mark (objects h) w i) k
  unfolding coefficient
  by_marks i k l = sym (marked (objects h) w i l (sign h d k))

  -- the products of the coefficients of two objects, which may be one
  products : (i j : ℕ) → i < objects h → j < objects h → sum (blocks h) (λ k. coefficient h d w i k *ℤ coefficient h d w j k)
      ≡ pos (beta h d) *ℤ pos (objects h) *ℤ (pos (members (objects h) w) *ℤ (cond (eqb j i) (pos (members (objects h) w)) (pos 0) -ℤ pos (member w i))
      -ℤ (pos (members (objects h) w) *ℤ pos (member w j) -ℤ pos (members (objects h) w)))
  products i j l o =
      sum_ext (blocks h) _ _ (λ k. ap₂ ◌*ℤ◌ (by_marks i k l) (by_marks j k o))
      ∙ fits_product (objects h) w (blocks h) (beta h d) (sign h d) (design_matrix h d s e) i j l o
      ∙ ap (λ z. pos (beta h d) *ℤ pos (objects h) *ℤ z) (marks_product (objects h) w i j l o)

  -- the squares of an object's coefficients add to its factor: over (t·v·beta)², the factor times t·v·beta
  pub factor-squares : 0 < members (objects h) w → (i : ℕ) → i < objects h →
      sum (blocks h) (λ k. sq (coefficient h d w i k)) ≡ pos (factor h w i) *ℤ pos (denominator_of h d w)
  unfolding factor denominator_of
  factor-squares t i l =
      products i i l l
      ∙ ap (λ z. pos (beta h d) *ℤ pos (objects h) *ℤ (pos (members (objects h) w) *ℤ (z -ℤ pos (member w i))
      -ℤ (pos (members (objects h) w) *ℤ pos (member w i) -ℤ pos (members (objects h) w)))) (if-eq i (pos (members (objects h) w)) (pos 0))
      ∙ squares_are (member w i) (members (objects h) w) (beta h d) (objects h) (member-most w i) t

  -- the products of the coefficients of two different objects add to 1 less how many of the two are members
  pub factor_products : (i j : ℕ) → i < objects h → j < objects h → (i ≡ j → ⊥) →
      sum (blocks h) (λ k. coefficient h d w i k *ℤ coefficient h d w j k) ≡ (pos 1 -ℤ pos (member w i + member w j)) *ℤ pos (denominator_of h d w)
  unfolding denominator_of
  factor_products i j l o differ =
      products i j l o
      ∙ ap (λ z. pos (beta h d) *ℤ pos (objects h) *ℤ (pos (members (objects h) w) *ℤ (z -ℤ pos (member w i))
      -ℤ (pos (members (objects h) w) *ℤ pos (member w j) -ℤ pos (members (objects h) w))))
      (if-ne j i (pos (members (objects h) w)) (pos 0) (λ e. differ (sym e)))
      ∙ ring₅ (λ b v t m n. b ⊗ v ⊗ (t ⊗ (# 0 ⊝ m) ⊝ (t ⊗ n ⊝ t)) ≐ (# 1 ⊝ (m ⊕ n)) ⊗ (t ⊗ (v ⊗ b)))
      (pos (beta h d)) (pos (objects h)) (pos (members (objects h) w)) (pos (member w i)) (pos (member w j)) refl

-- where t is v, every object is a member
pub all-members : (v w : ℕ) → members v w ≡ v → (i : ℕ) → i < v → member w i ≡ 1
unfolding members sum_ℕ
all-members v w e = go v e
  where
    most : (n : ℕ) → sum_ℕ n (member w) ≤ n
    most n = omega (arith, sumℕ_le_const n 1 (member w) (λ i l. member-most w i))

    go : (n : ℕ) → sum_ℕ n (member w) ≡ n → (i : ℕ) → i < n → member w i ≡ 1
    go zero e i l = omega arith
    go (suc n) e i l = by (λ o. go n (omega (arith, most n, member-most w n)) i o) (ℕ_discrete n i)
      where
        by : (i < n → member w i ≡ 1) → Dec (n ≡ i) → member w i ≡ 1
        by below (yes q) = ap (member w) (sym q) ∙ omega (arith, most n, member-most w n)
        by below (no q) = below (omega arith)

-- a factor is at most v + 1
pub factor-most : (h : Head) (w i : ℕ) → factor h w i ≤ objects h + 1
unfolding factor
factor-most h w i = by (eqb (member w i) 1)
  where
    by : (same : Bool) → cond same (members (objects h) w - 1) (members (objects h) w + 1) ≤ objects h + 1
    by true = omega (arith, members-most (objects h) w)
    by false = omega (arith, members-most (objects h) w)
