-- Laws of `sum` and `sum_ℕ`: equal terms, linearity, two sums, splitting, one term, order and squares. Assumes nothing.
use mathlib.Core.Path.{◌≡◌, refl, sym, ◌∙◌, ap, ap₂, fun_ext, subst}
use mathlib.Core.Bool.{Bool, true, false, cond}
use Prim.Native.Nat.{ℕ, zero, suc, ◌+◌, ◌*◌, ◌≤◌, ◌<◌}
use native.Mathlib.Nat.{add-zero, add-suc}
use native.Mathlib.Numerals.{add-one}
use native.Mathlib.Omega.{arith}
use native.Mathlib.Decide.{ℕ_discrete}
use lib.Dec.{eqb}
use lib.Signed.{◌≤ℤ◌, ≤ℤ_refl}
use borrow.Author.Tests.{eq-eqb, ne_eqb}
use lib.IntN.{ℤ, pos, neg_ℤ, ◌+ℤ◌, ◌-ℤ◌, ◌*ℤ◌, +ℤ_idl, +ℤ_idr}
use Rattle.algebra.proofs.Solver.{◌⊕◌, ◌⊗◌, ⊖◌, #, ◌≐◌, ring₁, ring₂, ring₃, ring₄}
use Rattle.algebra.specs.Ranges.{sum, sum_ℕ}
use Rattle.algebra.proofs.Order.{≤ℤ-+, +ℤ-nonneg, sq_nonneg, sq-zero, both_zero, pos_inj}

-- one term more, as a loop's `i + 1` has it
pub sum_more : (n : ℕ) (f : ℕ → ℤ) → sum (n + 1) f ≡ sum n f +ℤ f n
unfolding sum
sum_more n f = ap (λ (k : ℕ). sum k f) (add-one n)

-- no terms, as a loop begins
pub sum-none : (f : ℕ → ℤ) → pos 0 ≡ sum 0 f
unfolding sum
sum-none f = refl

-- ---- equal terms
-- equal terms below n make equal sums
pub sum_cong : (n : ℕ) (f g : ℕ → ℤ) → ((i : ℕ) → i < n → f i ≡ g i) → sum n f ≡ sum n g
unfolding sum
sum_cong zero f g h = refl
sum_cong (suc n) f g h = ap₂ ◌+ℤ◌ (sum_cong n f g (λ i l. h i (omega arith))) (h n (omega arith))

-- equal terms make equal sums
pub sum_ext : (n : ℕ) (f g : ℕ → ℤ) → ((i : ℕ) → f i ≡ g i) → sum n f ≡ sum n g
sum_ext n f g h = ap (sum n) (fun_ext h)

-- ---- a sum is linear
-- a sum of zeros is 0
pub sum-zero : (n : ℕ) → sum n (λ i. pos 0) ≡ pos 0
unfolding sum
sum-zero zero = refl
sum-zero (suc n) = +ℤ_idr (sum n (λ i. pos 0)) ∙ sum-zero n

-- the sum of sums of two terms
pub sum_add : (n : ℕ) (f g : ℕ → ℤ) → sum n (λ i. f i +ℤ g i) ≡ sum n f +ℤ sum n g
unfolding sum
sum_add zero f g = refl
sum_add (suc n) f g =
    ap (λ z. z +ℤ (f n +ℤ g n)) (sum_add n f g) ∙ ring₄ (λ s t a b. s ⊕ t ⊕ (a ⊕ b) ≐ s ⊕ a ⊕ (t ⊕ b)) (sum n f) (sum n g) (f n) (g n) refl

-- a factor on the left of every term
pub sum-scale : (n : ℕ) (c : ℤ) (f : ℕ → ℤ) → sum n (λ i. c *ℤ f i) ≡ c *ℤ sum n f
unfolding sum
sum-scale zero c f = ring₁ (λ c. # 0 ≐ c ⊗ # 0) c refl
sum-scale (suc n) c f = ap (λ z. z +ℤ c *ℤ f n) (sum-scale n c f) ∙ ring₃ (λ c s a. c ⊗ s ⊕ c ⊗ a ≐ c ⊗ (s ⊕ a)) c (sum n f) (f n) refl

-- a factor on the right of every term
pub sum_scale_r : (n : ℕ) (c : ℤ) (f : ℕ → ℤ) → sum n (λ i. f i *ℤ c) ≡ sum n f *ℤ c
sum_scale_r n c f =
    sum_ext n (λ i. f i *ℤ c) (λ i. c *ℤ f i) (λ i. ring₂ (λ a c. a ⊗ c ≐ c ⊗ a) (f i) c refl) ∙ sum-scale n c f ∙ ring₂ (λ c s. c ⊗ s ≐ s ⊗ c) c (sum n f) refl

-- the sum of the negated terms
pub sum_neg : (n : ℕ) (f : ℕ → ℤ) → sum n (λ i. neg_ℤ (f i)) ≡ neg_ℤ (sum n f)
unfolding sum
sum_neg zero f = refl
sum_neg (suc n) f = ap (λ z. z +ℤ neg_ℤ (f n)) (sum_neg n f) ∙ ring₂ (λ s a. ⊖ s ⊕ ⊖ a ≐ ⊖ (s ⊕ a)) (sum n f) (f n) refl

-- the sum of differences
pub sum_sub : (n : ℕ) (f g : ℕ → ℤ) → sum n (λ i. f i -ℤ g i) ≡ sum n f -ℤ sum n g
sum_sub n f g = sum_add n f (λ i. neg_ℤ (g i)) ∙ ap (λ z. sum n f +ℤ z) (sum_neg n g)

-- a sum of n equal terms
pub sum_const : (n : ℕ) (c : ℤ) → sum n (λ i. c) ≡ pos n *ℤ c
unfolding sum
sum_const zero c = ring₁ (λ c. # 0 ≐ # 0 ⊗ c) c refl
sum_const (suc n) c = ap (λ z. z +ℤ c) (sum_const n c) ∙ ring₂ (λ n c. n ⊗ c ⊕ c ≐ (n ⊕ # 1) ⊗ c) (pos n) c refl ∙ ap (λ (k : ℕ). pos k *ℤ c) (go n)
  where
    go : (n : ℕ) → n + 1 ≡ suc n
    go n = omega arith

-- ---- two sums
-- two sums, in either order
pub sum_swap : (m n : ℕ) (f : ℕ → ℕ → ℤ) → sum m (λ i. sum n (λ j. f i j)) ≡ sum n (λ j. sum m (λ i. f i j))
unfolding sum
sum_swap zero n f = sym (sum-zero n)
sum_swap (suc m) n f = ap (λ z. z +ℤ sum n (λ j. f m j)) (sum_swap m n f) ∙ sym (sum_add n (λ j. sum m (λ i. f i j)) (λ j. f m j))

-- ---- split at an index
-- the first m terms, then n more
pub sum_split : (m n : ℕ) (f : ℕ → ℤ) → sum (m + n) f ≡ sum m f +ℤ sum n (λ i. f (m + i))
unfolding sum
sum_split m zero f = ap (λ (k : ℕ). sum k f) (add-zero m) ∙ sym (+ℤ_idr (sum m f))
sum_split m (suc n) f =
    ap (λ (k : ℕ). sum k f) (add-suc m n) ∙ ap (λ z. z +ℤ f (m + n)) (sum_split m n f)
    ∙ ring₃ (λ s t a. s ⊕ t ⊕ a ≐ s ⊕ (t ⊕ a)) (sum m f) (sum n (λ i. f (m + i))) (f (m + n)) refl

-- ---- one term: `cond (eqb i j) x y` is "x if i = j, else y"
-- a sum of which all terms but one are 0
pub sum_only : (n i : ℕ) (f : ℕ → ℤ) → i < n → ((j : ℕ) → j < n → (i ≡ j → ⊥) → f j ≡ pos 0) → sum n f ≡ f i
unfolding sum
sum_only zero i f l h = absurd (go i l)
  where
    go : (i : ℕ) → i < 0 → ⊥
    go i l = omega arith
sum_only (suc n) i f l h = go (sum_only n i f) (ℕ_discrete i n)
  where
    go : (i < n → ((j : ℕ) → j < n → (i ≡ j → ⊥) → f j ≡ pos 0) → sum n f ≡ f i) → Dec (i ≡ n) → sum n f +ℤ f n ≡ f i
    go ih (yes e) =
        ap (λ z. z +ℤ f n) (sum_cong n f (λ j. pos 0) (λ j k. h j (omega arith) (λ q. omega arith)) ∙ sum-zero n) ∙ +ℤ_idl (f n) ∙ ap f (sym e)
    go ih (no e) = ap₂ ◌+ℤ◌ (ih (omega arith) (λ j k q. h j (omega arith) q)) (h n (omega arith) e) ∙ +ℤ_idr (f i)

-- the choice by i = i
pub if-eq : {A : Type 0} (i : ℕ) (x y : A) → cond (eqb i i) x y ≡ x
if-eq i x y = ap (λ (b : Bool). cond b x y) (eq-eqb i i refl)

-- the choice by i = j, where they differ
pub if-ne : {A : Type 0} (i j : ℕ) (x y : A) → (i ≡ j → ⊥) → cond (eqb i j) x y ≡ y
if-ne i j x y h = ap (λ (b : Bool). cond b x y) (ne_eqb i j h)

-- the sum that picks the term at i
pub sum_delta : (n i : ℕ) (f : ℕ → ℤ) → i < n → sum n (λ j. cond (eqb i j) (f j) (pos 0)) ≡ f i
sum_delta n i f l =
    sum_only n i (λ j. cond (eqb i j) (f j) (pos 0)) l (λ j k q. if-ne i j (f j) (pos 0) q) ∙ if-eq i (f i) (pos 0)

-- ---- order
-- larger terms make a larger sum
pub sum_le : (n : ℕ) (f g : ℕ → ℤ) → ((i : ℕ) → i < n → f i ≤ℤ g i) → sum n f ≤ℤ sum n g
unfolding sum
sum_le zero f g h = ≤ℤ_refl (pos 0)
sum_le (suc n) f g h = ≤ℤ-+ (sum_le n f g (λ i l. h i (omega arith))) (h n (omega arith))

-- terms from 0 on make a sum from 0 on
pub sum_nonneg : (n : ℕ) (f : ℕ → ℤ) → ((i : ℕ) → i < n → pos 0 ≤ℤ f i) → pos 0 ≤ℤ sum n f
unfolding sum
sum_nonneg zero f h = ≤ℤ_refl (pos 0)
sum_nonneg (suc n) f h = +ℤ-nonneg (sum_nonneg n f (λ i l. h i (omega arith))) (h n (omega arith))

-- a sum of squares is not negative
pub sum_sq_nonneg : (n : ℕ) (f : ℕ → ℤ) → pos 0 ≤ℤ sum n (λ i. f i *ℤ f i)
sum_sq_nonneg n f = sum_nonneg n (λ i. f i *ℤ f i) (λ i l. sq_nonneg (f i))

-- where the terms are not negative and their sum is 0, each is 0
pub sum_is_zero : (n : ℕ) (f : ℕ → ℤ) → ((i : ℕ) → i < n → pos 0 ≤ℤ f i) → sum n f ≡ pos 0 → (i : ℕ) → i < n → f i ≡ pos 0
unfolding sum
sum_is_zero zero f h e i l = absurd (go i l)
  where
    go : (i : ℕ) → i < 0 → ⊥
    go i l = omega arith
sum_is_zero (suc n) f h e i l = go (λ z. sum_is_zero n f (λ j k. h j (omega arith)) z i) (ℕ_discrete i n)
  where
    both : (sum n f ≡ pos 0) × (f n ≡ pos 0)
    both = both_zero (sum_nonneg n f (λ j k. h j (omega arith))) (h n (omega arith)) e

    go : (sum n f ≡ pos 0 → i < n → f i ≡ pos 0) → Dec (i ≡ n) → f i ≡ pos 0
    go ih (yes q) = ap f q ∙ both.1
    go ih (no q) = ih both.0 (omega arith)

-- where a sum of squares is 0, each number is 0
pub sum_sq_zero : (n : ℕ) (f : ℕ → ℤ) → sum n (λ i. f i *ℤ f i) ≡ pos 0 → (i : ℕ) → i < n → f i ≡ pos 0
sum_sq_zero n f e i l = sq-zero (f i) (sum_is_zero n (λ j. f j *ℤ f j) (λ j k. sq_nonneg (f j)) e i l)

-- n terms of at most c each
pub sum_le_const : (n : ℕ) (c : ℤ) (f : ℕ → ℤ) → ((i : ℕ) → i < n → f i ≤ℤ c) → sum n f ≤ℤ (pos n *ℤ c)
sum_le_const n c f h = subst (λ z. sum n f ≤ℤ z) (sum_const n c) (sum_le n f (λ i. c) h)

-- ---- sums of naturals
-- the embedding: a law of `sum_ℕ` is the law of `sum` at `pos`, and `pos_inj`
pub pos_sum : (n : ℕ) (f : ℕ → ℕ) → pos (sum_ℕ n f) ≡ sum n (λ i. pos (f i))
unfolding sum sum_ℕ
pos_sum zero f = refl
pos_sum (suc n) f = ap (λ z. z +ℤ pos (f n)) (pos_sum n f)

-- equal terms below n make equal sums
pub sumℕ_cong : (n : ℕ) (f g : ℕ → ℕ) → ((i : ℕ) → i < n → f i ≡ g i) → sum_ℕ n f ≡ sum_ℕ n g
unfolding sum_ℕ
sumℕ_cong zero f g h = refl
sumℕ_cong (suc n) f g h = ap₂ ◌+◌ (sumℕ_cong n f g (λ i l. h i (omega arith))) (h n (omega arith))

-- the sum of sums of two terms
pub sumℕ_add : (n : ℕ) (f g : ℕ → ℕ) → sum_ℕ n (λ i. f i + g i) ≡ sum_ℕ n f + sum_ℕ n g
unfolding sum_ℕ
sumℕ_add zero f g = refl
sumℕ_add (suc n) f g = omega (arith, sumℕ_add n f g)

-- a factor on every term
pub sumℕ-scale : (n c : ℕ) (f : ℕ → ℕ) → sum_ℕ n (λ i. c * f i) ≡ c * sum_ℕ n f
unfolding sum_ℕ
sumℕ-scale zero c f = omega arith
sumℕ-scale (suc n) c f = omega (arith, sumℕ-scale n c f)

-- a sum of n equal terms
pub sumℕ_const : (n c : ℕ) → sum_ℕ n (λ i. c) ≡ n * c
unfolding sum_ℕ
sumℕ_const zero c = omega arith
sumℕ_const (suc n) c = omega (arith, sumℕ_const n c)

-- two sums, in either order
pub sumℕ_swap : (m n : ℕ) (f : ℕ → ℕ → ℕ) → sum_ℕ m (λ i. sum_ℕ n (λ j. f i j)) ≡ sum_ℕ n (λ j. sum_ℕ m (λ i. f i j))
unfolding sum_ℕ
sumℕ_swap zero n f = omega (arith, sumℕ_const n 0)
sumℕ_swap (suc m) n f = omega (arith, sumℕ_swap m n f, sumℕ_add n (λ j. sum_ℕ m (λ i. f i j)) (λ j. f m j))

-- larger terms make a larger sum
pub sumℕ_le : (n : ℕ) (f g : ℕ → ℕ) → ((i : ℕ) → i < n → f i ≤ g i) → sum_ℕ n f ≤ sum_ℕ n g
unfolding sum_ℕ
sumℕ_le zero f g h = omega arith
sumℕ_le (suc n) f g h = omega (arith, sumℕ_le n f g (λ i l. h i (omega arith)), h n (omega arith))

-- no terms, as a loop begins
pub sumℕ-none : (f : ℕ → ℕ) → 0 ≡ sum_ℕ 0 f
unfolding sum_ℕ
sumℕ-none f = refl

-- one term more, as a loop's `i + 1` has it
pub sumℕ-more : (n : ℕ) (f : ℕ → ℕ) → sum_ℕ (n + 1) f ≡ sum_ℕ n f + f n
unfolding sum_ℕ
sumℕ-more n f = ap (λ (k : ℕ). sum_ℕ k f) (add-one n)

-- the first term by itself
pub sumℕ-first : (n : ℕ) (f : ℕ → ℕ) → sum_ℕ (suc n) f ≡ f 0 + sum_ℕ n (λ i. f (suc i))
unfolding sum_ℕ
sumℕ-first zero f = omega arith
sumℕ-first (suc n) f = omega (arith, sumℕ-first n f)

-- n terms of at most c each
pub sumℕ_le_const : (n c : ℕ) (f : ℕ → ℕ) → ((i : ℕ) → i < n → f i ≤ c) → sum_ℕ n f ≤ n * c
sumℕ_le_const n c f h = omega (arith, sumℕ_le n f (λ i. c) h, sumℕ_const n c)

-- a sum of zeros is 0
pub sumℕ-zero : (n : ℕ) (f : ℕ → ℕ) → ((i : ℕ) → i < n → f i ≡ 0) → sum_ℕ n f ≡ 0
sumℕ-zero n f h = omega (arith, sumℕ_cong n f (λ i. 0) h, sumℕ_const n 0)

-- a sum of which all terms but one are 0
pub sumℕ_only : (n i : ℕ) (f : ℕ → ℕ) → i < n → ((j : ℕ) → j < n → (i ≡ j → ⊥) → f j ≡ 0) → sum_ℕ n f ≡ f i
sumℕ_only n i f l h =
    pos_inj (sum_ℕ n f) (f i) (pos_sum n f ∙ sum_only n i (λ j. pos (f j)) l (λ j k q. ap pos (h j k q)))

-- the sum that picks the term at i
pub sumℕ_delta : (n i : ℕ) (f : ℕ → ℕ) → i < n → sum_ℕ n (λ j. cond (eqb i j) (f j) 0) ≡ f i
sumℕ_delta n i f l = sumℕ_only n i (λ j. cond (eqb i j) (f j) 0) l (λ j k q. if-ne i j (f j) 0 q) ∙ if-eq i (f i) 0

-- the term at i, and the sum of the others
pub sumℕ-others : (n i : ℕ) (f : ℕ → ℕ) → i < n → sum_ℕ n f ≡ f i + sum_ℕ n (λ j. cond (eqb i j) 0 (f j))
sumℕ-others n i f l =
    sumℕ_cong n f (λ j. cond (eqb i j) (f j) 0 + cond (eqb i j) 0 (f j)) (λ j k. both (eqb i j) (f j))
    ∙ sumℕ_add n (λ j. cond (eqb i j) (f j) 0) (λ j. cond (eqb i j) 0 (f j))
    ∙ ap (λ (x : ℕ). x + sum_ℕ n (λ j. cond (eqb i j) 0 (f j))) (sumℕ_delta n i f l)
  where
    both : (t : Bool) (x : ℕ) → x ≡ cond t x 0 + cond t 0 x
    both true x = omega arith
    both false x = omega arith
