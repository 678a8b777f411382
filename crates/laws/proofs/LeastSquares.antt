-- Least squares over any matrix X of b rows and v columns whose rows add to 0, whose columns have the square length β(v-1) and any two of which the
-- product -β. X and its transpose are adjoint, and the transpose after X is βv less β times the sum: the rest is a few rewrites each.
--     totals-zero, fit_length       the totals cancel; the square length of X u
--     pythagoras                    the squares of any values are those of the solution and the squares of the difference
--     equal-values                  X u is 0 only where all values are equal
-- Assumes nothing.
use mathlib.Core.Path.{◌≡◌, refl, sym, ◌∙◌, ap, ap₂, ◌≡⟨◌⟩◌, ◌∎}
use mathlib.Core.Logic.{⊎_elim}
use mathlib.Core.Bool.{Bool, cond}
use Prim.Native.Nat.{ℕ, ◌<◌}
use native.Mathlib.Omega.{arith}
use native.Mathlib.Decide.{ℕ_discrete}
use lib.Dec.{eqb}
use borrow.Author.Tests.{eq-eqb, ne_eqb}
use lib.IntN.{ℤ, pos, neg_ℤ, ◌+ℤ◌, ◌-ℤ◌, ◌*ℤ◌, +ℤ_comm, +ℤ_invl, +ℤ_invr, zero-*ℤ, *ℤ-zero}
use Rattle.algebra.specs.Ranges.{sum}
use Rattle.algebra.proofs.Ring.{*ℤ-assoc}
use Rattle.algebra.proofs.Solver.{◌⊕◌, ◌⊗◌, ◌⊝◌, ⊖◌, #, ◌≐◌, ring₂, ring₃, ring₄, ring₅}
use Rattle.algebra.proofs.Sums.{
  sum_cong,
  sum_ext,
  sum-zero,
  sum_add,
  sum_sub,
  sum-scale,
  sum_scale_r,
  sum_const,
  sum_swap,
  sum_delta,
  sum_sq_nonneg,
  sum_is_zero,
  sum_sq_zero,
}
use Rattle.algebra.proofs.Order.{pos_inj, +ℤ-cancel-l, *ℤ-cancel-l, *ℤ-is-zero}
use Rattle.meaning.specs.Analysis.{sq}

-- the matrix: block k < b, object i < v
pub record Matrix (b v β : ℕ) (X : ℕ → ℕ → ℤ) : Type 0 where
  pub columns : (i j : ℕ) → i < v → j < v → sum b (λ k. X k i *ℤ X k j) ≡ cond (eqb i j) (pos β *ℤ (pos v -ℤ pos 1)) (neg_ℤ (pos β))
  pub rows : (k : ℕ) → k < b → sum v (λ i. X k i) ≡ pos 0

-- what block k is to read, where the objects are worth u
abbrev pub fit : ℕ → (ℕ → ℕ → ℤ) → (ℕ → ℤ) → ℕ → ℤ
fit v X u k = sum v (λ i. X k i *ℤ u i)

-- the objects' totals of the readings y
abbrev pub totals : ℕ → (ℕ → ℕ → ℤ) → (ℕ → ℤ) → ℕ → ℤ
totals b X y i = sum b (λ k. X k i *ℤ y k)

-- the deviation of reading k under the values N i / D, times D
abbrev pub apart : ℕ → (ℕ → ℕ → ℤ) → (ℕ → ℤ) → ℤ → (ℕ → ℤ) → ℕ → ℤ
apart v X y D N k = D *ℤ y k -ℤ fit v X N k

-- no number above 0 is 0
pub not-zero : (n : ℕ) → 0 < n → pos n ≡ pos 0 → ⊥
not-zero n l e = go n l (pos_inj n 0 e)
  where
    go : (n : ℕ) → 0 < n → n ≡ 0 → ⊥
    go n l e = omega arith

-- X and its transpose are adjoint: the readings y times X u are the values u times the totals of y, whatever X is
pub adjoint : (b v : ℕ) (X : ℕ → ℕ → ℤ) (y u : ℕ → ℤ) → sum b (λ k. y k *ℤ fit v X u k) ≡ sum v (λ i. u i *ℤ totals b X y i)
adjoint b v X y u =
    sum b (λ k. y k *ℤ fit v X u k) ≡⟨ sum_ext b _ _ (λ k. sym (sum-scale v (y k) _)) ⟩
    sum b (λ k. sum v (λ i. y k *ℤ (X k i *ℤ u i))) ≡⟨ sum_swap b v _ ⟩
    sum v (λ i. sum b (λ k. y k *ℤ (X k i *ℤ u i))) ≡⟨ sum_ext v _ _
    (λ i. sum_ext b _ _ (λ k. ring₃ (λ y x u. y ⊗ (x ⊗ u) ≐ u ⊗ (x ⊗ y)) (y k) (X k i) (u i) refl)) ⟩
    sum v (λ i. sum b (λ k. u i *ℤ (X k i *ℤ y k))) ≡⟨ sum_ext v _ _ (λ i. sum-scale b (u i) _) ⟩
    sum v (λ i. u i *ℤ totals b X y i) ∎

-- where the rows add to 0, so do the totals
pub rows_cancel : (b v : ℕ) (X : ℕ → ℕ → ℤ) → ((k : ℕ) → k < b → sum v (λ i. X k i) ≡ pos 0) → (y : ℕ → ℤ) → sum v (totals b X y) ≡ pos 0
rows_cancel b v X rows y =
    sum v (λ i. totals b X y i) ≡⟨ sum_swap v b (λ i k. X k i *ℤ y k) ⟩
    sum b (λ k. sum v (λ i. X k i *ℤ y k)) ≡⟨ sum_ext b _ _ (λ k. sum_scale_r v (y k) (X k)) ⟩
    sum b (λ k. sum v (X k) *ℤ y k) ≡⟨ sum_cong b _ (λ k. pos 0) (λ k l. ap (λ z. z *ℤ y k) (rows k l) ∙ zero-*ℤ (y k)) ⟩
    sum b (λ k. pos 0) ≡⟨ sum-zero b ⟩
    pos 0 ∎

-- X u is linear in u
pub fit_linear : (v : ℕ) (X : ℕ → ℕ → ℤ) (p q : ℤ) (a n : ℕ → ℤ) (k : ℕ) → fit v X (λ i. p *ℤ a i -ℤ q *ℤ n i) k ≡ p *ℤ fit v X a k -ℤ q *ℤ fit v X n k
fit_linear v X p q a n k =
    sum v (λ i. X k i *ℤ (p *ℤ a i -ℤ q *ℤ n i)) ≡⟨ sum_ext v _ _
    (λ i. ring₅ (λ x p a q n. x ⊗ (p ⊗ a ⊝ q ⊗ n) ≐ p ⊗ (x ⊗ a) ⊝ q ⊗ (x ⊗ n)) (X k i) p (a i) q (n i) refl) ⟩
    sum v (λ i. p *ℤ (X k i *ℤ a i) -ℤ q *ℤ (X k i *ℤ n i)) ≡⟨ sum_sub v _ _ ∙ ap₂ ◌-ℤ◌ (sum-scale v p _) (sum-scale v q _) ⟩
    p *ℤ fit v X a k -ℤ q *ℤ fit v X n k ∎

-- the sum of the squared differences of all pairs
pub differences : (v : ℕ) (u : ℕ → ℤ) → pos 2 *ℤ (pos v *ℤ sum v (λ i. sq (u i)) -ℤ sq (sum v u)) ≡ sum v (λ i. sum v (λ j. sq (u i -ℤ u j)))
differences v u = sym (
    sum v (λ i. sum v (λ j. sq (u i -ℤ u j))) ≡⟨ sum_ext v _ _
    (λ i. sum_ext v _ _ (λ j. ring₂ (λ a b. (a ⊝ b) ⊗ (a ⊝ b) ≐ a ⊗ a ⊕ (b ⊗ b ⊝ # 2 ⊗ a ⊗ b)) (u i) (u j) refl)) ⟩
    sum v (λ i. sum v (λ j. sq (u i) +ℤ (sq (u j) -ℤ pos 2 *ℤ u i *ℤ u j))) ≡⟨ sum_ext v _ _ (λ i. inner i) ⟩
    sum v (λ i. pos v *ℤ sq (u i) +ℤ (Q -ℤ pos 2 *ℤ U *ℤ u i)) ≡⟨ sum_add v _ _
    ∙ ap₂ ◌+ℤ◌ (sum-scale v (pos v) _) (sum_sub v _ _ ∙ ap₂ ◌-ℤ◌ (sum_const v Q) (sum-scale v (pos 2 *ℤ U) u)) ⟩
    pos v *ℤ Q +ℤ (pos v *ℤ Q -ℤ pos 2 *ℤ U *ℤ U) ≡⟨ ring₃ (λ v q u. v ⊗ q ⊕ (v ⊗ q ⊝ # 2 ⊗ u ⊗ u) ≐ # 2 ⊗ (v ⊗ q ⊝ u ⊗ u)) (pos v) Q U refl ⟩
    pos 2 *ℤ (pos v *ℤ Q -ℤ sq U) ∎)
  where
    Q : ℤ
    Q = sum v (λ i. sq (u i))

    U : ℤ
    U = sum v u

    inner : (i : ℕ) → sum v (λ j. sq (u i) +ℤ (sq (u j) -ℤ pos 2 *ℤ u i *ℤ u j)) ≡ pos v *ℤ sq (u i) +ℤ (Q -ℤ pos 2 *ℤ U *ℤ u i)
    inner i =
        sum_add v _ _ ∙ ap₂ ◌+ℤ◌ (sum_const v (sq (u i)))
        (sum_sub v _ _ ∙ ap (λ z. Q -ℤ z) (sum-scale v (pos 2 *ℤ u i) u ∙ ring₂ (λ a s. # 2 ⊗ a ⊗ s ≐ # 2 ⊗ s ⊗ a) (u i) U refl))

module _ (b v β : ℕ) (X : ℕ → ℕ → ℤ) (m : Matrix b v β X) where
  -- the totals of any readings add to 0
  pub totals-zero : (y : ℕ → ℤ) → sum v (totals b X y) ≡ pos 0
  totals-zero y = rows_cancel b v X m.rows y

  -- the totals of X u: at object i they are βv u i less β times the sum of u
  pub normal_operator : (u : ℕ → ℤ) (i : ℕ) → i < v → totals b X (fit v X u) i ≡ pos β *ℤ pos v *ℤ u i -ℤ pos β *ℤ sum v u
  normal_operator u i l =
      sum b (λ k. X k i *ℤ sum v (λ j. X k j *ℤ u j)) ≡⟨ sum_ext b _ _ (λ k. sym (sum-scale v (X k i) _)) ⟩
      sum b (λ k. sum v (λ j. X k i *ℤ (X k j *ℤ u j))) ≡⟨ sum_swap b v _ ⟩
      sum v (λ j. sum b (λ k. X k i *ℤ (X k j *ℤ u j))) ≡⟨ sum_ext v _ _
      (λ j. sum_ext b _ _ (λ k. sym (*ℤ-assoc (X k i) (X k j) (u j))) ∙ sum_scale_r b (u j) _) ⟩
      sum v (λ j. sum b (λ k. X k i *ℤ X k j) *ℤ u j) ≡⟨ sum_cong v _ _ (λ j o. ap (λ z. z *ℤ u j) (m.columns i j l o) ∙ split j (ℕ_discrete i j)) ⟩
      sum v (λ j. cond (eqb i j) (pos β *ℤ pos v *ℤ u j) (pos 0) -ℤ pos β *ℤ u j) ≡⟨ sum_sub v _ _ ⟩
      sum v (λ j. cond (eqb i j) (pos β *ℤ pos v *ℤ u j) (pos 0)) -ℤ sum v
      (λ j. pos β *ℤ u j) ≡⟨ ap₂ ◌-ℤ◌ (sum_delta v i (λ j. pos β *ℤ pos v *ℤ u j) l) (sum-scale v (pos β) u) ⟩
      pos β *ℤ pos v *ℤ u i -ℤ pos β *ℤ sum v u ∎
    where
      split : (j : ℕ) → Dec (i ≡ j) →
          cond (eqb i j) (pos β *ℤ (pos v -ℤ pos 1)) (neg_ℤ (pos β)) *ℤ u j ≡ cond (eqb i j) (pos β *ℤ pos v *ℤ u j) (pos 0) -ℤ pos β *ℤ u j
      split j (yes e) =
          ap (λ (t : Bool). cond t (pos β *ℤ (pos v -ℤ pos 1)) (neg_ℤ (pos β)) *ℤ u j) (eq-eqb i j e)
          ∙ ring₃ (λ b v u. b ⊗ (v ⊝ # 1) ⊗ u ≐ b ⊗ v ⊗ u ⊝ b ⊗ u) (pos β) (pos v) (u j) refl
          ∙ ap (λ (t : Bool). cond t (pos β *ℤ pos v *ℤ u j) (pos 0) -ℤ pos β *ℤ u j) (sym (eq-eqb i j e))
      split j (no e) =
          ap (λ (t : Bool). cond t (pos β *ℤ (pos v -ℤ pos 1)) (neg_ℤ (pos β)) *ℤ u j) (ne_eqb i j e)
          ∙ ring₂ (λ b u. ⊖ b ⊗ u ≐ # 0 ⊝ b ⊗ u) (pos β) (u j) refl
          ∙ ap (λ (t : Bool). cond t (pos β *ℤ pos v *ℤ u j) (pos 0) -ℤ pos β *ℤ u j) (sym (ne_eqb i j e))

  -- the square length of X u
  pub fit_length : (u : ℕ → ℤ) → sum b (λ k. sq (fit v X u k)) ≡ pos β *ℤ pos v *ℤ sum v (λ i. sq (u i)) -ℤ pos β *ℤ sq (sum v u)
  fit_length u =
      sum b (λ k. fit v X u k *ℤ fit v X u k) ≡⟨ adjoint b v X (fit v X u) u ⟩
      sum v (λ i. u i *ℤ totals b X (fit v X u) i) ≡⟨ sum_cong v _ _
      (λ i l. ap (λ z. u i *ℤ z) (normal_operator u i l)
      ∙ ring₄ (λ u b v s. u ⊗ (b ⊗ v ⊗ u ⊝ b ⊗ s) ≐ b ⊗ v ⊗ (u ⊗ u) ⊝ b ⊗ s ⊗ u) (u i) (pos β) (pos v) (sum v u) refl) ⟩
      sum v (λ i. pos β *ℤ pos v *ℤ sq (u i) -ℤ pos β *ℤ sum v u *ℤ u i) ≡⟨ sum_sub v _ _ ⟩
      sum v (λ i. pos β *ℤ pos v *ℤ sq (u i)) -ℤ sum v
      (λ i. pos β *ℤ sum v u *ℤ u i) ≡⟨ ap₂ ◌-ℤ◌ (sum-scale v (pos β *ℤ pos v) (λ i. sq (u i))) (sum-scale v (pos β *ℤ sum v u) u) ⟩
      pos β *ℤ pos v *ℤ sum v (λ i. sq (u i)) -ℤ pos β *ℤ sum v u *ℤ sum v u ≡⟨ ap (λ z. pos β *ℤ pos v *ℤ sum v (λ i. sq (u i)) -ℤ z)
      (*ℤ-assoc (pos β) (sum v u) (sum v u)) ⟩
      pos β *ℤ pos v *ℤ sum v (λ i. sq (u i)) -ℤ pos β *ℤ sq (sum v u) ∎

  -- X u is 0 only where all values are equal
  pub equal-values : 0 < β → (u : ℕ → ℤ) → sum b (λ k. sq (fit v X u k)) ≡ pos 0 → (i j : ℕ) → i < v → j < v → u i ≡ u j
  equal-values β>0 u h i j l o =
      +ℤ-cancel-l (neg_ℤ (u j)) (u i) (u j) (+ℤ_comm (neg_ℤ (u j)) (u i) ∙ diff_zero ∙ sym (+ℤ_invl (u j)))
    where
      spread : pos v *ℤ sum v (λ i. sq (u i)) -ℤ sq (sum v u) ≡ pos 0
      spread = ⊎_elim (λ e. absurd (not-zero β β>0 e)) (λ e. e) (*ℤ-is-zero (pos β) (pos v *ℤ sum v (λ i. sq (u i)) -ℤ sq (sum v u))
          (ring₄ (λ b v q s. b ⊗ (v ⊗ q ⊝ s) ≐ b ⊗ v ⊗ q ⊝ b ⊗ s) (pos β) (pos v) (sum v (λ i. sq (u i))) (sq (sum v u)) refl ∙ sym (fit_length u) ∙ h))

      pairs : sum v (λ i. sum v (λ j. sq (u i -ℤ u j))) ≡ pos 0
      pairs = sym (differences v u) ∙ ap (λ z. pos 2 *ℤ z) spread

      diff_zero : u i -ℤ u j ≡ pos 0
      diff_zero = sum_sq_zero v (λ j. u i -ℤ u j) (sum_is_zero v (λ i. sum v (λ j. sq (u i -ℤ u j))) (λ i l. sum_sq_nonneg v (λ j. u i -ℤ u j)) pairs i l) j o

  -- ---- the values N i / D solve the normal equations with the constant c: vβ N i is D times the total of i, plus c
  module _ (v>0 : 0 < v) (y : ℕ → ℤ) (D : ℤ) (N : ℕ → ℤ) (c : ℤ) (solves : (i : ℕ) → i < v → pos v *ℤ pos β *ℤ N i ≡ D *ℤ totals b X y i +ℤ c) where
    -- the constant is β times the sum of N
    constant_is : pos β *ℤ sum v N ≡ c
    constant_is = *ℤ-cancel-l (pos v) (pos β *ℤ sum v N) c (λ e. absurd (not-zero v v>0 e)) (
        pos v *ℤ (pos β *ℤ sum v N) ≡⟨ sym (*ℤ-assoc (pos v) (pos β) (sum v N)) ∙ sym (sum-scale v (pos v *ℤ pos β) N) ⟩
        sum v (λ i. pos v *ℤ pos β *ℤ N i) ≡⟨ sum_cong v _ _ solves ⟩
        sum v (λ i. D *ℤ totals b X y i +ℤ c) ≡⟨ sum_add v _ _ ∙ ap₂ ◌+ℤ◌ (sum-scale v D (totals b X y) ∙ ap (λ z. D *ℤ z) (totals-zero y)) (sum_const v c) ⟩
        D *ℤ pos 0 +ℤ pos v *ℤ c ≡⟨ ring₃ (λ d v c. d ⊗ # 0 ⊕ v ⊗ c ≐ v ⊗ c) D (pos v) c refl ⟩
        pos v *ℤ c ∎)

    -- the deviations of a solution are orthogonal to every column
    pub orthogonal : (i : ℕ) → i < v → totals b X (apart v X y D N) i ≡ pos 0
    orthogonal i l =
        sum b (λ k. X k i *ℤ (D *ℤ y k -ℤ fit v X N k)) ≡⟨ sum_ext b _ _
        (λ k. ring₄ (λ x d y f. x ⊗ (d ⊗ y ⊝ f) ≐ d ⊗ (x ⊗ y) ⊝ x ⊗ f) (X k i) D (y k) (fit v X N k) refl) ⟩
        sum b (λ k. D *ℤ (X k i *ℤ y k) -ℤ X k i *ℤ fit v X N k) ≡⟨ sum_sub b _ _ ∙ ap₂ ◌-ℤ◌ (sum-scale b D _) (normal_operator N i l) ⟩
        D *ℤ totals b X y i -ℤ (pos β *ℤ pos v *ℤ N i -ℤ pos β *ℤ sum v N) ≡⟨ ring₅ (λ t b v n s. t ⊝ (b ⊗ v ⊗ n ⊝ s) ≐ t ⊕ s ⊝ v ⊗ b ⊗ n)
        (D *ℤ totals b X y i) (pos β) (pos v) (N i) (pos β *ℤ sum v N) refl ⟩
        D *ℤ totals b X y i +ℤ pos β *ℤ sum v N -ℤ pos v *ℤ pos β *ℤ N i ≡⟨ ap₂ ◌-ℤ◌ (ap (λ z. D *ℤ totals b X y i +ℤ z) constant_is) (solves i l) ⟩
        D *ℤ totals b X y i +ℤ c -ℤ (D *ℤ totals b X y i +ℤ c) ≡⟨ +ℤ_invr (D *ℤ totals b X y i +ℤ c) ⟩
        pos 0 ∎

    -- with u = D a - e N, D² times the squares of a / e are e² times those of the solution, and the square length of X u
    pub pythagoras : (e : ℤ) (a : ℕ → ℤ) →
        sum b (λ k. sq (apart v X y e a k)) *ℤ sq D ≡ sq e *ℤ sum b (λ k. sq (apart v X y D N k)) +ℤ sum b (λ k. sq (fit v X (λ i. D *ℤ a i -ℤ e *ℤ N i) k))
    pythagoras e a =
        sum b (λ k. sq (apart v X y e a k)) *ℤ sq D ≡⟨ sym (sum_scale_r b (sq D) (λ k. sq (apart v X y e a k))) ⟩
        sum b (λ k. sq (apart v X y e a k) *ℤ sq D) ≡⟨ sum_ext b _ _ (λ k.
        ring₅ (λ e y f d n. (e ⊗ y ⊝ f) ⊗ (e ⊗ y ⊝ f) ⊗ (d ⊗ d) ≐ (e ⊗ e) ⊗ ((d ⊗ y ⊝ n) ⊗ (d ⊗ y ⊝ n)) ⊕
        ((d ⊗ f ⊝ e ⊗ n) ⊗ (d ⊗ f ⊝ e ⊗ n) ⊝ (# 2 ⊗ e) ⊗ ((d ⊗ y ⊝ n) ⊗ (d ⊗ f ⊝ e ⊗ n))))
        e (y k) (fit v X a k) D (fit v X N k) refl
        ∙ ap (λ z. sq e *ℤ sq (apart v X y D N k) +ℤ (z *ℤ z -ℤ pos 2 *ℤ e *ℤ (apart v X y D N k *ℤ z))) (sym (fit_linear v X D e a N k))) ⟩
        sum b (λ k. sq e *ℤ sq (apart v X y D N k) +ℤ (sq (fit v X u k) -ℤ pos 2 *ℤ e *ℤ (apart v X y D N k *ℤ fit v X u k))) ≡⟨ sum_add b _ _
        ∙ ap₂ ◌+ℤ◌ (sum-scale b (sq e) _)
        (sum_sub b _ _ ∙ ap (λ z. sum b (λ k. sq (fit v X u k)) -ℤ z) (sum-scale b (pos 2 *ℤ e) _ ∙ ap (λ z. pos 2 *ℤ e *ℤ z) cross)) ⟩
        sq e *ℤ sum b (λ k. sq (apart v X y D N k)) +ℤ
        (sum b (λ k. sq (fit v X u k)) -ℤ pos 2 *ℤ e *ℤ pos 0) ≡⟨ ring₃ (λ s t e. s ⊕ (t ⊝ # 2 ⊗ e ⊗ # 0) ≐ s ⊕ t)
        (sq e *ℤ sum b (λ k. sq (apart v X y D N k))) (sum b (λ k. sq (fit v X u k))) e refl ⟩
        sq e *ℤ sum b (λ k. sq (apart v X y D N k)) +ℤ sum b (λ k. sq (fit v X u k)) ∎
      where
        u : ℕ → ℤ
        u i = D *ℤ a i -ℤ e *ℤ N i

        cross : sum b (λ k. apart v X y D N k *ℤ fit v X u k) ≡ pos 0
        cross =
            adjoint b v X (apart v X y D N) u
            ∙ sum_cong v _ (λ i. pos 0) (λ i l. ap (λ z. u i *ℤ z) (orthogonal i l) ∙ *ℤ-zero (u i)) ∙ sum-zero v
