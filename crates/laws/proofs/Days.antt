-- Sums of days: one design and restraint set, and readings x that are those of two days, y and z, added block by block. Totals, values and deviations are
-- linear in the readings and in M, so those of x are the sums of the days'. And what the deviations of any one balanced job add to.
--     totals_add, numerators_add, deviations_add    the figures of the sum are the sums of the days' figures
--     squares_of_sum                                the squares of the added deviations add to vβ times the sum's own Q, which is not the days' Q added
--     deviations_cancel                             the deviations, taken left minus right, total 0 for every object
-- Assumes nothing.
use mathlib.Core.Path.{◌≡◌, refl, sym, ◌∙◌, ap, ap₂, fun_ext}
use mathlib.Core.Bool.{true}
use mathlib.Core.List.{List, [], ◌∷◌}
use Prim.Native.Nat.{ℕ, ◌<◌}
use lib.IntN.{ℤ, pos, ◌+ℤ◌, ◌-ℤ◌, ◌*ℤ◌}
use Rattle.algebra.specs.Ranges.{sum}
use Rattle.algebra.proofs.Ring.{distrib_l}
use Rattle.algebra.proofs.Solver.{◌⊕◌, ◌⊗◌, ◌⊝◌, #, ◌≐◌, ring₃, ring₄, ring₆}
use Rattle.algebra.proofs.Sums.{sum_cong, sum_ext, sum_add}
use Rattle.records.specs.declared.Head.{Head}
use Rattle.meaning.specs.Design.{objects, blocks, left, right, balanced, beta}
use Rattle.meaning.specs.Analysis.{
  sq,
  reading,
  sign,
  total,
  member,
  members,
  restrained,
  vbeta,
  numerator_of,
  along,
  difference,
  deviation_of,
  qOf,
}
use Rattle.laws.proofs.Chains.{Sound}
use Rattle.laws.proofs.LeastSquares.{orthogonal}
use Rattle.laws.proofs.Matrix.{difference_signs, design_matrix}
use Rattle.laws.proofs.Analysis.{some-objects, squares_add}

-- ---- sums over objects are linear

-- over the restraint set
restrained_add : (v w : ℕ) (f g : ℕ → ℤ) → restrained v w (λ i. f i +ℤ g i) ≡ restrained v w f +ℤ restrained v w g
unfolding restrained
restrained_add v w f g = sum_ext v _ _ (λ i. distrib_l (pos (member w i)) (f i) (g i)) ∙ sum_add v _ _

-- over a list of objects
along_add : (f g : ℕ → ℤ) (xs : List ℕ) → along (λ i. f i +ℤ g i) xs ≡ along f xs +ℤ along g xs
unfolding along
along_add f g [] = refl
along_add f g (x ∷ xs) =
    ap (λ z. f x +ℤ g x +ℤ z) (along_add f g xs)
    ∙ ring₄ (λ a b c d. a ⊕ b ⊕ (c ⊕ d) ≐ a ⊕ c ⊕ (b ⊕ d)) (f x) (g x) (along f xs) (along g xs) refl

-- over the left of a block minus over its right
difference_add : (h : Head) (d : List ℕ) (f g : ℕ → ℤ) (k : ℕ) → difference h d (λ i. f i +ℤ g i) k ≡ difference h d f k +ℤ difference h d g k
unfolding difference
difference_add h d f g k =
    ap₂ ◌-ℤ◌ (along_add f g (left h d k)) (along_add f g (right h d k))
    ∙ ring₄ (λ a b c e. a ⊕ b ⊝ (c ⊕ e) ≐ a ⊝ c ⊕ (b ⊝ e)) (along f (left h d k)) (along g (left h d k)) (along f (right h d k)) (along g (right h d k)) refl

-- ---- two days and their sum

module _ (h : Head) (d : List ℕ) (x y z : List ℤ) (adds : (k : ℕ) → k < blocks h → reading x k ≡ reading y k +ℤ reading z k) where
  -- the totals of the sum are the sums of the days' totals
  pub totals_add : (i : ℕ) → total h d x i ≡ total h d y i +ℤ total h d z i
  unfolding total
  totals_add i =
      sum_cong (blocks h) _ _ (λ k l. ap (λ r. sign h d k i *ℤ r) (adds k l) ∙ distrib_l (sign h d k i) (reading y k) (reading z k))
      ∙ sum_add (blocks h) _ _

  -- of all objects at once
  all-totals : total h d x ≡ λ i. total h d y i +ℤ total h d z i
  all-totals = fun_ext totals_add

  -- with M added, so are the numerators of the values
  pub numerators_add : (w : ℕ) (M N : ℤ) (i : ℕ) → numerator_of h d x w (M +ℤ N) i ≡ numerator_of h d y w M i +ℤ numerator_of h d z w N i
  unfolding numerator_of
  numerators_add w M N i =
      ap₂ (λ T S. t *ℤ T -ℤ S +ℤ vβ *ℤ (M +ℤ N)) (totals_add i) (ap (restrained (objects h) w) all-totals ∙ restrained_add (objects h) w _ _)
      ∙ ap₂ (λ T m. T -ℤ (restrained (objects h) w (total h d y) +ℤ restrained (objects h) w (total h d z)) +ℤ m)
      (distrib_l t (total h d y i) (total h d z i)) (distrib_l vβ M N)
      ∙ ring₆ (λ a b s u m n. a ⊕ b ⊝ (s ⊕ u) ⊕ (m ⊕ n) ≐ a ⊝ s ⊕ m ⊕ (b ⊝ u ⊕ n)) (t *ℤ total h d y i) (t *ℤ total h d z i)
      (restrained (objects h) w (total h d y)) (restrained (objects h) w (total h d z)) (vβ *ℤ M) (vβ *ℤ N) refl
    where
      t : ℤ
      t = pos (members (objects h) w)

      vβ : ℤ
      vβ = pos (vbeta h d)

  -- and those of the deviations
  pub deviations_add : (k : ℕ) → k < blocks h → deviation_of h d x k ≡ deviation_of h d y k +ℤ deviation_of h d z k
  unfolding deviation_of
  deviations_add k l =
      ap₂ (λ r D. vβ *ℤ r -ℤ D) (adds k l) (ap (λ T. difference h d T k) all-totals ∙ difference_add h d (total h d y) (total h d z) k)
      ∙ ap (λ r. r -ℤ (difference h d (total h d y) k +ℤ difference h d (total h d z) k)) (distrib_l vβ (reading y k) (reading z k))
      ∙ ring₄ (λ a b c e. a ⊕ b ⊝ (c ⊕ e) ≐ a ⊝ c ⊕ (b ⊝ e)) (vβ *ℤ reading y k) (vβ *ℤ reading z k)
      (difference h d (total h d y) k) (difference h d (total h d z) k) refl
    where
      vβ : ℤ
      vβ = pos (vbeta h d)

  -- the deviations of two days, added and then squared, add to vβ Q of the sum
  pub squares_of_sum : Sound h d → balanced h d ≡ true →
      sum (blocks h) (λ k. sq (deviation_of h d y k +ℤ deviation_of h d z k)) ≡ pos (vbeta h d) *ℤ pos (qOf h d x)
  squares_of_sum s e = sum_cong (blocks h) _ _ (λ k l. ap sq (sym (deviations_add k l))) ∙ squares_add h d s e x

-- ---- one job

-- the deviations over the blocks with object i on the left, less those over the blocks with it on the right, are 0
pub deviations_cancel : (h : Head) (d : List ℕ) → Sound h d → balanced h d ≡ true → (y : List ℤ) (i : ℕ) → i < objects h →
    sum (blocks h) (λ k. sign h d k i *ℤ deviation_of h d y k) ≡ pos 0
unfolding deviation_of total
deviations_cancel h d s e y i l =
    sum_cong (blocks h) _ _ (λ k m. ap (λ D. sign h d k i *ℤ (pos (vbeta h d) *ℤ reading y k -ℤ D)) (difference_signs h d s (total h d y) k m))
    ∙ orthogonal (blocks h) (objects h) (beta h d) (sign h d) (design_matrix h d s e) (some-objects h d s e) (reading y) (pos (vbeta h d)) (total h d y) (pos 0)
    (λ j o. ring₃ (λ v b t. v ⊗ b ⊗ t ≐ v ⊗ b ⊗ t ⊕ # 0) (pos (objects h)) (pos (beta h d)) (total h d y j) refl) i l
