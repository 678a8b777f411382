-- The signs of a balanced design are a matrix of least squares: company less opposition is the product of two columns, and a row adds to p less p.
-- Assumes nothing.
use mathlib.Core.Path.{◌≡◌, refl, sym, ◌∙◌, ap, ap₂}
use mathlib.Core.Bool.{Bool, true, cond}
use mathlib.Core.List.{List}
use Prim.Native.Nat.{ℕ, ◌+◌, ◌-◌, ◌*◌, ◌<◌}
use native.Mathlib.Omega.{arith}
use native.Mathlib.Decide.{ℕ_discrete}
use lib.Dec.{eqb}
use lib.IntN.{ℤ, pos, neg_ℤ, ◌-ℤ◌, ◌*ℤ◌, +ℤ_idr, +ℤ_invr}
use borrow.Author.Tests.{eq-eqb, ne_eqb}
use Rattle.algebra.specs.Ranges.{sum}
use Rattle.algebra.proofs.Solver.{◌⊕◌, ◌⊗◌, ◌⊝◌, ⊖◌, ◌≐◌, ring₂, ring₃, ring₄}
use Rattle.algebra.proofs.Order.{pos_sub}
use Rattle.algebra.proofs.Sums.{sum_ext, sum_sub, pos_sum}
use Rattle.records.specs.declared.Head.{Head}
use Rattle.meaning.specs.Design.{objects, blocks, occ, left, right, company, opposition, balanced, beta}
use Rattle.meaning.specs.Analysis.{sign, difference}
use Rattle.laws.proofs.Chains.{Sound}
use Rattle.laws.proofs.Occurrences.{along-occ}
use Rattle.laws.proofs.Clean.{left-objects, right-objects, block-left, block-right}
use Rattle.laws.proofs.Counting.{Numbers, balanced-is, opposition_self}
use Rattle.laws.proofs.CountingNumbers.{parameters}
use Rattle.laws.proofs.LeastSquares.{Matrix}

-- the signs of a block add to 0, in every sound design
pub signs_cancel : (h : Head) (d : List ℕ) → Sound h d → (k : ℕ) → k < blocks h → sum (objects h) (λ i. sign h d k i) ≡ pos 0
signs_cancel h d s k l =
    sum_sub (objects h) (λ i. pos (occ i (left h d k))) (λ i. pos (occ i (right h d k)))
    ∙ ap₂ ◌-ℤ◌ (sym (pos_sum (objects h) (λ i. occ i (left h d k))) ∙ ap pos (block-left h d s k l))
    (sym (pos_sum (objects h) (λ i. occ i (right h d k))) ∙ ap pos (block-right h d s k l))
    ∙ +ℤ_invr (pos h.p)

-- f over the left less f over the right, by the signs
pub difference_signs : (h : Head) (d : List ℕ) → Sound h d → (f : ℕ → ℤ) (k : ℕ) → k < blocks h →
    difference h d f k ≡ sum (objects h) (λ i. sign h d k i *ℤ f i)
unfolding difference
difference_signs h d s f k l = sym (
    sum_ext (objects h) _ (λ i. pos (occ i (left h d k)) *ℤ f i -ℤ pos (occ i (right h d k)) *ℤ f i)
    (λ i. ring₃ (λ a b f. (a ⊝ b) ⊗ f ≐ a ⊗ f ⊝ b ⊗ f) (pos (occ i (left h d k))) (pos (occ i (right h d k))) (f i) refl)
    ∙ sum_sub (objects h) _ _
    ∙ sym (ap₂ ◌-ℤ◌ (along-occ (objects h) f (left h d k) (left-objects h d s k l)) (along-occ (objects h) f (right h d k) (right-objects h d s k l))))

-- the product of two columns of signs is company less opposition
pub columns_product : (h : Head) (d : List ℕ) (i j : ℕ) → sum (blocks h) (λ k. sign h d k i *ℤ sign h d k j) ≡ pos (company h d i j) -ℤ pos (opposition h d i j)
unfolding company opposition
columns_product h d i j =
    sum_ext (blocks h) _ (λ k. pos (shares k) -ℤ pos (opposes k))
    (λ k. ring₄ (λ a c e f. (a ⊝ c) ⊗ (e ⊝ f) ≐ (a ⊗ e ⊕ c ⊗ f) ⊝ (a ⊗ f ⊕ c ⊗ e)) (pos (occ i (left h d k))) (pos (occ i (right h d k)))
    (pos (occ j (left h d k))) (pos (occ j (right h d k))) refl)
    ∙ sum_sub (blocks h) (λ k. pos (shares k)) (λ k. pos (opposes k))
    ∙ sym (ap₂ ◌-ℤ◌ (pos_sum (blocks h) shares) (pos_sum (blocks h) opposes))
  where
    shares : ℕ → ℕ
    shares k = occ i (left h d k) * occ j (left h d k) + occ i (right h d k) * occ j (right h d k)

    opposes : ℕ → ℕ
    opposes k = occ i (left h d k) * occ j (right h d k) + occ i (right h d k) * occ j (left h d k)

-- the signs of a balanced design
pub design_matrix : (h : Head) (d : List ℕ) → Sound h d → balanced h d ≡ true → Matrix (blocks h) (objects h) (beta h d) (sign h d)
design_matrix h d s e = record { columns = columns; rows = signs_cancel h d s }
  where
    c : Numbers h d
    c = parameters h d s e

    -- in company as often as beta says, less
    fewer : (l1 l2 β : ℕ) → l1 + β ≡ l2 → pos l1 -ℤ pos l2 ≡ neg_ℤ (pos β)
    fewer l1 l2 β q = ap (λ (z : ℕ). pos l1 -ℤ pos z) (sym q) ∙ ring₂ (λ x y. x ⊝ (x ⊕ y) ≐ ⊖ y) (pos l1) (pos β) refl

    columns : (i j : ℕ) → i < objects h → j < objects h →
        sum (blocks h) (λ k. sign h d k i *ℤ sign h d k j) ≡ cond (eqb i j) (pos (beta h d) *ℤ (pos (objects h) -ℤ pos 1)) (neg_ℤ (pos (beta h d)))
    columns i j m o = columns_product h d i j ∙ go (ℕ_discrete i j)
      where
        go : Dec (i ≡ j) → pos (company h d i j) -ℤ pos (opposition h d i j) ≡ cond (eqb i j) (pos (beta h d) *ℤ (pos (objects h) -ℤ pos 1))
            (neg_ℤ (pos (beta h d)))
        go (yes q) =
            ap (λ (x : ℕ). pos (company h d i x) -ℤ pos (opposition h d i x)) (sym q)
            ∙ ap₂ (λ (x y : ℕ). pos x -ℤ pos y) (c.repeats i m) (opposition_self h d s i m)
            ∙ +ℤ_idr (pos (beta h d) *ℤ pos (objects h - 1))
            ∙ ap (λ (z : ℤ). pos (beta h d) *ℤ z) (pos_sub (objects h) 1 (omega arith))
            ∙ ap (λ (t : Bool). cond t (pos (beta h d) *ℤ (pos (objects h) -ℤ pos 1)) (neg_ℤ (pos (beta h d)))) (sym (eq-eqb i j q))
        go (no q) =
            ap₂ (λ (x y : ℕ). pos x -ℤ pos y) ((balanced-is h d e).together i j m o q) ((balanced-is h d e).against i j m o q)
            ∙ fewer (company h d 1 0) (opposition h d 1 0) (beta h d) c.beta-is
            ∙ ap (λ (t : Bool). cond t (pos (beta h d) *ℤ (pos (objects h) -ℤ pos 1)) (neg_ℤ (pos (beta h d)))) (sym (ne_eqb i j q))
