-- An accepted job keeps what is said of uncertainty: the laws of the coefficients over whole numbers, said of fractions. Assumes nothing.
use mathlib.Core.Path.{◌≡◌, refl, sym, ap, ap₂, ◌∙◌}
use mathlib.Core.Bool.{Bool, cond}
use mathlib.Core.List.{List}
use Prim.Native.Nat.{ℕ, ◌+◌, ◌-◌, ◌*◌, ◌<◌, ◌^◌}
use native.Mathlib.Nat.{mul-pos}
use native.Mathlib.Omega.{arith}
use lib.IntN.{ℤ, pos, ◌-ℤ◌, ◌*ℤ◌}
use borrow.Author.Tests.{eq-eqb, ne_eqb}
use Rattle.algebra.specs.Ranges.{sum}
use Rattle.algebra.proofs.Solver.{◌⊗◌, #, ◌≐◌, ring₂, ring₃, ring₄}
use Rattle.algebra.proofs.Order.{*ℤ-cancel-l}
use Rattle.meaning.specs.Design.{objects, blocks, beta}
use Rattle.meaning.specs.Analysis.{sq, reading, member, members, vbeta, denominator_of, coefficient, factor}
use Rattle.meaning.specs.Fractions.{Fraction, whole, ◌+ᶠ◌, squared, summed, exact_values}
use Rattle.meaning.specs.Refusals.{accepted}
use Rattle.laws.proofs.Chains.{Job as Good, job}
use Rattle.laws.proofs.LeastSquares.{not-zero}
use Rattle.laws.proofs.Analysis.{job-members, job-denominator}
use Rattle.laws.proofs.SizesMost.{denominator-most}
use Rattle.laws.proofs.Fractions.{Over, over-+, over-squared, over-summed}
use Rattle.laws.proofs.Variance.{values_linear, factor-squares, factor_products, factor-most, all-members}
use Rattle.arithmetic.proofs.Floats.{float-near}
use Rattle.demands.specs.Job.{Job, v, b, verdict_of}
use Rattle.demands.specs.Fractions.{Same, ◌*ᶠ◌}
use Rattle.demands.specs.Demand3.{Member}
use Rattle.demands.specs.Uncertainty.{coefficient_of, factor_of, Uncertainty}

-- the product of two fractions
over-times : (D : ℕ) (m n : ℤ) (x y : Fraction) → Over D m x → Over D n y → Over (D * D) (m *ℤ n) (x *ᶠ y)
over-times D m n x y p r = record {
  some = mul-pos p.some r.some;
  same =
      ring₃ (λ a c d. a ⊗ c ⊗ (d ⊗ d) ≐ (a ⊗ d) ⊗ (c ⊗ d)) x.top y.top (pos D) refl ∙ ap₂ ◌*ℤ◌ p.same r.same
      ∙ ring₄ (λ m a n c. (m ⊗ a) ⊗ (n ⊗ c) ≐ m ⊗ n ⊗ (a ⊗ c)) m (pos x.bottom) n (pos y.bottom) refl;
}

-- n times D over D·D is n over D
struck : (D : ℕ) (n m : ℤ) (x : Fraction) → 0 < D → Over (D * D) m x → m ≡ n *ℤ pos D → Same (record { top = n; bottom = D }) x
struck D n m x some o e = record {
  left-bottom = some;
  right-bottom = o.some;
  equal = *ℤ-cancel-l (pos D) (n *ℤ pos x.bottom) (x.top *ℤ pos D) (λ z. absurd (not-zero D some z)) (
      ring₃ (λ d n c. d ⊗ (n ⊗ c) ≐ n ⊗ d ⊗ c) (pos D) n (pos x.bottom) refl ∙ ap (λ z. z *ℤ pos x.bottom) (sym e) ∙ sym o.same
      ∙ ring₂ (λ d a. a ⊗ (d ⊗ d) ≐ d ⊗ (a ⊗ d)) (pos D) x.top refl);
}

module _ (j : Job) (e : verdict_of j ≡ accepted) where
  open j use {head as h, initial as d, readings as y, set as w, sum as M}

  good : Good h d y w M
  good = job h d y w M e

  some : 0 < denominator_of h d w
  some = job-denominator h d y w M good

  coefficient-over : (i k : ℕ) → Over (denominator_of h d w) (coefficient h d w i k) (coefficient_of j i k)
  coefficient-over i k = record { some = some; same = refl }

  -- coefficient times reading, and M over t, over the denominator
  term_over : (ys : List ℤ) (i k : ℕ) →
      Over (denominator_of h d w) (coefficient h d w i k *ℤ reading ys k) (coefficient_of j i k *ᶠ whole (reading ys k))
  term_over ys i k = record {
    some = mul-pos some (omega arith);
    same = ring₃ (λ c y e. c ⊗ y ⊗ e ≐ c ⊗ y ⊗ (e ⊗ # 1)) (coefficient h d w i k) (reading ys k) (pos (denominator_of h d w)) refl;
  }

  sum_over : (N : ℤ) → Over (denominator_of h d w) (pos (vbeta h d) *ℤ N) (record { top = N; bottom = members (objects h) w })
  unfolding denominator_of
  sum_over N = record {
    some = job-members h d y w M good;
    same = ring₃ (λ n t c. n ⊗ (t ⊗ c) ≐ c ⊗ n ⊗ t) N (pos (members (objects h) w)) (pos (vbeta h d)) refl;
  }

  coefficients : (ys : List ℤ) (N : ℤ) (i : ℕ) → Same (exact_values h d ys w N i)
      (summed (b j) (λ k. coefficient_of j i k *ᶠ whole (reading ys k)) +ᶠ record { top = N; bottom = members (v j) w })
  coefficients ys N i =
      let terms = over-summed (denominator_of h d w) (blocks h) (λ k. coefficient h d w i k *ℤ reading ys k)
      (λ k. coefficient_of j i k *ᶠ whole (reading ys k)) (λ k l. term_over ys i k) in
      let all = over-+ (denominator_of h d w) (sum (blocks h) (λ k. coefficient h d w i k *ℤ reading ys k)) (pos (vbeta h d) *ℤ N)
      (summed (blocks h) (λ k. coefficient_of j i k *ᶠ whole (reading ys k))) (record { top = N; bottom = members (objects h) w }) terms (sum_over N) in
      record {
        left-bottom = some;
        right-bottom = all.some;
        equal =
            ap (λ z. z *ℤ pos (summed (b j) (λ k. coefficient_of j i k *ᶠ whole (reading ys k)) +ᶠ record { top = N; bottom = members (v j) w }).bottom)
            (values_linear h d ys w N i) ∙ sym all.same;
      }

  -- the numbers convert without loss
  factor-small : (i : ℕ) → factor h w i < 2 ^ 53
  factor-small i = omega (arith, factor-most h w i, good.measures.design.sizes.objects-most)

  denominator-small : denominator_of h d w < 2 ^ 53
  denominator-small = omega (arith, denominator-most h d good.measures.design good.measures.even w)

  of_members : (i : ℕ) → Member j i → factor h w i ≡ members (objects h) w - 1
  unfolding factor
  of_members i m = ap (λ (t : Bool). cond t (members (objects h) w - 1) (members (objects h) w + 1)) (eq-eqb (member w i) 1 m)

  of_others : (i : ℕ) → (Member j i → ⊥) → factor h w i ≡ members (objects h) w + 1
  unfolding factor
  of_others i m = ap (λ (t : Bool). cond t (members (objects h) w - 1) (members (objects h) w + 1)) (ne_eqb (member w i) 1 m)

  over : denominator_of h d w ≡ members (objects h) w * (objects h * beta h d)
  unfolding denominator_of
  over = refl

  squares : (i : ℕ) → i < v j → Same (factor_of j i) (summed (b j) (λ k. squared (coefficient_of j i k)))
  squares i l = struck (denominator_of h d w) (pos (factor h w i)) _ _ some
      (over-summed (denominator_of h d w * denominator_of h d w) (blocks h) (λ k. sq (coefficient h d w i k)) (λ k. squared (coefficient_of j i k))
      (λ k o. over-squared (denominator_of h d w) (coefficient h d w i k) (coefficient_of j i k) (coefficient-over i k)))
      (factor-squares h d good.measures.design good.measures.even w (job-members h d y w M good) i l)

  products : (i o : ℕ) → i < v j → o < v j → (i ≡ o → ⊥) →
      Same (record { top = pos 1 -ℤ pos (member w i + member w o); bottom = denominator_of h d w })
      (summed (b j) (λ k. coefficient_of j i k *ᶠ coefficient_of j o k))
  products i o l m differ = struck (denominator_of h d w) (pos 1 -ℤ pos (member w i + member w o)) _ _ some
      (over-summed (denominator_of h d w * denominator_of h d w) (blocks h) (λ k. coefficient h d w i k *ℤ coefficient h d w o k)
      (λ k. coefficient_of j i k *ᶠ coefficient_of j o k)
      (λ k q. over-times (denominator_of h d w) (coefficient h d w i k) (coefficient h d w o k) (coefficient_of j i k) (coefficient_of j o k)
      (coefficient-over i k) (coefficient-over o k)))
      (factor_products h d good.measures.design good.measures.even w i o l m differ)

  pub uncertainty : Uncertainty j
  uncertainty = record {
    coefficients_are = coefficients;
    of_members = of_members;
    of_others = of_others;
    over = over;
    handed_out = λ i. (refl, refl);
    without_loss = λ i. (factor-small i, denominator-small);
    near = λ i. float-near (pos (factor h w i)) (denominator_of h d w) (factor-small i) some denominator-small;
    of_all = λ t i l. of_members i (all-members (objects h) w t i l);
    sum_of_squares = squares;
    sum_of_products = products;
  }
