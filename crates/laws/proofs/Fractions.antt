-- The exact values against any others, in fractions each with its own denominator: any v fractions have a common denominator, over which the laws of
-- `Analysis` speak of them.
--     exact_keeps        the exact values keep the restraint
--     least              any others that keep it have larger squares
--     exact-squares      the squares of the exact values are Q over vβ
--     spread_cut         k hundredths against the squares of the exact values over the degrees of freedom
--     published-excess   those of the published values are no smaller, and at most βv²/10,000 larger
-- Assumes nothing.
use mathlib.Core.Path.{◌≡◌, refl, sym, ◌∙◌, ap, subst, subst₂}
use mathlib.Core.Bool.{Bool, cond}
use mathlib.Core.List.{List, [], ◌∷◌}
use Prim.Native.Nat.{ℕ, zero, suc, ◌+◌, ◌-◌, ◌*◌, ◌≤◌, ◌<◌}
use native.Mathlib.Nat.{mul-pos}
use native.Mathlib.Omega.{arith}
use native.Mathlib.Decide.{ℕ_discrete}
use lib.Dec.{eqb}
use lib.IntN.{ℤ, pos, neg_ℤ, ◌+ℤ◌, ◌-ℤ◌, ◌*ℤ◌}
use lib.Signed.{◌≤ℤ◌, ◌<ℤ◌}
use borrow.Author.Tests.{eq-eqb, ne_eqb}
use Rattle.algebra.specs.Ranges.{sum}
use Rattle.algebra.proofs.Solver.{◌⊕◌, ◌⊗◌, ◌⊝◌, ⊖◌, #, ◌≐◌, ring₁, ring₂, ring₃, ring₄, ring₅, ring₆, ring₇}
use Rattle.algebra.proofs.Order.{pos-≤, pos_nonneg, by_diff-<, ≤ℤ-*, <ℤ-*, *ℤ-cancel-l, comb₁, comb₂}
use Rattle.records.specs.declared.Head.{Head}
use Rattle.meaning.specs.Design.{objects, blocks, left, right, beta}
use Rattle.meaning.specs.Analysis.{
  sq,
  reading,
  member,
  members,
  restrained,
  vbeta,
  numerator_of,
  denominator_of,
  along,
  difference,
  deviation_of,
  qOf,
  freedom,
  spread_hundredths_of,
}
use Rattle.meaning.specs.Publishing.{published}
use Rattle.meaning.specs.Fractions.{
  Fraction,
  whole,
  ◌+ᶠ◌,
  ◌-ᶠ◌,
  squared,
  ◌=ᶠ◌,
  ◌≤ᶠ◌,
  ◌<ᶠ◌,
  summed,
  values_along,
  deviation_under,
  squares_under,
  KeepsRestraint,
  Proper,
  exact_values,
  published_values,
}
use Rattle.meaning.specs.Refusals.{accepted}
use Rattle.meaning.specs.Calls.{job_verdict}
use Rattle.laws.proofs.Chains.{Sound, Job, job}
use Rattle.laws.proofs.Occurrences.{Each, each-head, each_tail}
use Rattle.laws.proofs.Clean.{left-objects, right-objects}
use Rattle.laws.proofs.LeastSquares.{not-zero}
use Rattle.laws.proofs.Solution.{cancel-≤, cancel-<}
use Rattle.laws.proofs.Analysis.{
  squares_over,
  restraint-kept,
  deviation_is,
  exact-over,
  least_strict,
  hundredths-above,
  hundredths-near,
  vbeta-some,
  job-members,
  job-denominator,
}
use Rattle.laws.proofs.Rounding.{spread-largest}
use Rattle.laws.proofs.Column.{job-near, job_adds_up}
use Rattle.laws.proofs.SizesMost.{q_in_range}

-- ---- a fraction over a given denominator

-- x is n over D
pub record Over (D : ℕ) (n : ℤ) (x : Fraction) : Type 0 where
  pub some : 0 < x.bottom
  pub same : x.top *ℤ pos D ≡ n *ℤ pos x.bottom

-- a whole number
pub over-whole : (D : ℕ) (a : ℤ) → Over D (a *ℤ pos D) (whole a)
over-whole D a = record { some = omega arith; same = ring₂ (λ a d. a ⊗ d ≐ a ⊗ d ⊗ # 1) a (pos D) refl }

-- 0
over_zero : (D : ℕ) → Over D (pos 0) (whole (pos 0))
over_zero D = record { some = omega arith; same = ring₂ (λ d e. # 0 ⊗ d ≐ # 0 ⊗ e) (pos D) (pos 1) refl }

-- a sum
pub over-+ : (D : ℕ) (m n : ℤ) (x y : Fraction) → Over D m x → Over D n y → Over D (m +ℤ n) (x +ᶠ y)
over-+ D m n x y p r = record {
  some = mul-pos p.some r.some;
  same = comb₂ (pos y.bottom) (pos x.bottom) p.same r.same
      (ring₇ (λ a b c e d m n. (a ⊗ e ⊕ c ⊗ b) ⊗ d ⊝ (m ⊕ n) ⊗ (b ⊗ e) ≐ e ⊗ (a ⊗ d ⊝ m ⊗ b) ⊕ b ⊗ (c ⊗ d ⊝ n ⊗ e))
      x.top (pos x.bottom) y.top (pos y.bottom) (pos D) m n refl);
}

-- a difference
pub over-− : (D : ℕ) (m n : ℤ) (x y : Fraction) → Over D m x → Over D n y → Over D (m -ℤ n) (x -ᶠ y)
over-− D m n x y p r = record {
  some = mul-pos p.some r.some;
  same = comb₂ (pos y.bottom) (pos 0 -ℤ pos x.bottom) p.same r.same
      (ring₇ (λ a b c e d m n. (a ⊗ e ⊝ c ⊗ b) ⊗ d ⊝ (m ⊝ n) ⊗ (b ⊗ e) ≐ e ⊗ (a ⊗ d ⊝ m ⊗ b) ⊕ (# 0 ⊝ b) ⊗ (c ⊗ d ⊝ n ⊗ e))
      x.top (pos x.bottom) y.top (pos y.bottom) (pos D) m n refl);
}

-- a square
pub over-squared : (D : ℕ) (m : ℤ) (x : Fraction) → Over D m x → Over (D * D) (sq m) (squared x)
over-squared D m x p = record {
  some = mul-pos p.some p.some;
  same = comb₁ (x.top *ℤ pos D +ℤ m *ℤ pos x.bottom) p.same
      (ring₄ (λ a b d m. a ⊗ a ⊗ (d ⊗ d) ⊝ m ⊗ m ⊗ (b ⊗ b) ≐ (a ⊗ d ⊕ m ⊗ b) ⊗ (a ⊗ d ⊝ m ⊗ b)) x.top (pos x.bottom) (pos D) m refl);
}

-- both parts times c
pub over-more : (D c : ℕ) (m : ℤ) (x : Fraction) → Over D m x → Over (D * c) (m *ℤ pos c) x
over-more D c m x p = record {
  some = p.some;
  same = comb₁ (pos c) p.same
      (ring₅ (λ a b d c m. a ⊗ (d ⊗ c) ⊝ m ⊗ c ⊗ b ≐ c ⊗ (a ⊗ d ⊝ m ⊗ b)) x.top (pos x.bottom) (pos D) (pos c) m refl);
}

-- divided by n
pub over-divided : (D n : ℕ) (m : ℤ) (x : Fraction) → 0 < n → Over D m x → Over (D * n) m (record { top = x.top; bottom = x.bottom * n })
over-divided D n m x l p = record {
  some = mul-pos p.some l;
  same = comb₁ (pos n) p.same
      (ring₅ (λ a b d c m. a ⊗ (d ⊗ c) ⊝ m ⊗ (b ⊗ c) ≐ c ⊗ (a ⊗ d ⊝ m ⊗ b)) x.top (pos x.bottom) (pos D) (pos n) m refl);
}

-- the numerator by another name
over-is : {D : ℕ} {m n : ℤ} {x : Fraction} → m ≡ n → Over D m x → Over D n x
over-is {D = D} {x = x} e p = subst (λ z. Over D z x) e p

-- a sum over a range
pub over-summed : (D n : ℕ) (g : ℕ → ℤ) (f : ℕ → Fraction) → ((i : ℕ) → i < n → Over D (g i) (f i)) → Over D (sum n g) (summed n f)
unfolding sum summed
over-summed D zero g f h = over_zero D
over-summed D (suc n) g f h = over-+ D (sum n g) (g n) (summed n f) (f n) (over-summed D n g f (λ i l. h i (omega arith))) (h n (omega arith))

-- a sum over a list of objects
pub over-along : (D v : ℕ) (a : ℕ → ℤ) (u : ℕ → Fraction) (xs : List ℕ) → ((i : ℕ) → i < v → Over D (a i) (u i)) → Each (λ x. x < v) xs →
    Over D (along a xs) (values_along u xs)
unfolding along values_along
over-along D v a u [] h o = over_zero D
over-along D v a u (x ∷ xs) h o =
    over-+ D (a x) (along a xs) (u x) (values_along u xs) (h x (each-head (λ x. x < v) x xs o)) (over-along D v a u xs h (each_tail (λ x. x < v) x xs o))

-- x times the bottom of y, with both denominators
cross_left : (A B : ℕ) (m : ℤ) (x y : Fraction) → Over A m x → pos (A * B) *ℤ (x.top *ℤ pos y.bottom) ≡ pos (x.bottom * y.bottom) *ℤ (m *ℤ pos B)
cross_left A B m x y p = comb₁ (pos B *ℤ pos y.bottom) p.same
    (ring₆ (λ a b c e f m. e ⊗ f ⊗ (a ⊗ c) ⊝ b ⊗ c ⊗ (m ⊗ f) ≐ f ⊗ c ⊗ (a ⊗ e ⊝ m ⊗ b)) x.top (pos x.bottom) (pos y.bottom) (pos A) (pos B) m refl)

-- y times the bottom of x
cross_right : (A B : ℕ) (n : ℤ) (x y : Fraction) → Over B n y → pos (A * B) *ℤ (y.top *ℤ pos x.bottom) ≡ pos (x.bottom * y.bottom) *ℤ (n *ℤ pos A)
cross_right A B n x y r = comb₁ (pos A *ℤ pos x.bottom) r.same
    (ring₆ (λ a b c e f n. e ⊗ f ⊗ (a ⊗ b) ⊝ b ⊗ c ⊗ (n ⊗ e) ≐ e ⊗ b ⊗ (a ⊗ f ⊝ n ⊗ c)) y.top (pos x.bottom) (pos y.bottom) (pos A) (pos B) n refl)

-- the order of two fractions over their denominators
pub over-≤ : (A B : ℕ) (m n : ℤ) (x y : Fraction) → 0 < A → 0 < B → Over A m x → Over B n y → (m *ℤ pos B) ≤ℤ (n *ℤ pos A) → x ≤ᶠ y
over-≤ A B m n x y la lb p r h = cancel-≤ (A * B) (mul-pos la lb) (x.top *ℤ pos y.bottom) (y.top *ℤ pos x.bottom)
    (subst₂ ◌≤ℤ◌ (sym (cross_left A B m x y p)) (sym (cross_right A B n x y r)) (≤ℤ-* (pos (x.bottom * y.bottom)) (pos_nonneg (x.bottom * y.bottom)) h))

-- a factor above 0 keeps a strict order
times-< : (c : ℕ) {a b : ℤ} → 0 < c → a <ℤ b → (pos c *ℤ a) <ℤ (pos c *ℤ b)
times-< zero l h = absurd (none l)
  where
    none : 0 < 0 → ⊥
    none l = omega arith
times-< (suc c) l h = <ℤ-* c h

-- the same, strictly
pub over-< : (A B : ℕ) (m n : ℤ) (x y : Fraction) → 0 < A → 0 < B → Over A m x → Over B n y → (m *ℤ pos B) <ℤ (n *ℤ pos A) → x <ᶠ y
over-< A B m n x y la lb p r h = cancel-< (A * B) (mul-pos la lb) (x.top *ℤ pos y.bottom) (y.top *ℤ pos x.bottom)
    (subst₂ ◌<ℤ◌ (sym (cross_left A B m x y p)) (sym (cross_right A B n x y r)) (times-< (x.bottom * y.bottom) (mul-pos p.some r.some) h))

-- the order of numbers from 0 on, strictly
pos-< : (m n : ℕ) → m < n → pos m <ℤ pos n
pos-< m n l = by_diff-< (pos m) (pos n) (n - m - 1) (ap pos (omega arith))

-- ---- any v fractions have a common denominator

-- v fractions over one denominator
pub record Common (v : ℕ) (u : ℕ → Fraction) : Type 0 where
  pub denominator : ℕ
  pub numerators : ℕ → ℤ
  pub positive : 0 < denominator
  pub each : (i : ℕ) → i < v → Over denominator (numerators i) (u i)

-- any v fractions with denominators above 0 have one
pub common : (v : ℕ) (u : ℕ → Fraction) → Proper v u → Common v u
common zero u h = record { denominator = 1; numerators = λ i. pos 0; positive = omega arith; each = λ i l. absurd (none i l) }
  where
    none : (i : ℕ) → i < 0 → ⊥
    none i l = omega arith
common (suc v) u h = go (common v u (λ i l. h i (omega arith)))
  where
    go : Common v u → Common (suc v) u
    go c = record {
      denominator = c.denominator * (u v).bottom;
      numerators = a;
      positive = mul-pos c.positive (h v (omega arith));
      each =
          λ i l. at i l (ℕ_discrete i v);
    }
      where
        -- the last keeps its own numerator, times the denominator of the others
        a : ℕ → ℤ
        a i = cond (eqb i v) ((u v).top *ℤ pos c.denominator) (c.numerators i *ℤ pos (u v).bottom)

        last : Over (c.denominator * (u v).bottom) ((u v).top *ℤ pos c.denominator) (u v)
        last = record {
          some = h v (omega arith);
          same = ring₃ (λ a b d. a ⊗ (d ⊗ b) ≐ a ⊗ d ⊗ b) (u v).top (pos (u v).bottom) (pos c.denominator) refl;
        }

        at : (i : ℕ) → i < suc v → Dec (i ≡ v) → Over (c.denominator * (u v).bottom) (a i) (u i)
        at i l (yes e) = over-is {D = c.denominator * (u v).bottom} {x = u i}
            (sym (ap (λ (t : Bool). cond t ((u v).top *ℤ pos c.denominator) (c.numerators i *ℤ pos (u v).bottom)) (eq-eqb i v e)))
            (subst (λ (z : ℕ). Over (c.denominator * (u v).bottom) ((u v).top *ℤ pos c.denominator) (u z)) (sym e) last)
        at i l (no e) = over-is {D = c.denominator * (u v).bottom} {x = u i}
            (sym (ap (λ (t : Bool). cond t ((u v).top *ℤ pos c.denominator) (c.numerators i *ℤ pos (u v).bottom)) (ne_eqb i v e)))
            (over-more c.denominator (u v).bottom (c.numerators i) (u i) (c.each i (omega arith)))

-- ---- values over a common denominator

-- the sum over the restraint set
over-restrained : (D v w : ℕ) (a : ℕ → ℤ) (u : ℕ → Fraction) → ((i : ℕ) → i < v → Over D (a i) (u i)) →
    Over D (restrained v w a) (summed v (λ i. record { top = pos (member w i) *ℤ (u i).top; bottom = (u i).bottom }))
unfolding restrained
over-restrained D v w a u h = over-summed D v (λ i. pos (member w i) *ℤ a i)
    (λ i. record { top = pos (member w i) *ℤ (u i).top; bottom = (u i).bottom }) (λ i l. record {
      some = (h i l).some;
      same = comb₁ (pos (member w i)) (h i l).same
          (ring₅ (λ c a b d m. c ⊗ a ⊗ d ⊝ c ⊗ m ⊗ b ≐ c ⊗ (a ⊗ d ⊝ m ⊗ b)) (pos (member w i)) (u i).top (pos (u i).bottom) (pos D) (a i) refl);
    })

-- values that keep the restraint keep it over their common denominator
pub keeps_over : (D v w : ℕ) (M : ℤ) (a : ℕ → ℤ) (u : ℕ → Fraction) → ((i : ℕ) → i < v → Over D (a i) (u i)) → KeepsRestraint v w M u →
    restrained v w a ≡ M *ℤ pos D
keeps_over D v w M a u h k = *ℤ-cancel-l (pos R.bottom) (restrained v w a) (M *ℤ pos D) (not-zero R.bottom o.some)
    (comb₂ (pos 0 -ℤ pos 1) (pos D) o.same k
    (ring₅ (λ a b d m n. b ⊗ n ⊝ b ⊗ (m ⊗ d) ≐ (# 0 ⊝ # 1) ⊗ (a ⊗ d ⊝ n ⊗ b) ⊕ d ⊗ (a ⊗ # 1 ⊝ m ⊗ b)) R.top (pos R.bottom) (pos D) M
    (restrained v w a) refl))
  where
    R : Fraction
    R = summed v (λ i. record { top = pos (member w i) *ℤ (u i).top; bottom = (u i).bottom })

    o : Over D (restrained v w a) R
    o = over-restrained D v w a u h

-- and the other way about
pub over_keeps : (D v w : ℕ) (M : ℤ) (a : ℕ → ℤ) (u : ℕ → Fraction) → 0 < D → ((i : ℕ) → i < v → Over D (a i) (u i)) → restrained v w a ≡ M *ℤ pos D →
    KeepsRestraint v w M u
over_keeps D v w M a u l h k = *ℤ-cancel-l (pos D) (R.top *ℤ pos 1) (M *ℤ pos R.bottom) (not-zero D l)
    (comb₂ (pos 1) (pos R.bottom) o.same k
    (ring₅ (λ a b d m n. d ⊗ (a ⊗ # 1) ⊝ d ⊗ (m ⊗ b) ≐ # 1 ⊗ (a ⊗ d ⊝ n ⊗ b) ⊕ b ⊗ (n ⊝ m ⊗ d)) R.top (pos R.bottom) (pos D) M (restrained v w a) refl))
  where
    R : Fraction
    R = summed v (λ i. record { top = pos (member w i) *ℤ (u i).top; bottom = (u i).bottom })

    o : Over D (restrained v w a) R
    o = over-restrained D v w a u h

module _ (h : Head) (d : List ℕ) (s : Sound h d) (y : List ℤ) (D : ℕ) (a : ℕ → ℤ) (u : ℕ → Fraction) (o : (i : ℕ) → i < objects h → Over D (a i) (u i)) where
  -- a deviation
  pub over_deviation : (k : ℕ) → k < blocks h → Over D (pos D *ℤ reading y k -ℤ difference h d a k) (deviation_under h d y u k)
  unfolding deviation_under difference
  over_deviation k l = over-− D (pos D *ℤ reading y k) (difference h d a k) (whole (reading y k)) (values_along u (left h d k) -ᶠ values_along u (right h d k))
      (over-is {D = D} {x = whole (reading y k)} (ring₂ (λ a d. a ⊗ d ≐ d ⊗ a) (reading y k) (pos D) refl) (over-whole D (reading y k)))
      (over-− D (along a (left h d k)) (along a (right h d k)) (values_along u (left h d k)) (values_along u (right h d k))
      (over-along D (objects h) a u (left h d k) o (left-objects h d s k l)) (over-along D (objects h) a u (right h d k) o (right-objects h d s k l)))

  -- the sum of the squared deviations
  pub over-squares : Over (D * D) (squares_over h d y (pos D) a) (squares_under h d y u)
  unfolding squares_under
  over-squares = over-summed (D * D) (blocks h) (λ k. sq (pos D *ℤ reading y k -ℤ difference h d a k)) (λ k. squared (deviation_under h d y u k))
      (λ k l. over-squared D (pos D *ℤ reading y k -ℤ difference h d a k) (deviation_under h d y u k) (over_deviation k l))

-- ---- an accepted job
module _ (h : Head) (d : List ℕ) (y : List ℤ) (w : ℕ) (M : ℤ) (e : job_verdict h d y w M ≡ accepted) where
  -- the job as facts
  j : Job h d y w M
  j = job h d y w M e

  -- its design
  s : Sound h d
  s = j.measures.design

  -- the exact values over their denominator
  exact-each : (i : ℕ) → i < objects h → Over (denominator_of h d w) (numerator_of h d y w M i) (exact_values h d y w M i)
  exact-each i l = record { some = job-denominator h d y w M j; same = refl }

  -- the exact values keep the restraint
  pub exact_keeps : KeepsRestraint (objects h) w M (exact_values h d y w M)
  exact_keeps = over_keeps (denominator_of h d w) (objects h) w M (numerator_of h d y w M) (exact_values h d y w M)
      (job-denominator h d y w M j) exact-each (restraint-kept h d y w M)

  -- their squares, over vβ
  exact_over_vbeta : Over (vbeta h d) (pos (qOf h d y)) (squares_under h d y (exact_values h d y w M))
  unfolding denominator_of
  exact_over_vbeta = record {
    some = o.some;
    same = *ℤ-cancel-l (pos (members (objects h) w * members (objects h) w * vbeta h d)) (X.top *ℤ pos (vbeta h d)) (pos (qOf h d y) *ℤ pos X.bottom)
        (not-zero (members (objects h) w * members (objects h) w * vbeta h d)
        (mul-pos (mul-pos (job-members h d y w M j) (job-members h d y w M j)) (vbeta-some h d s j.measures.even)))
        (comb₂ (pos 1) (pos X.bottom) o.same (exact-over h d s j.measures.even y w M)
        (ring₆ (λ a b t c q n. t ⊗ t ⊗ c ⊗ (a ⊗ c) ⊝ t ⊗ t ⊗ c ⊗ (q ⊗ b) ≐ # 1 ⊗ (a ⊗ (t ⊗ c ⊗ (t ⊗ c)) ⊝ n ⊗ b) ⊕ b ⊗ (n ⊝ t ⊗ t ⊗ (c ⊗ q)))
        X.top (pos X.bottom) (pos (members (objects h) w)) (pos (vbeta h d)) (pos (qOf h d y)) N refl));
  }
    where
      X : Fraction
      X = squares_under h d y (exact_values h d y w M)

      N : ℤ
      N = squares_over h d y (pos (denominator_of h d w)) (numerator_of h d y w M)

      o : Over (denominator_of h d w * denominator_of h d w) N X
      o = over-squares h d s y (denominator_of h d w) (numerator_of h d y w M) (exact_values h d y w M) exact-each

  -- the squares of the exact values are Q over vβ
  pub exact-squares : squares_under h d y (exact_values h d y w M) =ᶠ record { top = pos (qOf h d y); bottom = vbeta h d }
  exact-squares = exact_over_vbeta.same

  -- the deviation of a block under the exact values is its numerator over vβ
  pub exact_deviation : (k : ℕ) → k < blocks h → deviation_under h d y (exact_values h d y w M) k =ᶠ record { top = deviation_of h d y k; bottom = vbeta h d }
  unfolding denominator_of
  exact_deviation k l =
      *ℤ-cancel-l (pos (members (objects h) w)) (X.top *ℤ pos (vbeta h d)) (deviation_of h d y k *ℤ pos X.bottom)
      (not-zero (members (objects h) w) (job-members h d y w M j))
      (comb₂ (pos 1) (neg_ℤ (pos X.bottom)) o.same (deviation_is h d s y w M k l)
      (ring₆ (λ x b t c e n. t ⊗ (x ⊗ c) ⊝ t ⊗ (e ⊗ b) ≐ # 1 ⊗ (x ⊗ (t ⊗ c) ⊝ n ⊗ b) ⊕ ⊖ b ⊗ (t ⊗ e ⊝ n))
      X.top (pos X.bottom) (pos (members (objects h) w)) (pos (vbeta h d)) (deviation_of h d y k) N refl))
    where
      X : Fraction
      X = deviation_under h d y (exact_values h d y w M) k

      N : ℤ
      N = pos (denominator_of h d w) *ℤ reading y k -ℤ difference h d (numerator_of h d y w M) k

      o : Over (denominator_of h d w) N X
      o = over_deviation h d s y (denominator_of h d w) (numerator_of h d y w M) (exact_values h d y w M) exact-each k l

  -- the exact values are values, and the squares of any values are a fraction
  pub exact_proper : Proper (objects h) (exact_values h d y w M)
  exact_proper i l = job-denominator h d y w M j

  pub squares_proper : (u : ℕ → Fraction) → Proper (objects h) u → 0 < (squares_under h d y u).bottom
  squares_proper u values = let c = common (objects h) u values in (over-squares h d s y c.denominator c.numerators u c.each).some

  -- any other values that keep the restraint, be it in one object, have larger squares
  pub least : (u : ℕ → Fraction) → Proper (objects h) u → KeepsRestraint (objects h) w M u →
      (i : ℕ) → i < objects h → (u i =ᶠ exact_values h d y w M i → ⊥) → squares_under h d y (exact_values h d y w M) <ᶠ squares_under h d y u
  least u values keeps i l differs =
      over-< (vbeta h d) (c.denominator * c.denominator) (pos (qOf h d y)) F (squares_under h d y (exact_values h d y w M)) (squares_under h d y u)
      (vbeta-some h d s j.measures.even) (mul-pos c.positive c.positive) exact_over_vbeta
      (over-squares h d s y c.denominator c.numerators u c.each)
      (subst₂ ◌<ℤ◌ (ring₂ (λ e q. e ⊗ e ⊗ q ≐ q ⊗ (e ⊗ e)) (pos c.denominator) (pos (qOf h d y)) refl)
      (ring₂ (λ a f. a ⊗ f ≐ f ⊗ a) (pos (vbeta h d)) F refl)
      (least_strict h d s j.measures.even y w M (job-members h d y w M j) c.denominator c.numerators
      (keeps_over c.denominator (objects h) w M c.numerators u c.each keeps) i l other))
    where
      c : Common (objects h) u
      c = common (objects h) u values

      F : ℤ
      F = squares_over h d y (pos c.denominator) c.numerators

      -- where the numerators are the exact ones, so is the fraction
      exact : c.numerators i *ℤ pos (denominator_of h d w) ≡ numerator_of h d y w M i *ℤ pos c.denominator → u i =ᶠ exact_values h d y w M i
      exact q = *ℤ-cancel-l (pos c.denominator) ((u i).top *ℤ pos (denominator_of h d w)) (numerator_of h d y w M i *ℤ pos (u i).bottom)
          (not-zero c.denominator c.positive)
          (comb₂ (pos (denominator_of h d w)) (pos (u i).bottom) (c.each i l).same q
          (ring₆ (λ t b e a d n. e ⊗ (t ⊗ d) ⊝ e ⊗ (n ⊗ b) ≐ d ⊗ (t ⊗ e ⊝ a ⊗ b) ⊕ b ⊗ (a ⊗ d ⊝ n ⊗ e))
          (u i).top (pos (u i).bottom) (pos c.denominator) (c.numerators i) (pos (denominator_of h d w)) (numerator_of h d y w M i) refl))

      -- the numerators differ as the fractions do
      other : c.numerators i *ℤ pos (denominator_of h d w) ≡ numerator_of h d y w M i *ℤ pos c.denominator → ⊥
      other q = differs (search (exact q))

  -- k is the largest whole number with k k vβ f at most 10,000 Q
  pub spread-most : 0 < freedom h → let k = spread_hundredths_of h d y in
      (k * k * vbeta h d * freedom h ≤ 10000 * qOf h d y) × (10000 * qOf h d y < (k + 1) * (k + 1) * vbeta h d * freedom h)
  unfolding spread_hundredths_of
  spread-most f = spread-largest (qOf h d y) (vbeta h d) (freedom h) (vbeta-some h d s j.measures.even) f
      (q_in_range h d s y j.measures.readings j.measures.even)

  -- so k hundredths, squared, are at most the squares of the exact values over the degrees of freedom, and k + 1 are more
  pub spread_cut : 0 < freedom h → let k = spread_hundredths_of h d y in let S = squares_under h d y (exact_values h d y w M) in
      (squared (record { top = pos k; bottom = 100 }) ≤ᶠ record { top = S.top; bottom = S.bottom * freedom h })
      × (record { top = S.top; bottom = S.bottom * freedom h } <ᶠ squared (record { top = pos (k + 1); bottom = 100 }))
  spread_cut f = (
    over-≤ (100 * 100) (vbeta h d * freedom h) (sq (pos k)) (pos (qOf h d y)) (hundredths k) X (omega arith) some (cents k) o
        (pos-≤ _ _ (least k (vbeta h d) (freedom h) (qOf h d y) (spread-most f).0)),
    over-< (vbeta h d * freedom h) (100 * 100) (pos (qOf h d y)) (sq (pos (k + 1))) X (hundredths (k + 1)) some (omega arith) o (cents (k + 1))
        (pos-< _ _ (most (k + 1) (vbeta h d) (freedom h) (qOf h d y) (spread-most f).1)),
  )
    where
      k : ℕ
      k = spread_hundredths_of h d y

      hundredths : ℕ → Fraction
      hundredths n = squared (record { top = pos n; bottom = 100 })

      cents : (n : ℕ) → Over (100 * 100) (sq (pos n)) (hundredths n)
      cents n = over-squared 100 (pos n) (record { top = pos n; bottom = 100 }) (record { some = omega arith; same = refl })

      X : Fraction
      X = record { top = (squares_under h d y (exact_values h d y w M)).top; bottom = (squares_under h d y (exact_values h d y w M)).bottom * freedom h }

      o : Over (vbeta h d * freedom h) (pos (qOf h d y)) X
      o = over-divided (vbeta h d) (freedom h) (pos (qOf h d y)) (squares_under h d y (exact_values h d y w M)) f exact_over_vbeta

      some : 0 < vbeta h d * freedom h
      some = mul-pos (vbeta-some h d s j.measures.even) f

      least : (n c f q : ℕ) → n * n * c * f ≤ 10000 * q → n * n * (c * f) ≤ q * (100 * 100)
      least n c f q l = omega arith

      most : (n c f q : ℕ) → 10000 * q < n * n * c * f → q * (100 * 100) < n * n * (c * f)
      most n c f q l = omega arith

  -- the published values keep the restraint too: the column adds up
  pub published_keeps : KeepsRestraint (objects h) w M (published_values h d y w M)
  published_keeps = over_keeps 100 (objects h) w M (published h d y w M) (published_values h d y w M) (omega arith)
      (λ i l. record { some = omega arith; same = refl })
      (job_adds_up h d y w M j ∙ ring₁ (λ m. # 100 ⊗ m ≐ m ⊗ # 100) M refl)

  -- the published values over 100
  published-squares : Over (100 * 100) (squares_over h d y (pos 100) (published h d y w M)) (squares_under h d y (published_values h d y w M))
  published-squares = over-squares h d s y 100 (published h d y w M) (published_values h d y w M) (λ i l. record { some = omega arith; same = refl })

  -- the published values have squares no smaller than the exact ones, and at most βv²/10,000 larger
  pub published-excess : (squares_under h d y (exact_values h d y w M) ≤ᶠ squares_under h d y (published_values h d y w M))
      × (squares_under h d y (published_values h d y w M) ≤ᶠ squares_under h d y (exact_values h d y w M)
      +ᶠ record { top = pos (beta h d * objects h * objects h); bottom = 10000 })
  published-excess = (
    over-≤ (vbeta h d) (100 * 100) (pos (qOf h d y)) F X P some (omega arith) exact_over_vbeta published-squares
        (subst₂ ◌≤ℤ◌ (ring₂ (λ q e. # 10000 ⊗ q ≐ q ⊗ (# 100 ⊗ # 100)) (pos (qOf h d y)) (pos 1) refl) (ring₂ (λ a f. a ⊗ f ≐ f ⊗ a) (pos (vbeta h d)) F refl)
        (hundredths-above h d s j.measures.even y w M (job-members h d y w M j) (published h d y w M))),
    over-≤ (100 * 100) (vbeta h d * 10000) F (pos (qOf h d y) *ℤ pos 10000 +ℤ pos excess *ℤ pos (vbeta h d)) P (X +ᶠ Z) (omega arith)
        (mul-pos some (omega arith)) published-squares
        (over-+ (vbeta h d * 10000) (pos (qOf h d y) *ℤ pos 10000) (pos excess *ℤ pos (vbeta h d)) X Z
        (over-more (vbeta h d) 10000 (pos (qOf h d y)) X exact_over_vbeta)
        (record { some = omega arith; same = ring₂ (λ z c. z ⊗ (c ⊗ # 10000) ≐ z ⊗ c ⊗ # 10000) (pos excess) (pos (vbeta h d)) refl }))
        (subst₂ ◌≤ℤ◌
        (ring₂ (λ c f. # 10000 ⊗ (c ⊗ f) ≐ f ⊗ (c ⊗ # 10000)) (pos (vbeta h d)) F refl)
        (ring₃ (λ q z c. # 10000 ⊗ (# 10000 ⊗ q ⊕ z ⊗ c) ≐ (q ⊗ # 10000 ⊕ z ⊗ c) ⊗ (# 100 ⊗ # 100)) (pos (qOf h d y)) (pos excess) (pos (vbeta h d)) refl)
        (≤ℤ-* (pos 10000) (pos_nonneg 10000)
        (hundredths-near h d s j.measures.even y w M (job-members h d y w M j) (published h d y w M) (λ i l. job-near h d y w M j i)))),
  )
    where
      X : Fraction
      X = squares_under h d y (exact_values h d y w M)

      P : Fraction
      P = squares_under h d y (published_values h d y w M)

      excess : ℕ
      excess = beta h d * objects h * objects h

      Z : Fraction
      Z = record { top = pos excess; bottom = 10000 }

      F : ℤ
      F = squares_over h d y (pos 100) (published h d y w M)

      some : 0 < vbeta h d
      some = vbeta-some h d s j.measures.even
