-- The values of a job over any matrix of least squares: they keep the restraint, their squares add to Q over vβ, any other values that keep the
-- restraint have larger ones, and hundredths have hardly larger ones. Values are whole-number fractions: v numerators over one denominator. Assumes
-- nothing.
use mathlib.Core.Path.{◌≡◌, refl, sym, ◌∙◌, ap, ap₂, subst, subst₂, ◌≡⟨◌⟩◌, ◌∎}
use mathlib.Core.Logic.{⊎_elim}
use Prim.Native.Nat.{ℕ, zero, suc, ◌+◌, ◌*◌, ◌/◌, ◌%◌, ◌^◌, ◌≤◌, ◌<◌}
use native.Mathlib.Nat.{mul-le-mul, mul-pos, mod-eq_of_lt, mod-lt}
use native.Mathlib.Omega.{arith}
use lib.Pow.{mod-pow-add, pow-add}
use lib.IntN.{ℤ, pos, nat_abs, ◌+ℤ◌, ◌-ℤ◌, ◌*ℤ◌, *ℤ-zero}
use lib.Signed.{◌≤ℤ◌, ◌<ℤ◌, ≤ℤ_refl, clash_ℤ}
use Rattle.algebra.specs.Ranges.{sum, sum_ℕ}
use Rattle.algebra.proofs.Solver.{◌⊕◌, ◌⊗◌, ◌⊝◌, #, ◌≐◌, ring₁, ring₂, ring₃, ring₄, ring₅, ring₆}
use Rattle.algebra.proofs.Order.{pos-≤, pos_nonneg, ≤ℤ-trans, ≤ℤ-of-≡, ≤ℤ-+, ≤ℤ-*, *ℤ-nonneg, *ℤ-is-zero, *ℤ-cancel-≤, ≤ℤ-or->, sq_nonneg, le-+, lt-+, positive}
use Rattle.algebra.proofs.Sums.{sum_cong, sum_ext, sum_add, sum_sub, sum-scale, sum_scale_r, sum_le_const, sum_sq_nonneg, pos_sum, sumℕ_le_const}
use Rattle.algebra.proofs.Bounds.{square_size}
use Rattle.meaning.specs.Analysis.{sq, member, members, restrained, numerator, q}
use Rattle.laws.proofs.LeastSquares.{Matrix, fit, totals, apart, not-zero, adjoint, totals-zero, fit_length, pythagoras, equal-values}

-- ---- the restraint set

-- a set with a bit below v has a member
pub members-some : (v w : ℕ) → 0 < w → w < 2 ^ v → 0 < members v w
unfolding members sum_ℕ
members-some v w l m = go (members v w) (low v) l (mod-eq_of_lt m)
  where
    low : (v : ℕ) → w % 2 ^ v ≤ members v w * 2 ^ v
    low zero = omega (arith, mod-lt w {m = 1} (omega arith))
    low (suc v) = subst (λ (n : ℕ). w % 2 ^ n ≤ members (suc v) w * 2 ^ n) next
        (step (members v w) (member w v) (2 ^ v) (w % 2 ^ v) (w % 2 ^ (1 + v)) (2 ^ (1 + v)) (mod-pow-add w 1 v) (low v) (pow-add 2 1 v))
      where
        next : 1 + v ≡ suc v
        next = omega arith

        step : (t m P R R' P' : ℕ) → R' ≡ m * P + R → R ≤ t * P → P' ≡ 2 * P → R' ≤ (t + m) * P'
        step t m P R R' P' a c e = omega (arith, ap (λ (z : ℕ). (t + m) * z) e)

    go : (t : ℕ) → w % 2 ^ v ≤ t * 2 ^ v → 0 < w → w % 2 ^ v ≡ w → 0 < t
    go zero a b c = omega arith
    go (suc t) a b c = omega arith

-- it has at most v
pub members-most : (v w : ℕ) → members v w ≤ v
unfolding members
members-most v w = omega (arith, sumℕ_le_const v 1 (member w) (λ i l. omega (arith, mod-lt (w / 2 ^ i) {m = 2} (omega arith))))

-- the members counted with a sign
pub members-sum : (v w : ℕ) → sum v (λ i. pos (member w i)) ≡ pos (members v w)
unfolding members
members-sum v w = sym (pos_sum v (member w))

-- one number for every member
pub restrained_const : (v w : ℕ) (c : ℤ) → restrained v w (λ i. c) ≡ pos (members v w) *ℤ c
unfolding restrained
restrained_const v w c = sum_scale_r v c (λ i. pos (member w i)) ∙ ap (λ z. z *ℤ c) (members-sum v w)

-- the sum over the set is linear
pub restrained_linear : (v w : ℕ) (e f : ℤ) (a n : ℕ → ℤ) → restrained v w (λ i. e *ℤ a i -ℤ f *ℤ n i) ≡ e *ℤ restrained v w a -ℤ f *ℤ restrained v w n
unfolding restrained
restrained_linear v w e f a n =
    sum_ext v _ _ (λ i. ring₅ (λ c e a f n. c ⊗ (e ⊗ a ⊝ f ⊗ n) ≐ e ⊗ (c ⊗ a) ⊝ f ⊗ (c ⊗ n)) (pos (member w i)) e (a i) f (n i) refl)
    ∙ sum_sub v _ _ ∙ ap₂ ◌-ℤ◌ (sum-scale v e _) (sum-scale v f _)

-- ---- the values

-- the numerator of object i, where the totals are T
abbrev pub top : (v β w : ℕ) (M : ℤ) (T : ℕ → ℤ) → ℕ → ℤ
top v β w M T i = numerator (members v w) (T i) (restrained v w T) (v * β) M

-- the denominator of all
abbrev pub bottom : (v β w : ℕ) → ℕ
bottom v β w = members v w * (v * β)

-- the sum of the squared deviations of the values a i / e, times e²
abbrev pub squares : (b v : ℕ) (X : ℕ → ℕ → ℤ) (y : ℕ → ℤ) (e : ℤ) (a : ℕ → ℤ) → ℤ
squares b v X y e a = sum b (λ k. sq (apart v X y e a k))

-- the values keep the restraint, whatever the totals are
pub top_kept : (v β w : ℕ) (M : ℤ) (T : ℕ → ℤ) → restrained v w (top v β w M T) ≡ M *ℤ pos (bottom v β w)
unfolding restrained
top_kept v β w M T =
    sum v (λ i. pos (member w i) *ℤ (t *ℤ T i -ℤ S +ℤ pos (v * β) *ℤ M)) ≡⟨ sum_ext v _ _
    (λ i. ring₅ (λ c t x s m. c ⊗ (t ⊗ x ⊝ s ⊕ m) ≐ t ⊗ (c ⊗ x) ⊕ c ⊗ (m ⊝ s)) (pos (member w i)) t (T i) S (pos (v * β) *ℤ M) refl) ⟩
    sum v (λ i. t *ℤ (pos (member w i) *ℤ T i) +ℤ pos (member w i) *ℤ (pos (v * β) *ℤ M -ℤ S)) ≡⟨ sum_add v _ _
    ∙ ap₂ ◌+ℤ◌ (sum-scale v t _) (restrained_const v w (pos (v * β) *ℤ M -ℤ S)) ⟩
    t *ℤ S +ℤ t *ℤ (pos (v * β) *ℤ M -ℤ S) ≡⟨ ring₅ (λ t s v b m. t ⊗ s ⊕ t ⊗ (v ⊗ b ⊗ m ⊝ s) ≐ m ⊗ (t ⊗ (v ⊗ b))) t S (pos v) (pos β) M refl ⟩
    M *ℤ pos (bottom v β w) ∎
  where
    t : ℤ
    t = pos (members v w)

    S : ℤ
    S = restrained v w T

-- a row that adds to 0 does not see the restraint: what it makes of the values is t times what it makes of the totals
pub fitted : (v β : ℕ) (X : ℕ → ℕ → ℤ) (w : ℕ) (M : ℤ) (T : ℕ → ℤ) (k : ℕ) → sum v (λ i. X k i) ≡ pos 0 →
    fit v X (top v β w M T) k ≡ pos (members v w) *ℤ fit v X T k
fitted v β X w M T k row =
    sum v (λ i. X k i *ℤ (t *ℤ T i -ℤ S +ℤ pos (v * β) *ℤ M)) ≡⟨ sum_ext v _ _
    (λ i. ring₅ (λ x t a s m. x ⊗ (t ⊗ a ⊝ s ⊕ m) ≐ t ⊗ (x ⊗ a) ⊕ x ⊗ (m ⊝ s)) (X k i) t (T i) S (pos (v * β) *ℤ M) refl) ⟩
    sum v (λ i. t *ℤ (X k i *ℤ T i) +ℤ X k i *ℤ (pos (v * β) *ℤ M -ℤ S)) ≡⟨ sum_add v _ _
    ∙ ap₂ ◌+ℤ◌ (sum-scale v t _) (sum_scale_r v (pos (v * β) *ℤ M -ℤ S) (X k) ∙ ap (λ z. z *ℤ (pos (v * β) *ℤ M -ℤ S)) row) ⟩
    t *ℤ fit v X T k +ℤ pos 0 *ℤ (pos (v * β) *ℤ M -ℤ S) ≡⟨ ring₂ (λ f m. f ⊕ # 0 ⊗ m ≐ f) (t *ℤ fit v X T k) (pos (v * β) *ℤ M -ℤ S) refl ⟩
    t *ℤ fit v X T k ∎
  where
    t : ℤ
    t = pos (members v w)

    S : ℤ
    S = restrained v w T

-- the deviation under the values, times their denominator, is t times that under the totals, times vβ
pub apart-values : (v β : ℕ) (X : ℕ → ℕ → ℤ) (y T : ℕ → ℤ) (w : ℕ) (M : ℤ) (k : ℕ) → sum v (λ i. X k i) ≡ pos 0 →
    pos (members v w) *ℤ apart v X y (pos (v * β)) T k ≡ apart v X y (pos (bottom v β w)) (top v β w M T) k
apart-values v β X y T w M k row = sym (ap (λ z. pos (bottom v β w) *ℤ y k -ℤ z) (fitted v β X w M T k row)
    ∙ ring₅ (λ t v b y f. t ⊗ (v ⊗ b) ⊗ y ⊝ t ⊗ f ≐ t ⊗ (v ⊗ b ⊗ y ⊝ f)) (pos (members v w)) (pos v) (pos β) (y k) (fit v X T k) refl)

-- ---- arithmetic

-- z² is at most D², where z is at most D in size
size_square : (z : ℤ) (D : ℕ) → nat_abs z ≤ D → sq z ≤ℤ sq (pos D)
size_square z D h = ≤ℤ-trans (≤ℤ-of-≡ (square_size z)) (pos-≤ _ _ (mul-le-mul h h))

-- a factor above 0 is struck out
pub cancel-≤ : (n : ℕ) → 0 < n → (x z : ℤ) → (pos n *ℤ x) ≤ℤ (pos n *ℤ z) → x ≤ℤ z
cancel-≤ zero l x z h = absurd (none l)
  where
    none : 0 < 0 → ⊥
    none l = omega arith
cancel-≤ (suc n) l x z h = *ℤ-cancel-≤ n x z h

-- of a strict order too
pub cancel-< : (n : ℕ) → 0 < n → (x z : ℤ) → (pos n *ℤ x) <ℤ (pos n *ℤ z) → x <ℤ z
cancel-< n l x z h = ⊎_elim (λ le. clash_ℤ h (≤ℤ-* (pos n) (pos_nonneg n) le)) (λ lt. lt) (≤ℤ-or-> z x)

module _ (b v β : ℕ) (X : ℕ → ℕ → ℤ) (m : Matrix b v β X) (y : ℕ → ℤ) where
  -- Q of the readings
  abbrev pub Q_of : ℤ
  Q_of = q (v * β) (sum b (λ k. sq (y k))) (sum v (λ i. sq (totals b X y i)))

  -- the values solve the normal equations
  pub values_solve : (w : ℕ) (M : ℤ) (i : ℕ) → i < v →
      pos v *ℤ pos β *ℤ top v β w M (totals b X y) i ≡ pos (bottom v β w) *ℤ totals b X y i +ℤ pos v *ℤ pos β *ℤ
      (pos v *ℤ pos β *ℤ M -ℤ restrained v w (totals b X y))
  values_solve w M i l =
      ring₆ (λ v b t x s m. v ⊗ b ⊗ (t ⊗ x ⊝ s ⊕ v ⊗ b ⊗ m) ≐ t ⊗ (v ⊗ b) ⊗ x ⊕ v ⊗ b ⊗ (v ⊗ b ⊗ m ⊝ s))
      (pos v) (pos β) (pos (members v w)) (totals b X y i) (restrained v w (totals b X y)) M refl

  -- the squared deviations under the totals add to vβ Q
  pub squares_Q : squares b v X y (pos (v * β)) (totals b X y) ≡ pos (v * β) *ℤ Q_of
  squares_Q =
      sum b (λ k. sq (vβ *ℤ y k -ℤ f k)) ≡⟨ sum_ext b _ _
      (λ k. ring₃ (λ v y f. (v ⊗ y ⊝ f) ⊗ (v ⊗ y ⊝ f) ≐ v ⊗ v ⊗ (y ⊗ y) ⊕ (f ⊗ f ⊝ # 2 ⊗ v ⊗ (y ⊗ f))) vβ (y k) (f k) refl) ⟩
      sum b (λ k. vβ *ℤ vβ *ℤ sq (y k) +ℤ (sq (f k) -ℤ pos 2 *ℤ vβ *ℤ (y k *ℤ f k))) ≡⟨ sum_add b _ _
      ∙ ap₂ ◌+ℤ◌ (sum-scale b (vβ *ℤ vβ) _)
      (sum_sub b _ _ ∙ ap₂ ◌-ℤ◌ lengths (sum-scale b (pos 2 *ℤ vβ) _ ∙ ap (λ z. pos 2 *ℤ vβ *ℤ z) (adjoint b v X y (totals b X y)))) ⟩
      vβ *ℤ vβ *ℤ Y +ℤ (pos β *ℤ pos v *ℤ TT -ℤ pos β *ℤ sq (pos 0) -ℤ pos 2 *ℤ vβ *ℤ TT) ≡⟨ ring₄
      (λ v b y t. v ⊗ b ⊗ (v ⊗ b) ⊗ y ⊕ (b ⊗ v ⊗ t ⊝ b ⊗ (# 0 ⊗ # 0) ⊝ # 2 ⊗ (v ⊗ b) ⊗ t) ≐ v ⊗ b ⊗ (v ⊗ b ⊗ y ⊝ t)) (pos v) (pos β) Y TT refl ⟩
      vβ *ℤ (vβ *ℤ Y -ℤ TT) ∎
    where
      vβ : ℤ
      vβ = pos (v * β)

      f : ℕ → ℤ
      f = fit v X (totals b X y)

      Y : ℤ
      Y = sum b (λ k. sq (y k))

      TT : ℤ
      TT = sum v (λ i. sq (totals b X y i))

      lengths : sum b (λ k. sq (f k)) ≡ pos β *ℤ pos v *ℤ TT -ℤ pos β *ℤ sq (pos 0)
      lengths = fit_length b v β X m (totals b X y) ∙ ap (λ z. pos β *ℤ pos v *ℤ TT -ℤ pos β *ℤ sq z) (totals-zero b v β X m y)

  -- Q is not below 0
  pub Q_nonneg : 0 < v → 0 < β → pos 0 ≤ℤ Q_of
  Q_nonneg v>0 β>0 = cancel-≤ (v * β) (mul-pos v>0 β>0) (pos 0) Q_of
      (subst₂ ◌≤ℤ◌ (sym (*ℤ-zero (pos (v * β)))) squares_Q (sum_sq_nonneg b (apart v X y (pos (v * β)) (totals b X y))))

  -- so the squares of the values add to t² vβ Q
  pub squares-values : (w : ℕ) (M : ℤ) →
      squares b v X y (pos (bottom v β w)) (top v β w M (totals b X y)) ≡ sq (pos (members v w)) *ℤ (pos (v * β) *ℤ Q_of)
  squares-values w M =
      sum_cong b _ (λ k. sq (pos (members v w)) *ℤ sq (apart v X y (pos (v * β)) (totals b X y) k))
      (λ k l. ap sq (sym (apart-values v β X y (totals b X y) w M k (m.rows k l)))
      ∙ ring₂ (λ t e. t ⊗ e ⊗ (t ⊗ e) ≐ t ⊗ t ⊗ (e ⊗ e)) (pos (members v w)) (apart v X y (pos (v * β)) (totals b X y) k) refl)
      ∙ sum-scale b (sq (pos (members v w))) _ ∙ ap (λ z. sq (pos (members v w)) *ℤ z) squares_Q

  -- hundredths, each at most one away, have squares that are at most βv²/10,000 larger, and none smaller
  module _ (v>0 : 0 < v) (w : ℕ) (M : ℤ) (x : ℕ → ℤ) where
    -- the denominator and the numerators of the values
    abbrev below : ℤ
    below = pos (bottom v β w)

    abbrev above : ℕ → ℤ
    above = top v β w M (totals b X y)

    -- the difference of the hundredths and the values
    abbrev apart_by : ℕ → ℤ
    apart_by i = below *ℤ x i -ℤ pos 100 *ℤ above i

    -- the squares of the hundredths, of the values, and of the difference
    abbrev hundredths : ℤ
    hundredths = squares b v X y (pos 100) x

    abbrev exact : ℤ
    exact = squares b v X y below above

    abbrev between : ℤ
    between = sum b (λ k. sq (fit v X apart_by k))

    -- the squares of the hundredths are those of the values and those of the difference
    split : sq below *ℤ hundredths ≡ pos 10000 *ℤ exact +ℤ between
    split =
        ring₂ (λ d f. d ⊗ d ⊗ f ≐ f ⊗ (d ⊗ d)) below hundredths refl
        ∙ pythagoras b v β X m v>0 y below above _ (values_solve w M) (pos 100) x
        ∙ ring₂ (λ g w. # 100 ⊗ # 100 ⊗ g ⊕ w ≐ # 10000 ⊗ g ⊕ w) exact between refl

    -- so they are no smaller
    not-less : (pos 10000 *ℤ squares b v X y (pos (bottom v β w)) (top v β w M (totals b X y))) ≤ℤ (sq (pos (bottom v β w)) *ℤ squares b v X y (pos 100) x)
    not-less = le-+ (sum_sq_nonneg b (fit v X apart_by)) (sym split)

    -- and hardly larger, where each is at most one away
    rounding_cost : ((i : ℕ) → i < v → nat_abs (pos 100 *ℤ top v β w M (totals b X y) i -ℤ x i *ℤ pos (bottom v β w)) ≤ bottom v β w) →
        (sq (pos (bottom v β w)) *ℤ squares b v X y (pos 100) x)
        ≤ℤ (pos 10000 *ℤ squares b v X y (pos (bottom v β w)) (top v β w M (totals b X y)) +ℤ pos (β * v * v) *ℤ sq (pos (bottom v β w)))
    rounding_cost near = ≤ℤ-trans (≤ℤ-of-≡ split) (≤ℤ-+ (≤ℤ_refl (pos 10000 *ℤ exact)) cost)
      where
        U : ℤ
        U = sum v (λ i. sq (apart_by i))

        each : (i : ℕ) → i < v → sq (apart_by i) ≤ℤ sq below
        each i l = ≤ℤ-trans (≤ℤ-of-≡ (ring₃
            (λ d h n. (d ⊗ h ⊝ # 100 ⊗ n) ⊗ (d ⊗ h ⊝ # 100 ⊗ n) ≐ (# 100 ⊗ n ⊝ h ⊗ d) ⊗ (# 100 ⊗ n ⊝ h ⊗ d)) below (x i) (above i) refl))
            (size_square (pos 100 *ℤ above i -ℤ x i *ℤ below) (bottom v β w) (near i l))

        every : U ≤ℤ (pos v *ℤ sq below)
        every = sum_le_const v (sq below) (λ i. sq (apart_by i)) each

        length : between ≤ℤ (pos (β * v) *ℤ U)
        length = le-+ {c = pos β *ℤ sq (sum v apart_by)} (*ℤ-nonneg (pos_nonneg β) (sq_nonneg (sum v apart_by)))
            (ap (λ z. z +ℤ pos β *ℤ sq (sum v apart_by)) (fit_length b v β X m apart_by)
            ∙ ring₄ (λ b v q s. (b ⊗ v ⊗ q ⊝ b ⊗ s) ⊕ b ⊗ s ≐ b ⊗ v ⊗ q) (pos β) (pos v) U (sq (sum v apart_by)) refl)

        cost : between ≤ℤ (pos (β * v * v) *ℤ sq below)
        cost = ≤ℤ-trans length (≤ℤ-trans (≤ℤ-* (pos (β * v)) (pos_nonneg (β * v)) every)
            (≤ℤ-of-≡ (ring₃ (λ b v d. b ⊗ v ⊗ (v ⊗ d) ≐ b ⊗ v ⊗ v ⊗ d) (pos β) (pos v) (sq below) refl)))

  -- ---- the same in Q, with the members struck out
  module _ (v>0 : 0 < v) (β>0 : 0 < β) (w : ℕ) (M : ℤ) (t>0 : 0 < members v w) where
    -- what is struck out is above 0
    factor : 0 < members v w * members v w * (v * β)
    factor = mul-pos (mul-pos t>0 t>0) (mul-pos v>0 β>0)

    -- other values a i / e that keep the restraint: their squares are more than Q / vβ
    pub least_Q : (e : ℕ) (a : ℕ → ℤ) → restrained v w a ≡ M *ℤ pos e →
        (i : ℕ) → i < v → (a i *ℤ pos (bottom v β w) ≡ top v β w M (totals b X y) i *ℤ pos e → ⊥) →
        (sq (pos e) *ℤ Q_of) <ℤ (pos (v * β) *ℤ squares b v X y (pos e) a)
    unfolding restrained
    least_Q e a keeps i l differs =
        cancel-< (members v w * members v w * (v * β)) factor (sq (pos e) *ℤ Q_of) (pos (v * β) *ℤ F)
        (subst₂ ◌<ℤ◌
        (ap (λ z. sq (pos e) *ℤ z) (squares-values w M)
        ∙ ring₅ (λ d t v b q. d ⊗ d ⊗ (t ⊗ t ⊗ (v ⊗ b ⊗ q)) ≐ t ⊗ t ⊗ (v ⊗ b) ⊗ (d ⊗ d ⊗ q)) (pos e) (pos (members v w)) (pos v) (pos β) Q_of refl)
        (ring₄ (λ f t v b. f ⊗ (t ⊗ (v ⊗ b) ⊗ (t ⊗ (v ⊗ b))) ≐ t ⊗ t ⊗ (v ⊗ b) ⊗ (v ⊗ b ⊗ f)) F (pos (members v w)) (pos v) (pos β) refl)
        (values-least v>0 β>0 w M t>0 e a keeps i l differs))
      where
        F : ℤ
        F = squares b v X y (pos e) a

        -- any other values that keep the restraint have larger squares
        values-least : 0 < v → 0 < β → (w : ℕ) (M : ℤ) → 0 < members v w → (e : ℕ) (a : ℕ → ℤ) → restrained v w a ≡ M *ℤ pos e →
            (i : ℕ) → i < v → (a i *ℤ pos (bottom v β w) ≡ top v β w M (totals b X y) i *ℤ pos e → ⊥) →
            (sq (pos e) *ℤ squares b v X y (pos (bottom v β w)) (top v β w M (totals b X y))) <ℤ (squares b v X y (pos e) a *ℤ sq (pos (bottom v β w)))
        values-least v>0 β>0 w M t>0 e a keeps i l differs =
            lt-+ (positive (sum_sq_nonneg b (fit v X u)) (λ z. differs (same (zero_there z))))
            (sym (pythagoras b v β X m v>0 y D N _ (values_solve w M) (pos e) a))
          where
            D : ℤ
            D = pos (bottom v β w)

            N : ℕ → ℤ
            N = top v β w M (totals b X y)

            u : ℕ → ℤ
            u j = D *ℤ a j -ℤ pos e *ℤ N j

            -- both keep the restraint
            balance : restrained v w u ≡ pos 0
            balance =
                restrained_linear v w D (pos e) a N ∙ ap₂ (λ x z. D *ℤ x -ℤ pos e *ℤ z) keeps (top_kept v β w M (totals b X y))
                ∙ ring₃ (λ e m d. e ⊗ (m ⊗ d) ⊝ d ⊗ (m ⊗ e) ≐ # 0) D M (pos e) refl

            alike : sum b (λ k. sq (fit v X u k)) ≡ pos 0 → restrained v w (λ j. u i) ≡ restrained v w u
            alike z = sum_cong v _ _ (λ j o. ap (λ x. pos (member w j) *ℤ x) (equal-values b v β X m β>0 u z i j l o))

            zero_there : sum b (λ k. sq (fit v X u k)) ≡ pos 0 → u i ≡ pos 0
            zero_there z = ⊎_elim (λ o. absurd (not-zero (members v w) t>0 o)) (λ o. o) (*ℤ-is-zero (pos (members v w)) (u i)
                (sym (restrained_const v w (u i)) ∙ alike z ∙ balance))

            same : u i ≡ pos 0 → a i *ℤ D ≡ N i *ℤ pos e
            same o =
                ring₄ (λ a d n e. a ⊗ d ≐ (d ⊗ a ⊝ e ⊗ n) ⊕ n ⊗ e) (a i) D (N i) (pos e) refl ∙ ap (λ z. z +ℤ N i *ℤ pos e) o
                ∙ ring₁ (λ n. # 0 ⊕ n ≐ n) (N i *ℤ pos e) refl

    -- any hundredths: 10,000 Q is no more than vβ times their squares
    pub hundredths-least : (x : ℕ → ℤ) → (pos 10000 *ℤ Q_of) ≤ℤ (pos (v * β) *ℤ squares b v X y (pos 100) x)
    hundredths-least x =
        cancel-≤ (members v w * members v w * (v * β)) factor (pos 10000 *ℤ Q_of) (pos (v * β) *ℤ F)
        (subst₂ ◌≤ℤ◌
        (ap (λ z. pos 10000 *ℤ z) (squares-values w M)
        ∙ ring₄ (λ t v b q. # 10000 ⊗ (t ⊗ t ⊗ (v ⊗ b ⊗ q)) ≐ t ⊗ t ⊗ (v ⊗ b) ⊗ (# 10000 ⊗ q)) (pos (members v w)) (pos v) (pos β) Q_of refl)
        (ring₄ (λ f t v b. t ⊗ (v ⊗ b) ⊗ (t ⊗ (v ⊗ b)) ⊗ f ≐ t ⊗ t ⊗ (v ⊗ b) ⊗ (v ⊗ b ⊗ f)) F (pos (members v w)) (pos v) (pos β) refl)
        (not-less v>0 w M x))
      where
        F : ℤ
        F = squares b v X y (pos 100) x

    -- hundredths that are at most one away from the values: vβ times their squares is no more than 10,000 Q and βv² vβ
    pub hundredths-excess : (x : ℕ → ℤ) →
        ((i : ℕ) → i < v → nat_abs (pos 100 *ℤ top v β w M (totals b X y) i -ℤ x i *ℤ pos (bottom v β w)) ≤ bottom v β w) →
        (pos (v * β) *ℤ squares b v X y (pos 100) x) ≤ℤ (pos 10000 *ℤ Q_of +ℤ pos (β * v * v) *ℤ pos (v * β))
    hundredths-excess x near =
        cancel-≤ (members v w * members v w * (v * β)) factor (pos (v * β) *ℤ F) (pos 10000 *ℤ Q_of +ℤ pos (β * v * v) *ℤ pos (v * β))
        (subst₂ ◌≤ℤ◌
        (ring₄ (λ f t v b. t ⊗ (v ⊗ b) ⊗ (t ⊗ (v ⊗ b)) ⊗ f ≐ t ⊗ t ⊗ (v ⊗ b) ⊗ (v ⊗ b ⊗ f)) F (pos (members v w)) (pos v) (pos β) refl)
        (ap (λ z. pos 10000 *ℤ z +ℤ pos (β * v * v) *ℤ sq (pos (bottom v β w))) (squares-values w M)
        ∙ ring₄ (λ t v b q. # 10000 ⊗ (t ⊗ t ⊗ (v ⊗ b ⊗ q)) ⊕ b ⊗ v ⊗ v ⊗ (t ⊗ (v ⊗ b) ⊗ (t ⊗ (v ⊗ b))) ≐ t ⊗ t ⊗ (v ⊗ b) ⊗
        (# 10000 ⊗ q ⊕ b ⊗ v ⊗ v ⊗ (v ⊗ b))) (pos (members v w)) (pos v) (pos β) Q_of refl)
        (rounding_cost v>0 w M x near))
      where
        F : ℤ
        F = squares b v X y (pos 100) x
