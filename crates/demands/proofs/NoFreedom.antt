-- With f = 0 there are as few blocks as can be, and every deviation is 0 whatever the readings are. A block has 2p objects, and with f = 0 that is vβ; so a
-- job with a single reading that is not 0 has Q = 0, and with it no deviation. Deviations are linear in the readings, so no job of this design has any.
-- Assumes nothing.
use Prim.Native.Nat.{ℕ, zero, suc, ◌+◌, ◌-◌, ◌*◌, ◌≤◌, ◌<◌}
use mathlib.Core.Path.{◌≡◌, refl, sym, ap, ap₂, subst, ◌∙◌}
use mathlib.Core.Bool.{true}
use mathlib.Core.List.{List, [], ◌∷◌}
use native.Mathlib.Nat.{mul-pos, le_of_mul-le-mul_left}
use native.Mathlib.Omega.{arith}
use lib.IntN.{ℤ, pos, ◌+ℤ◌, ◌-ℤ◌, ◌*ℤ◌}
use lib.ListN.{length, take}
use lib.Seq.{take-length}
use Rattle.algebra.specs.Ranges.{sum}
use Rattle.algebra.proofs.Solver.{◌⊕◌, ◌⊗◌, ◌⊝◌, #, ◌≐◌, ring₁, ring₂}
use Rattle.algebra.proofs.Order.{pos_inj, comb₁}
use Rattle.algebra.proofs.Sums.{sum_cong, sum_scale_r, sum_only, sum-zero, sum_sq_zero, pos_sum}
use Rattle.records.specs.declared.Head.{Head}
use Rattle.meaning.specs.Design.{objects, blocks, occ, left, right, balanced, beta}
use Rattle.meaning.specs.Analysis.{sq, reading, sign, total, vbeta, squared_readings, squared_totals, qOf, freedom, deviation_of}
use Rattle.laws.proofs.Chains.{Sound}
use Rattle.laws.proofs.Incidence.{block_size}
use Rattle.laws.proofs.Counting.{incidence}
use Rattle.laws.proofs.CountingNumbers.{parameters}
use Rattle.laws.proofs.Analysis.{vbeta-some, q_nonneg, squares_add}
use Rattle.laws.proofs.Days.{deviations_add}

-- ---- readings, one after another

-- the reading x of block c, and 0 in all others
abbrev single : ℕ → ℤ → List ℤ
single zero x = x ∷ []
single (suc c) x = pos 0 ∷ single c x

single_there : (c : ℕ) (x : ℤ) → reading (single c x) c ≡ x
single_there zero x = refl
single_there (suc c) x = single_there c x

single_else : (c : ℕ) (x : ℤ) (k : ℕ) → (c ≡ k → ⊥) → reading (single c x) k ≡ pos 0
single_else zero x zero n = absurd (n refl)
single_else zero x (suc k) n = refl
single_else (suc c) x zero n = refl
single_else (suc c) x (suc k) n = single_else c x k (λ e. n (ap suc e))

-- one reading more
one_more : (c : ℕ) (y : List ℤ) (k : ℕ) → c < length y → reading (take (suc c) y) k ≡ reading (take c y) k +ℤ reading (single c (reading y c)) k
one_more c [] k l = absurd (omega arith)
one_more zero (a ∷ y) zero l = ring₁ (λ a. a ≐ # 0 ⊕ a) a refl
one_more zero (a ∷ y) (suc k) l = refl
one_more (suc c) (a ∷ y) zero l = ring₁ (λ a. a ≐ a ⊕ # 0) a refl
one_more (suc c) (a ∷ y) (suc k) l = one_more c y k (omega arith)

-- ---- signs

-- of an object that stands at most once in a block, the square of its sign is how often it stands there
sign-squared : (l r : ℕ) → l + r ≤ 1 → sq (pos l -ℤ pos r) ≡ pos (l + r)
sign-squared zero zero m = refl
sign-squared zero (suc zero) m = refl
sign-squared (suc zero) zero m = refl
sign-squared (suc zero) (suc r) m = absurd (omega arith)
sign-squared (suc (suc l)) r m = absurd (omega arith)
sign-squared zero (suc (suc r)) m = absurd (omega arith)

module _ (h : Head) (d : List ℕ) (s : Sound h d) (e : balanced h d ≡ true) where
  -- the squares of a block's signs add to 2p
  signs_squared : (c : ℕ) → c < blocks h → sum (objects h) (λ i. sq (sign h d c i)) ≡ pos (2 * h.p)
  signs_squared c l =
      sum_cong (objects h) _ _ (λ i m. sign-squared (occ i (left h d c)) (occ i (right h d c)) ((incidence h d s).one c i l m))
      ∙ sym (pos_sum (objects h) (λ i. occ i (left h d c) + occ i (right h d c)))
      ∙ ap pos (block_size (blocks h) (objects h) h.p (λ k i. occ i (left h d k)) (λ k i. occ i (right h d k)) (incidence h d s) c l)

  -- ---- a single reading

  module _ (c : ℕ) (x : ℤ) (l : c < blocks h) where
    single-squares : squared_readings h (single c x) ≡ sq x
    unfolding squared_readings
    single-squares = sum_only (blocks h) c (λ k. sq (reading (single c x) k)) l (λ k m n. ap sq (single_else c x k n)) ∙ ap sq (single_there c x)

    single-total : (i : ℕ) → total h d (single c x) i ≡ sign h d c i *ℤ x
    unfolding total
    single-total i =
        sum_only (blocks h) c (λ k. sign h d k i *ℤ reading (single c x) k) l
        (λ k m n. ap (λ z. sign h d k i *ℤ z) (single_else c x k n) ∙ ring₁ (λ a. a ⊗ # 0 ≐ # 0) (sign h d k i) refl)
        ∙ ap (λ z. sign h d c i *ℤ z) (single_there c x)

    single-totals : squared_totals h d (single c x) ≡ pos (2 * h.p) *ℤ sq x
    unfolding squared_totals
    single-totals =
        sum_cong (objects h) _ _ (λ i m. ap sq (single-total i) ∙ ring₂ (λ a b. a ⊗ b ⊗ (a ⊗ b) ≐ a ⊗ a ⊗ (b ⊗ b)) (sign h d c i) x refl)
        ∙ sum_scale_r (objects h) (sq x) (λ i. sq (sign h d c i))
        ∙ ap (λ z. z *ℤ sq x) (signs_squared c l)

  module _ (none : freedom h ≡ 0) where
    -- 2p is vβ: 2pb is βv(v - 1), and b is v - 1
    full : 2 * h.p ≡ vbeta h d
    full =
        let n = parameters h d s e in
        let few : blocks h ≡ objects h - 1 = omega (arith, n.enough, none, s.sizes.n_least) in
        cancel (2 * h.p) (beta h d) (objects h) (blocks h) (omega (arith, few, s.sizes.n_least))
        (n.size ∙ ap (λ (w : ℕ). beta h d * objects h * w) (sym few))
      where
        cancel : (a β v b : ℕ) → 0 < b → a * b ≡ β * v * b → a ≡ v * β
        cancel a β v b l z =
            let low : a ≤ v * β = le_of_mul-le-mul_left {k = b} (omega (arith, z)) l in
            let high : v * β ≤ a = le_of_mul-le-mul_left {k = b} (omega (arith, z)) l in
            omega arith

    -- so Q of a single reading is 0
    single_q : (c : ℕ) (x : ℤ) → c < blocks h → qOf h d (single c x) ≡ 0
    single_q c x l = pos_inj (qOf h d (single c x)) 0 (
        q_nonneg h d s e (single c x)
        ∙ ap₂ (λ a t. pos (vbeta h d) *ℤ a -ℤ t) (single-squares c x l) (single-totals c x l)
        ∙ ap (λ n. pos (vbeta h d) *ℤ sq x -ℤ pos n *ℤ sq x) full
        ∙ ring₂ (λ a b. a ⊗ b ⊝ a ⊗ b ≐ # 0) (pos (vbeta h d)) (sq x) refl)

    -- where Q is 0 no block deviates
    quiet : (y : List ℤ) → qOf h d y ≡ 0 → (k : ℕ) → k < blocks h → deviation_of h d y k ≡ pos 0
    quiet y z = sum_sq_zero (blocks h) (deviation_of h d y) (
        squares_add h d s e y ∙ ap (λ n. pos (vbeta h d) *ℤ pos n) z ∙ ring₁ (λ a. a ⊗ # 0 ≐ # 0) (pos (vbeta h d)) refl)

    -- none deviates without readings
    empty : (k : ℕ) → k < blocks h → deviation_of h d [] k ≡ pos 0
    empty k l =
        let D = deviation_of h d [] k in
        let twice : D ≡ D +ℤ D = deviations_add h d [] [] [] (λ j m. refl) k l in
        comb₁ (pos 1) (sym twice) (ring₁ (λ a. a ⊝ # 0 ≐ # 1 ⊗ (a ⊕ a ⊝ a)) D refl)

    -- nor with the first c of some readings
    first_quiet : (y : List ℤ) → length y ≡ blocks h → (c : ℕ) → c ≤ blocks h → (k : ℕ) → k < blocks h → deviation_of h d (take c y) k ≡ pos 0
    first_quiet y long zero m k l = empty k l
    first_quiet y long (suc c) m k l =
        let inside : c < blocks h = omega arith in
        deviations_add h d (take (suc c) y) (take c y) (single c (reading y c)) (λ j o. one_more c y j (omega arith)) k l
        ∙ ap₂ ◌+ℤ◌ (first_quiet y long c (omega arith) k l) (quiet (single c (reading y c)) (single_q c (reading y c) inside) k l)

    -- so Q is 0
    pub no_freedom_no_q : (y : List ℤ) → length y ≡ blocks h → qOf h d y ≡ 0
    no_freedom_no_q y long =
        let all : take (blocks h) y ≡ y = subst (λ n. take n y ≡ y) long (take-length y) in
        let zeros : (k : ℕ) → k < blocks h → deviation_of h d y k ≡ pos 0 =
        λ k l. subst (λ z. deviation_of h d z k ≡ pos 0) all (first_quiet y long (blocks h) (omega arith) k l) in
        let squares : pos (vbeta h d * qOf h d y) ≡ pos 0 =
        sym (squares_add h d s e y) ∙ sum_cong (blocks h) _ _ (λ k l. ap sq (zeros k l)) ∙ sum-zero (blocks h) in
        nothing (vbeta h d) (qOf h d y) (vbeta-some h d s e) (pos_inj (vbeta h d * qOf h d y) 0 squares)
      where
        nothing : (v q : ℕ) → 0 < v → v * q ≡ 0 → q ≡ 0
        nothing v zero l z = refl
        nothing v (suc q) l z = absurd (omega (arith, mul-pos l (some q), z))
          where
            some : (q : ℕ) → 0 < suc q
            some q = omega arith
