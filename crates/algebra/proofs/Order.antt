-- The order of ℤ (lib.Signed), by differences: a ≤ℤ b exactly where a + n is b for some natural n. Assumes nothing.
use mathlib.Core.Path.{◌≡◌, refl, sym, ◌∙◌, ap, ap₂, subst}
use mathlib.Core.Bool.{Bool, true, false, not, cond}
use mathlib.Core.Logic.{◌⊎◌, inl, inr, ⊎_elim}
use Prim.Native.Nat.{ℕ, zero, suc, ◌+◌, ◌*◌, ◌-◌, ◌≤◌, ◌<◌}
use native.Mathlib.Omega.{arith}
use lib.Dec.{T, ltb, leb→le, le→leb, ltb→lt, lt→ltb}
use lib.IntN.{ℤ, pos, negsuc, neg_ℤ, nat_abs, ◌+ℤ◌, ◌-ℤ◌, ◌*ℤ◌, +ℤ_idl, +ℤ_idr, +ℤ_invr, neg_ℤ-neg_ℤ}
use lib.Signed.{◌≤ℤ◌, ◌<ℤ◌, le_z, lt_z, lt_z_no, <ℤ_irrefl, clash_ℤ}
use Rattle.algebra.proofs.Solver.{◌⊕◌, ◌⊗◌, ◌⊝◌, ⊖◌, ◌≐◌, ring₂, ring₃, ring₄, ring₅}

-- ---- between the order of ℤ and the order of ℕ, for omega: `omega (arith, pos-≤, pos-≤⁻)`
-- an order of naturals is one of whole numbers
pub pos-≤ : (m n : ℕ) → m ≤ n → pos m ≤ℤ pos n
pos-≤ m n h = record { le = le→leb m n h }

-- and back
pub pos-≤⁻ : (m n : ℕ) → pos m ≤ℤ pos n → m ≤ n
pos-≤⁻ m n h = leb→le m n h.le

-- naturals that are equal as whole numbers are equal
pub pos_inj : (m n : ℕ) → pos m ≡ pos n → m ≡ n
pos_inj m n h = ap nat_abs h

-- ---- a difference, from an order and back
-- what holds of either choice holds of the choice
cond_T : (b : Bool) (x y : ℤ) (P : ℤ → Type 0) → (T b → P x) → (T (not b) → P y) → P (cond b x y)
cond_T true x y P f g = f tt
cond_T false x y P f g = g tt

le_add : (a : ℤ) (n : ℕ) → T (le_z a (a +ℤ pos n))
le_add (pos a) n = le→leb a (a + n) (omega arith)
le_add (negsuc a) n = cond_T (ltb n (suc a)) (negsuc (suc a - suc n)) (pos (n - suc a)) (λ z. T (le_z (negsuc a) z))
    (λ t. le→leb (suc a - suc n) a (omega arith)) (λ t. tt)

-- a + n is b, so a is at most b
pub by_diff : (a b : ℤ) (n : ℕ) → a +ℤ pos n ≡ b → a ≤ℤ b
by_diff a b n h = record { le = subst (λ z. T (le_z a z)) h (le_add a n) }

diff' : (a b : ℤ) → T (le_z a b) → (n : ℕ) × (a +ℤ pos n ≡ b)
diff' (pos a) (pos b) t = (b - a, ap pos (go a b (leb→le a b t)))
  where
    go : (a b : ℕ) → a ≤ b → a + (b - a) ≡ b
    go a b h = omega arith
diff' (pos a) (negsuc b) t = absurd t
diff' (negsuc a) (pos b) t = (b + suc a, ring₂ (λ x y. ⊖ x ⊕ (y ⊕ x) ≐ y) (pos (suc a)) (pos b) refl)
diff' (negsuc a) (negsuc b) t =
    (a - b, ap (λ (k : ℕ). neg_ℤ (pos k) +ℤ pos (a - b)) (go a b (leb→le b a t)) ∙ ring₂ (λ x y. ⊖ (x ⊕ y) ⊕ y ≐ ⊖ x) (pos (suc b)) (pos (a - b)) refl)
  where
    go : (a b : ℕ) → b ≤ a → suc a ≡ suc b + (a - b)
    go a b h = omega arith

-- a is at most b, so a + n is b for some n
pub diff : {a b : ℤ} → a ≤ℤ b → (n : ℕ) × (a +ℤ pos n ≡ b)
diff {a} {b} h = diff' a b h.le

-- ---- the laws of ≤
-- equal numbers are in order
pub ≤ℤ-of-≡ : {a b : ℤ} → a ≡ b → a ≤ℤ b
≤ℤ-of-≡ {a} {b} h = by_diff a b 0 (+ℤ_idr a ∙ h)

-- one order after another
pub ≤ℤ-trans : {a b c : ℤ} → a ≤ℤ b → b ≤ℤ c → a ≤ℤ c
≤ℤ-trans {a} {b} {c} h k =
    let (m, p) = diff h in
    let (n, q) = diff k in
    by_diff a c (m + n) (ring₃ (λ a m n. a ⊕ (m ⊕ n) ≐ a ⊕ m ⊕ n) a (pos m) (pos n) refl ∙ ap (λ z. z +ℤ pos n) p ∙ q)

-- an equal summand is struck out
pub +ℤ-cancel-l : (a b c : ℤ) → a +ℤ b ≡ a +ℤ c → b ≡ c
+ℤ-cancel-l a b c h =
    ring₂ (λ a b. b ≐ ⊖ a ⊕ (a ⊕ b)) a b refl ∙ ap (λ z. neg_ℤ a +ℤ z) h ∙ ring₂ (λ a c. ⊖ a ⊕ (a ⊕ c) ≐ c) a c refl

-- orders are added
pub ≤ℤ-+ : {a b c d : ℤ} → a ≤ℤ b → c ≤ℤ d → (a +ℤ c) ≤ℤ (b +ℤ d)
≤ℤ-+ {a} {b} {c} {d} h k =
    let (m, p) = diff h in
    let (n, q) = diff k in
    by_diff (a +ℤ c) (b +ℤ d) (m + n) (ring₄ (λ a c m n. a ⊕ c ⊕ (m ⊕ n) ≐ a ⊕ m ⊕ (c ⊕ n)) a c (pos m) (pos n) refl ∙ ap₂ ◌+ℤ◌ p q)

-- a number that is not negative is a natural
pub natural : {c : ℤ} → pos 0 ≤ℤ c → (n : ℕ) × (pos n ≡ c)
natural {c} h = let (n, p) = diff h in (n, sym (+ℤ_idl (pos n)) ∙ p)

-- a natural is not negative
pub pos_nonneg : (n : ℕ) → pos 0 ≤ℤ pos n
pos_nonneg n = pos-≤ 0 n (omega arith)

-- a factor that is not negative keeps an order
pub ≤ℤ-* : {a b : ℤ} (c : ℤ) → pos 0 ≤ℤ c → a ≤ℤ b → (c *ℤ a) ≤ℤ (c *ℤ b)
≤ℤ-* {a} {b} c z h =
    let (n, q) = natural z in
    let (m, p) = diff h in
    by_diff (c *ℤ a) (c *ℤ b) (n * m)
    (ap (λ x. c *ℤ a +ℤ x *ℤ pos m) q ∙ ring₃ (λ c a m. c ⊗ a ⊕ c ⊗ m ≐ c ⊗ (a ⊕ m)) c a (pos m) refl ∙ ap (λ x. c *ℤ x) p)

-- a product of two that are not negative is not negative
pub *ℤ-nonneg : {a b : ℤ} → pos 0 ≤ℤ a → pos 0 ≤ℤ b → pos 0 ≤ℤ (a *ℤ b)
*ℤ-nonneg {a} {b} h k =
    let (m, p) = natural h in
    let (n, q) = natural k in
    by_diff (pos 0) (a *ℤ b) (m * n) (+ℤ_idl (pos (m * n)) ∙ ap₂ ◌*ℤ◌ p q)

-- a sum of two that are not negative is not negative
pub +ℤ-nonneg : {a b : ℤ} → pos 0 ≤ℤ a → pos 0 ≤ℤ b → pos 0 ≤ℤ (a +ℤ b)
+ℤ-nonneg {a} {b} h k = ≤ℤ-+ h k

-- a summand that is not negative makes no sum less
pub le-+ : {a b c : ℤ} → pos 0 ≤ℤ c → a +ℤ c ≡ b → a ≤ℤ b
le-+ {a} {b} {c} h e = let (n, p) = natural h in by_diff a b n (ap (λ z. a +ℤ z) p ∙ e)

-- ---- squares
-- a square is not negative
pub sq_nonneg : (a : ℤ) → pos 0 ≤ℤ (a *ℤ a)
sq_nonneg (pos n) = pos_nonneg (n * n)
sq_nonneg (negsuc n) = pos_nonneg (suc n * suc n)

no_zero : (m n : ℕ) → suc m * suc n ≡ 0 → ⊥
no_zero m n h = omega arith

no_zero_neg : (m n : ℕ) → neg_ℤ (pos (suc m * suc n)) ≡ pos 0 → ⊥
no_zero_neg m n h = no_zero m n (pos_inj (suc m * suc n) 0 (sym (neg_ℤ-neg_ℤ (pos (suc m * suc n))) ∙ ap neg_ℤ h))

-- a product is 0 only where a factor is
pub *ℤ-is-zero : (a b : ℤ) → a *ℤ b ≡ pos 0 → (a ≡ pos 0) ⊎ (b ≡ pos 0)
*ℤ-is-zero (pos zero) b h = inl refl
*ℤ-is-zero (pos (suc m)) (pos zero) h = inr refl
*ℤ-is-zero (pos (suc m)) (pos (suc n)) h = absurd (no_zero m n (pos_inj (suc m * suc n) 0 h))
*ℤ-is-zero (pos (suc m)) (negsuc n) h = absurd (no_zero_neg m n h)
*ℤ-is-zero (negsuc m) (pos zero) h = inr refl
*ℤ-is-zero (negsuc m) (pos (suc n)) h = absurd (no_zero_neg m n h)
*ℤ-is-zero (negsuc m) (negsuc n) h = absurd (no_zero m n (pos_inj (suc m * suc n) 0 h))

-- a square is 0 only of 0
pub sq-zero : (a : ℤ) → a *ℤ a ≡ pos 0 → a ≡ pos 0
sq-zero a h = ⊎_elim (λ e. e) (λ e. e) (*ℤ-is-zero a a h)

-- an equal factor that is not 0 is struck out
pub *ℤ-cancel-l : (c a b : ℤ) → (c ≡ pos 0 → ⊥) → c *ℤ a ≡ c *ℤ b → a ≡ b
*ℤ-cancel-l c a b z h =
    ring₂ (λ a b. a ≐ (a ⊝ b) ⊕ b) a b refl ∙ ap (λ x. x +ℤ b) zero_diff ∙ +ℤ_idl b
  where
    zero_diff : a -ℤ b ≡ pos 0
    zero_diff = ⊎_elim (λ e. absurd (z e)) (λ e. e)
        (*ℤ-is-zero c (a -ℤ b) (ring₃ (λ c a b. c ⊗ (a ⊝ b) ≐ c ⊗ a ⊝ c ⊗ b) c a b refl ∙ ap (λ x. x -ℤ c *ℤ b) h ∙ +ℤ_invr (c *ℤ b)))

-- two that are not negative and add up to 0 are 0
pub both_zero : {a b : ℤ} → pos 0 ≤ℤ a → pos 0 ≤ℤ b → a +ℤ b ≡ pos 0 → (a ≡ pos 0) × (b ≡ pos 0)
both_zero {a} {b} h k e =
    let (m, p) = natural h in
    let (n, q) = natural k in
    let s : m + n ≡ 0 = pos_inj (m + n) 0 (ap₂ ◌+ℤ◌ p q ∙ e) in
    (sym p ∙ ap pos (go m n s), sym q ∙ ap pos (go' m n s))
  where
    go : (m n : ℕ) → m + n ≡ 0 → m ≡ 0
    go m n h = omega arith

    go' : (m n : ℕ) → m + n ≡ 0 → n ≡ 0
    go' m n h = omega arith

-- ---- the strict order: a <ℤ b exactly where a + (n + 1) is b
lt_add : (a : ℤ) (n : ℕ) → T (lt_z a (a +ℤ pos (suc n)))
lt_add (pos a) n = lt→ltb a (a + suc n) (omega arith)
lt_add (negsuc a) n = cond_T (ltb (suc n) (suc a)) (negsuc (suc a - suc (suc n))) (pos (suc n - suc a)) (λ z. T (lt_z (negsuc a) z))
    (λ t. lt→ltb (suc a - suc (suc n)) a (go (ltb→lt (suc n) (suc a) t))) (λ t. tt)
  where
    go : suc n < suc a → suc a - suc (suc n) < a
    go h = omega arith

-- a + n + 1 is b, so a is below b
pub by_diff-< : (a b : ℤ) (n : ℕ) → a +ℤ pos (suc n) ≡ b → a <ℤ b
by_diff-< a b n h = record { lt = subst (λ z. T (lt_z a z)) h (lt_add a n) }

lt_le : (a b : ℤ) → T (lt_z a b) → T (le_z a b)
lt_le (pos a) (pos b) t = le→leb a b (go (ltb→lt a b t))
  where
    go : a < b → a ≤ b
    go h = omega arith
lt_le (pos a) (negsuc b) t = t
lt_le (negsuc a) (pos b) t = t
lt_le (negsuc a) (negsuc b) t = le→leb b a (go (ltb→lt b a t))
  where
    go : b < a → b ≤ a
    go h = omega arith

-- what is below is at most
pub <ℤ-≤ℤ : {a b : ℤ} → a <ℤ b → a ≤ℤ b
<ℤ-≤ℤ {a} {b} h = record { le = lt_le a b h.lt }

-- a is below b, so a + n + 1 is b for some n
pub diff-< : {a b : ℤ} → a <ℤ b → (n : ℕ) × (a +ℤ pos (suc n) ≡ b)
diff-< {a} {b} h = let (n, p) = diff (<ℤ-≤ℤ h) in go n p
  where
    go : (n : ℕ) → a +ℤ pos n ≡ b → (m : ℕ) × (a +ℤ pos (suc m) ≡ b)
    go zero p = absurd (<ℤ_irrefl (subst (λ z. a <ℤ z) (sym p ∙ +ℤ_idr a) h))
    go (suc n) p = (n, p)

-- not negative and not 0
pub positive : {c : ℤ} → pos 0 ≤ℤ c → (c ≡ pos 0 → ⊥) → pos 0 <ℤ c
positive {c} h z = let (n, p) = natural h in go n p
  where
    go : (n : ℕ) → pos n ≡ c → pos 0 <ℤ c
    go zero p = absurd (z (sym p))
    go (suc n) p = by_diff-< (pos 0) c n (+ℤ_idl (pos (suc n)) ∙ p)

-- a positive summand makes a sum greater
pub lt-+ : {a b c : ℤ} → pos 0 <ℤ c → a +ℤ c ≡ b → a <ℤ b
lt-+ {a} {b} {c} h e = let (n, p) = diff-< h in by_diff-< a b n (ap (λ z. a +ℤ z) (sym (+ℤ_idl (pos (suc n))) ∙ p) ∙ e)

-- of two numbers one is at most the other or above it
pub ≤ℤ-or-> : (a b : ℤ) → (a ≤ℤ b) ⊎ (b <ℤ a)
≤ℤ-or-> a b = go (lt_z b a) (λ t. record { lt = t }) (λ t. lt_z_no t)
  where
    go : (c : Bool) → (T c → b <ℤ a) → (T (not c) → a ≤ℤ b) → (a ≤ℤ b) ⊎ (b <ℤ a)
    go true f g = inr (f tt)
    go false f g = inl (g tt)

-- ---- a positive factor, as a denominator is: kept, and struck out
-- a positive factor keeps a strict order
pub <ℤ-* : (n : ℕ) {a b : ℤ} → a <ℤ b → (pos (suc n) *ℤ a) <ℤ (pos (suc n) *ℤ b)
<ℤ-* n {a} {b} h = let (m, p) = diff-< h in go m p
  where
    go : (m : ℕ) → a +ℤ pos (suc m) ≡ b → (pos (suc n) *ℤ a) <ℤ (pos (suc n) *ℤ b)
    go m p = by_diff-< (pos (suc n) *ℤ a) (pos (suc n) *ℤ b) (n * suc m + m)
        (ap (λ (k : ℕ). pos (suc n) *ℤ a +ℤ pos k) (eq n m)
        ∙ ring₃ (λ c a m. c ⊗ a ⊕ c ⊗ m ≐ c ⊗ (a ⊕ m)) (pos (suc n)) a (pos (suc m)) refl ∙ ap (λ x. pos (suc n) *ℤ x) p)
      where
        eq : (n m : ℕ) → suc (n * suc m + m) ≡ suc n * suc m
        eq n m = omega arith

-- a positive factor is struck out of an order
pub *ℤ-cancel-≤ : (n : ℕ) (a b : ℤ) → (pos (suc n) *ℤ a) ≤ℤ (pos (suc n) *ℤ b) → a ≤ℤ b
*ℤ-cancel-≤ n a b h = ⊎_elim (λ l. l) (λ l. clash_ℤ (<ℤ-* n l) h) (≤ℤ-or-> a b)

-- ℕ's difference, where it is no smaller than it should be
pub pos_sub : (m n : ℕ) → n ≤ m → pos (m - n) ≡ pos m -ℤ pos n
pos_sub m n h = ring₂ (λ n d. d ≐ n ⊕ d ⊝ n) (pos n) (pos (m - n)) refl ∙ ap (λ (k : ℕ). pos k -ℤ pos n) (go m n h)
  where
    go : (m n : ℕ) → n ≤ m → n + (m - n) ≡ m
    go m n h = omega arith

-- ---- an equation from others, by a combination of them that `ring` confirms
-- from one equation, times k
pub comb₁ : {a b l r : ℤ} (k : ℤ) → l ≡ r → a -ℤ b ≡ k *ℤ (l -ℤ r) → a ≡ b
comb₁ {a} {b} {l} {r} k h e =
    ring₂ (λ a b. a ≐ (a ⊝ b) ⊕ b) a b refl ∙ ap (λ z. z +ℤ b) (e ∙ ap (λ z. k *ℤ (z -ℤ r)) h) ∙ ring₃ (λ k r b. k ⊗ (r ⊝ r) ⊕ b ≐ b) k r b refl

-- from two equations, times k and k'
pub comb₂ : {a b l r l' r' : ℤ} (k k' : ℤ) → l ≡ r → l' ≡ r' → a -ℤ b ≡ k *ℤ (l -ℤ r) +ℤ k' *ℤ (l' -ℤ r') → a ≡ b
comb₂ {a} {b} {l} {r} {l'} {r'} k k' h h' e =
    comb₁ k h (e ∙ ap (λ z. k *ℤ (l -ℤ r) +ℤ k' *ℤ (z -ℤ r')) h' ∙ ring₅ (λ k l r k' r'. k ⊗ (l ⊝ r) ⊕ k' ⊗ (r' ⊝ r') ≐ k ⊗ (l ⊝ r)) k l r k' r' refl)
