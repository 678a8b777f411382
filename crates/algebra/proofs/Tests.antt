-- Laws of the tests that compute: of `&&`, of `all` and of `first_from`.
--     all-at                what holds everywhere holds at i
--     all_more, all_fails   one turn of a loop over `all`
--     first-here, first_on  one turn of a search
--     first-is              which number a search finds
-- Assumes nothing.
use Prim.Native.Nat.{ℕ, zero, suc, ◌+◌, ◌-◌, ◌≤◌, ◌<◌}
use mathlib.Core.Path.{◌≡◌, refl, sym, ap, ◌∙◌}
use mathlib.Core.Bool.{Bool, true, false, ◌&&◌, false≢true}
use native.Mathlib.Numerals.{add-one}
use native.Mathlib.Omega.{arith}
use native.Mathlib.Decide.{ℕ_discrete}
use lib.Dec.{T}
use Rattle.algebra.specs.Ranges.{all, first_from}

-- ---- two tests

-- the first of two tests that both hold
pub and_0 : (a b : Bool) → T (a && b) → T a
and_0 true b t = tt
and_0 false b t = t

-- the second of two tests that both hold
pub and_1 : (a b : Bool) → T (a && b) → T b
and_1 true b t = t
and_1 false b t = absurd t

-- the first of two tests that are both `true`
pub and_left : (a b : Bool) → a && b ≡ true → a ≡ true
and_left true b e = refl
and_left false b e = e

-- the second of two tests that are both `true`
pub and_right : (a b : Bool) → a && b ≡ true → b ≡ true
and_right true b e = e
and_right false b e = absurd (false≢true e)

-- two tests that are `true`
pub and_both : {a b : Bool} → a ≡ true → b ≡ true → a && b ≡ true
and_both {a} {b} e f = ap (λ (t : Bool). t && b) e ∙ f

-- a first test that fails
pub and_fails_left : {a : Bool} (b : Bool) → a ≡ false → a && b ≡ false
and_fails_left b e = ap (λ (t : Bool). t && b) e

-- a second test that fails
pub and_fails_right : (a : Bool) {b : Bool} → b ≡ false → a && b ≡ false
and_fails_right true e = e
and_fails_right false e = refl

-- ---- every number below n

none : {X : Type 0} (i : ℕ) → i < 0 → X
none i l = absurd (omega arith)

-- what holds at every number below n holds at i, as an equation
pub all-at : (n : ℕ) (p : ℕ → Bool) → all n p ≡ true → (i : ℕ) → i < n → p i ≡ true
all-at zero p e i l = none i l
all-at (suc n) p e i l = go (all-at n p (and_right (p n) (all n p) e) i) (ℕ_discrete i n)
  where
    go : (i < n → p i ≡ true) → Dec (i ≡ n) → p i ≡ true
    go ih (yes q) = ap p q ∙ and_left (p n) (all n p) e
    go ih (no q) = ih (omega arith)

-- one number more, as a loop's `i + 1` has it
pub all_more : (n : ℕ) (p : ℕ → Bool) → all n p ≡ true → p n ≡ true → all (n + 1) p ≡ true
all_more n p a e = rw (add-one n, e) a

-- what holds at each number below n holds at all
pub all-each : (n : ℕ) (p : ℕ → Bool) → ((i : ℕ) → i < n → p i ≡ true) → all n p ≡ true
all-each zero p h = refl
all-each (suc n) p h = and_both (h n (omega arith)) (all-each n p (λ i l. h i (omega arith)))

-- where it fails at j, it does not hold at all
pub all_fails : (n j : ℕ) (p : ℕ → Bool) → j < n → p j ≡ false → all n p ≡ false
all_fails zero j p l e = none j l
all_fails (suc n) j p l e = go (λ m. all_fails n j p m e) (ℕ_discrete j n)
  where
    go : (j < n → all n p ≡ false) → Dec (j ≡ n) → p n && all n p ≡ false
    go ih (yes q) = and_fails_left (all n p) (sym (ap p q) ∙ e)
    go ih (no q) = and_fails_right (p n) (ih (omega (arith, q)))

-- equal tests below n
pub all_cong : (n : ℕ) (p q : ℕ → Bool) → ((i : ℕ) → i < n → p i ≡ q i) → all n p ≡ all n q
all_cong zero p q h = refl
all_cong (suc n) p q h = rw (h n (omega arith), all_cong n p q (λ i l. h i (omega arith)))

-- ---- the first number at which a test holds

-- one turn of the search among the numbers below `total`, at i
module _ (p : ℕ → Bool) (total i : ℕ) (more : i < total) where
  -- the search ends here
  pub first-here : p i ≡ true → first_from p i (total - i) ≡ i
  unfolding first_from
  first-here e =
      let left : total - i ≡ suc (total - (i + 1)) = omega arith in
      rw (left, e)

  -- the search goes on at the next number
  pub first_on : p i ≡ false → first_from p i (total - i) ≡ first_from p (i + 1) (total - (i + 1))
  unfolding first_from
  first_on e =
      let left : total - i ≡ suc (total - (i + 1)) = omega arith in
      let next : i + 1 ≡ suc i = omega arith in
      rw (left, next, e)

module _ (p : ℕ → Bool) where
  -- the search has come to the end
  pub first-end : (total i : ℕ) → i ≡ total → first_from p i (total - i) ≡ total
  unfolding first_from
  first-end total i e =
      let left : total - i ≡ 0 = omega arith in
      rw left e

  -- where the test fails at every number there is none
  pub first_from_none : (i c : ℕ) → ((j : ℕ) → i ≤ j → j < i + c → p j ≡ false) → first_from p i c ≡ i + c
  unfolding first_from
  first_from_none i zero h = omega arith
  first_from_none i (suc c) h =
      rw (h i (omega arith) (omega arith)) (first_from_none (suc i) c (λ j l m. h j (omega arith) (omega arith)) ∙ omega arith)

  -- the number k of the c from i on, before which the test fails and at which it holds
  pub first-is : (i c k : ℕ) → i ≤ k → k < i + c → ((j : ℕ) → i ≤ j → j < k → p j ≡ false) → p k ≡ true → first_from p i c ≡ k
  unfolding first_from
  first-is i zero k l m h e = absurd (omega arith)
  first-is i (suc c) k l m h e = go (ℕ_discrete i k) (λ a. first-is (suc i) c k a (omega arith) (λ j b d. h j (omega arith) d) e)
    where
      go : Dec (i ≡ k) → (suc i ≤ k → first_from p (suc i) c ≡ k) → first_from p i (suc c) ≡ k
      go (yes q) ih = rw (ap p q ∙ e) q
      go (no q) ih = rw (h i (omega arith) (omega arith)) (ih (omega arith))

  -- the search stays among its numbers, or gives the end
  pub first_bounds : (i c : ℕ) → (i ≤ first_from p i c) × (first_from p i c ≤ i + c)
  unfolding first_from
  first_bounds i zero = (omega arith, omega arith)
  first_bounds i (suc c) = go (p i) refl (first_bounds (suc i) c)
    where
      go : (b : Bool) → p i ≡ b → (suc i ≤ first_from p (suc i) c) × (first_from p (suc i) c ≤ suc i + c) →
          (i ≤ first_from p i (suc c)) × (first_from p i (suc c) ≤ i + suc c)
      go true e ih = rw e (omega arith, omega arith)
      go false e (l, m) = rw e (omega arith, omega arith)

  -- the test fails at every number before the one that is found
  pub first-before : (i c j : ℕ) → i ≤ j → j < first_from p i c → p j ≡ false
  unfolding first_from
  first-before i zero j l m = absurd (omega arith)
  first-before i (suc c) j l m = go (p i) refl m (first-before (suc i) c j) (ℕ_discrete i j)
    where
      go : (b : Bool) → p i ≡ b → j < first_from p i (suc c) → (suc i ≤ j → j < first_from p (suc i) c → p j ≡ false) → Dec (i ≡ j) → p j ≡ false
      go true e m ih d = let o : j < i = rw e at m in absurd (omega arith)
      go false e m ih (yes q) = ap p (sym q) ∙ e
      go false e m ih (no q) = ih (omega arith) (rw e at m)

  -- at a number that is found the test holds
  pub first_holds : (i c : ℕ) → first_from p i c < i + c → p (first_from p i c) ≡ true
  unfolding first_from
  first_holds i zero l = absurd (omega arith)
  first_holds i (suc c) l = go (p i) refl l (first_holds (suc i) c)
    where
      go : (b : Bool) → p i ≡ b → first_from p i (suc c) < i + suc c → (first_from p (suc i) c < suc i + c → p (first_from p (suc i) c) ≡ true) →
          p (first_from p i (suc c)) ≡ true
      go true e l ih = rw e e
      go false e l ih = let m : first_from p (suc i) c < i + suc c = rw e at l in rw e (ih (omega arith))
