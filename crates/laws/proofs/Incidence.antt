-- Counting in rows, with no word of how blocks are made: l k i and r k i are how often object i stands on the left and on the right of block k.
-- A row summed over the objects, and over the blocks, gives the numbers of a balanced design.
--     row-company, row-opposition   how often an object meets the others
--     counts                        the numbers of a design in which every two objects meet alike
-- Assumes nothing.
use mathlib.Core.Path.{◌≡◌, refl, sym, ◌∙◌, ap, ◌≡⟨◌⟩◌, ◌∎}
use mathlib.Core.Bool.{Bool, cond}
use Prim.Native.Nat.{ℕ, zero, suc, ◌+◌, ◌-◌, ◌*◌, ◌≤◌, ◌<◌}
use native.Mathlib.Nat.{mul-le-mul_right, le_of_mul-le-mul_left, le_of_mul-le-mul_right, mul-pos}
use native.Mathlib.Omega.{arith}
use native.Mathlib.Decide.{ℕ_discrete}
use lib.Dec.{eqb}
use borrow.Author.Tests.{eq-eqb}
use Rattle.algebra.specs.Ranges.{sum_ℕ}
use Rattle.algebra.proofs.Sums.{sumℕ_cong, sumℕ_add, sumℕ-scale, sumℕ_const, sumℕ_swap, sumℕ_le, sumℕ-others}

-- b blocks over v objects: p objects on each side, none twice in a block
pub record Incidence (b v p : ℕ) (l r : ℕ → ℕ → ℕ) : Type 0 where
  pub left_full : (k : ℕ) → k < b → sum_ℕ v (λ i. l k i) ≡ p
  pub right_full : (k : ℕ) → k < b → sum_ℕ v (λ i. r k i) ≡ p
  pub one : (k i : ℕ) → k < b → i < v → l k i + r k i ≤ 1

-- in how many blocks i and j share a side
abbrev pub together : ℕ → (ℕ → ℕ → ℕ) → (ℕ → ℕ → ℕ) → ℕ → ℕ → ℕ
together b l r i j = sum_ℕ b (λ k. l k i * l k j + r k i * r k j)

-- in how many blocks they stand on opposite sides
abbrev pub against : ℕ → (ℕ → ℕ → ℕ) → (ℕ → ℕ → ℕ) → ℕ → ℕ → ℕ
against b l r i j = sum_ℕ b (λ k. l k i * r k j + r k i * l k j)

-- in how many blocks object i stands
abbrev pub times : ℕ → (ℕ → ℕ → ℕ) → (ℕ → ℕ → ℕ) → ℕ → ℕ
times b l r i = sum_ℕ b (λ k. l k i + r k i)

-- the sum of f over all objects but i
abbrev pub others : ℕ → ℕ → (ℕ → ℕ) → ℕ
others v i f = sum_ℕ v (λ j. cond (eqb i j) 0 (f j))

-- any two different objects share a side l1 times and oppose l2 times
pub record Even (b v : ℕ) (l r : ℕ → ℕ → ℕ) (l1 l2 : ℕ) : Type 0 where
  pub company : (i j : ℕ) → i < v → j < v → (i ≡ j → ⊥) → together b l r i j ≡ l1
  pub opposition : (i j : ℕ) → i < v → j < v → (i ≡ j → ⊥) → against b l r i j ≡ l2

-- what counting says of such a design, with t i the number of blocks with object i
pub record Counts (b v p l1 l2 : ℕ) (t : ℕ → ℕ) : Type 0 where
  pub less : l1 ≤ l2
  pub positive : 0 < l2 - l1
  pub repeats : (i : ℕ) → i < v → t i ≡ (l2 - l1) * (v - 1)
  pub size : 2 * p * b ≡ (l2 - l1) * v * (v - 1)
  pub enough : v - 1 ≤ b
  pub company : (i : ℕ) → i < v → l1 * (v - 1) ≡ t i * (p - 1)
  pub opposition : (i : ℕ) → i < v → l2 * (v - 1) ≡ t i * p

-- a number c for each of the others
others_const : (v i c : ℕ) (f : ℕ → ℕ) → i < v → ((j : ℕ) → j < v → (i ≡ j → ⊥) → f j ≡ c) → others v i f ≡ c * (v - 1)
others_const v i c f m h =
    sumℕ_cong v _ _ (λ j o. same j o (ℕ_discrete i j)) ∙ rest v (others v i (λ j. c)) m (sym (sumℕ_const v c) ∙ sumℕ-others v i (λ j. c) m)
  where
    same : (j : ℕ) → j < v → Dec (i ≡ j) → cond (eqb i j) 0 (f j) ≡ cond (eqb i j) 0 c
    same j o (yes e) = ap (λ (t : Bool). cond t 0 (f j)) (eq-eqb i j e) ∙ sym (ap (λ (t : Bool). cond t 0 c) (eq-eqb i j e))
    same j o (no e) = ap (λ (x : ℕ). cond (eqb i j) 0 x) (h j o e)

    rest : (v x : ℕ) → i < v → v * c ≡ c + x → x ≡ c * (v - 1)
    rest zero x m e = omega arith
    rest (suc w) x m e = go (suc w - 1) (omega arith)
      where
        go : (u : ℕ) → u ≡ w → x ≡ c * u
        go u q = omega (arith, ap (λ (z : ℕ). c * z) q)

-- two numbers of which at most one is 1 and the other 0
bits : (a b : ℕ) → a + b ≤ 1 → (a * a + b * b ≡ a + b) × (a * b + b * a ≡ 0)
bits zero zero h = (refl, refl)
bits zero (suc zero) h = (refl, refl)
bits zero (suc (suc b)) h = (omega arith, omega arith)
bits (suc zero) zero h = (refl, refl)
bits (suc zero) (suc b) h = (omega arith, omega arith)
bits (suc (suc a)) b h = (omega arith, omega arith)

-- ---- arithmetic, with w for v - 1
less_one : (p t x : ℕ) → p * t ≡ t + x → x ≡ t * (p - 1)
less_one zero t x e = omega arith
less_one (suc q) t x e = go (suc q - 1) (omega arith)
  where
    go : (u : ℕ) → u ≡ q → x ≡ t * u
    go u h = omega (arith, ap (λ (z : ℕ). t * z) h)

-- a product with one factor more
one_more : (p t : ℕ) → 0 < p → t * p ≡ t * (p - 1) + t
one_more zero t l = omega arith
one_more (suc q) t l = go (suc q - 1) (omega arith)
  where
    go : (u : ℕ) → u ≡ q → t * suc q ≡ t * u + t
    go u h = omega (arith, ap (λ (z : ℕ). t * z) h)

-- what a product has more is the difference of its factors, times the other
difference-times : (l1 l2 w t : ℕ) → l1 ≤ l2 → l2 * w ≡ l1 * w + t → t ≡ (l2 - l1) * w
difference-times l1 l2 w t h e = go (l2 - l1) (omega arith)
  where
    go : (β : ℕ) → l2 ≡ l1 + β → t ≡ β * w
    go β q = omega (arith, ap (λ (z : ℕ). z * w) q)

-- beta is above 0 where there are blocks
some-beta : (p b β c : ℕ) → 0 < p → 0 < b → 2 * p * b ≡ β * c → 0 < β
some-beta p b zero c hp hb e = omega (arith, mul-pos hp hb)
some-beta p b (suc β) c hp hb e = omega arith

module _ (b v p : ℕ) (l r : ℕ → ℕ → ℕ) (inc : Incidence b v p l r) where
  -- a block's row, weighted
  row : (k x y : ℕ) → k < b → sum_ℕ v (λ j. x * l k j + y * r k j) ≡ p * (x + y)
  row k x y m =
      sumℕ_add v (λ j. x * l k j) (λ j. y * r k j)
      ∙ omega (arith, sumℕ-scale v x (l k), sumℕ-scale v y (r k), ap (λ (z : ℕ). x * z) (inc.left_full k m), ap (λ (z : ℕ). y * z) (inc.right_full k m))

  -- the same with the sides exchanged
  row' : (k x y : ℕ) → k < b → sum_ℕ v (λ j. x * r k j + y * l k j) ≡ p * (x + y)
  row' k x y m =
      sumℕ_add v (λ j. x * r k j) (λ j. y * l k j)
      ∙ omega (arith, sumℕ-scale v x (r k), sumℕ-scale v y (l k), ap (λ (z : ℕ). x * z) (inc.right_full k m), ap (λ (z : ℕ). y * z) (inc.left_full k m))

  -- company with all objects, itself too
  all-together : (i : ℕ) → sum_ℕ v (together b l r i) ≡ p * times b l r i
  all-together i =
      sum_ℕ v (λ j. sum_ℕ b (λ k. l k i * l k j + r k i * r k j)) ≡⟨ sumℕ_swap v b (λ j k. l k i * l k j + r k i * r k j) ⟩
      sum_ℕ b (λ k. sum_ℕ v (λ j. l k i * l k j + r k i * r k j)) ≡⟨ sumℕ_cong b _ _ (λ k m. row k (l k i) (r k i) m) ⟩
      sum_ℕ b (λ k. p * (l k i + r k i)) ≡⟨ sumℕ-scale b p (λ k. l k i + r k i) ⟩
      p * times b l r i ∎

  -- opposition to all objects
  all-against : (i : ℕ) → sum_ℕ v (against b l r i) ≡ p * times b l r i
  all-against i =
      sum_ℕ v (λ j. sum_ℕ b (λ k. l k i * r k j + r k i * l k j)) ≡⟨ sumℕ_swap v b (λ j k. l k i * r k j + r k i * l k j) ⟩
      sum_ℕ b (λ k. sum_ℕ v (λ j. l k i * r k j + r k i * l k j)) ≡⟨ sumℕ_cong b _ _ (λ k m. row' k (l k i) (r k i) m) ⟩
      sum_ℕ b (λ k. p * (l k i + r k i)) ≡⟨ sumℕ-scale b p (λ k. l k i + r k i) ⟩
      p * times b l r i ∎

  -- an object meets itself where it stands
  pub self_together : (i : ℕ) → i < v → together b l r i i ≡ times b l r i
  self_together i m = sumℕ_cong b _ _ (λ k o. (bits (l k i) (r k i) (inc.one k i o m)).0)

  -- and never on the other side
  pub self_against : (i : ℕ) → i < v → against b l r i i ≡ 0
  self_against i m = sumℕ_cong b _ (λ k. 0) (λ k o. (bits (l k i) (r k i) (inc.one k i o m)).1) ∙ sumℕ_const b 0 ∙ omega arith

  -- where an object stands it shares its side with p - 1 others
  pub row-company : (i : ℕ) → i < v → others v i (together b l r i) ≡ times b l r i * (p - 1)
  row-company i m = less_one p (times b l r i) (others v i (together b l r i))
      (sym (all-together i) ∙ sumℕ-others v i (together b l r i) m ∙ ap (λ (z : ℕ). z + others v i (together b l r i)) (self_together i m))

  -- and opposes p
  pub row-opposition : (i : ℕ) → i < v → others v i (against b l r i) ≡ times b l r i * p
  row-opposition i m = omega (arith, all-against i, sumℕ-others v i (against b l r i) m, self_against i m)

  -- a block has 2p objects
  pub block_size : (k : ℕ) → k < b → sum_ℕ v (λ i. l k i + r k i) ≡ 2 * p
  block_size k m = omega (arith, sumℕ_add v (l k) (r k), inc.left_full k m, inc.right_full k m)

  -- they are among the v
  twice_p : (k : ℕ) → k < b → 2 * p ≤ v
  twice_p k m = omega (arith, block_size k m, sumℕ_le v (λ i. l k i + r k i) (λ i. 1) (λ i o. inc.one k i m o), sumℕ_const v 1)

  -- the objects of all blocks, counted by objects and by blocks
  pub by_objects : sum_ℕ v (times b l r) ≡ 2 * p * b
  by_objects =
      sum_ℕ v (λ i. sum_ℕ b (λ k. l k i + r k i)) ≡⟨ sumℕ_swap v b (λ i k. l k i + r k i) ⟩
      sum_ℕ b (λ k. sum_ℕ v (λ i. l k i + r k i)) ≡⟨ sumℕ_cong b _ (λ k. 2 * p) block_size ⟩
      sum_ℕ b (λ k. 2 * p) ≡⟨ sumℕ_const b (2 * p) ∙ omega arith ⟩
      2 * p * b ∎

  -- ---- the numbers of a balanced design
  module _ (l1 l2 : ℕ) (ev : Even b v l r l1 l2) (hp : 0 < p) (hb : 0 < b) where
    -- l1 for each of the others
    meets_company : (i : ℕ) → i < v → l1 * (v - 1) ≡ times b l r i * (p - 1)
    meets_company i m = sym (others_const v i l1 (together b l r i) m (λ j o q. ev.company i j m o q)) ∙ row-company i m

    -- l2 for each of the others
    meets_opposition : (i : ℕ) → i < v → l2 * (v - 1) ≡ times b l r i * p
    meets_opposition i m = sym (others_const v i l2 (against b l r i) m (λ j o q. ev.opposition i j m o q)) ∙ row-opposition i m

    -- a block has no more objects than there are
    wide : 2 * p ≤ v
    wide = twice_p 0 hb

    -- opposition has as much more as the object has blocks
    excess : (i : ℕ) → i < v → l2 * (v - 1) ≡ l1 * (v - 1) + times b l r i
    excess i m = omega (arith, meets_company i m, meets_opposition i m, one_more p (times b l r i) hp)

    -- so l1 is at most l2
    less : l1 ≤ l2
    less = le_of_mul-le-mul_right {k = v - 1} (omega (arith, excess 0 (omega (arith, wide)))) (omega (arith, wide))

    -- every object stands in beta (v - 1) blocks
    repeats : (i : ℕ) → i < v → times b l r i ≡ (l2 - l1) * (v - 1)
    repeats i m = difference-times l1 l2 (v - 1) (times b l r i) less (excess i m)

    -- the objects of all blocks
    size : 2 * p * b ≡ (l2 - l1) * (v * (v - 1))
    size =
        2 * p * b ≡⟨ sym by_objects ⟩
        sum_ℕ v (times b l r) ≡⟨ sumℕ_cong v _ _ repeats ⟩
        sum_ℕ v (λ i. (l2 - l1) * (v - 1)) ≡⟨ sumℕ_const v ((l2 - l1) * (v - 1)) ⟩
        v * ((l2 - l1) * (v - 1)) ≡⟨ turn v (l2 - l1) (v - 1) ⟩
        (l2 - l1) * (v * (v - 1)) ∎
      where
        turn : (x y z : ℕ) → x * (y * z) ≡ y * (x * z)
        turn x y z = omega arith

    -- beta is above 0
    positive : 0 < l2 - l1
    positive = some-beta p b (l2 - l1) (v * (v - 1)) hp hb size

    -- every number of the design
    pub counts : Counts b v p l1 l2 (times b l r)
    counts = record {
      less = less;
      positive = positive;
      repeats = repeats;
      size = size ∙ turn (l2 - l1) v (v - 1);
      enough = blocks_enough p b (l2 - l1) v (v - 1) hp positive wide size;
      company = meets_company;
      opposition = meets_opposition;
    }
      where
        -- there are at least v - 1 blocks
        blocks_enough : (p b β v w : ℕ) → 0 < p → 0 < β → 2 * p ≤ v → 2 * p * b ≡ β * (v * w) → w ≤ b
        blocks_enough p b β v w hp hβ hv e =
            le_of_mul-le-mul_left {k = 2 * p} (omega (arith, mul-le-mul_right w hv, mul-le-mul_right (v * w) hβ)) (omega arith)

        turn : (x y z : ℕ) → x * (y * z) ≡ x * y * z
        turn x y z = omega arith
