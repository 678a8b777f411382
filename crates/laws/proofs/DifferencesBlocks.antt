-- Sums over the m n blocks that m initial blocks make, each at n shifts, for any addition that is a commutative group: block q n + s is initial block q
-- at shift s.
--     grid                             a sum over m n numbers, row by row
--     developed                        the blocks that any addition makes
--     together_at, against-at          in how many blocks j + e and j stand, by differences
--     together_fixed, against_fixed_lem    in how many i and ∞ stand
--     together-zero, against-zero      in how many any object and 0 stand, by the shifts that take an element to 0
-- Assumes nothing.
use mathlib.Core.Path.{◌≡◌, sym, ◌∙◌, ap, ap₂}
use mathlib.Core.List.{List, map}
use Prim.Native.Nat.{ℕ, zero, suc, ◌+◌, ◌*◌, ◌/◌, ◌%◌, ◌≤◌, ◌<◌}
use native.Mathlib.Nat.{zero-mul, suc-mul}
use native.Mathlib.Omega.{arith}
use lib.Arith.{digits_div, digits_mod}
use Rattle.algebra.specs.Ranges.{sum_ℕ}
use Rattle.algebra.proofs.Sums.{sumℕ_cong, sumℕ_add}
use Rattle.meaning.specs.Design.{occ}
use Rattle.laws.proofs.Occurrences.{Each}
use Rattle.laws.proofs.Incidence.{together, against}
use Rattle.algebra.specs.Groups.{Group}
use Rattle.laws.specs.Differences.{elements, arises}
use Rattle.laws.proofs.DifferencesShifts.{Named, shifted, at_zero, pairs_by_shifts, fixed_by_shifts, zero_by_shifts}

-- the first a terms, then c more
split : (a c : ℕ) (f : ℕ → ℕ) → sum_ℕ (a + c) f ≡ sum_ℕ a f + sum_ℕ c (λ i. f (a + i))
unfolding sum_ℕ
split a zero f = ap (λ (k : ℕ). sum_ℕ k f) (none a) ∙ omega arith
  where
    none : (a : ℕ) → a + 0 ≡ a
    none a = omega arith
split a (suc c) f = ap (λ (k : ℕ). sum_ℕ k f) (more a c) ∙ omega (arith, split a c f)
  where
    more : (a c : ℕ) → a + suc c ≡ suc (a + c)
    more a c = omega arith

-- m rows of n terms
pub grid : (m n : ℕ) (f : ℕ → ℕ) → sum_ℕ (m * n) f ≡ sum_ℕ m (λ q. sum_ℕ n (λ s. f (q * n + s)))
unfolding sum_ℕ
grid zero n f = ap (λ (k : ℕ). sum_ℕ k f) (zero-mul n)
grid (suc m) n f =
    ap (λ (k : ℕ). sum_ℕ k f) (suc-mul m n) ∙ split (m * n) n f ∙ ap (λ (k : ℕ). k + sum_ℕ n (λ s. f (m * n + s))) (grid m n f)

-- U has the lists of A, at every shift
pub record Developed (n m : ℕ) (add : ℕ → ℕ → ℕ) (A U : ℕ → List ℕ) : Type 0 where
  pub named : (q : ℕ) → q < m → Each (Named n) (A q)
  pub at_shift : (q s : ℕ) → q < m → s < n → U (q * n + s) ≡ map (shifted n add s) (A q)

-- blocks that are numbered as those of a design are such
pub developed : (n m : ℕ) (add : ℕ → ℕ → ℕ) (A : ℕ → List ℕ) → ((q : ℕ) → q < m → Each (Named n) (A q)) →
    Developed n m add A (λ k. map (shifted n add (k % n)) (A (k / n)))
developed n m add A o = record { named = o; at_shift = λ q s l u. ap₂ (λ (a b : ℕ). map (shifted n add a) (A b)) (digits_mod q u) (digits_div q u) }

-- ---- two lists
module _ (n m : ℕ) (add : ℕ → ℕ → ℕ) (g : Group n add) {A B U W : ℕ → List ℕ} (a-dev : Developed n m add A U) (b-dev : Developed n m add B W) where
  -- a and c in a block, list by list and shift by shift
  by_shifts : (a c : ℕ) → sum_ℕ (m * n) (λ k. occ a (U k) * occ c (W k))
      ≡ sum_ℕ m (λ q. sum_ℕ n (λ s. occ a (map (shifted n add s) (A q)) * occ c (map (shifted n add s) (B q))))
  by_shifts a c =
      grid m n (λ k. occ a (U k) * occ c (W k))
      ∙ sumℕ_cong m _ _ (λ q l. sumℕ_cong n _ _
      (λ s o. ap₂ (λ (us ws : List ℕ). occ a us * occ c ws) (a-dev.at_shift q s l o) (b-dev.at_shift q s l o)))

  -- j + e and j, by differences
  pairs-developed : (e j : ℕ) → n ≤ 255 → e < n → j < n →
      sum_ℕ (m * n) (λ k. occ (add j e) (U k) * occ j (W k)) ≡ sum_ℕ m (λ q. arises add e (A q) (B q))
  pairs-developed e j few l o =
      by_shifts (add j e) j ∙ sumℕ_cong m _ _ (λ q u. pairs_by_shifts n add g (A q) (B q) (a-dev.named q u) (b-dev.named q u) e j few l o)

  -- i and ∞, by how many elements there are
  fixed_developed : (i : ℕ) → i < n → sum_ℕ (m * n) (λ k. occ i (U k) * occ n (W k)) ≡ sum_ℕ m (λ q. occ 255 (B q) * elements (A q))
  fixed_developed i l = by_shifts i n ∙ sumℕ_cong m _ _ (λ q u. fixed_by_shifts n add g (A q) (B q) (a-dev.named q u) (b-dev.named q u) i l)

  -- any object and 0, by the shifts that take an element to 0
  zero-developed : (e : ℕ) → 0 < n → sum_ℕ (m * n) (λ k. occ e (U k) * occ 0 (W k)) ≡ sum_ℕ m (λ q. at_zero n add g e (A q) (B q))
  zero-developed e l = by_shifts e 0 ∙ sumℕ_cong m _ _ (λ q u. zero_by_shifts n add g (A q) (B q) (a-dev.named q u) (b-dev.named q u) e l)

-- ---- two sides
module _ (n m : ℕ) (add : ℕ → ℕ → ℕ) (g : Group n add) {A B U W : ℕ → List ℕ} (a-dev : Developed n m add A U) (b-dev : Developed n m add B W) where
  -- how often object i stands on the left of block k, and on the right
  abbrev on_left : ℕ → ℕ → ℕ
  on_left k i = occ i (U k)

  abbrev on_right : ℕ → ℕ → ℕ
  on_right k i = occ i (W k)

  -- j + e and j share a side as often as e is a difference within the sides
  pub together_at : (e j : ℕ) → n ≤ 255 → e < n → j < n →
      together (m * n) on_left on_right (add j e) j ≡ sum_ℕ m (λ q. arises add e (A q) (A q) + arises add e (B q) (B q))
  together_at e j few l o =
      sumℕ_add (m * n) _ _
      ∙ ap₂ ◌+◌ (pairs-developed n m add g a-dev a-dev e j few l o) (pairs-developed n m add g b-dev b-dev e j few l o)
      ∙ sym (sumℕ_add m _ _)

  -- they oppose as often as e is a difference across
  pub against-at : (e j : ℕ) → n ≤ 255 → e < n → j < n →
      against (m * n) on_left on_right (add j e) j ≡ sum_ℕ m (λ q. arises add e (A q) (B q) + arises add e (B q) (A q))
  against-at e j few l o =
      sumℕ_add (m * n) _ _
      ∙ ap₂ ◌+◌ (pairs-developed n m add g a-dev b-dev e j few l o) (pairs-developed n m add g b-dev a-dev e j few l o)
      ∙ sym (sumℕ_add m _ _)

  -- every element shares its side with ∞ as often as elements stand beside it
  pub together_fixed : (i : ℕ) → i < n → together (m * n) on_left on_right i n ≡ sum_ℕ m (λ q. occ 255 (A q) * elements (A q) + occ 255 (B q) * elements (B q))
  together_fixed i l =
      sumℕ_add (m * n) _ _ ∙ ap₂ ◌+◌ (fixed_developed n m add g a-dev a-dev i l) (fixed_developed n m add g b-dev b-dev i l) ∙ sym (sumℕ_add m _ _)

  -- and opposes it as often as they stand against it
  pub against_fixed_lem : (i : ℕ) → i < n → against (m * n) on_left on_right i n ≡ sum_ℕ m (λ q. occ 255 (B q) * elements (A q) + occ 255 (A q) * elements (B q))
  against_fixed_lem i l =
      sumℕ_add (m * n) _ _ ∙ ap₂ ◌+◌ (fixed_developed n m add g a-dev b-dev i l) (fixed_developed n m add g b-dev a-dev i l) ∙ sym (sumℕ_add m _ _)

  -- any object shares its side with 0 as often as it stands there at the shifts that take an element of the side to 0
  pub together-zero : (e : ℕ) → 0 < n →
      together (m * n) on_left on_right e 0 ≡ sum_ℕ m (λ q. at_zero n add g e (A q) (A q) + at_zero n add g e (B q) (B q))
  together-zero e l =
      sumℕ_add (m * n) _ _ ∙ ap₂ ◌+◌ (zero-developed n m add g a-dev a-dev e l) (zero-developed n m add g b-dev b-dev e l) ∙ sym (sumℕ_add m _ _)

  -- and opposes it as often as it stands there at those that take an element of the other side to 0
  pub against-zero : (e : ℕ) → 0 < n →
      against (m * n) on_left on_right e 0 ≡ sum_ℕ m (λ q. at_zero n add g e (A q) (B q) + at_zero n add g e (B q) (A q))
  against-zero e l =
      sumℕ_add (m * n) _ _ ∙ ap₂ ◌+◌ (zero-developed n m add g a-dev b-dev e l) (zero-developed n m add g b-dev a-dev e l) ∙ sym (sumℕ_add m _ _)
