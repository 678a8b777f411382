-- The pair table of a sound design from the differences of its initial blocks, by whichever addition it is developed: two elements meet as often as their
-- difference arises.
--     company-at, opposition-at             j + e and j
--     company-within, opposition-across     any two elements, by their difference
--     company_fixed, opposition_fixed       an element and ∞
--     company-zero, opposition-zero         e and 0, whose difference is e
--     company-back, opposition-back         any object and 0: each block at the shifts that take one of its elements to 0
-- Assumes nothing.
use mathlib.Core.Path.{◌≡◌, sym, ◌∙◌, ap, subst}
use mathlib.Core.Bool.{Bool, true, cond}
use mathlib.Core.List.{List}
use Prim.Native.Nat.{ℕ, ◌+◌, ◌*◌, ◌≤◌, ◌<◌}
use native.Mathlib.Nat.{mul-le-mul_left}
use native.Mathlib.Omega.{arith}
use lib.ListN.{length}
use lib.Dec.{ltb}
use borrow.Author.Tests.{ne_eqb, ltb-true}
use Rattle.algebra.specs.Ranges.{sum_ℕ}
use Rattle.algebra.specs.Groups.{Group}
use Rattle.algebra.proofs.Groups.{less, less-closed, reaches, neutral-left}
use Rattle.records.specs.declared.Head.{Head}
use Rattle.meaning.specs.Design.{with_fixed, plus, left, right, company, opposition}
use Rattle.meaning.specs.Refusals.{in_range}
use Rattle.meaning.proofs.Addition.{plus_group}
use Rattle.laws.specs.Differences.{initial_left, initial_right, within, across, beside_fixed, against_fixed}
use Rattle.laws.proofs.Chains.{Sound}
use Rattle.laws.proofs.Occurrences.{Each}
use Rattle.laws.proofs.Clean.{part_range}
use Rattle.laws.proofs.DifferencesShifts.{Named, at_zero}
use Rattle.laws.proofs.DifferencesBlocks.{
  Developed,
  developed,
  together_at,
  against-at,
  together_fixed,
  against_fixed_lem,
  together-zero,
  against-zero,
}

-- a byte in range names an element or ∞
pub names : (h : Head) (x : ℕ) → in_range h x ≡ true → Named h.n x
names h x t e = ltb-true x h.n (subst (λ (u : Bool). cond u (with_fixed h) (ltb x h.n) ≡ true) (ne_eqb x 255 e) t)

module _ (h : Head) (d : List ℕ) (s : Sound h d) where
  -- the elements are a group
  pub addition : Group h.n (plus h)
  addition = plus_group h s.sizes.has_addition_lem

  -- bytes are enough for the elements
  few : h.n ≤ 255
  few = omega (arith, s.sizes.n_most)

  -- there is an element 0
  some : 0 < h.n
  some = omega (arith, s.sizes.n_least)

  -- ---- the two sides of a block are those of its initial block, moved

  -- an initial block lies in the list
  inside : (q : ℕ) → q < h.m → 2 * h.p * q + 2 * h.p ≤ length d
  inside q l = omega (arith, s.long, mul-le-mul_left (2 * h.p) l)

  -- the bytes of its left
  pub left_named : (q : ℕ) → q < h.m → Each (Named h.n) (initial_left h d q)
  left_named q l i m = names h _ (part_range h d s (2 * h.p * q) h.p (omega (arith, inside q l)) i m)

  -- and of its right
  pub right_named : (q : ℕ) → q < h.m → Each (Named h.n) (initial_right h d q)
  right_named q l i m = names h _ (part_range h d s (2 * h.p * q + h.p) h.p (omega (arith, inside q l)) i m)

  -- the left of each block
  left-developed : Developed h.n h.m (plus h) (initial_left h d) (left h d)
  unfolding left
  left-developed = developed h.n h.m (plus h) (initial_left h d) left_named

  -- the right
  right-developed : Developed h.n h.m (plus h) (initial_right h d) (right h d)
  unfolding right
  right-developed = developed h.n h.m (plus h) (initial_right h d) right_named

  -- ---- the table

  -- j + e and j share a side as often as e arises within sides
  pub company-at : (e j : ℕ) → e < h.n → j < h.n → company h d (plus h j e) j ≡ within h d e
  unfolding company within
  company-at e j l m = together_at h.n h.m (plus h) addition left-developed right-developed e j few l m

  -- they oppose as often as e arises across
  pub opposition-at : (e j : ℕ) → e < h.n → j < h.n → opposition h d (plus h j e) j ≡ across h d e
  unfolding opposition across
  opposition-at e j l m = against-at h.n h.m (plus h) addition left-developed right-developed e j few l m

  -- an element shares its side with ∞ as often as the initial blocks have elements beside it
  pub company_fixed : (i : ℕ) → i < h.n → company h d i h.n ≡ beside_fixed h d
  unfolding company beside_fixed
  company_fixed i l = together_fixed h.n h.m (plus h) addition left-developed right-developed i l

  -- and opposes it as often as they have elements against it
  pub opposition_fixed : (i : ℕ) → i < h.n → opposition h d i h.n ≡ against_fixed h d
  unfolding opposition against_fixed
  opposition_fixed i l = against_fixed_lem h.n h.m (plus h) addition left-developed right-developed i l

  -- two elements share a side as often as their difference arises within sides
  pub company-within : (i j : ℕ) → i < h.n → j < h.n → company h d i j ≡ within h d (less h.n (plus h) addition i j)
  company-within i j l m =
      ap (λ (z : ℕ). company h d z j) (sym (reaches h.n (plus h) addition i j l m))
      ∙ company-at (less h.n (plus h) addition i j) j (less-closed h.n (plus h) addition i j l m) m

  -- and oppose as often as it arises across
  pub opposition-across : (i j : ℕ) → i < h.n → j < h.n → opposition h d i j ≡ across h d (less h.n (plus h) addition i j)
  opposition-across i j l m =
      ap (λ (z : ℕ). opposition h d z j) (sym (reaches h.n (plus h) addition i j l m))
      ∙ opposition-at (less h.n (plus h) addition i j) j (less-closed h.n (plus h) addition i j l m) m

  -- e and 0 have the difference e, within
  pub company-zero : (e : ℕ) → e < h.n → company h d e 0 ≡ within h d e
  company-zero e l = ap (λ (z : ℕ). company h d z 0) (sym (neutral-left h.n (plus h) addition e l)) ∙ company-at e 0 l some

  -- and across
  pub opposition-zero : (e : ℕ) → e < h.n → opposition h d e 0 ≡ across h d e
  opposition-zero e l = ap (λ (z : ℕ). opposition h d z 0) (sym (neutral-left h.n (plus h) addition e l)) ∙ opposition-at e 0 l some

  -- ---- 0 and any object, ∞ too: what the elements of each initial block find on their side when each in turn is taken to 0

  -- on its own side
  pub company-back : (e : ℕ) → company h d e 0 ≡ sum_ℕ h.m
      (λ q. at_zero h.n (plus h) addition e (initial_left h d q) (initial_left h d q)
      + at_zero h.n (plus h) addition e (initial_right h d q) (initial_right h d q))
  unfolding company
  company-back e = together-zero h.n h.m (plus h) addition left-developed right-developed e some

  -- and on the other
  pub opposition-back : (e : ℕ) → opposition h d e 0 ≡ sum_ℕ h.m
      (λ q. at_zero h.n (plus h) addition e (initial_left h d q) (initial_right h d q)
      + at_zero h.n (plus h) addition e (initial_right h d q) (initial_left h d q))
  unfolding opposition
  opposition-back e = against-zero h.n h.m (plus h) addition left-developed right-developed e some
