-- The column that is worked out from the numerators of an accepted job is the published one: the 50 places agree with v, since no member stands from v
-- on, and what is shared out, the parts added, is the shortfall to 100·M. Assumes nothing.
use mathlib.Core.Path.{◌≡◌, sym, ap, ap₂, ◌∙◌}
use mathlib.Core.Bool.{cond, ◌&&◌, ◌||◌}
use mathlib.Core.List.{List, [], ◌∷◌, replicate}
use Prim.Native.Nat.{ℕ, zero, suc, ◌+◌, ◌-◌, ◌*◌, ◌/◌, ◌^◌, ◌≤◌, ◌<◌}
use native.Mathlib.Nat.{mul-div_cancel}
use native.Mathlib.Omega.{arith}
use lib.Dec.{eqb, ltb}
use lib.IntN.{ℤ, pos, ◌+ℤ◌, ◌*ℤ◌}
use lib.ListN.{length}
use Rattle.algebra.specs.Ranges.{sum_ℕ}
use Rattle.algebra.specs.Buffers.{over}
use Rattle.algebra.proofs.Filling.{get_d_over}
use Rattle.algebra.proofs.Sums.{sumℕ_cong, sumℕ-more}
use Rattle.records.specs.declared.Head.{Head}
use Rattle.meaning.specs.Design.{objects}
use Rattle.meaning.specs.Analysis.{member, numerator_of, denominator_of}
use Rattle.meaning.specs.Publishing.{part, floor, nearest_hundredths, before, rank, shortfall, published}
use Rattle.laws.proofs.Chains.{Job}
use Rattle.laws.proofs.Analysis.{restraint-kept, job-denominator}
use Rattle.laws.proofs.SizesMost.{numerator-most, denominator-most}
use Rattle.laws.proofs.Column.{shortfall-parts}
use Rattle.words.proofs.Bits.{bit_past}
use Rattle.arithmetic.specs.Quotient.{below_of, hundredths_of}
use Rattle.arithmetic.proofs.Exact.{Exact, below-is, part-is, part_small, hundredths-is}
use Rattle.analysis.specs.Column.{numerator_at, part_at, part_from, parts_of, Small, parts_in, hundredths_from, column_of}

-- parts that are laid are small
pub parts-small : (numerators : List ℤ) (e : ℕ) (parts : List ℕ) → parts ≡ parts_of numerators e → Small parts
parts-small numerators e parts q = record {
  most = λ i l. omega (
    arith,
    ap (λ (p : List ℕ). part_at p i) q,
    get_d_over 50 (part_from numerators e) (replicate 50 0) 0 i l (omega arith),
    part_small
        (numerator_at numerators i) e,
  );
}

-- what is counted and added of parts that are laid is what is counted and added of the parts
module _ (numerators : List ℤ) (e : ℕ) (parts : List ℕ) (q : parts ≡ parts_of numerators e) (w : ℕ) where
  laid-at : (i : ℕ) → i < 50 → part_at parts i ≡ part_from numerators e i
  laid-at i l = ap (λ (p : List ℕ). part_at p i) q ∙ get_d_over 50 (part_from numerators e) (replicate 50 0) 0 i l (omega arith)

  pub rank-laid : (i : ℕ) → i < 50 → rank 50 w (part_at parts) i ≡ rank 50 w (part_from numerators e) i
  unfolding rank
  rank-laid i l = sumℕ_cong 50 _ _ (λ k m. ap (λ (b : ℕ). member w k * b)
      (ap₂ (λ (x y : ℕ). cond (ltb y x || eqb x y && ltb k i) 1 0) (laid-at k m) (laid-at i l)))

  pub parts-laid : parts_in (part_at parts) w ≡ parts_in (part_from numerators e) w
  unfolding parts_in
  parts-laid = sumℕ_cong 50 _ _ (λ k m. ap (λ (p : ℕ). member w k * p) (laid-at k m))

-- where nothing stands from v on, v places are enough
enough : (v k : ℕ) (f : ℕ → ℕ) → ((i : ℕ) → v ≤ i → f i ≡ 0) → sum_ℕ (v + k) f ≡ sum_ℕ v f
enough v zero f none = ap (λ (n : ℕ). sum_ℕ n f) (omega arith)
enough v (suc k) f none =
    let next : v + suc k ≡ v + k + 1 = omega arith in
    ap (λ (n : ℕ). sum_ℕ n f) next ∙ sumℕ-more (v + k) f ∙ (omega (arith, enough v k f none, none (v + k) (omega arith)))

-- over the members of w, which are below v
members_enough : (v w : ℕ) (f : ℕ → ℕ) → v ≤ 50 → w < 2 ^ v → sum_ℕ 50 (λ i. member w i * f i) ≡ sum_ℕ v (λ i. member w i * f i)
members_enough v w f l below =
    let all : 50 ≡ v + (50 - v) = omega arith in
    ap (λ (n : ℕ). sum_ℕ n (λ i. member w i * f i)) all
    ∙ enough v (50 - v) (λ i. member w i * f i) (λ i m. omega (arith, ap (λ (b : ℕ). b * f i) (bit_past v w i below m)))

-- the numbers of an accepted job are f64s exactly
pub numbers-exact : (h : Head) (d : List ℕ) (y : List ℤ) (w : ℕ) (M : ℤ) (i : ℕ) → Job h d y w M → Exact (numerator_of h d y w M i) (denominator_of h d w)
numbers-exact h d y w M i j = let s = j.measures.design in let b = j.measures.even in record {
  top = omega (arith, numerator-most h d s y j.measures.readings b w M i j.restraint.sum-most);
  above = job-denominator h d y w M j;
  bottom = omega (arith, denominator-most h d s b w);
}

module _ (h : Head) (d : List ℕ) (y : List ℤ) (w : ℕ) (M : ℤ) (j : Job h d y w M) (room numerators : List ℤ) (long : length room ≡ 50)
    (filled : numerators ≡ over (objects h) (numerator_of h d y w M) room) where
  abbrev v : ℕ
  v = objects h

  abbrev a : ℕ → ℤ
  a = numerator_of h d y w M

  abbrev e : ℕ
  e = denominator_of h d w

  few : v ≤ 50
  few = j.measures.design.sizes.objects-most

  abbrev parts : ℕ → ℕ
  parts i = part (pos 100 *ℤ a i) e

  -- what stands in the room are the numerators, and their parts
  numerator-is : (i : ℕ) → i < v → numerator_at numerators i ≡ a i
  numerator-is i l = ap (λ (n : List ℤ). numerator_at n i) filled ∙ get_d_over v a room (pos 0) i l (omega (arith, few, long))

  part-at : (i : ℕ) → i < v → part_from numerators e i ≡ parts i
  part-at i l = ap (λ (x : ℤ). part_from (x ∷ []) e 0) (numerator-is i l) ∙ part-is (a i) e (numbers-exact h d y w M i j)

  -- so the ranks agree
  rank_is : (i : ℕ) → i < v → rank 50 w (part_from numerators e) i ≡ rank v w parts i
  unfolding rank
  rank_is i l =
      members_enough v w (λ k. before (part_from numerators e) k i) few j.restraint.set-inside
      ∙ sumℕ_cong v _ _ (λ k m. ap (λ (b : ℕ). member w k * b)
      (ap₂ (λ (x y : ℕ). cond (ltb y x || eqb x y && ltb k i) 1 0) (part-at k m) (part-at i l)))

  -- and what is shared out is the shortfall
  shared-is : parts_in (part_from numerators e) w / e ≡ shortfall v w M a e
  unfolding parts_in
  shared-is =
      ap (λ (n : ℕ). n / e)
      (members_enough v w (part_from numerators e) few j.restraint.set-inside
      ∙ sumℕ_cong v _ _ (λ k m. ap (λ (p : ℕ). member w k * p) (part-at k m))
      ∙ sym (shortfall-parts v w M a e (job-denominator h d y w M j) (restraint-kept h d y w M)))
      ∙ mul-div_cancel (shortfall v w M a e) (job-denominator h d y w M j)

  -- the column's hundredths are the published ones
  pub column-published : (i : ℕ) → i < v → numerator_at (column_of numerators e w) i ≡ published h d y w M i
  unfolding published
  column-published i l =
      get_d_over 50 (hundredths_from numerators e w) (replicate 50 (pos 0)) (pos 0) i (omega (arith, few)) (omega arith)
      ∙ (λ k. cond (eqb (member w i) 1) (below k +ℤ pos (cond (ltb (rank_is i l k) (shared-is k)) 1 0)) (nearest k))
    where
      exactly : Exact (a i) e
      exactly = numbers-exact h d y w M i j

      below : below_of (numerator_at numerators i) e ≡ floor (pos 100 *ℤ a i) e
      below = ap (λ (x : ℤ). below_of x e) (numerator-is i l) ∙ below-is (a i) e exactly

      nearest : hundredths_of (numerator_at numerators i) e ≡ nearest_hundredths (a i) e
      nearest = ap (λ (x : ℤ). hundredths_of x e) (numerator-is i l) ∙ hundredths-is (a i) e exactly
