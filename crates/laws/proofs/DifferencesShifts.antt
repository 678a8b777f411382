-- Sums over the n shifts of a list. An element is taken to a given place by one shift, so a sum over the shifts is a sum over the elements.
--     pairs_by_shifts    how often the shifts of two lists hold j + e and j: as often as e is a difference of theirs
--     fixed_by_shifts    how often they hold i and ∞
--     zero_by_shifts     how often they hold any object and 0: at the shifts that take an element to 0
--     elements-next      a sum over the elements, one byte more
-- Assumes nothing.
use mathlib.Core.Path.{◌≡◌, refl, sym, ◌∙◌, ap, ap₂}
use mathlib.Core.Bool.{Bool, true, false, cond}
use mathlib.Core.List.{List, [], ◌∷◌, map}
use Prim.Native.Nat.{ℕ, zero, suc, ◌+◌, ◌*◌, ◌≤◌, ◌<◌}
use native.Mathlib.Nat.{suc-add, le_of_suc-le-suc, not-suc-le-zero}
use native.Mathlib.Omega.{arith}
use native.Mathlib.Decide.{ℕ_discrete}
use lib.Dec.{eqb}
use lib.ListN.{length, get_or, take}
use borrow.Author.Tests.{eq-eqb, ne_eqb}
use Rattle.algebra.specs.Ranges.{sum_ℕ}
use Rattle.algebra.proofs.Sums.{sumℕ_cong, sumℕ_add, sumℕ-zero, sumℕ_only}
use Rattle.meaning.specs.Design.{occ}
use Rattle.laws.proofs.Occurrences.{Each, each-head, each_tail, occ-map}
use Rattle.algebra.specs.Groups.{Group}
use Rattle.laws.specs.Differences.{over_elements, elements, arises}
use Rattle.algebra.proofs.Groups.{less, less-closed, reaches, same_shift, same_place, carries}

-- the byte x names an element or ∞
abbrev pub Named : ℕ → ℕ → Type 0
Named n x = (x ≡ 255 → ⊥) → x < n

-- the object that x names at shift s
abbrev pub shifted : ℕ → (ℕ → ℕ → ℕ) → ℕ → ℕ → ℕ
shifted n add s x = cond (eqb x 255) n (add x s)

-- ---- sums over the elements of a list

-- equal terms make equal sums
pub elements-alike : (n : ℕ) (f f' : ℕ → ℕ) (xs : List ℕ) → Each (Named n) xs → ((x : ℕ) → x < n → f x ≡ f' x) →
    over_elements f xs ≡ over_elements f' xs
unfolding over_elements
elements-alike n f f' [] o e = refl
elements-alike n f f' (x ∷ xs) o e = ap₂ ◌+◌ (go (ℕ_discrete x 255)) (elements-alike n f f' xs (each_tail (Named n) x xs o) e)
  where
    go : Dec (x ≡ 255) → cond (eqb x 255) 0 (f x) ≡ cond (eqb x 255) 0 (f' x)
    go (yes q) = ap (λ (t : Bool). cond t 0 (f x)) (eq-eqb x 255 q) ∙ sym (ap (λ (t : Bool). cond t 0 (f' x)) (eq-eqb x 255 q))
    go (no q) = ap (λ (z : ℕ). cond (eqb x 255) 0 z) (e x (each-head (Named n) x xs o q))

-- the same number for each element
pub elements_same : (c : ℕ) (xs : List ℕ) → over_elements (λ x. c) xs ≡ c * elements xs
unfolding over_elements
elements_same c [] = omega arith
elements_same c (x ∷ xs) = omega (arith, elements_same c xs, go (eqb x 255))
  where
    go : (t : Bool) → cond t 0 c ≡ c * cond t 0 1
    go true = omega arith
    go false = omega arith

-- one byte more
pub elements-next : (f : ℕ → ℕ) (xs : List ℕ) (i : ℕ) → i < length xs →
    over_elements f (take (i + 1) xs) ≡ over_elements f (take i xs) + cond (eqb (get_or xs i 0) 255) 0 (f (get_or xs i 0))
unfolding over_elements
elements-next f [] i l = absurd (not-suc-le-zero l)
elements-next f (x ∷ xs) zero l = omega arith
elements-next f (x ∷ xs) (suc i) l =
    ap (λ (k : ℕ). over_elements f (take k (x ∷ xs))) (suc-add i 1) ∙ omega (arith, elements-next f xs i (le_of_suc-le-suc l))

-- two numbers in either order
swap : (a b : ℕ) → a * b ≡ b * a
swap a b = omega arith

-- ---- sums over the shifts
module _ (n : ℕ) (add : ℕ → ℕ → ℕ) (g : Group n add) where
  -- how often e stands in xs at the shifts that take an element of ys to 0
  abbrev pub at_zero : ℕ → List ℕ → List ℕ → ℕ
  at_zero e xs ys = over_elements (λ y. occ e (map (shifted n add (less n add g 0 y)) xs)) ys

  -- ∞ stays
  stays : (s x : ℕ) → x ≡ 255 → shifted n add s x ≡ n
  stays s x e = ap (λ (t : Bool). cond t n (add x s)) (eq-eqb x 255 e)

  -- an element is moved
  moves : (s x : ℕ) → (x ≡ 255 → ⊥) → shifted n add s x ≡ add x s
  moves s x e = ap (λ (t : Bool). cond t n (add x s)) (ne_eqb x 255 e)

  -- two bytes are moved to two objects
  shifted_injective : (s : ℕ) → s < n → (x y : ℕ) → Named n x → Named n y → shifted n add s x ≡ shifted n add s y → x ≡ y
  shifted_injective s l x y o u q = go (ℕ_discrete x 255) (ℕ_discrete y 255)
    where
      go : Dec (x ≡ 255) → Dec (y ≡ 255) → x ≡ y
      go (yes e) (yes f) = omega arith
      go (yes e) (no f) = omega (arith, stays s x e, moves s y f, g.closed y s (u f) l)
      go (no e) (yes f) = omega (arith, stays s y f, moves s x e, g.closed x s (o e) l)
      go (no e) (no f) = same_place n add g x y s (o e) (u f) l (sym (moves s x e) ∙ q ∙ moves s y f)

  -- of the shifts, the one that takes x to i
  one_shift : (F : ℕ → ℕ) (i x : ℕ) → i < n → Named n x →
      sum_ℕ n (λ s. cond (eqb i (shifted n add s x)) 1 0 * F s) ≡ cond (eqb x 255) 0 (F (less n add g i x))
  one_shift F i x l o = go (ℕ_discrete x 255)
    where
      miss : (s : ℕ) → (i ≡ shifted n add s x → ⊥) → cond (eqb i (shifted n add s x)) 1 0 * F s ≡ 0
      miss s q = ap (λ (t : Bool). cond t 1 0 * F s) (ne_eqb i (shifted n add s x) q) ∙ omega arith

      hit : (s : ℕ) → i ≡ shifted n add s x → cond (eqb i (shifted n add s x)) 1 0 * F s ≡ F s
      hit s q = ap (λ (t : Bool). cond t 1 0 * F s) (eq-eqb i (shifted n add s x) q) ∙ omega arith

      go : Dec (x ≡ 255) → sum_ℕ n (λ s. cond (eqb i (shifted n add s x)) 1 0 * F s) ≡ cond (eqb x 255) 0 (F (less n add g i x))
      go (yes e) =
          sumℕ-zero n _ (λ s m. miss s (λ q. omega (arith, stays s x e)))
          ∙ sym (ap (λ (t : Bool). cond t 0 (F (less n add g i x))) (eq-eqb x 255 e))
      go (no e) =
          let c = less-closed n add g i x l (o e) in
          sumℕ_only n (less n add g i x) _ c
          (λ s m q. miss s (λ z. q (same_shift n add g x (less n add g i x) s (o e) c m (reaches n add g i x l (o e) ∙ z ∙ moves s x e))))
          ∙ hit (less n add g i x) (sym (moves (less n add g i x) x e ∙ reaches n add g i x l (o e)))
          ∙ sym (ap (λ (t : Bool). cond t 0 (F (less n add g i x))) (ne_eqb x 255 e))

  -- a sum over the shifts, each as often as it takes an element of xs to i, is a sum over the elements of xs
  pub by_elements : (F : ℕ → ℕ) (i : ℕ) (xs : List ℕ) → i < n → Each (Named n) xs →
      sum_ℕ n (λ s. occ i (map (shifted n add s) xs) * F s) ≡ over_elements (λ x. F (less n add g i x)) xs
  unfolding occ over_elements
  by_elements F i [] l o = sumℕ-zero n _ (λ s m. omega arith)
  by_elements F i (x ∷ xs) l o =
      sumℕ_cong n _ _ (λ s m. apart (cond (eqb i (shifted n add s x)) 1 0) (occ i (map (shifted n add s) xs)) (F s))
      ∙ sumℕ_add n (λ s. cond (eqb i (shifted n add s x)) 1 0 * F s) (λ s. occ i (map (shifted n add s) xs) * F s)
      ∙ ap₂ ◌+◌ (one_shift F i x l (each-head (Named n) x xs o)) (by_elements F i xs l (each_tail (Named n) x xs o))
    where
      apart : (a b c : ℕ) → (a + b) * c ≡ a * c + b * c
      apart a b c = omega arith

  -- at the shift that takes y to j, j + e stands as often as y + e did
  at_shift : (e j y : ℕ) (xs : List ℕ) → n ≤ 255 → e < n → j < n → y < n → Each (Named n) xs →
      occ (add j e) (map (shifted n add (less n add g j y)) xs) ≡ occ (add y e) xs
  at_shift e j y xs few l m o u =
      let c = less-closed n add g j y m o in
      let d = g.closed y e o l in
      ap (λ (z : ℕ). occ z (map (shifted n add (less n add g j y)) xs))
      (sym (moves (less n add g j y) (add y e) (λ q. omega arith) ∙ carries n add g y e j o l m))
      ∙ occ-map (Named n) (shifted n add (less n add g j y)) (shifted_injective (less n add g j y) c) (add y e) xs (λ q. d) u

  -- ∞ stands as often as it did
  fixed_stays : (s : ℕ) (xs : List ℕ) → s < n → Each (Named n) xs → occ n (map (shifted n add s) xs) ≡ occ 255 xs
  fixed_stays s xs l o =
      ap (λ (z : ℕ). occ z (map (shifted n add s) xs)) (sym (stays s 255 refl))
      ∙ occ-map (Named n) (shifted n add s) (shifted_injective s l) 255 xs (λ q. absurd (q refl)) o

  module _ (xs ys : List ℕ) (xs-named : Each (Named n) xs) (ys-named : Each (Named n) ys) where
    -- j + e in a shift of xs and j in the same shift of ys, over all shifts: as often as e is a difference
    pub pairs_by_shifts : (e j : ℕ) → n ≤ 255 → e < n → j < n →
        sum_ℕ n (λ s. occ (add j e) (map (shifted n add s) xs) * occ j (map (shifted n add s) ys)) ≡ arises add e xs ys
    pairs_by_shifts e j few l m =
        sumℕ_cong n _ _ (λ s o. swap (occ (add j e) (map (shifted n add s) xs)) (occ j (map (shifted n add s) ys)))
        ∙ by_elements (λ s. occ (add j e) (map (shifted n add s) xs)) j ys m ys-named
        ∙ elements-alike n _ _ ys ys-named (λ y o. at_shift e j y xs few l m o xs-named)

    -- i in a shift of xs and ∞ in the same shift of ys, over all shifts: where ∞ is in ys, as often as xs has elements
    pub fixed_by_shifts : (i : ℕ) → i < n →
        sum_ℕ n (λ s. occ i (map (shifted n add s) xs) * occ n (map (shifted n add s) ys)) ≡ occ 255 ys * elements xs
    fixed_by_shifts i l =
        sumℕ_cong n _ _ (λ s o. ap (λ (z : ℕ). occ i (map (shifted n add s) xs) * z) (fixed_stays s ys o ys-named))
        ∙ by_elements (λ s. occ 255 ys) i xs l xs-named
        ∙ elements_same (occ 255 ys) xs

    -- any object in a shift of xs and 0 in the same shift of ys, over all shifts: of the shifts, those that take an element of ys to 0
    pub zero_by_shifts : (e : ℕ) → 0 < n →
        sum_ℕ n (λ s. occ e (map (shifted n add s) xs) * occ 0 (map (shifted n add s) ys)) ≡ at_zero e xs ys
    zero_by_shifts e l =
        sumℕ_cong n _ _ (λ s o. swap (occ e (map (shifted n add s) xs)) (occ 0 (map (shifted n add s) ys)))
        ∙ by_elements (λ s. occ e (map (shifted n add s) xs)) 0 ys l ys-named
