-- How often a number stands in a list: of elements below v the counts add to the length; a map that is injective on them changes no count; a list
-- without repeats has every number at most once. Assumes nothing.
use mathlib.Core.Path.{◌≡◌, refl, sym, ◌∙◌, ap, ap₂}
use mathlib.Core.Bool.{Bool, cond}
use mathlib.Core.List.{List, [], ◌∷◌, ◌++◌, map}
use Prim.Native.Nat.{ℕ, zero, suc, ◌+◌, ◌≤◌, ◌<◌}
use native.Mathlib.Nat.{zero-add}
use native.Mathlib.Omega.{arith}
use native.Mathlib.Decide.{ℕ_discrete}
use lib.ListN.{length, get_or, take}
use lib.Dec.{eqb}
use lib.IntN.{ℤ, pos, ◌+ℤ◌, ◌*ℤ◌, zero-*ℤ}
use borrow.Author.Tests.{eq-eqb, ne_eqb}
use Rattle.algebra.specs.Ranges.{sum, sum_ℕ}
use Rattle.algebra.proofs.Ring.{distrib_r, one-*ℤ}
use Rattle.algebra.proofs.Sums.{sum_ext, sum_add, sum-zero, sum_only, sumℕ_add, sumℕ_const, sumℕ_only}
use Rattle.meaning.specs.Design.{occ}
use Rattle.meaning.specs.Analysis.{along}

-- every element of the list has P
abbrev pub Each : (ℕ → Type 0) → List ℕ → Type 0
Each P xs = (i : ℕ) → i < length xs → P (get_or xs i 0)

-- so has its first
pub each-head : (P : ℕ → Type 0) (x : ℕ) (xs : List ℕ) → Each P (x ∷ xs) → P x
each-head P x xs h = h 0 (omega arith)

-- and so have the others
pub each_tail : (P : ℕ → Type 0) (x : ℕ) (xs : List ℕ) → Each P (x ∷ xs) → Each P xs
each_tail P x xs h i l = h (suc i) (omega arith)

-- what a map makes of P, every element of the image has
pub each_map : (P Q : ℕ → Type 0) (f : ℕ → ℕ) (xs : List ℕ) → ((x : ℕ) → P x → Q (f x)) → Each P xs → Each Q (map f xs)
each_map P Q f [] g h i l = absurd (none i l)
  where
    none : (i : ℕ) → i < 0 → ⊥
    none i l = omega arith
each_map P Q f (x ∷ xs) g h zero l = g x (each-head P x xs h)
each_map P Q f (x ∷ xs) g h (suc i) l = each_map P Q f xs g (each_tail P x xs h) i (omega arith)

-- ---- one element

-- the first element is counted
pub occ-same : (x y : ℕ) (ys : List ℕ) → x ≡ y → occ x (y ∷ ys) ≡ 1 + occ x ys
unfolding occ
occ-same x y ys e = ap (λ (t : Bool). cond t 1 0 + occ x ys) (eq-eqb x y e)

-- another is not
pub occ-other : (x y : ℕ) (ys : List ℕ) → (x ≡ y → ⊥) → occ x (y ∷ ys) ≡ occ x ys
unfolding occ
occ-other x y ys e = ap (λ (t : Bool). cond t 1 0 + occ x ys) (ne_eqb x y e) ∙ zero-add (occ x ys)

-- a longer list has no fewer
pub occ_grows : (x y : ℕ) (ys : List ℕ) → occ x ys ≤ occ x (y ∷ ys)
unfolding occ
occ_grows x y ys = omega arith

-- the counts of two lists add
pub occ-append : (x : ℕ) (xs ys : List ℕ) → occ x (xs ++ ys) ≡ occ x xs + occ x ys
unfolding occ
occ-append x [] ys = sym (zero-add (occ x ys))
occ-append x (y ∷ xs) ys = omega (arith, occ-append x xs ys)

-- ---- every element below v

-- one place is counted once
pub one_place : (v x : ℕ) → x < v → sum_ℕ v (λ i. cond (eqb i x) 1 0) ≡ 1
one_place v x l =
    sumℕ_only v x (λ i. cond (eqb i x) 1 0) l (λ j m q. ap (λ (t : Bool). cond t 1 0) (ne_eqb j x (λ e. q (sym e))))
    ∙ ap (λ (t : Bool). cond t 1 0) (eq-eqb x x refl)

-- the counts add to the length
pub occ-total : (v : ℕ) (xs : List ℕ) → Each (λ x. x < v) xs → sum_ℕ v (λ i. occ i xs) ≡ length xs
unfolding occ
occ-total v [] h = sumℕ_const v 0 ∙ omega arith
occ-total v (x ∷ xs) h =
    sumℕ_add v (λ i. cond (eqb i x) 1 0) (λ i. occ i xs)
    ∙ omega (arith, one_place v x (each-head (λ x. x < v) x xs h), occ-total v xs (each_tail (λ x. x < v) x xs h))

-- the sum over the list is the sum over the objects, each as often as it stands there
pub along-occ : (v : ℕ) (f : ℕ → ℤ) (xs : List ℕ) → Each (λ x. x < v) xs → along f xs ≡ sum v (λ i. pos (occ i xs) *ℤ f i)
unfolding along occ
along-occ v f [] h = sym (sum_ext v _ (λ i. pos 0) (λ i. zero-*ℤ (f i)) ∙ sum-zero v)
along-occ v f (x ∷ xs) h = sym (sum_ext v _ _ (λ i. distrib_r (pos (cond (eqb i x) 1 0)) (pos (occ i xs)) (f i)) ∙ sum_add v _ _
    ∙ ap₂ ◌+ℤ◌ here (sym (along-occ v f xs (each_tail (λ x. x < v) x xs h))))
  where
    here : sum v (λ i. pos (cond (eqb i x) 1 0) *ℤ f i) ≡ f x
    here =
        sum_only v x (λ i. pos (cond (eqb i x) 1 0) *ℤ f i) (each-head (λ x. x < v) x xs h)
        (λ j m q. ap (λ (t : Bool). pos (cond t 1 0) *ℤ f j) (ne_eqb j x (λ e. q (sym e))) ∙ zero-*ℤ (f j))
        ∙ ap (λ (t : Bool). pos (cond t 1 0) *ℤ f x) (eq-eqb x x refl) ∙ one-*ℤ (f x)

-- ---- lists without repeats

-- an element stands in every part of the list that reaches past it
pub occ-here : (xs : List ℕ) (a c : ℕ) → a < c → c ≤ length xs → 1 ≤ occ (get_or xs a 0) (take c xs)
occ-here [] a c l m = absurd (none a c l m)
  where
    none : (a c : ℕ) → a < c → c ≤ 0 → ⊥
    none a c l m = omega arith
occ-here (x ∷ xs) a zero l m = absurd (none a l)
  where
    none : (a : ℕ) → a < 0 → ⊥
    none a l = omega arith
occ-here (x ∷ xs) zero (suc c) l m = omega (arith, occ-same x x (take c xs) refl)
occ-here (x ∷ xs) (suc a) (suc c) l m = omega (arith, occ-here xs a c (omega arith) (omega arith), occ_grows (get_or xs a 0) x (take c xs))

-- what is no element is not counted
pub occ_absent : (x : ℕ) (xs : List ℕ) → ((c : ℕ) → c < length xs → get_or xs c 0 ≡ x → ⊥) → occ x xs ≡ 0
unfolding occ
occ_absent x [] h = refl
occ_absent x (y ∷ ys) h = occ-other x y ys (λ e. h 0 (omega arith) (sym e)) ∙ occ_absent x ys (λ c l e. h (suc c) (omega arith) e)

-- where no two elements are the same, every number stands there at most once
pub distinct_once : (x : ℕ) (xs : List ℕ) → ((a c : ℕ) → a < c → c < length xs → get_or xs a 0 ≡ get_or xs c 0 → ⊥) → occ x xs ≤ 1
unfolding occ
distinct_once x [] h = omega arith
distinct_once x (y ∷ ys) h = go (ℕ_discrete x y) (distinct_once x ys (λ a c l m e. h (suc a) (suc c) (omega arith) (omega arith) e))
  where
    go : Dec (x ≡ y) → occ x ys ≤ 1 → occ x (y ∷ ys) ≤ 1
    go (yes e) ih = omega (arith, occ-same x y ys e, occ_absent x ys (λ c l q. h 0 (suc c) (omega arith) (omega arith) (sym e ∙ sym q)))
    go (no e) ih = omega (arith, occ-other x y ys e)

-- where no element stands among those before it, every number stands there at most once
pub fresh_once : (x : ℕ) (xs : List ℕ) → ((c : ℕ) → c < length xs → occ (get_or xs c 0) (take c xs) ≡ 0) → occ x xs ≤ 1
fresh_once x xs h = distinct_once x xs (λ a c l m e. clash a c l m e)
  where
    clash : (a c : ℕ) → a < c → c < length xs → get_or xs a 0 ≡ get_or xs c 0 → ⊥
    clash a c l m e = omega (arith, occ-here xs a c l (omega arith), h c m, ap (λ (z : ℕ). occ z (take c xs)) e)

-- ---- the image under a map that is injective on P
module _ (P : ℕ → Type 0) (f : ℕ → ℕ) (inj : (x y : ℕ) → P x → P y → f x ≡ f y → x ≡ y) where
  -- an element's image stands there as often as the element did
  pub occ-map : (x : ℕ) (xs : List ℕ) → P x → Each P xs → occ (f x) (map f xs) ≡ occ x xs
  unfolding occ
  occ-map x [] p h = refl
  occ-map x (y ∷ ys) p h = go (ℕ_discrete x y) (occ-map x ys p (each_tail P y ys h))
    where
      go : Dec (x ≡ y) → occ (f x) (map f ys) ≡ occ x ys → occ (f x) (f y ∷ map f ys) ≡ occ x (y ∷ ys)
      go (yes e) ih = occ-same (f x) (f y) (map f ys) (ap f e) ∙ ap (λ (k : ℕ). 1 + k) ih ∙ sym (occ-same x y ys e)
      go (no e) ih = occ-other (f x) (f y) (map f ys) (λ q. e (inj x y p (each-head P y ys h) q)) ∙ ih ∙ sym (occ-other x y ys e)

  -- the image of a list without repeats has none
  pub occ-once : (i : ℕ) (xs : List ℕ) → Each P xs → ((x : ℕ) → occ x xs ≤ 1) → occ i (map f xs) ≤ 1
  unfolding occ
  occ-once i [] h o = omega arith
  occ-once i (y ∷ ys) h o = go (ℕ_discrete i (f y)) (occ-once i ys (each_tail P y ys h) (λ x. omega (arith, o x, occ_grows x y ys)))
    where
      go : Dec (i ≡ f y) → occ i (map f ys) ≤ 1 → occ i (f y ∷ map f ys) ≤ 1
      go (yes e) ih = omega (
        arith,
        occ-same i (f y) (map f ys) e,
        ap (λ (k : ℕ). occ k (map f ys)) e,
        occ-map y ys (each-head P y ys h) (each_tail P y ys h),
        occ-same y y ys refl,
        o y,
      )
      go (no e) ih = omega (arith, occ-other i (f y) (map f ys) e)
