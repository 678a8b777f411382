-- The blocks of a sound design: p objects on each side, none twice in a block. The initial blocks have no byte twice, and a shift moves two bytes of
-- them to two objects.
--     in_range_lem, initial-once                what no offending byte means
--     left-objects, right-objects           the objects of a side are below v
--     block-left, block-right, block-once   a block has p objects on each side, and none twice
-- Of the addition it takes `plus-closed` and `plus_injective` alone. Assumes nothing.
use mathlib.Core.Path.{◌≡◌, refl, sym, ◌∙◌, ap, ap₂, subst}
use mathlib.Core.Bool.{Bool, true, false, cond, not, ◌||◌, false≢true}
use mathlib.Core.List.{List, ◌++◌, map, map-append}
use Prim.Native.Nat.{ℕ, zero, suc, ◌+◌, ◌-◌, ◌*◌, ◌/◌, ◌%◌, ◌≤◌, ◌<◌}
use native.Mathlib.Nat.{mod-lt, div-lt_iff_lt-mul, mul-le-mul_left}
use native.Mathlib.Omega.{arith}
use native.Mathlib.Decide.{ℕ_discrete}
use lib.Arith.{digits_mod}
use lib.ListN.{length, get_or, take, drop, length-drop, length-map}
use lib.Seq.{length-take-le, get_or-take, get_or-drop, take-add, take-take, drop-drop}
use lib.Dec.{ltb}
use borrow.Author.Tests.{eq-eqb, ne_eqb, eqb-true, ltb-true, ltb-false, not-false}
use Rattle.algebra.specs.Ranges.{sum_ℕ}
use Rattle.algebra.proofs.Tests.{first-before}
use Rattle.records.specs.declared.Head.{Head}
use Rattle.meaning.specs.Design.{objects, with_fixed, has_addition, blocks, occ, plus, moved, left, right}
use Rattle.meaning.specs.Refusals.{in_range, offends, offender}
use Rattle.meaning.proofs.Addition.{plus-closed, plus_injective}
use Rattle.laws.proofs.Chains.{Sound}
use Rattle.laws.proofs.Occurrences.{Each, each_map, occ-append, occ-total, fresh_once, occ-once}

-- ---- no byte offends

-- of two tests of which neither holds, the first does not
pub neither_left : (a b : Bool) → a || b ≡ false → a ≡ false
neither_left true b e = absurd (false≢true (sym e))
neither_left false b e = refl

-- nor does the second
pub neither_right : (a b : Bool) → a || b ≡ false → b ≡ false
neither_right true b e = absurd (false≢true (sym e))
neither_right false b e = e

-- the bytes of initial block j
abbrev pub initial : Head → List ℕ → ℕ → List ℕ
initial h d j = take (2 * h.p) (drop (2 * h.p * j) d)

-- a part of a block list that lies in it has its length
pub part_length : (d : List ℕ) (a len : ℕ) → a + len ≤ length d → length (take len (drop a d)) ≡ len
part_length d a len l = length-take-le len (drop a d) (omega (arith, length-drop a d))

-- byte i of a part is byte a + i of the list
pub part_byte : (d : List ℕ) (a len i : ℕ) → i < len → get_or (take len (drop a d)) i 0 ≡ get_or d (a + i) 0
part_byte d a len i l = get_or-take len (drop a d) i 0 l ∙ get_or-drop a d i 0

-- where no byte stands among those before it in its block of q bytes, none stands twice in a block
pub block_fresh : (q : ℕ) (d : List ℕ) → ((i : ℕ) → i < length d → occ (get_or d i 0) (take (i % q) (drop (i - i % q) d)) ≡ 0) → (j x : ℕ) →
    q * j + q ≤ length d → occ x (take q (drop (q * j) d)) ≤ 1
block_fresh q d none j x fits =
    fresh_once x (take q (drop (q * j) d)) (λ c m. fresh c (subst (λ (z : ℕ). c < z) (part_length d (q * j) q fits) m))
  where
    fresh : (c : ℕ) → c < q → occ (get_or (take q (drop (q * j) d)) c 0) (take c (take q (drop (q * j) d))) ≡ 0
    fresh c m =
        ap₂ occ (part_byte d (q * j) q c m)
        (take-take c q (drop (q * j) d) (omega arith) ∙ ap₂ (λ (a b : ℕ). take a (drop b d)) (sym place) start)
        ∙ none (q * j + c) (omega arith)
      where
        place : (q * j + c) % q ≡ c
        place = ap (λ (z : ℕ). (z + c) % q) (turn q j) ∙ digits_mod j m
          where
            turn : (a b : ℕ) → a * b ≡ b * a
            turn a b = omega arith

        start : q * j ≡ q * j + c - (q * j + c) % q
        start = omega (arith, place)

module _ (h : Head) (d : List ℕ) (s : Sound h d) where
  -- no byte of a sound design offends
  offends-not : (i : ℕ) → i < length d → offends h d i ≡ false
  unfolding offender
  offends-not i l = first-before (offends h d) 0 (length d) i (omega arith) (subst (λ (x : ℕ). i < x) (sym s.clean) l)

  -- every byte is in range
  pub in_range_lem : (i : ℕ) → i < length d → in_range h (get_or d i 0) ≡ true
  in_range_lem i l = not-false (in_range h (get_or d i 0)) (neither_left (not (in_range h (get_or d i 0))) _ (offends-not i l))

  -- no byte stands among those before it in its initial block
  pub not-before : (i : ℕ) → i < length d → occ (get_or d i 0) (take (i % (2 * h.p)) (drop (i - i % (2 * h.p)) d)) ≡ 0
  not-before i l =
      let z = ltb-false 0 (occ (get_or d i 0) (take (i % (2 * h.p)) (drop (i - i % (2 * h.p)) d)))
      (neither_right (not (in_range h (get_or d i 0))) _ (offends-not i l)) in
      omega (arith, z)

  -- an initial block lies in the list
  initial_fits : (j : ℕ) → j < h.m → 2 * h.p * j + 2 * h.p ≤ length d
  initial_fits j l = omega (arith, s.long, mul-le-mul_left (2 * h.p) l)

  -- no byte stands twice in an initial block
  pub initial-once : (j x : ℕ) → j < h.m → occ x (initial h d j) ≤ 1
  initial-once j x l = block_fresh (2 * h.p) d not-before j x (initial_fits j l)

  -- the bytes of a part are in range
  pub part_range : (a len : ℕ) → a + len ≤ length d → Each (λ x. in_range h x ≡ true) (take len (drop a d))
  part_range a len l i m =
      let m' : i < len = omega (arith, part_length d a len l) in
      subst (λ (x : ℕ). in_range h x ≡ true) (sym (part_byte d a len i m')) (in_range_lem (a + i) (omega arith))

-- ---- a byte in range is moved to an object, and two bytes to two
module _ (h : Head) (s : ℕ) (ad : has_addition h ≡ true) (sl : s < h.n) where
  -- a byte in range that is not 255 is an element
  pub element : (x : ℕ) → (x ≡ 255 → ⊥) → in_range h x ≡ true → x < h.n
  element x e t = ltb-true x h.n (subst (λ (u : Bool). cond u (with_fixed h) (ltb x h.n) ≡ true) (ne_eqb x 255 e) t)

  -- where 255 is in range the fixed object takes part
  fixed_there : (x : ℕ) → x ≡ 255 → in_range h x ≡ true → h.flag % 2 ≡ 1
  fixed_there x e t = eqb-true (h.flag % 2) 1 (subst (λ (u : Bool). cond u (with_fixed h) (ltb x h.n) ≡ true) (eq-eqb x 255 e) t)

  -- 255 stays the fixed object
  pub moved_fixed : (x : ℕ) → x ≡ 255 → moved h s x ≡ h.n
  moved_fixed x e = ap (λ (u : Bool). cond u h.n (plus h x s)) (eq-eqb x 255 e)

  -- another byte is moved by the shift
  pub moved_other : (x : ℕ) → (x ≡ 255 → ⊥) → moved h s x ≡ plus h x s
  moved_other x e = ap (λ (u : Bool). cond u h.n (plus h x s)) (ne_eqb x 255 e)

  -- a byte in range is moved to an object
  pub moved_range : (x : ℕ) → in_range h x ≡ true → moved h s x < objects h
  moved_range x t = go (ℕ_discrete x 255)
    where
      go : Dec (x ≡ 255) → moved h s x < objects h
      go (yes e) = omega (arith, moved_fixed x e, fixed_there x e t)
      go (no e) = omega (arith, moved_other x e, plus-closed h ad x s (element x e t) sl)

  -- two bytes in range are moved to two objects
  pub moved_injective : (x y : ℕ) → in_range h x ≡ true → in_range h y ≡ true → moved h s x ≡ moved h s y → x ≡ y
  moved_injective x y t u q = go (ℕ_discrete x 255) (ℕ_discrete y 255)
    where
      go : Dec (x ≡ 255) → Dec (y ≡ 255) → x ≡ y
      go (yes e) (yes f) = omega arith
      go (yes e) (no f) = omega (arith, moved_fixed x e, moved_other y f, plus-closed h ad y s (element y f u) sl)
      go (no e) (yes f) = omega (arith, moved_fixed y f, moved_other x e, plus-closed h ad x s (element x e t) sl)
      go (no e) (no f) = plus_injective h ad x y s (element x e t) (element y f u) sl (sym (moved_other x e) ∙ q ∙ moved_other y f)

-- ---- the place of a block: initial block and shift

-- where there is a block there is an element
pub some_shift : (h : Head) (k : ℕ) → k < blocks h → 0 < h.n
some_shift h k l = go h.n l
  where
    go : (n : ℕ) → k < h.m * n → 0 < n
    go zero l = omega (arith, l)
    go (suc n) l = omega arith

-- its shift is one
pub shift_below : (h : Head) (k : ℕ) → k < blocks h → k % h.n < h.n
shift_below h k l = mod-lt k (some_shift h k l)

-- its initial block is one
pub initial-below : (h : Head) (k : ℕ) → k < blocks h → k / h.n < h.m
initial-below h k l = (div-lt_iff_lt-mul (some_shift h k l)).1 l

module _ (h : Head) (d : List ℕ) (s : Sound h d) (k : ℕ) (l : k < blocks h) where
  -- the initial block of block k lies in the list
  inside : 2 * h.p * (k / h.n) + 2 * h.p ≤ length d
  inside = initial_fits h d s (k / h.n) (initial-below h k l)

  -- the objects of the left are below v
  pub left-objects : Each (λ x. x < objects h) (left h d k)
  unfolding left
  left-objects = each_map (λ x. in_range h x ≡ true) (λ x. x < objects h) (moved h (k % h.n)) (take h.p (drop (2 * h.p * (k / h.n)) d))
      (moved_range h (k % h.n) s.sizes.has_addition_lem (shift_below h k l))
      (part_range h d s (2 * h.p * (k / h.n)) h.p (omega (arith, inside)))

  -- so are those of the right
  pub right-objects : Each (λ x. x < objects h) (right h d k)
  unfolding right
  right-objects = each_map (λ x. in_range h x ≡ true) (λ x. x < objects h) (moved h (k % h.n)) (take h.p (drop (2 * h.p * (k / h.n) + h.p) d))
      (moved_range h (k % h.n) s.sizes.has_addition_lem (shift_below h k l))
      (part_range h d s (2 * h.p * (k / h.n) + h.p) h.p (omega (arith, inside)))

  -- the left has p objects
  pub left-length : length (left h d k) ≡ h.p
  unfolding left
  left-length = length-map (take h.p (drop (2 * h.p * (k / h.n)) d)) (moved h (k % h.n))
      ∙ part_length d (2 * h.p * (k / h.n)) h.p (omega (arith, inside))

  -- so has the right
  pub right-length : length (right h d k) ≡ h.p
  unfolding right
  right-length = length-map (take h.p (drop (2 * h.p * (k / h.n) + h.p) d)) (moved h (k % h.n))
      ∙ part_length d (2 * h.p * (k / h.n) + h.p) h.p (omega (arith, inside))

  -- the two sides are the initial block, moved
  pub block-halves : left h d k ++ right h d k ≡ map (moved h (k % h.n)) (initial h d (k / h.n))
  unfolding left right
  block-halves =
      sym (map-append (moved h (k % h.n)) (take h.p (drop (2 * h.p * (k / h.n)) d)) (take h.p (drop (2 * h.p * (k / h.n) + h.p) d)))
      ∙ ap (map (moved h (k % h.n))) (
      ap (λ (xs : List ℕ). take h.p (drop (2 * h.p * (k / h.n)) d) ++ take h.p xs) (sym (drop-drop h.p (2 * h.p * (k / h.n)) d))
      ∙ sym (take-add h.p h.p (drop (2 * h.p * (k / h.n)) d))
      ∙ ap (λ (q : ℕ). take q (drop (2 * h.p * (k / h.n)) d)) (double h.p))
    where
      double : (p : ℕ) → p + p ≡ 2 * p
      double p = omega arith

  -- the objects stand on the left p times in all
  pub block-left : sum_ℕ (objects h) (λ i. occ i (left h d k)) ≡ h.p
  block-left = occ-total (objects h) (left h d k) left-objects ∙ left-length

  -- and on the right
  pub block-right : sum_ℕ (objects h) (λ i. occ i (right h d k)) ≡ h.p
  block-right = occ-total (objects h) (right h d k) right-objects ∙ right-length

  -- no object stands twice in a block, be it on one side or on both
  pub block-once : (i : ℕ) → occ i (left h d k) + occ i (right h d k) ≤ 1
  block-once i = subst (λ (z : ℕ). z ≤ 1) (ap (occ i) (sym block-halves) ∙ occ-append i (left h d k) (right h d k))
      (occ-once (λ x. in_range h x ≡ true) (moved h (k % h.n)) (moved_injective h (k % h.n) s.sizes.has_addition_lem (shift_below h k l)) i
      (initial h d (k / h.n))
      (part_range h d s (2 * h.p * (k / h.n)) (2 * h.p) inside) (λ x. initial-once h d s (k / h.n) x (initial-below h k l)))
