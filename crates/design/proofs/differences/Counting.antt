-- What a loop over the bytes of a side counts, a byte at a time, and what the counts of all initial blocks come to.
--     counted_next    one object more
--     met_next        one element more, which is taken to 0
--     company-row, opposition-row    all initial blocks counted are the rows of object 0
-- Assumes nothing.
use Prim.Native.Nat.{ℕ, zero, suc, ◌+◌, ◌-◌, ◌*◌, ◌≤◌, ◌<◌}
use mathlib.Core.Path.{◌≡◌, refl, sym, ◌∙◌, ap, ap₂, subst}
use mathlib.Core.Bool.{Bool, true, false, cond}
use mathlib.Core.List.{List, [], ◌∷◌, map, replicate}
use mathlib.Core.Nat.{ℕ as Count, zero as none, suc as more}
use native.Mathlib.Nat.{mul-le-mul_left, suc-add, le_of_suc-le-suc, not-suc-le-zero}
use native.Mathlib.Omega.{arith}
use native.Mathlib.Decide.{ℕ_discrete}
use lib.Dec.{eqb}
use lib.ListN.{length, length-map, length-set, get_or, set, take, drop}
use lib.Seq.{length-take-le, get_or-set_same, get_or-set_other, ext_get_or}
use borrow.Author.Tests.{eq-eqb, ne_eqb}
use Rattle.algebra.specs.Ranges.{sum_ℕ}
use Rattle.algebra.proofs.Filling.{get_d_over, length_over}
use Rattle.algebra.proofs.Groups.{less}
use Rattle.algebra.proofs.Sums.{sumℕ_cong, sumℕ_le_const}
use Rattle.records.specs.declared.Head.{Head}
use Rattle.meaning.specs.Design.{occ, plus, moved, company, opposition}
use Rattle.laws.specs.Differences.{initial_left, initial_right, over_elements}
use Rattle.laws.proofs.Chains.{Sound}
use Rattle.laws.proofs.Occurrences.{Each}
use Rattle.laws.proofs.Clean.{part_length, part_range}
use Rattle.laws.proofs.DifferencesShifts.{Named, elements-alike, elements-next}
use Rattle.laws.proofs.Differences.{addition, left_named, right_named, company-back, opposition-back}
use Rattle.design.specs.Addition.{back}
use Rattle.design.specs.Differences.{Side, Row, More, met_from, met, within_of, across_of, no_row, row_of}
use Rattle.design.proofs.addition.Negatives.{back-less}

-- ---- how often an object stands in a side

-- one byte more
occ-next : (f : ℕ → ℕ) (e : ℕ) (xs : List ℕ) (k : ℕ) → k < length xs →
    occ e (map f (take (k + 1) xs)) ≡ occ e (map f (take k xs)) + cond (eqb e (f (get_or xs k 0))) 1 0
unfolding occ
occ-next f e [] k l = absurd (not-suc-le-zero l)
occ-next f e (x ∷ xs) zero l = omega arith
occ-next f e (x ∷ xs) (suc k) l =
    ap (λ (n : ℕ). occ e (map f (take n (x ∷ xs)))) (suc-add k 1) ∙ omega (arith, occ-next f e xs k (le_of_suc-le-suc l))

-- at most as often as there are bytes
occ-most : (e : ℕ) (xs : List ℕ) → occ e xs ≤ length xs
unfolding occ
occ-most e [] = omega arith
occ-most e (x ∷ xs) = omega (arith, occ-most e xs, bit (eqb e x))
  where
    bit : (t : Bool) → cond t 1 0 ≤ 1
    bit true = omega arith
    bit false = omega arith

-- of a side that is moved too
pub side-most : (f : ℕ → ℕ) (e : ℕ) (xs : List ℕ) → length xs ≤ 25 → occ e (map f xs) ≤ 25
side-most f e xs l = omega (arith, occ-most e (map f xs), length-map xs f)

-- of the bytes passed of it too
pub part-most : (f : ℕ → ℕ) (e : ℕ) (xs : List ℕ) (k : ℕ) → length xs ≤ 25 → k ≤ length xs → occ e (map f (take k xs)) ≤ 25
part-most f e xs k few l = side-most f e (take k xs) (omega (arith, length-take-le k xs l))

-- a turn: the object that the byte names has one more
pub counted_next : (f : ℕ → ℕ) (xs : List ℕ) (k object : ℕ) (counts counts₀ : List ℕ) → k < length xs → object ≡ f (get_or xs k 0) → object < length counts
    → More (λ e. occ e (map f (take k xs))) counts₀ counts
    → More (λ e. occ e (map f (take (k + 1) xs))) counts₀ (set counts object (get_or counts object 0 + 1))
counted_next f xs k object counts counts₀ l q o h = record { long = length-set counts object _ ∙ h.long; each = λ e m. go e m (ℕ_discrete e object) }
  where
    go : (e : ℕ) → e < 50 → Dec (e ≡ object) → get_or (set counts object (get_or counts object 0 + 1)) e 0 ≡ get_or counts₀ e 0 + occ e (map f (take (k + 1) xs))
    go e m (yes y) =
        let here : get_or (set counts object (get_or counts object 0 + 1)) e 0 ≡ get_or counts e 0 + 1 =
        subst (λ (z : ℕ). get_or (set counts object (get_or counts object 0 + 1)) z 0 ≡ get_or counts z 0 + 1) (sym y)
        (get_or-set_same counts object (get_or counts object 0 + 1) 0 o) in
        let one : ◌≡◌ {A = ℕ} (cond (eqb e (f (get_or xs k 0))) 1 0) 1 = ap (λ (t : Bool). cond t 1 0) (eq-eqb e (f (get_or xs k 0)) (y ∙ q)) in
        omega (arith, here, one, h.each e m, occ-next f e xs k l)
    go e m (no y) =
        let stays : get_or (set counts object (get_or counts object 0 + 1)) e 0 ≡ get_or counts e 0 =
        get_or-set_other counts object e (get_or counts object 0 + 1) 0 y in
        let no : ◌≡◌ {A = ℕ} (cond (eqb e (f (get_or xs k 0))) 1 0) 0 = ap (λ (t : Bool). cond t 1 0) (ne_eqb e (f (get_or xs k 0)) (λ z. y (z ∙ sym q))) in
        omega (arith, stays, no, h.each e m, occ-next f e xs k l)

-- ---- how often it is met from the elements of a side

-- one byte more
pub met_next : (h : Head) (e : ℕ) (xs ys : List ℕ) (k : ℕ) → k < length ys →
    met h e xs (take (k + 1) ys) ≡ met h e xs (take k ys) + met_from h (get_or ys k 0) e xs
met_next h e xs ys k l = elements-next (λ y. occ e (map (moved h (back h y)) xs)) ys k l

-- the elements count at most 25 each
met-each : (h : Head) (e : ℕ) (xs ys : List ℕ) → length xs ≤ 25 → met h e xs ys ≤ 25 * length ys
unfolding over_elements
met-each h e xs [] few = omega arith
met-each h e xs (y ∷ ys) few =
    omega (arith, met-each h e xs ys few, side-most (moved h (back h y)) e xs few, bit (eqb y 255) (occ e (map (moved h (back h y)) xs)), next (length ys))
  where
    bit : (t : Bool) (c : ℕ) → cond t 0 c ≤ c
    bit true c = omega arith
    bit false c = omega arith

    next : (k : ℕ) → 25 * suc k ≡ 25 * k + 25
    next k = omega arith

-- so a side counts at most 625
pub met-most : (h : Head) (e : ℕ) (xs ys : List ℕ) → length xs ≤ 25 → length ys ≤ 25 → met h e xs ys ≤ 625
met-most h e xs ys few fewer = omega (arith, met-each h e xs ys few)

-- ---- rows

-- counts added twice
pub more-twice : (f g k : ℕ → ℕ) (a b c : List ℕ) → More f a b → More g b c → ((e : ℕ) → k e ≡ f e + g e) → More k a c
more-twice f g k a b c p q same =
    record { long = q.long ∙ p.long; each = λ e m. omega (arith, p.each e m, q.each e m, same e) }

-- a row that was at most low, and has at most some more, is at most high
pub row-still : (f : ℕ → ℕ) (low some high : ℕ) (a b : List ℕ) → Row low a → More f a b → ((e : ℕ) → f e ≤ some) → low + some ≤ high → Row high b
row-still f low some high a b r p most l = record { long = p.long ∙ r.long; most = λ e m. omega (arith, p.each e m, r.most e m, most e) }

-- a row that is at most low is at most high
pub row_wider : (low high : ℕ) (row : List ℕ) → low ≤ high → Row low row → Row high row
row_wider low high row l r = record { long = r.long; most = λ e m. omega (arith, r.most e m) }

-- ---- one initial block

-- a part from a on, p bytes long
pub part_same : (a p : ℕ) (d : List ℕ) → take (a + p - a) (drop a d) ≡ take p (drop a d)
part_same a p d = ap (λ (n : ℕ). take n (drop a d)) (same a p)
  where
    same : (a p : ℕ) → a + p - a ≡ p
    same a p = omega arith

-- both sides counted, each from its own elements
pub block_within : (h : Head) (d : List ℕ) (j : ℕ) {xs ys a b c : List ℕ} → xs ≡ initial_left h d j → ys ≡ initial_right h d j
    → More (λ e. met h e xs xs) a b → More (λ e. met h e ys ys) b c → More (λ e. within_of h d e j) a c
block_within h d j l r p q =
    more-twice _ _ _ _ _ _ p q (λ e. sym (ap₂ (λ (xs ys : List ℕ). met h e xs xs + met h e ys ys) l r))

-- and each from those of the other
pub block-across : (h : Head) (d : List ℕ) (j : ℕ) {xs ys a b c : List ℕ} → xs ≡ initial_left h d j → ys ≡ initial_right h d j
    → More (λ e. met h e ys xs) a b → More (λ e. met h e xs ys) b c → More (λ e. across_of h d e j) a c
block-across h d j l r p q =
    more-twice _ _ _ _ _ _ p q (λ e. sym (ap₂ (λ (xs ys : List ℕ). met h e ys xs + met h e xs ys) l r))

-- ---- all initial blocks

-- the left of an initial block is a side
pub left-side : (h : Head) (d : List ℕ) → Sound h d → (q : ℕ) → q < h.m → Side h (initial_left h d q)
left-side h d s q l =
    let in_list : 2 * h.p * q + h.p ≤ length d = omega (arith, s.long, mul-le-mul_left (2 * h.p) l) in record {
      few = omega (arith, part_length d (2 * h.p * q) h.p in_list, s.sizes.sides-fit, s.sizes.objects-most);
      ranged = part_range h d s (2 * h.p * q) h.p in_list;
    }

-- so is its right
pub right_side : (h : Head) (d : List ℕ) → Sound h d → (q : ℕ) → q < h.m → Side h (initial_right h d q)
right_side h d s q l =
    let in_list : 2 * h.p * q + h.p + h.p ≤ length d = omega (arith, s.long, mul-le-mul_left (2 * h.p) l) in record {
      few = omega (arith, part_length d (2 * h.p * q + h.p) h.p in_list, s.sizes.sides-fit, s.sizes.objects-most);
      ranged = part_range h d s (2 * h.p * q + h.p) h.p in_list;
    }

-- each as a loop lends it
pub left-lent : (h : Head) (d : List ℕ) → Sound h d → (q : ℕ) → q < h.m → Side h (take (2 * h.p * q + h.p - 2 * h.p * q) (drop (2 * h.p * q) d))
left-lent h d s q l = subst (Side h) (sym (part_same (2 * h.p * q) h.p d)) (left-side h d s q l)

pub right-lent : (h : Head) (d : List ℕ) → Sound h d → (q : ℕ) → q < h.m
    → Side h (take (2 * h.p * q + h.p + h.p - (2 * h.p * q + h.p)) (drop (2 * h.p * q + h.p) d))
right-lent h d s q l = subst (Side h) (sym (part_same (2 * h.p * q + h.p) h.p d)) (right_side h d s q l)

-- a row of zeros has zeros
zero_row : (e : ℕ) → e < 50 → get_or no_row e 0 ≡ 0
zero_row e m = zeros 50 e
  where
    zeros : (n : Count) (j : ℕ) → ◌≡◌ {A = ℕ} (get_or (replicate n 0) j 0) 0
    zeros none j = refl
    zeros (more n) zero = refl
    zeros (more n) (suc j) = zeros n j

-- with no initial block counted it is a row of zeros
pub none-counted : (f : ℕ → ℕ → ℕ) (row : List ℕ) → row ≡ no_row → More (λ e. sum_ℕ 0 (f e)) no_row row
unfolding sum_ℕ
none-counted f row q = record { long = ap length q; each = λ e m. ap (λ (r : List ℕ). get_or r e 0) q ∙ omega arith }

-- with j of them no count is above 80,000
pub blocks-row : (f : ℕ → ℕ → ℕ) (j : ℕ) (row : List ℕ) → j ≤ 64 → More (λ e. sum_ℕ j (f e)) no_row row → ((e q : ℕ) → q < j → f e q ≤ 1250) → Row 80000 row
blocks-row f j row few p most = record {
  long = p.long;
  most = λ e m. omega (arith, p.each e m, zero_row e m, sumℕ_le_const j 1250 (f e) (λ q l. most e q l));
}

-- 50 entries that are those of f are the row of f
pub row_is : (f : ℕ → ℕ) (row : List ℕ) → length row ≡ 50 → ((e : ℕ) → e < 50 → get_or row e 0 ≡ f e) → row ≡ row_of f
row_is f row long h = ext_get_or 0 row (row_of f) (long ∙ sym (length_over 50 f no_row))
    (λ i l. let m : i < 50 = omega arith in h i m ∙ sym (get_d_over 50 f no_row 0 i m (omega arith)))

module _ (h : Head) (d : List ℕ) (s : Sound h d) where
  -- the negatives that the code takes are those of the group
  same : (e : ℕ) (xs ys : List ℕ) → Each (Named h.n) ys → met h e xs ys
      ≡ over_elements (λ y. occ e (map (moved h (less h.n (plus h) (addition h d s) 0 y)) xs)) ys
  same e xs ys o = elements-alike h.n _ _ ys o (λ y l. ap (λ (z : ℕ). occ e (map (moved h z) xs)) (back-less h (addition h d s) y l))

  -- the company of any object with object 0
  pub company-met : (e : ℕ) → company h d e 0 ≡ sum_ℕ h.m (within_of h d e)
  company-met e = company-back h d s e ∙ sumℕ_cong h.m _ _ (λ q l. ap₂ ◌+◌
      (sym (same e (initial_left h d q) (initial_left h d q) (left_named h d s q l)))
      (sym (same e (initial_right h d q) (initial_right h d q) (right_named h d s q l))))

  -- and its opposition
  pub opposition-met : (e : ℕ) → opposition h d e 0 ≡ sum_ℕ h.m (across_of h d e)
  opposition-met e = opposition-back h d s e ∙ sumℕ_cong h.m _ _ (λ q l. turn
      (sym (same e (initial_left h d q) (initial_right h d q) (right_named h d s q l)))
      (sym (same e (initial_right h d q) (initial_left h d q) (left_named h d s q l))))
    where
      turn : {a b c o : ℕ} → a ≡ c → b ≡ o → a + b ≡ o + c
      turn p q = omega arith

  -- a block counts at most 1,250 within
  pub within-most : (e q : ℕ) → q < h.m → within_of h d e q ≤ 1250
  within-most e q l =
      let left = (left-side h d s q l).few in
      let right = (right_side h d s q l).few in
      omega (arith, met-most h e (initial_left h d q) (initial_left h d q) left left, met-most h e (initial_right h d q) (initial_right h d q) right right)

  -- and across
  pub across-most : (e q : ℕ) → q < h.m → across_of h d e q ≤ 1250
  across-most e q l =
      let left = (left-side h d s q l).few in
      let right = (right_side h d s q l).few in
      omega (arith, met-most h e (initial_right h d q) (initial_left h d q) right left, met-most h e (initial_left h d q) (initial_right h d q) left right)

  -- with all of them the rows are those of object 0
  pub company-row : (row : List ℕ) → More (λ e. sum_ℕ h.m (within_of h d e)) no_row row → row ≡ row_of (λ e. company h d e 0)
  company-row row p = row_is (λ e. company h d e 0) row p.long (λ e m. omega (arith, p.each e m, zero_row e m, company-met e))

  pub opposition-row : (row : List ℕ) → More (λ e. sum_ℕ h.m (across_of h d e)) no_row row → row ≡ row_of (λ e. opposition h d e 0)
  opposition-row row p = row_is (λ e. opposition h d e 0) row p.long (λ e m. omega (arith, p.each e m, zero_row e m, opposition-met e))
