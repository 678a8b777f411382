-- A card's rule, at all of its entries: one test that the checker computes over the card, and one law that carries it to each entry. Assumes nothing.
use mathlib.Core.Path.{◌≡◌, refl, ◌∙◌, subst, sym, ap, ap₂}
use mathlib.Core.Bool.{Bool, true, false, cond, ◌&&◌}
use mathlib.Core.List.{List, [], ◌∷◌, ◌++◌}
use Prim.Native.Nat.{ℕ, zero, suc, ◌+◌, ◌*◌, ◌/◌, ◌%◌, ◌≤◌, ◌<◌}
use native.Mathlib.Nat.{mul-le-mul, add-zero, zero-add, add-suc, suc-add, le_of_suc-le-suc, not-suc-le-zero}
use native.Mathlib.Omega.{arith}
use native.Mathlib.Decide.{ℕ_discrete}
use lib.Arith.{digits_lt, digits_div, digits_mod}
use lib.Dec.{eqb, ltb}
use lib.ListN.{length, get_or, drop}
use borrow.Author.Tests.{eqb-true, ne_eqb, ltb-true}
use Rattle.algebra.specs.Buffers.{over}
use Rattle.algebra.proofs.Tests.{and_left, and_right}
use Rattle.records.specs.declared.Head.{Head}
use Rattle.meaning.specs.Design.{by_field, field_prime, digit_sum, plus}
use Rattle.laws.specs.Fits.{Fits}
use Rattle.algebra.proofs.Filling.{get_d_over}
use Rattle.design.specs.Addition.{no_card, Laid}

-- the entry x at place i is right: it is the sum of i / n and i % n, the digits added modulo the prime of n
abbrev here : ℕ → ℕ → ℕ → Bool
here n i x = eqb x (digit_sum (field_prime n) 5 (i / n) (i % n))

-- so are all entries from place i on
abbrev pub right_from : ℕ → ℕ → List ℕ → Bool
right_from n i [] = true
right_from n i (x ∷ xs) = here n i x && right_from n (suc i) xs

-- then each of them is
each_right : (n i : ℕ) (xs : List ℕ) → right_from n i xs ≡ true → (k : ℕ) → k < length xs
    → get_or xs k 0 ≡ digit_sum (field_prime n) 5 ((i + k) / n) ((i + k) % n)
each_right n i [] t k l = absurd (not-suc-le-zero l)
each_right n i (x ∷ xs) t zero l =
    eqb-true x _ (and_left (here n i x) (right_from n (suc i) xs) t) ∙ ap (λ (m : ℕ). digit_sum (field_prime n) 5 (m / n) (m % n)) (sym (add-zero i))
each_right n i (x ∷ xs) t (suc k) l =
    each_right n (suc i) xs (and_right (here n i x) (right_from n (suc i) xs) t) k (le_of_suc-le-suc l)
    ∙ ap (λ (m : ℕ). digit_sum (field_prime n) 5 (m / n) (m % n)) (suc-add i k ∙ sym (add-suc i k))

-- the place of a sum lies on the card
pub on_card : (n k x s : ℕ) → n ≡ k → x < n → s < n → x * n + s < k * k
on_card n k x s e l m = subst (λ (z : ℕ). x * n + s < z) (ap₂ ◌*◌ e e) (digits_lt l m)

-- the test of a card of n: it has n rows of n, and all entries are right
abbrev pub right_card : ℕ → List ℕ → Bool
right_card n card = eqb (length card) (n * n) && right_from n 0 card

-- where the test holds, the card of n gives x + s
pub card-gives : (n k x s : ℕ) → n ≡ k → x < n → s < n → (card : List ℕ)
    → get_or card (x * n + s) 0 ≡ cond (right_card k card) (digit_sum (field_prime n) 5 x s) (get_or card (x * n + s) 0)
card-gives n k x s e l m card = go (right_card k card) refl
  where
    go : (b : Bool) → right_card k card ≡ b → get_or card (x * n + s) 0 ≡ cond b (digit_sum (field_prime n) 5 x s) (get_or card (x * n + s) 0)
    go false t = refl
    go true t =
        let long : length card ≡ k * k = eqb-true (length card) (k * k) (and_left (eqb (length card) (k * k)) (right_from k 0 card) t) in
        let right = subst (λ (z : ℕ). right_from z 0 card ≡ true) (sym e) (and_right (eqb (length card) (k * k)) (right_from k 0 card) t) in
        let inside = subst (λ (z : ℕ). x * n + s < z) (sym long) (on_card n k x s e l m) in
        each_right n 0 card right (x * n + s) inside ∙ ap₂ (digit_sum (field_prime n) 5)
        (ap (λ (z : ℕ). z / n) (zero-add (x * n + s)) ∙ digits_div x m) (ap (λ (z : ℕ). z % n) (zero-add (x * n + s)) ∙ digits_mod x m)

-- where a head asks for the field of k, a card that is right gives its sums
pub card-sums : (h : Head) (k x s : ℕ) → h.n ≡ k → by_field h ≡ true → x < h.n → s < h.n → (card : List ℕ)
    → get_or card (x * h.n + s) 0 ≡ cond (right_card k card) (plus h x s) (get_or card (x * h.n + s) 0)
unfolding plus
card-sums h k x s e f l m card = rw f (card-gives h.n k x s e l m card)

-- so it does laid at the front of the room
pub laid-sums : (h : Head) (k x s : ℕ) → k * k ≤ 2401 → h.n ≡ k → by_field h ≡ true → x < h.n → s < h.n → {card room : List ℕ} → Laid card room
    → get_or room (x * h.n + s) 0 ≡ cond (right_card k card) (plus h x s) (get_or room (x * h.n + s) 0)
laid-sums h k x s few e f l m {card} {room} laid = go (right_card k card) refl
  where
    go : (b : Bool) → right_card k card ≡ b → get_or room (x * h.n + s) 0 ≡ cond b (plus h x s) (get_or room (x * h.n + s) 0)
    go false t = refl
    go true t =
        let long : length card ≡ k * k = eqb-true (length card) (k * k) (and_left (eqb (length card) (k * k)) (right_from k 0 card) t) in
        let inside = subst (λ (z : ℕ). x * h.n + s < z) (sym long) (on_card h.n k x s e l m) in
        ap (λ (r : List ℕ). get_or r (x * h.n + s) 0) laid.is ∙ get_d_over (length card) (λ i. get_or card i 0) no_card 0 (x * h.n + s) inside (subst (λ (z : ℕ). z ≤ 2401) (sym long) few)
        ∙ card-sums h k x s e f l m card ∙ ap (λ (b : Bool). cond b (plus h x s) (get_or card (x * h.n + s) 0)) t

-- where a head that fits asks for a field, there is one
pub field_there : (h : Head) → Fits h → by_field h ≡ true → 0 < field_prime h.n
field_there h f e = ltb-true 0 (field_prime h.n) (subst (λ (b : Bool). cond b (ltb 0 (field_prime h.n)) true ≡ true) e f.has_addition_lem)

-- what is none of the others is the last
pub last-field : (n : ℕ) → 0 < field_prime n → (n ≡ 8 → ⊥) → (n ≡ 9 → ⊥) → (n ≡ 16 → ⊥) → (n ≡ 25 → ⊥) → (n ≡ 27 → ⊥) → (n ≡ 32 → ⊥) → n ≡ 49
unfolding field_prime
last-field n some a b c d f g = go (ℕ_discrete n 49)
  where
    go : Dec (n ≡ 49) → n ≡ 49
    go (yes e) = e
    go (no i) =
        let none : field_prime n ≡ 0 = rw (ne_eqb n 8 a, ne_eqb n 9 b, ne_eqb n 16 c, ne_eqb n 25 d, ne_eqb n 27 f, ne_eqb n 32 g, ne_eqb n 49 i) in
        absurd (omega (arith, none, some))

-- no field of the request has more elements than the last
pub field-most : (n : ℕ) → 0 < field_prime n → n ≤ 49
unfolding field_prime
field-most n some = go (ℕ_discrete n 8) (ℕ_discrete n 9) (ℕ_discrete n 16) (ℕ_discrete n 25) (ℕ_discrete n 27) (ℕ_discrete n 32)
  where
    go : Dec (n ≡ 8) → Dec (n ≡ 9) → Dec (n ≡ 16) → Dec (n ≡ 25) → Dec (n ≡ 27) → Dec (n ≡ 32) → n ≤ 49
    go (yes e) b c d f g = omega arith
    go (no a) (yes e) c d f g = omega arith
    go (no a) (no b) (yes e) d f g = omega arith
    go (no a) (no b) (no c) (yes e) f g = omega arith
    go (no a) (no b) (no c) (no d) (yes e) g = omega arith
    go (no a) (no b) (no c) (no d) (no f) (yes e) = omega arith
    go (no a) (no b) (no c) (no d) (no f) (no g) = omega (arith, last-field n some a b c d f g)

-- so a sum lies in the room for the largest card
pub place-most : (h : Head) (x s : ℕ) → Fits h → by_field h ≡ true → x < h.n → s < h.n → x * h.n + s < 2401
place-most h x s f t l m =
    let most : h.n ≤ 49 = field-most h.n (field_there h f t) in
    omega (arith, on_card h.n h.n x s refl l m, mul-le-mul most most)

-- a card copied to the front of the room
pub copied_front : (card room : List ℕ) → length card ≤ length room → card ++ drop (length card) room ≡ over (length card) (λ i. get_or card i 0) room
unfolding over
copied_front [] room h = refl
copied_front (x ∷ xs) [] h = absurd (not-suc-le-zero h)
copied_front (x ∷ xs) (y ∷ ys) h = ap (λ (t : List ℕ). x ∷ t) (copied_front xs ys (le_of_suc-le-suc h))
