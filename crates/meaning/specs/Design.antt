-- What a design is, and when it is balanced (000, section 2). Assumes nothing.
use Rattle.std.specs.Prelude.{ℕ, zero, suc, ◌+◌, ◌-◌, ◌*◌, ◌/◌, ◌%◌, ◌<◌, Bool, true, cond, ◌&&◌, ◌||◌, List, [], ◌∷◌, map, ◌≡◌, take, drop, eqb, ltb, leb}
use Rattle.algebra.specs.Ranges.{sum_ℕ, all}
use Rattle.records.specs.declared.Head.{Head}
use Rattle.records.specs.declared.Parameters.{Parameters}

-- The flag: 0 and 1 ask for residues, 2 and 3 for a field; ∞ takes part with 1 and 3.

-- v, the number of objects: the n elements, and ∞ where it takes part
abbrev pub objects : Head → ℕ
objects h = h.n + h.flag % 2

-- whether the fixed object ∞ takes part
abbrev pub with_fixed : Head → Bool
with_fixed h = eqb (h.flag % 2) 1

-- whether blocks are developed by the addition of a field, not by that of residues
abbrev pub by_field : Head → Bool
by_field h = leb 2 h.flag

-- q, the prime of which n is a power, for the fields of the request; 0 for any other n
unfoldable pub field_prime : ℕ → ℕ
field_prime n = cond (eqb n 8 || eqb n 16 || eqb n 32) 2 (cond (eqb n 9 || eqb n 27) 3 (cond (eqb n 25) 5 (cond (eqb n 49) 7 0)))

-- whether there is an addition to develop by: residues for every n, a field for those of the request
abbrev pub has_addition : Head → Bool
has_addition h = cond (by_field h) (ltb 0 (field_prime h.n)) true

-- b, the number of blocks
abbrev pub blocks : Head → ℕ
blocks h = h.m * h.n

-- the sizes of the request
unfoldable pub sized : Head → Bool
sized h = leb 3 h.n && leb h.n 50 && leb h.flag 3 && has_addition h && leb (objects h) 50 && leb 1 h.p && leb (2 * h.p) (objects h)
    && leb 1 h.m && leb h.m 64 && leb (blocks h) 1300

-- how many bytes the list of the initial blocks has
abbrev pub list_length : Head → ℕ
list_length h = 2 * h.p * h.m

-- how often x stands in a list
unfoldable pub occ : ℕ → List ℕ → ℕ
occ x [] = 0
occ x (y ∷ ys) = cond (eqb x y) 1 0 + occ x ys

-- x and s as k digits in base q, lowest first, added digit by digit modulo q, with nothing carried
unfoldable pub digit_sum : ℕ → ℕ → ℕ → ℕ → ℕ
digit_sum q zero x s = 0
digit_sum q (suc k) x s = digit_sum q k (x / q) (s / q) * q + (x % q + s % q) % q

-- the element x with the shift s added: digits (no element has more than five), or residues
unfoldable pub plus : Head → ℕ → ℕ → ℕ
plus h x s = cond (by_field h) (digit_sum (field_prime h.n) 5 x s) ((x + s) % h.n)

-- the object that the byte x names at shift s: 255 is ∞, which stays and is object n
abbrev pub moved : Head → ℕ → ℕ → ℕ
moved h s x = cond (eqb x 255) h.n (plus h x s)

-- the left objects of block k, which is initial block k / n at shift k % n
unfoldable pub left : Head → List ℕ → ℕ → List ℕ
left h d k = map (moved h (k % h.n)) (take h.p (drop (2 * h.p * (k / h.n)) d))

-- the right objects of block k
unfoldable pub right : Head → List ℕ → ℕ → List ℕ
right h d k = map (moved h (k % h.n)) (take h.p (drop (2 * h.p * (k / h.n) + h.p) d))

-- in how many of b blocks, of such left and such right objects, i and j share a side
abbrev pub company_in : ℕ → (ℕ → List ℕ) → (ℕ → List ℕ) → ℕ → ℕ → ℕ
company_in b left right i j = sum_ℕ b (λ k. occ i (left k) * occ j (left k) + occ i (right k) * occ j (right k))

-- in how many they stand on opposite sides
abbrev pub opposition_in : ℕ → (ℕ → List ℕ) → (ℕ → List ℕ) → ℕ → ℕ → ℕ
opposition_in b left right i j = sum_ℕ b (λ k. occ i (left k) * occ j (right k) + occ i (right k) * occ j (left k))

-- in how many blocks i and j share a side; with i twice, in how many blocks i stands (no object stands twice in a clean block)
unfoldable pub company : Head → List ℕ → ℕ → ℕ → ℕ
company h d i j = company_in (blocks h) (left h d) (right h d) i j

-- in how many blocks i and j stand on opposite sides
unfoldable pub opposition : Head → List ℕ → ℕ → ℕ → ℕ
opposition h d i j = opposition_in (blocks h) (left h d) (right h d) i j

-- balanced: every two different objects share a side l1 times and oppose l2 times, the same two numbers for all
pub record Balanced (h : Head) (d : List ℕ) (l1 l2 : ℕ) : Type 0 where
  pub together : (i j : ℕ) → i < objects h → j < objects h → (i ≡ j → ⊥) → company h d i j ≡ l1
  pub against : (i j : ℕ) → i < objects h → j < objects h → (i ≡ j → ⊥) → opposition h d i j ≡ l2

-- the same as a test, with l1 and l2 read off the objects 1 and 0
unfoldable pub balanced : Head → List ℕ → Bool
balanced h d = all (objects h) (λ i. all i (λ j. eqb (company h d i j) (company h d 1 0) && eqb (opposition h d i j) (opposition h d 1 0)))

-- beta, for a balanced design
unfoldable pub beta : Head → List ℕ → ℕ
beta h d = opposition h d 1 0 - company h d 1 0

-- the parameters of a balanced design
abbrev pub parameters_of : Head → List ℕ → Parameters
parameters_of h d = record { v = objects h; b = blocks h; r = beta h d * (objects h - 1); p = h.p; l1 = company h d 1 0; l2 = opposition h d 1 0 }
