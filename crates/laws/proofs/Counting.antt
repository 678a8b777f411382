-- When the test of balance holds, and the numbers of a balanced design.
--     accepts_exactly               the test holds exactly for designs that are balanced
--     company_symmetric, opposition_symmetric, company_self, opposition_self
--     Numbers                       r, b, l1, l2 and beta, as counting in rows has them; they are proved in CountingNumbers
-- Assumes nothing.
use mathlib.Core.Path.{◌≡◌, sym, ◌∙◌}
use mathlib.Core.Bool.{Bool, true, ◌&&◌}
use mathlib.Core.List.{List}
use Prim.Native.Nat.{ℕ, ◌+◌, ◌-◌, ◌*◌, ◌≤◌, ◌<◌}
use native.Mathlib.Omega.{arith}
use native.Mathlib.Decide.{ℕ_discrete, dec_lt}
use lib.Dec.{eqb}
use borrow.Author.Tests.{eqb-true, eq-eqb}
use Rattle.algebra.specs.Ranges.{sum_ℕ, all}
use Rattle.algebra.proofs.Tests.{and_left, and_right, and_both, all-at, all-each}
use Rattle.algebra.proofs.Sums.{sumℕ_cong}
use Rattle.records.specs.declared.Head.{Head}
use Rattle.meaning.specs.Design.{objects, blocks, occ, left, right, company_in, opposition_in, company, opposition, Balanced, balanced, beta}
use Rattle.meaning.specs.Refusals.{accepted}
use Rattle.meaning.specs.Calls.{design_verdict}
use Rattle.laws.proofs.Chains.{Sound, sound}
use Rattle.laws.proofs.Clean.{block-left, block-right, block-once}
use Rattle.laws.proofs.Incidence.{Incidence, Even, self_together, self_against}

-- ---- company and opposition do not mind which object is named first

-- whatever the blocks are, company is symmetric
pub company_in_symmetric : (b : ℕ) (lefts rights : ℕ → List ℕ) (i j : ℕ) → company_in b lefts rights i j ≡ company_in b lefts rights j i
company_in_symmetric b lefts rights i j =
    sumℕ_cong b _ _ (λ k l. turn (occ i (lefts k)) (occ j (lefts k)) (occ i (rights k)) (occ j (rights k)))
  where
    turn : (a b c e : ℕ) → a * b + c * e ≡ b * a + e * c
    turn a b c e = omega arith

-- so is opposition
pub opposition_in_symmetric : (b : ℕ) (lefts rights : ℕ → List ℕ) (i j : ℕ) → opposition_in b lefts rights i j ≡ opposition_in b lefts rights j i
opposition_in_symmetric b lefts rights i j =
    sumℕ_cong b _ _ (λ k l. turn (occ i (lefts k)) (occ j (rights k)) (occ i (rights k)) (occ j (lefts k)))
  where
    turn : (a b c e : ℕ) → a * b + c * e ≡ e * c + b * a
    turn a b c e = omega arith

-- of a design, company is symmetric
pub company_symmetric : (h : Head) (d : List ℕ) (i j : ℕ) → company h d i j ≡ company h d j i
unfolding company
company_symmetric h d = company_in_symmetric (blocks h) (left h d) (right h d)

-- so is opposition
pub opposition_symmetric : (h : Head) (d : List ℕ) (i j : ℕ) → opposition h d i j ≡ opposition h d j i
unfolding opposition
opposition_symmetric h d = opposition_in_symmetric (blocks h) (left h d) (right h d)

-- ---- the test of balance

-- company and opposition of i and j are those of the objects 1 and 0
abbrev meet : Head → List ℕ → ℕ → ℕ → Bool
meet h d i j = eqb (company h d i j) (company h d 1 0) && eqb (opposition h d i j) (opposition h d 1 0)

-- balanced, from the pairs that are looked at once
pub balanced_from : (h : Head) (d : List ℕ) (l1 l2 : ℕ) →
    ((i j : ℕ) → i < objects h → j < i → (company h d i j ≡ l1) × (opposition h d i j ≡ l2)) → Balanced h d l1 l2
balanced_from h d l1 l2 f = record { together = λ i j l m ne. (both i j l m ne (dec_lt j i)).0; against = λ i j l m ne. (both i j l m ne (dec_lt j i)).1 }
  where
    both : (i j : ℕ) → i < objects h → j < objects h → (i ≡ j → ⊥) → Dec (j < i) → (company h d i j ≡ l1) × (opposition h d i j ≡ l2)
    both i j l m ne (yes q) = f i j l q
    both i j l m ne (no q) = (company_symmetric h d i j ∙ (f j i m (less q)).0, opposition_symmetric h d i j ∙ (f j i m (less q)).1)
      where
        less : (j < i → ⊥) → i < j
        less q = go (ℕ_discrete i j)
          where
            go : Dec (i ≡ j) → i < j
            go (yes e) = absurd (ne e)
            go (no e) = omega arith

-- where the test holds, the design is balanced
pub balanced-is : (h : Head) (d : List ℕ) → balanced h d ≡ true → Balanced h d (company h d 1 0) (opposition h d 1 0)
unfolding balanced
balanced-is h d e = balanced_from h d (company h d 1 0) (opposition h d 1 0) (λ i j l m.
    let u = all-at i (meet h d i) (all-at (objects h) (λ i. all i (meet h d i)) e i l) j m in (
      eqb-true _ _ (and_left (eqb (company h d i j) (company h d 1 0)) (eqb (opposition h d i j) (opposition h d 1 0)) u),
      eqb-true _ _ (and_right (eqb (company h d i j) (company h d 1 0)) (eqb (opposition h d i j) (opposition h d 1 0)) u),
    ))

-- the two numbers of a balanced design are those of the objects 1 and 0
pub balanced-numbers : (h : Head) (d : List ℕ) (l1 l2 : ℕ) → 1 < objects h → Balanced h d l1 l2 → (l1 ≡ company h d 1 0) × (l2 ≡ opposition h d 1 0)
balanced-numbers h d l1 l2 v b =
    (sym (b.together 1 0 v (omega arith) (λ e. omega arith)), sym (b.against 1 0 v (omega arith) (λ e. omega arith)))

-- a balanced design passes the test
pub is-balanced : (h : Head) (d : List ℕ) (l1 l2 : ℕ) → 1 < objects h → Balanced h d l1 l2 → balanced h d ≡ true
unfolding balanced
is-balanced h d l1 l2 v b = all-each (objects h) (λ i. all i (meet h d i)) (λ i l. all-each i (meet h d i) (λ j m. and_both
    (eq-eqb _ _ (b.together i j l (omega arith) (λ e. omega arith) ∙ (balanced-numbers h d l1 l2 v b).0))
    (eq-eqb _ _ (b.against i j l (omega arith) (λ e. omega arith) ∙ (balanced-numbers h d l1 l2 v b).1))))

-- two numbers with which the design is balanced
pub record SomeBalance (h : Head) (d : List ℕ) : Type 0 where
  pub l1 : ℕ
  pub l2 : ℕ
  pub balance : Balanced h d l1 l2

-- of an accepted block list the test holds exactly where the design is balanced, and then its two numbers are those of the objects 1 and 0
pub accepts_exactly : (h : Head) (d : List ℕ) → design_verdict h d ≡ accepted →
    (balanced h d ≡ true → SomeBalance h d)
    × ((l1 l2 : ℕ) → Balanced h d l1 l2 → (balanced h d ≡ true) × ((l1 ≡ company h d 1 0) × (l2 ≡ opposition h d 1 0)))
accepts_exactly h d e = (
  λ t. record { l1 = company h d 1 0; l2 = opposition h d 1 0; balance = balanced-is h d t },
  λ l1 l2 b. (is-balanced h d l1 l2 two b, balanced-numbers h d l1 l2 two b),
)
  where
    two : 1 < objects h
    two = omega (arith, (sound h d e).sizes.n_least)

-- ---- what counting says

-- how often an object stands on each side
abbrev pub on_left : Head → List ℕ → ℕ → ℕ → ℕ
on_left h d k i = occ i (left h d k)

-- and on the right
abbrev pub on_right : Head → List ℕ → ℕ → ℕ → ℕ
on_right h d k i = occ i (right h d k)

-- the number of blocks in which object i stands
abbrev pub blocks_with : Head → List ℕ → ℕ → ℕ
blocks_with h d i = sum_ℕ (blocks h) (λ k. occ i (left h d k) + occ i (right h d k))

-- a sound design, with its bytes left behind
pub incidence : (h : Head) (d : List ℕ) → Sound h d → Incidence (blocks h) (objects h) h.p (λ k i. occ i (left h d k)) (λ k i. occ i (right h d k))
incidence h d s = record {
  left_full = λ k l. block-left h d s k l;
  right_full = λ k l. block-right h d s k l;
  one = λ k i l m. block-once h d s k l i;
}

-- with itself an object shares a side in every block in which it stands
pub company_self : (h : Head) (d : List ℕ) → Sound h d → (i : ℕ) → i < objects h → company h d i i ≡ blocks_with h d i
unfolding company
company_self h d s i l = self_together (blocks h) (objects h) h.p (on_left h d) (on_right h d) (incidence h d s) i l

-- it never opposes itself
pub opposition_self : (h : Head) (d : List ℕ) → Sound h d → (i : ℕ) → i < objects h → opposition h d i i ≡ 0
unfolding opposition
opposition_self h d s i l = self_against (blocks h) (objects h) h.p (on_left h d) (on_right h d) (incidence h d s) i l

-- a balanced design, with its bytes left behind
pub balance_even : (h : Head) (d : List ℕ) (l1 l2 : ℕ) → Balanced h d l1 l2 → Even (blocks h) (objects h) (on_left h d) (on_right h d) l1 l2
unfolding company opposition
balance_even h d l1 l2 b = record { company = b.together; opposition = b.against }

-- the numbers of a balanced design: with beta = l2 - l1, every object stands in r = beta (v - 1) blocks
pub record Numbers (h : Head) (d : List ℕ) : Type 0 where
  pub less : company h d 1 0 ≤ opposition h d 1 0
  pub beta-is : company h d 1 0 + beta h d ≡ opposition h d 1 0
  pub positive : 0 < beta h d
  pub repeats : (i : ℕ) → i < objects h → company h d i i ≡ beta h d * (objects h - 1)
  pub stands : (i : ℕ) → i < objects h → blocks_with h d i ≡ beta h d * (objects h - 1)
  pub size : 2 * h.p * blocks h ≡ beta h d * objects h * (objects h - 1)
  pub shares : company h d 1 0 * (objects h - 1) ≡ beta h d * (objects h - 1) * (h.p - 1)
  pub opposes : opposition h d 1 0 * (objects h - 1) ≡ beta h d * (objects h - 1) * h.p
  pub enough : objects h - 1 ≤ blocks h
