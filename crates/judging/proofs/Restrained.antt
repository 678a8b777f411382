-- The restraint, test by test. Assumes nothing.
use mathlib.Core.Path.{◌≡◌, refl, sym, ◌∙◌}
use mathlib.Core.Bool.{Bool, true, false, ◌&&◌}
use Prim.Native.Nat.{ℕ, ◌*◌, ◌/◌, ◌^◌, ◌≤◌, ◌<◌}
use native.Mathlib.Nat.{div-lt_iff_lt-mul}
use native.Mathlib.Omega.{arith}
use borrow.Author.Tests.{lt-ltb, le-leb, lt-leb}
use lib.Dec.{leb, ltb}
use lib.Pow.{pow_pos}
use lib.IntN.{ℤ, nat_abs}
use Rattle.algebra.proofs.Tests.{and_both}
use Rattle.records.specs.declared.Head.{Head}
use Rattle.meaning.specs.Design.{objects}
use Rattle.algebra.specs.Ranges.{sum_ℕ}
use Rattle.meaning.specs.Analysis.{member, members}
use Rattle.laws.specs.Fits.{Fits}
use Rattle.words.proofs.Members.{ones_members}
use Rattle.design.specs.Within.{within}
use Rattle.design.proofs.Within.{within-sizes}
use Rattle.meaning.specs.Refusals.{accepted, refused, sum_limit, in_restraint, restraint}
use Rattle.laws.proofs.Chains.{InOrder, in_order, accepts, goes_on, refused_stays, test_yes, test_no}

-- ---- bits at v or above

-- a set whose shift is 0 has none
pub none_past : (v w : ℕ) → w / 2 ^ v ≡ 0 → w < 2 ^ v
none_past v w e = let low : w < 1 * 2 ^ v = (div-lt_iff_lt-mul (pow_pos v)).0 (omega arith) in omega arith

-- and one that has none has the shift 0
pub past_none : (v w : ℕ) → w < 2 ^ v → w / 2 ^ v ≡ 0
past_none v w l = let low : w / 2 ^ v < 1 = (div-lt_iff_lt-mul (pow_pos v)).1 (omega arith) in omega arith

-- ---- the restraint

-- a set and a sum that are in order, with two standards at least, are accepted
pub restrained_yes : (h : Head) (w : ℕ) (M : ℤ) → InOrder h w M → 2 ≤ members (objects h) w → restraint h w M ≡ accepted
restrained_yes h w M r two = accepts (passes h w M r) (test_yes (leb 2 (members (objects h) w)) 11 0 (le-leb _ _ two))
  where
    passes : (h : Head) (w : ℕ) (M : ℤ) → InOrder h w M → in_restraint h w M ≡ accepted
    passes h w M r = test_yes (ltb 0 w && ltb w (2 ^ objects h) && leb (nat_abs M) sum_limit) 7 0
        (and_both (and_both (lt-ltb _ _ r.set-some) (lt-ltb _ _ r.set-inside)) (le-leb _ _ r.sum-most))

-- with fewer they are too few
pub one_standard : (h : Head) (w : ℕ) (M : ℤ) → InOrder h w M → members (objects h) w < 2 → restraint h w M ≡ refused 11 0
one_standard h w M r few =
    goes_on _ (test_yes (ltb 0 w && ltb w (2 ^ objects h) && leb (nat_abs M) sum_limit) 7 0
    (and_both (and_both (lt-ltb _ _ r.set-some) (lt-ltb _ _ r.set-inside)) (le-leb _ _ r.sum-most)))
    ∙ test_no (leb 2 (members (objects h) w)) 11 0 (lt-leb _ _ few)

-- what cannot be in order is refused first
pub restrained_no : (h : Head) (w : ℕ) (M : ℤ) → (InOrder h w M → ⊥) → restraint h w M ≡ refused 7 0
restrained_no h w M n = by (ltb 0 w && ltb w (2 ^ objects h) && leb (nat_abs M) sum_limit) refl
  where
    by : (t : Bool) → ltb 0 w && ltb w (2 ^ objects h) && leb (nat_abs M) sum_limit ≡ t → restraint h w M ≡ refused 7 0
    by true e = absurd (n (in_order h w M (test_yes _ 7 0 e)))
    by false e = refused_stays _ 7 0 (test_no _ 7 0 e)

-- the same as the code has it: v is read off the sizes, and the objects of the set are counted
module _ (h : Head) (w : ℕ) (M : ℤ) (f : Fits h) (some : 0 < w) (none : w / 2 ^ within h (objects h) ≡ 0) (most : nat_abs M ≤ sum_limit) where
  inside : w < 2 ^ objects h
  inside = none_past (objects h) w (rw (within-sizes h (objects h) f) at none)

  order : InOrder h w M
  order = record { set-some = some; set-inside = inside; sum-most = most }

  counted : sum_ℕ 64 (member w) ≡ members (objects h) w
  counted = ones_members (objects h) w (omega (arith, f.objects-most)) inside

  pub too_few : sum_ℕ 64 (member w) < 2 → refused 11 0 ≡ restraint h w M
  too_few few = sym (one_standard h w M order (omega (arith, counted)))

  pub enough : 2 ≤ sum_ℕ 64 (member w) → accepted ≡ restraint h w M
  enough two = sym (restrained_yes h w M order (omega (arith, counted)))
