-- Sheets of another laboratory: which object is the first that differs, what the answer is, and that it depends only on the hundredths of the v objects.
--     differs_at_lem       at the object that is found the claim differs
--     right-before     before it every claim is right
--     against-object, against-spread   the answer by what is found
--     against_ext      the answer for hundredths that agree
--     under_refused, under_accepted    what an answer under a verdict says of the verdict
-- Assumes nothing.
use Rattle.std.proofs.Common.{Option, Ok, Err}
use Prim.Native.Nat.{ℕ, zero, suc, ◌+◌, ◌≤◌, ◌<◌}
use mathlib.Core.Path.{◌≡◌, refl, sym, ap, ap₂, subst, ◌∙◌}
use mathlib.Core.Bool.{Bool, true, false, cond, not, false≢true}
use mathlib.Core.List.{List}
use native.Mathlib.Omega.{arith}
use borrow.Author.Tests.{eq-eqb, eqb-true, lt-ltb, le-ltb}
use lib.Dec.{ltb}
use lib.IntN.{ℤ, pos, negsuc}
use Rattle.algebra.specs.Ranges.{first_from, eq_z}
use Rattle.algebra.proofs.Tests.{first_from_none, first_bounds, first-before, first-is}
use Rattle.records.specs.declared.Agreement.{Agreement}
use Rattle.records.specs.declared.Refusal.{Refusal}
use Rattle.records.specs.declared.Spread.{Spread}
use Rattle.meaning.specs.Refusals.{Verdict, accepted}
use Rattle.meaning.specs.Sheet.{claim, differs_at, against, agrees, differs, same_spread, checked_under, checked_verdict}

-- ---- whole numbers that are equal, and that differ

pub eq_z-same : (x y : ℤ) → x ≡ y → eq_z x y ≡ true
eq_z-same x y e = ap (eq_z x) (sym e) ∙ itself x
  where
    itself : (x : ℤ) → eq_z x x ≡ true
    itself (pos n) = eq-eqb n n refl
    itself (negsuc n) = eq-eqb n n refl

pub eq_z-equal : (x y : ℤ) → eq_z x y ≡ true → x ≡ y
eq_z-equal (pos a) (pos b) e = ap pos (eqb-true a b e)
eq_z-equal (pos a) (negsuc b) e = absurd (false≢true e)
eq_z-equal (negsuc a) (pos b) e = absurd (false≢true e)
eq_z-equal (negsuc a) (negsuc b) e = ap negsuc (eqb-true a b e)

pub eq_z_differ : (x y : ℤ) → (x ≡ y → ⊥) → eq_z x y ≡ false
eq_z_differ x y n = go (eq_z x y) refl
  where
    go : (t : Bool) → eq_z x y ≡ t → eq_z x y ≡ false
    go true e = absurd (n (eq_z-equal x y e))
    go false e = e

-- ---- searches

-- what is found passes the test
found-holds : (p : ℕ → Bool) (i c : ℕ) → first_from p i c < i + c → p (first_from p i c) ≡ true
unfolding first_from
found-holds p i zero l = absurd (omega arith)
found-holds p i (suc c) l = go (p i) refl l (found-holds p (suc i) c)
  where
    go : (b : Bool) → p i ≡ b → first_from p i (suc c) < i + suc c → (first_from p (suc i) c < suc i + c → p (first_from p (suc i) c) ≡ true) →
        p (first_from p i (suc c)) ≡ true
    go true e l ih = rw e e
    go false e l ih = rw e (ih (let m : first_from p (suc i) c < i + suc c = rw e at l in omega arith))

-- two tests that agree find the same
firsts_agree : (p q : ℕ → Bool) (i c : ℕ) → ((j : ℕ) → i ≤ j → j < i + c → p j ≡ q j) → first_from p i c ≡ first_from q i c
unfolding first_from
firsts_agree p q i zero e = refl
firsts_agree p q i (suc c) e =
    ap₂ (λ (t : Bool) (n : ℕ). cond t i n) (e i (omega arith) (omega arith)) (firsts_agree p q (suc i) c (λ j l m. e j (omega arith) (omega arith)))

-- ---- the first object that differs

module _ (v : ℕ) (f : ℕ → ℤ) (claims : List ℤ) where
  abbrev pub off : ℕ → Bool
  off i = not (eq_z (claim claims i) (f i))

  -- where a claim is right, and where it differs
  pub off-right : (i : ℕ) → claim claims i ≡ f i → off i ≡ false
  off-right i e = ap not (eq_z-same (claim claims i) (f i) e)

  pub off-differs : (i : ℕ) → (claim claims i ≡ f i → ⊥) → off i ≡ true
  off-differs i n = ap not (eq_z_differ (claim claims i) (f i) n)

  right-off : (i : ℕ) → off i ≡ false → claim claims i ≡ f i
  right-off i e = go (eq_z (claim claims i) (f i)) refl e
    where
      go : (t : Bool) → eq_z (claim claims i) (f i) ≡ t → not t ≡ false → claim claims i ≡ f i
      go true p q = eq_z-equal (claim claims i) (f i) p
      go false p q = absurd (false≢true (sym q))

  -- it is one of the objects, or v
  pub differs-most : differs_at v f claims ≤ v
  unfolding differs_at
  differs-most = omega (arith, (first_bounds off 0 v).1)

  -- the claims before it are right
  pub right-before : (i : ℕ) → i < differs_at v f claims → claim claims i ≡ f i
  unfolding differs_at
  right-before i l = right-off i (first-before off 0 v i (omega arith) l)

  -- at it the claim differs
  pub differs_at_lem : differs_at v f claims < v → claim claims (differs_at v f claims) ≡ f (differs_at v f claims) → ⊥
  unfolding differs_at
  differs_at_lem l e = false≢true (sym (off-right (first_from off 0 v) e) ∙ found-holds off 0 v (omega (arith, l)))

  -- where every claim is right it is v
  pub all_right : ((i : ℕ) → i < v → claim claims i ≡ f i) → differs_at v f claims ≡ v
  unfolding differs_at
  all_right e = first_from_none off 0 v (λ i l m. off-right i (e i (omega (arith, m)))) ∙ omega arith

  -- an object before which every claim is right, and whose own is not
  pub first_off : (i : ℕ) → i < v → ((j : ℕ) → j < i → claim claims j ≡ f j) → (claim claims i ≡ f i → ⊥) → differs_at v f claims ≡ i
  unfolding differs_at
  first_off i l e n = first-is off 0 v i (omega arith) (omega (arith, l)) (λ j a b. off-right j (e j b)) (off-differs i n)

-- ---- the answer

module _ (v : ℕ) (f : ℕ → ℤ) (spread : Option Spread) (claims : List ℤ) (claimed : Option Spread) (at : ℕ) (is : at ≡ differs_at v f claims) where
  -- an object differs
  pub against-object : at < v → differs at ≡ against v f spread claims claimed
  unfolding against
  against-object l = ap differs is
      ∙ sym (ap (λ (t : Bool). cond t (differs (differs_at v f claims)) (cond (same_spread claimed spread) agrees (differs v)))
      (lt-ltb (differs_at v f claims) v (subst (λ (n : ℕ). n < v) is l)))

  -- none does: the spread decides
  pub against-spread : v ≤ at → (t : Bool) → same_spread claimed spread ≡ t → cond t agrees (differs v) ≡ against v f spread claims claimed
  unfolding against
  against-spread l t e =
      sym (ap₂ (λ (b c : Bool). cond b (differs (differs_at v f claims)) (cond c agrees (differs v)))
      (le-ltb (differs_at v f claims) v (subst (λ (n : ℕ). v ≤ n) is l)) e)

-- for hundredths that agree over the objects it is the same
pub against_ext : (v : ℕ) (f g : ℕ → ℤ) (spread : Option Spread) (claims : List ℤ) (claimed : Option Spread) → ((i : ℕ) → i < v → f i ≡ g i) →
    against v f spread claims claimed ≡ against v g spread claims claimed
unfolding against differs_at
against_ext v f g spread claims claimed e =
    ap (λ (at : ℕ). cond (ltb at v) (differs at) (cond (same_spread claimed spread) agrees (differs v)))
    (firsts_agree (off v f claims) (off v g claims) 0 v (λ i l m. ap (λ (x : ℤ). not (eq_z (claim claims i) x)) (e i (omega (arith, m)))))

-- ---- an answer under a verdict

-- where it refuses, the verdict is that refusal
pub under_refused : (v : Verdict) (a : Agreement) (why : Refusal) → checked_under v (Ok a) ≡ Err why → v ≡ Err why
under_refused (Ok done) a why e = let z : ◌≡◌ {A = ℕ} 0 1 = cc in absurd (omega arith)
under_refused (Err w) a why e = ap checked_verdict e

-- where it says anything of the sheet, the verdict accepts
pub under_accepted : (v : Verdict) (a b : Agreement) → checked_under v (Ok a) ≡ Ok b → v ≡ accepted
under_accepted (Ok done) a b e = refl
under_accepted (Err w) a b e = let z : ◌≡◌ {A = ℕ} 0 1 = cc in absurd (omega arith)
