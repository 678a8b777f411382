-- A chain of tests, taken apart: where it accepts, every test of it held. Code cites these laws, never a chain's text.
--     opened, held, accepts         an accepting chain and an accepting test, both ways
--     goes_on, refused_stays        how chains are put together
--     fits, sized_yes, sized_no     the test of the sizes decides `Fits`
--     sound, measured, job          what an accepted design, its readings and a whole job are, as records
-- Assumes nothing.
use Rattle.std.proofs.Common.{Ok, Err}
use Prim.Native.Nat.{ℕ, ◌*◌, ◌^◌, ◌≤◌, ◌<◌}
use mathlib.Core.Path.{◌≡◌, refl, sym, ap, ap₂, subst}
use mathlib.Core.Bool.{Bool, true, false, ◌&&◌}
use mathlib.Core.List.{List}
use native.Mathlib.Omega.{arith}
use native.Mathlib.Nat.{mul-le-mul}
use borrow.Author.Tests.{le-leb, leb-true, ltb-true, ltb-false, eqb-true, eq-eqb}
use lib.ListN.{length}
use lib.Dec.{leb, ltb, eqb}
use lib.IntN.{ℤ, nat_abs}
use Rattle.algebra.proofs.Tests.{and_left, and_right, first-before}
use Rattle.records.specs.declared.Head.{Head}
use Rattle.meaning.specs.Design.{objects, blocks, sized, list_length, balanced}
use Rattle.meaning.specs.Analysis.{reading, members}
use Rattle.meaning.specs.Refusals.{Verdict, accepted, refused, test, ◌⨾◌, offender, far_reading, clean}
use Rattle.meaning.specs.Refusals.{in_restraint, standards, restraint, in_reach, reading_limit, sum_limit}
use Rattle.meaning.specs.Calls.{given, design_verdict, judge_verdict, slices, contents, job_verdict, readings_verdict}
use Rattle.laws.specs.Fits.{Fits}

-- ---- chains

-- no refusal accepts
pub refused_is_not : {A : Type 0} (k at : ℕ) → refused k at ≡ accepted → A
refused_is_not k at e = let z : ◌≡◌ {A = ℕ} 0 1 = cc in absurd (omega arith)

-- an accepting chain: what stands before its last test accepts, and so does that
pub opened : (a b : Verdict) → a ⨾ b ≡ accepted → (a ≡ accepted) × (b ≡ accepted)
opened (Ok done) b e = (refl, e)
opened (Err why) b e = refused_is_not why.number why.place e

-- a test that accepts held
pub held : (t : Bool) (k at : ℕ) → test t k at ≡ accepted → t ≡ true
held true k at e = refl
held false k at e = refused_is_not k at e

-- a test that holds accepts
pub test_yes : (t : Bool) (k at : ℕ) → t ≡ true → test t k at ≡ accepted
test_yes t k at e = ap (λ (b : Bool). test b k at) e

-- a test that fails refuses with its number at its place
pub test_no : (t : Bool) (k at : ℕ) → t ≡ false → test t k at ≡ refused k at
test_no t k at e = ap (λ (b : Bool). test b k at) e

-- two chains that accept are one that accepts
pub accepts : {a b : Verdict} → a ≡ accepted → b ≡ accepted → a ⨾ b ≡ accepted
accepts e f = ap₂ ◌⨾◌ e f

-- after an accepting chain the next one counts
pub goes_on : {a : Verdict} (b : Verdict) → a ≡ accepted → a ⨾ b ≡ b
goes_on b e = ap (λ (a : Verdict). a ⨾ b) e

-- a refusal is not changed by what comes after it
pub refused_stays : {a : Verdict} (b : Verdict) (k at : ℕ) → a ≡ refused k at → a ⨾ b ≡ refused k at
refused_stays b k at e = ap (λ (a : Verdict). a ⨾ b) e

-- a test that always holds may be left out
pub accepted-last : (a : Verdict) → a ⨾ accepted ≡ a
accepted-last (Ok done) = refl
accepted-last (Err why) = refl

-- an accepting verdict gives the answer
pub given_yes : {A : Type 0} (a : Verdict) (answer nothing : A) → a ≡ accepted → given a answer nothing ≡ answer
given_yes a answer nothing e = ap (λ (a : Verdict). given a answer nothing) e

-- a refusing one gives nothing
pub given_no : {A : Type 0} (a : Verdict) (answer nothing : A) (k at : ℕ) → a ≡ refused k at → given a answer nothing ≡ nothing
given_no a answer nothing k at e = ap (λ (a : Verdict). given a answer nothing) e

-- ---- the sizes

-- two tests that hold together hold each
both : (a b : Bool) → a && b ≡ true → (a ≡ true) × (b ≡ true)
both a b e = (and_left a b e, and_right a b e)

-- where the test holds, every size fits
pub fits : (h : Head) → sized h ≡ true → Fits h
unfolding sized
fits h e =
    let a = both _ _ e in
    let b = both _ _ a.0 in
    let c = both _ _ b.0 in
    let d = both _ _ c.0 in
    let f = both _ _ d.0 in
    let g = both _ _ f.0 in
    let i = both _ _ g.0 in
    let j = both _ _ i.0 in
    let k = both _ _ j.0 in
    record {
      n_least = leb-true _ _ k.0;
      n_most = leb-true _ _ k.1;
      flag-most = leb-true _ _ j.1;
      has_addition_lem = i.1;
      objects-most = leb-true _ _ g.1;
      p_least = leb-true _ _ f.1;
      sides-fit = leb-true _ _ d.1;
      m_least = leb-true _ _ c.1;
      m_most = leb-true _ _ b.1;
      blocks-most = leb-true _ _ a.1;
    }

-- where every size fits, the test holds
pub sized_yes : (h : Head) → Fits h → true ≡ sized h
unfolding sized
sized_yes h f =
    rw (
      le-leb _ _ f.n_least,
      le-leb _ _ f.n_most,
      le-leb _ _ f.flag-most,
      f.has_addition_lem,
      le-leb _ _ f.objects-most,
      le-leb _ _ f.p_least,
      le-leb _ _ f.sides-fit,
      le-leb _ _ f.m_least,
      le-leb _ _ f.m_most,
      le-leb _ _ f.blocks-most,
    )

-- where they cannot all fit, it fails
pub sized_no : (h : Head) → (Fits h → ⊥) → false ≡ sized h
sized_no h n = go (sized h) (λ e. n (fits h e))
  where
    go : (b : Bool) → (b ≡ true → ⊥) → false ≡ b
    go true un = absurd (un refl)
    go false un = refl

-- a block list has at most 3200 bytes
pub listed-most : (h : Head) → Fits h → list_length h ≤ 3200
listed-most h f =
    let p : 2 * h.p ≤ 50 = omega arith in
    omega (arith, mul-le-mul p f.m_most)

-- ---- designs

-- what an accepted block list is
pub record Sound (h : Head) (d : List ℕ) : Type 0 where
  pub sizes : Fits h
  pub long : length d ≡ list_length h
  pub clean : offender h d ≡ length d

-- an accepted block list is sound
pub sound : (h : Head) (d : List ℕ) → design_verdict h d ≡ accepted → Sound h d
unfolding design_verdict
sound h d e =
    let a = opened _ _ e in
    let b = opened _ _ a.0 in
    record {
      sizes = fits h (held _ _ _ b.0);
      long = eqb-true _ _ (held _ _ _ b.1);
      clean = eqb-true _ _ (held _ _ _ a.1);
    }

-- a sound one is accepted
pub sound_accepted : (h : Head) (d : List ℕ) → Sound h d → design_verdict h d ≡ accepted
unfolding design_verdict
sound_accepted h d s = accepts (accepts (test_yes (sized h) 4 0 (sym (sized_yes h s.sizes)))
    (test_yes (eqb (length d) (list_length h)) 3 0 (eq-eqb _ _ s.long)))
    (test_yes (eqb (offender h d) (length d)) 5 (offender h d) (eq-eqb _ _ s.clean))

-- a judgement accepts a sound, balanced design
pub judged_sound : (h : Head) (d : List ℕ) → judge_verdict h d ≡ accepted → Sound h d × (balanced h d ≡ true)
unfolding judge_verdict
judged_sound h d e = let a = opened _ _ e in (sound h d a.0, held _ _ _ a.1)

-- ---- readings

-- where no reading is found to be out of range, every one is in it
pub readings-near : (y : List ℤ) → in_reach y ≡ accepted → (k : ℕ) → k < length y → nat_abs (reading y k) ≤ reading_limit
unfolding far_reading
readings-near y e k l = ltb-false reading_limit (nat_abs (reading y k))
    (first-before (λ k. ltb reading_limit (nat_abs (reading y k))) 0 (length y) k (omega arith)
    (subst (λ (x : ℕ). k < x) (sym (eqb-true _ _ (held _ _ _ e))) l))

-- the sizes and the two lengths of a job's slices
pub record Slices (h : Head) (d : List ℕ) (y : List ℤ) : Type 0 where
  pub sizes : Fits h
  pub long : length d ≡ list_length h
  pub readings-long : length y ≡ blocks h

-- accepted slices have their sizes and lengths
pub sliced : (h : Head) (d : List ℕ) (y : List ℤ) → slices h d y ≡ accepted → Slices h d y
unfolding slices
sliced h d y e =
    let a = opened _ _ e in
    let b = opened _ _ a.0 in
    record {
      sizes = fits h (held _ _ _ b.0);
      long = eqb-true _ _ (held _ _ _ b.1);
      readings-long = eqb-true _ _ (held _ _ _ a.1);
    }

-- accepted slices with a clean block list are a sound design
pub slices_sound : (h : Head) (d : List ℕ) (y : List ℤ) → Slices h d y → clean h d ≡ accepted → Sound h d
slices_sound h d y s e = record { sizes = s.sizes; long = s.long; clean = eqb-true _ _ (held _ _ _ e) }

-- the readings of a sound design are as many as its blocks, all in range
pub record Readings (h : Head) (y : List ℤ) : Type 0 where
  pub readings-long : length y ≡ blocks h
  pub readings-most : (k : ℕ) → k < blocks h → nat_abs (reading y k) ≤ reading_limit

-- with no reading out of range they have such readings
pub slices-readings : (h : Head) (d : List ℕ) (y : List ℤ) → Slices h d y → in_reach y ≡ accepted → Readings h y
slices-readings h d y s e = record {
  readings-long = s.readings-long;
  readings-most = λ k l. readings-near y e k (subst (λ (x : ℕ). k < x) (sym s.readings-long) l);
}

-- what accepted readings of a balanced design are
pub record Measured (h : Head) (d : List ℕ) (y : List ℤ) : Type 0 where
  pub design : Sound h d
  pub even : balanced h d ≡ true
  pub readings : Readings h y

-- accepted readings are such
pub measured : (h : Head) (d : List ℕ) (y : List ℤ) → readings_verdict h d y ≡ accepted → Measured h d y
unfolding readings_verdict
measured h d y e =
    let a = opened _ _ e in
    let b = opened _ _ a.0 in
    let c = opened _ _ b.0 in
    let s = sliced h d y c.0 in
    record {
      design = slices_sound h d y s c.1;
      even = held _ _ _ b.1;
      readings = slices-readings h d y s a.1;
    }

-- ---- whole jobs

-- what an accepted restraint is: at least two objects of the design, and a sum in its range
pub record Restraint (h : Head) (w : ℕ) (M : ℤ) : Type 0 where
  pub set-some : 0 < w
  pub set-inside : w < 2 ^ objects h
  pub sum-most : nat_abs M ≤ sum_limit
  pub two : 2 ≤ members (objects h) w

-- what passes 7: the same with any number of objects
pub record InOrder (h : Head) (w : ℕ) (M : ℤ) : Type 0 where
  pub set-some : 0 < w
  pub set-inside : w < 2 ^ objects h
  pub sum-most : nat_abs M ≤ sum_limit

pub in_order : (h : Head) (w : ℕ) (M : ℤ) → in_restraint h w M ≡ accepted → InOrder h w M
in_order h w M e =
    let a = both (ltb 0 w && ltb w (2 ^ objects h)) (leb (nat_abs M) sum_limit) (held _ _ _ e) in
    let b = both (ltb 0 w) (ltb w (2 ^ objects h)) a.0 in
    record {
      set-some = ltb-true _ _ b.0;
      set-inside = ltb-true _ _ b.1;
      sum-most = leb-true _ _ a.1;
    }

-- an accepted restraint is such
pub restrains : (h : Head) (w : ℕ) (M : ℤ) → restraint h w M ≡ accepted → Restraint h w M
restrains h w M e =
    let o = opened (in_restraint h w M) (standards h w) e in
    let r = in_order h w M o.0 in
    record { set-some = r.set-some; set-inside = r.set-inside; sum-most = r.sum-most; two = leb-true 2 _ (held _ _ _ o.1) }

-- what an accepted job is
pub record Job (h : Head) (d : List ℕ) (y : List ℤ) (w : ℕ) (M : ℤ) : Type 0 where
  pub measures : Measured h d y
  pub restraint : Restraint h w M

-- an accepted job is such
pub job : (h : Head) (d : List ℕ) (y : List ℤ) (w : ℕ) (M : ℤ) → job_verdict h d y w M ≡ accepted → Job h d y w M
unfolding job_verdict contents
job h d y w M e =
    let a = opened _ _ e in
    let b = opened _ _ a.1 in
    let c = opened _ _ b.0 in
    let f = opened _ _ c.0 in
    let s = sliced h d y a.0 in
    record {
      measures = record {
        design = slices_sound h d y s f.0;
        even = held _ _ _ f.1;
        readings = slices-readings h d y s b.1;
      };
      restraint = restrains h w M c.1;
    }
