-- Practice readings by the laws of practice, and the file of a practice job by those of writing. Assumes nothing.
use Rattle.std.proofs.Common.{Ok, Err}
use mathlib.Core.Path.{◌≡◌, refl, sym, ap, subst, ◌∙◌}
use mathlib.Core.List.{List, ◌++◌}
use Prim.Native.Nat.{ℕ, ◌≤◌, ◌<◌}
use native.Mathlib.Omega.{arith}
use borrow.Author.Tests.{leb-true}
use lib.IntN.{ℤ, pos, nat_abs, ◌+ℤ◌, ◌-ℤ◌}
use lib.ListN.{length, get_or, take, drop}
use lib.Seq.{take_at, drop_at}
use Rattle.algebra.specs.Buffers.{over}
use Rattle.algebra.proofs.Filling.{over_ext}
use Rattle.algebra.proofs.Solver.{◌⊗◌, #, ◌≐◌, ring₁}
use Rattle.meaning.specs.Design.{blocks, left, right}
use Rattle.meaning.specs.Analysis.{reading, along, difference, deviation_of, qOf, spread_hundredths_of}
use Rattle.meaning.specs.Fractions.{◌=ᶠ◌, whole}
use Rattle.meaning.specs.Refusals.{Verdict, accepted, ◌⨾◌}
use Rattle.meaning.specs.Writing.{file_of, file_length, ReadsAs}
use Rattle.meaning.specs.Practice.{
  step,
  state,
  noise,
  near,
  practised,
  practice_reading,
  practice_verdict,
  practice_after,
  practice_file_verdict,
  practice_file_after,
}
use Rattle.laws.proofs.Chains.{opened, held, given_no, given_yes}
use Rattle.laws.proofs.Practice.{
  Practised,
  practised-is,
  state-most,
  noise-some,
  listed-long,
  listed_at,
  reading-most,
  readings_are,
  practice_job_lem,
  true-values,
  true-deviations,
  true_q,
  true_k,
}
use Rattle.laws.proofs.WritingBack.{reads-back, file-length}
use Rattle.demands.specs.Job.{v, verdict_of, exact}
use Rattle.demands.specs.Refusals.{seven, eleven, ten}
use Rattle.demands.specs.Outcomes.{WritesOnly}
use Rattle.demands.specs.Practice.{Generator, Practice, true, practice_job, tests, PracticeReadings}
use Rattle.demands.proofs.Outcomes.{writes_front}

-- ---- the generator

pub generator : (start : ℕ) → Generator start
unfolding state step noise
generator start = record {
  first_block = refl;
  next-block = λ k. refl;
  of_32_bits = state-most start;
  top_bits = λ w k l. noise-some w (state start k) l;
  no_bits = λ k. refl;
}

-- two tests at the end of a chain, taken out
two_out : (a c e f : Verdict) → a ⨾ (c ⨾ e) ⨾ f ≡ a ⨾ c ⨾ e ⨾ f
two_out (Ok done) c e f = refl
two_out (Err why) c e f = refl

module _ (x : Practice) where
  open x use {head as h, initial as d, truths as u, start as x₀, width as w, set as set}

  -- the page's tests are those of the call
  tests_are : practised h d u w ≡ tests x
  unfolding practised near
  tests_are = refl

  -- what stands where they are passed
  module _ (e : tests x ≡ accepted) where
    stands : Practised h d u w
    stands = practised-is h d u w (tests_are ∙ e)

    far : (k : ℕ) → k < blocks h → nat_abs (reading (practice_job x).readings k) ≤ 150128
    far k l = rw (readings_are h d u w stands x₀ k l) (reading-most h d u w stands x₀ k l)

    judged : verdict_of (practice_job x) ≡ seven (practice_job x) ⨾ eleven (practice_job x)
    judged = practice_job_lem h d u w stands x₀ set (practice_job x).sum

    -- width 0
    module _ (z : w ≡ 0) where
      plain : Practised h d u 0
      plain = subst (Practised h d u) z stands

      values : (i : ℕ) → i < v (practice_job x) → exact (practice_job x) i =ᶠ whole (get_or u i (pos 0))
      values i l = rw z (ring₁ (λ a. a ⊗ # 1 ≐ a) _ refl ∙ true-values h d u plain x₀ set i l)

      deviations : (k : ℕ) → k < blocks h → deviation_of h d (practice_job x).readings k ≡ pos 0
      deviations k l = rw z (true-deviations h d u plain x₀ k l)

      nothing : (qOf h d (practice_job x).readings ≡ 0) × (spread_hundredths_of h d (practice_job x).readings ≡ 0)
      nothing = rw z (true_q h d u plain x₀, true_k h d u plain x₀)

  -- the room of the readings
  module _ (room : List ℤ) (e : practice_verdict h d u w (length room) ≡ accepted) where
    enough : blocks h ≤ length room
    unfolding practice_verdict
    enough = leb-true _ _ (held _ _ _ (opened (practised h d u w) (ten (length room) (blocks h)) e).1)

    laid-is : over (blocks h) (reading (practice_job x).readings) room ≡ practice_after h d u x₀ w room
    laid-is =
        over_ext (blocks h) _ _ room (λ k l. listed_at (blocks h) (practice_reading h d u x₀ w) k l)
        ∙ sym (given_yes (practice_verdict h d u w (length room)) _ room e)

    lays : WritesOnly room (practice_after h d u x₀ w room) 0 (blocks h) (reading (practice_job x).readings)
    lays = subst (λ (after : List ℤ). WritesOnly room after 0 (blocks h) (reading (practice_job x).readings)) laid-is
        (writes_front (blocks h) (reading (practice_job x).readings) room enough)

  -- the room of the file
  module _ (out : List ℕ) (e : practice_file_verdict h d u w set (length out) ≡ accepted) where
    abbrev y : List ℤ
    y = (practice_job x).readings

    abbrev file : List ℕ
    file = file_of h d y set (practice_job x).sum

    passed : tests x ≡ accepted
    unfolding practice_file_verdict
    passed = sym tests_are ∙ (opened _ _ (opened _ _ e).0).0

    job-accepted : verdict_of (practice_job x) ≡ accepted
    unfolding practice_file_verdict
    job-accepted = judged passed ∙ (opened (practised h d u w) (seven (practice_job x) ⨾ eleven (practice_job x)) (opened _ _ e).0).1

    after : practice_file_after h d u x₀ w set out ≡ file ++ drop (file_length h) out
    after = given_yes (practice_file_verdict h d u w set (length out)) _ out e

    long : length file ≡ file_length h
    long = file-length h d y set (practice_job x).sum job-accepted

    reads : ReadsAs (take (file_length h) (practice_file_after h d u x₀ w set out)) h d y set (practice_job x).sum
    reads = subst (λ (s : List ℕ). ReadsAs s h d y set (practice_job x).sum)
        (sym (ap (take (file_length h)) after ∙ take_at file (drop (file_length h) out) (file_length h) long))
        (reads-back h d y set (practice_job x).sum job-accepted)

    later : drop (file_length h) (practice_file_after h d u x₀ w set out) ≡ drop (file_length h) out
    later = ap (drop (file_length h)) after ∙ drop_at file (drop (file_length h) out) (file_length h) long

  -- the orders of the tests
  in_order : (len : ℕ) → practice_verdict h d u w len ≡ tests x ⨾ ten len (blocks h)
  unfolding practice_verdict practised near
  in_order len = refl

  file_in_order : (len : ℕ) → practice_file_verdict h d u w set len ≡ tests x ⨾ seven (practice_job x) ⨾ eleven (practice_job x) ⨾ ten len (file_length h)
  unfolding practice_file_verdict practised near
  file_in_order len = two_out (tests x) (seven (practice_job x)) (eleven (practice_job x)) (ten len (file_length h))

  -- how a reading is made
  made : (k : ℕ) → k < blocks h →
      reading (practice_job x).readings k ≡ along (true x) (left h d k) -ℤ along (true x) (right h d k) +ℤ noise w (state x₀ k)
  unfolding practice_reading difference
  made k l = listed_at (blocks h) (practice_reading h d u x₀ w) k l

  pub practice_read : PracticeReadings x
  practice_read = record {
    left_minus_right = made;
    as_many_as_blocks = listed-long (blocks h) (practice_reading h d u x₀ w);
    order = in_order;
    file-order = file_in_order;
    leaves = λ room k at e. given_no _ _ room k at e;
    file-leaves = λ out k at e. given_no _ _ out k at e;
    file_hands_back = λ len k at e. rw e;
    laid = lays;
    written = λ out e. (rw e, reads out e, later out e);
    in_range_lem = λ e k l. omega (arith, far e k l);
    far_within = far;
    accepted_with_its_restraint = judged;
    true-values = λ z e i l. search (values e z i l);
    no_deviation_lem = λ z e k l. search (deviations e z k l);
    no_Q = λ z e. search (nothing e z);
    no_freedom = λ e. rw e refl;
  }
