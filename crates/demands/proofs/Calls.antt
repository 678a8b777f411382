-- The direct calls: each one's tests as a flat row, and what it leaves and hands back, refused and accepted. Assumes nothing.
use Rattle.std.proofs.Common.{Ok, Err}
use mathlib.Core.Path.{◌≡◌, refl, ap, ◌∙◌}
use mathlib.Core.Bool.{true}
use Prim.Native.Nat.{ℕ, ◌+◌, ◌*◌, ◌^◌, ◌≤◌, ◌<◌}
use native.Mathlib.Omega.{arith}
use borrow.Author.Tests.{lt-ltb, le-ltb, le-leb, eq-eqb}
use lib.Dec.{ltb}
use lib.IntN.{nat_abs}
use lib.ListN.{length}
use Rattle.algebra.proofs.Tests.{and_both, first_from_none}
use Rattle.meaning.specs.Analysis.{reading}
use Rattle.meaning.specs.Refusals.{Verdict, ◌⨾◌, reading_limit, sum_limit, far_reading}
use Rattle.meaning.specs.Calls.{
  design_verdict,
  develop_verdict,
  initial_verdict,
  judge_verdict,
  slices,
  contents,
  job_verdict,
  total_verdict,
  values_verdict,
  value_verdict,
  readings_verdict,
  deviations_verdict,
  deviation_verdict,
  squared_readings_verdict,
  squared_totals_verdict,
  rooms,
  analyse_verdict,
}
use Rattle.laws.proofs.Chains.{test_yes, readings-near, in_order}
use Rattle.demands.specs.Job.{Job, v, b, verdict_of}
use Rattle.demands.specs.Refusals.{restraint_fits, readings_fit, four, three_blocks, three_readings, five, five_for, six, seven, eleven, eight, ten}
use Rattle.demands.specs.Calls.{Demand1Calls}

-- tests after others, taken out of their chain
two_out : (a b c : Verdict) → a ⨾ (b ⨾ c) ≡ a ⨾ b ⨾ c
two_out (Ok done) b c = refl
two_out (Err why) b c = refl

pub four-out : (a b c e g f : Verdict) → a ⨾ (b ⨾ c ⨾ (e ⨾ g) ⨾ f) ≡ a ⨾ b ⨾ c ⨾ e ⨾ g ⨾ f
four-out (Ok done) b c e g f = ap (λ (v : Verdict). v ⨾ f) (two_out (b ⨾ c) e g)
four-out (Err why) b c e g f = refl

pub three-out : (a b c e : Verdict) → a ⨾ (b ⨾ c ⨾ e) ≡ a ⨾ b ⨾ c ⨾ e
three-out (Ok done) b c e = refl
three-out (Err why) b c e = refl

-- a whole job: 4, 3, 3, 5, 6, 7, 11, 8
pub job_flat : (j : Job) → verdict_of j ≡ four j ⨾ three_blocks j ⨾ three_readings j ⨾ five j ⨾ six j ⨾ seven j ⨾ eleven j ⨾ eight j
unfolding job_verdict slices contents
job_flat j = four-out (four j ⨾ three_blocks j ⨾ three_readings j) (five j) (six j) (seven j) (eleven j) (eight j)

-- the range, by its numbers
module _ (j : Job) where
  open j use {head as h, readings as y, set as w, sum as M}

  restraint_there : restraint_fits j ≡ true → (0 < w) × (w < 2 ^ v j) × (nat_abs M ≤ 1000000000000)
  restraint_there e = let r = in_order h w M (test_yes (restraint_fits j) 7 0 e) in (r.set-some, r.set-inside, r.sum-most)

  restraint-back : (0 < w) × (w < 2 ^ v j) × (nat_abs M ≤ 1000000000000) → restraint_fits j ≡ true
  restraint-back (a, b, c) = and_both (and_both (lt-ltb 0 w a) (lt-ltb w (2 ^ v j) b)) (le-leb (nat_abs M) sum_limit c)

  readings-back : ((k : ℕ) → k < length y → nat_abs (reading y k) ≤ 200000000) → readings_fit j ≡ true
  unfolding far_reading
  readings-back near =
      let none : far_reading y ≡ 0 + length y =
      first_from_none (λ k. ltb reading_limit (nat_abs (reading y k))) 0 (length y)
      (λ k a l. le-ltb reading_limit (nat_abs (reading y k)) (near k (omega arith))) in
      eq-eqb (far_reading y) (length y) (omega (arith, none))

pub refusing : (j : Job) → Demand1Calls j
unfolding develop_verdict initial_verdict design_verdict judge_verdict squared_readings_verdict squared_totals_verdict total_verdict readings_verdict slices
    deviations_verdict deviation_verdict values_verdict value_verdict analyse_verdict rooms
refusing j = record {
  development = λ words. (refl, λ k at e. rw e);
  initial-block = λ i words. (refl, λ k at e. rw e);
  pair_tables = (refl, λ k at e. rw e, λ k at e. rw e);
  judgement = (refl, λ k at e. rw e);
  squared-readings = (refl, λ k at e. rw e);
  squared-totals = (refl, λ k at e. rw e);
  total_of = λ i. (refl, λ k at e. rw e);
  Q_and_spread = (refl, λ k at e. rw e, λ k at e. rw e);
  deviations_of_all = λ deviations. (refl, λ k at e. rw e);
  deviation_of_lem = λ i. (refl, λ k at e. rw e);
  whole-job = job_flat j;
  restraint_range = (restraint_there j, restraint-back j);
  readings_range = (λ e k l. readings-near j.readings (test_yes (readings_fit j) 8 (far_reading j.readings) e) k l, readings-back j);
  values_of_all = λ values. (ap (λ (a : Verdict). a ⨾ ten (length values) (v j)) (job_flat j), λ k at e. rw e);
  published_of_all = λ hundredths. (ap (λ (a : Verdict). a ⨾ ten (length hundredths) (v j)) (job_flat j), λ k at e. rw e);
  value_of_lem = λ i. (
    ap (λ (a : Verdict). a ⨾ eight j) (two_out (four j ⨾ three_blocks j ⨾ three_readings j ⨾ five j ⨾ five_for i (v j) ⨾ six j) (seven j) (eleven j)),
    λ k at e. rw e,
  );
  analysis = λ words values deviations. (
    three-out (verdict_of j) (ten (length words) (2 * b j)) (ten (length values) (v j)) (ten (length deviations) (b j))
        ∙ ap (λ (a : Verdict). a ⨾ ten (length words) (2 * b j) ⨾ ten (length values) (v j) ⨾ ten (length deviations) (b j)) (job_flat j),
    λ k at e. rw e,
    λ k at e. rw e,
    λ k at e. rw e,
    λ k at e. rw e,
  );
}
