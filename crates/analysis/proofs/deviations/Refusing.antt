-- The verdicts of deviations, Q and spread, from that of a whole job with a restraint that is always accepted. Assumes nothing.
use Rattle.std.proofs.Common.{Ok, Err}
use mathlib.Core.Path.{◌≡◌, refl, sym, ap, ◌∙◌}
use mathlib.Core.Bool.{true, false}
use mathlib.Core.List.{List}
use Prim.Native.Nat.{ℕ, ◌^◌, ◌≤◌, ◌<◌}
use native.Mathlib.Omega.{arith}
use borrow.Author.Tests.{lt-ltb, le-ltb}
use lib.Dec.{ltb}
use lib.Pow.{pow_mono}
use lib.IntN.{ℤ, pos}
use Rattle.algebra.specs.Ranges.{sum_ℕ}
use Rattle.records.specs.declared.Head.{Head}
use Rattle.records.specs.declared.Solved.{Solved}
use Rattle.records.specs.declared.JobSpread.{JobSpread}
use Rattle.records.specs.declared.BlockDeviation.{BlockDeviation}
use Rattle.meaning.specs.Design.{objects, blocks}
use Rattle.meaning.specs.Analysis.{member, deviation_of, vbeta}
use Rattle.meaning.specs.Refusals.{Verdict, ◌⨾◌, accepted, refused, number, place, clean, in_balance, restraint, in_reach, room}
use Rattle.meaning.specs.Calls.{given, slices, contents, job_verdict, readings_verdict, rooms, analyse_verdict}
use Rattle.meaning.specs.Calls.{solved_under, deviations_verdict, deviation_verdict, deviation_answer, spreading_of, no_spreading, spread_answer}
use Rattle.laws.specs.Fits.{Fits}
use Rattle.laws.proofs.Chains.{accepts, goes_on, refused_stays, accepted-last, test_yes, test_no, sliced, measured}
use Rattle.verdicts.proofs.Told.{refusing}
use Rattle.judging.proofs.Restrained.{restrained_yes}
use Rattle.words.proofs.Members.{ones_members}
use Rattle.analysis.proofs.Accepting.{rooms-deviations, rooms-all}
use Rattle.verdicts.specs.Zeros.{no_deviation}

-- the word of objects 0 and 1 has two ones
two_ones : sum_ℕ 64 (member 3) ≡ 2
unfolding sum_ℕ
two_ones = refl

-- objects 0 and 1 with the sum 0 are a restraint for every design, which has three objects or more
pub always_restrained : (h : Head) → Fits h → restraint h 3 (pos 0) ≡ accepted
always_restrained h f = restrained_yes h 3 (pos 0) (record { set-some = omega arith; set-inside = inside; sum-most = omega arith })
    (omega (arith, two_ones, ones_members (objects h) 3 (omega (arith, f.objects-most)) inside))
  where
    inside : 3 < 2 ^ objects h
    inside = omega (arith, pow_mono {i = 2} {j = objects h} (omega (arith, f.n_least)))

module _ (h : Head) (d : List ℕ) (y : List ℤ) where
  -- under it a job is refused as its readings are
  pub readings-verdict : job_verdict h d y 3 (pos 0) ≡ readings_verdict h d y
  unfolding job_verdict contents readings_verdict
  readings-verdict = by (slices h d y) refl
    where
      by : (v : Verdict) → slices h d y ≡ v → v ⨾ (clean h d ⨾ in_balance h d ⨾ restraint h 3 (pos 0) ⨾ in_reach y) ≡ v ⨾ clean h d ⨾ in_balance h d ⨾ in_reach y
      by (Ok done) e =
          ap (λ (v : Verdict). clean h d ⨾ in_balance h d ⨾ v ⨾ in_reach y) (always_restrained h (sliced h d y e).sizes)
          ∙ ap (λ (v : Verdict). v ⨾ in_reach y) (accepted-last (clean h d ⨾ in_balance h d))
      by (Err why) e = refl

  -- the local rooms are long enough, so the lent one decides
  pub deviations-verdict : (len : ℕ) → analyse_verdict h d y 3 (pos 0) 2600 50 len ≡ deviations_verdict h d y len
  unfolding analyse_verdict deviations_verdict
  deviations-verdict len = ap (λ (v : Verdict). v ⨾ rooms h 2600 50 len) readings-verdict ∙ by (readings_verdict h d y) refl
    where
      by : (v : Verdict) → readings_verdict h d y ≡ v → v ⨾ rooms h 2600 50 len ≡ v ⨾ room len (blocks h)
      by (Ok done) e = rooms-deviations h (measured h d y e).design.sizes len
      by (Err why) e = refl

  -- with room for the largest the readings decide
  pub spread-verdict : deviations_verdict h d y 1300 ≡ readings_verdict h d y
  unfolding deviations_verdict
  spread-verdict = by (readings_verdict h d y) refl
    where
      by : (v : Verdict) → readings_verdict h d y ≡ v → v ⨾ room 1300 (blocks h) ≡ v
      by (Ok done) e = let f = (measured h d y e).design.sizes in sym (rooms-deviations h f 1300) ∙ rooms-all h f
      by (Err why) e = refl

  module _ (k : ℕ) where
    -- the blocks are refused
    pub deviation_refused : (n at : ℕ) → slices h d y ⨾ clean h d ≡ refused n at → deviation_verdict h d y k ≡ refused n at
    unfolding deviation_verdict
    deviation_refused n at e = refused_stays _ n at (refused_stays _ n at (refused_stays _ n at e))

    module _ (e : slices h d y ⨾ clean h d ≡ accepted) where
      -- there is no such block
      pub deviation_no_block : blocks h ≤ k → deviation_verdict h d y k ≡ refused 5 k
      unfolding deviation_verdict
      deviation_no_block l = refused_stays _ 5 k (refused_stays _ 5 k (goes_on _ e ∙ test_no (ltb k (blocks h)) 5 k (le-ltb _ _ l)))

      -- there is, and the readings decide
      pub deviation_readings : k < blocks h → deviation_verdict h d y k ≡ readings_verdict h d y
      unfolding deviation_verdict readings_verdict
      deviation_readings l =
          ap (λ (v : Verdict). v ⨾ in_balance h d ⨾ in_reach y) (accepts e (test_yes (ltb k (blocks h)) 5 k (lt-ltb _ _ l)) ∙ sym e)

    -- a deviation under its verdict
    abbrev under : Verdict → BlockDeviation
    under v = record { verdict = v; numerator = given v (deviation_of h d y k) (pos 0); denominator = given v (vbeta h d) 0 }

    -- a refusal holds zeros
    pub no_deviation_is : (v : Verdict) → given v false true ≡ true → deviation_verdict h d y k ≡ refused (number v) (place v) →
        no_deviation v ≡ deviation_answer h d y k
    no_deviation_is v r e = ap no_deviation (refusing v r) ∙ sym (ap under e)

    -- an acceptance holds the numerator and v·beta
    pub deviation_is_given : (x : ℤ) (b : ℕ) → deviation_verdict h d y k ≡ accepted → x ≡ deviation_of h d y k → b ≡ vbeta h d →
        ◌≡◌ {A = BlockDeviation} (record { verdict = accepted; numerator = x; denominator = b }) (deviation_answer h d y k)
    deviation_is_given x b e f g = (λ j. record { verdict = accepted; numerator = f j; denominator = g j }) ∙ sym (ap under e)

  -- a spread under its verdict
  abbrev pub spread-under : Verdict → JobSpread
  spread-under v = record { verdict = v; spreading = given v (spreading_of h d y) no_spreading }

  -- a job worked out with rooms for the largest has the spread of the definition
  pub spread_of_solved : (r : Solved) → r ≡ solved_under (deviations_verdict h d y 1300) h d y 3 →
      ◌≡◌ {A = JobSpread} (record { verdict = r.verdict; spreading = r.spreading }) (spread_answer h d y)
  spread_of_solved r e = ap (λ (r : Solved). record { verdict = r.verdict; spreading = r.spreading }) e ∙ ap spread-under spread-verdict
