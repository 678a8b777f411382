-- What an accepted job gives to the calls below it, and what is worked out from its totals: the definitions' own values, deviations and spread.
-- Assumes nothing.
use Rattle.laws.specs.Limits.{squares_limit}
use Rattle.meaning.specs.Wide.{value, wide}
use mathlib.Core.Path.{◌≡◌, refl, sym, ap, ap₂, ◌∙◌, subst, subst₂}
use mathlib.Core.Bool.{true}
use mathlib.Core.List.{List}
use Prim.Native.Nat.{ℕ, ◌+◌, ◌-◌, ◌*◌, ◌^◌, ◌≤◌, ◌<◌}
use native.Mathlib.Omega.{arith}
use borrow.Author.Tests.{le-leb}
use lib.Dec.{leb}
use lib.IntN.{ℤ, pos, nat_abs, ◌-ℤ◌, ◌*ℤ◌}
use Rattle.algebra.specs.Ranges.{sum}
use Rattle.algebra.specs.Buffers.{over}
use Rattle.algebra.proofs.Filling.{over_ext}
use Rattle.algebra.proofs.Solver.{◌⊕◌, ◌⊗◌, ◌⊝◌, #, ◌≐◌, ring₃}
use Rattle.algebra.proofs.Order.{pos_inj, comb₁}
use Rattle.algebra.proofs.Bounds.{sum-squares}
use Rattle.algebra.proofs.Sums.{sum_cong}
use Rattle.records.specs.declared.Head.{Head}
use Rattle.records.specs.declared.Parameters.{Parameters}
use Rattle.meaning.specs.Design.{objects, blocks, balanced, parameters_of}
use Rattle.meaning.specs.Analysis.{
  reading,
  total,
  members,
  numerator,
  denominator,
  vbeta,
  numerator_of,
  denominator_of,
  deviation_of,
  squared_readings,
  squared_totals,
  qOf,
  freedom,
  spread_hundredths,
  spread_hundredths_of,
}
use Rattle.meaning.specs.Publishing.{spread_of}
use Rattle.meaning.specs.Refusals.{Verdict, ◌⨾◌, accepted, refused, sizes, clean, in_balance, restraint, in_reach, room}
use Rattle.meaning.specs.Calls.{slices, contents, job_verdict, spreading_of, rooms, solved_under}
use Rattle.laws.specs.Fits.{Fits}
use Rattle.laws.proofs.Chains.{Sound, Readings, Job, opened, accepts, goes_on, test_yes, accepted-last, job}
use Rattle.laws.proofs.Counting.{Numbers}
use Rattle.laws.proofs.CountingNumbers.{parameters}
use Rattle.laws.proofs.Matrix.{difference_signs}
use Rattle.laws.proofs.Analysis.{q_nonneg}
use Rattle.laws.proofs.Sizes.{squared_readings_most}
use Rattle.laws.proofs.SizesMost.{vbeta-most}
use Rattle.arithmetic.specs.Hundredths.{spreading_from, hundredths_from}
use Rattle.arithmetic.proofs.Spreads.{hundredths-is, spread_range, q_words}
use Rattle.weighing.proofs.SquareSums.{readings-squares}
use Rattle.weighing.specs.Developed.{total_in}
use Rattle.weighing.proofs.Developing.{Laid, laid-squares}
use Rattle.weighing.proofs.Refusing.{weigh_reach}
use Rattle.analysis.proofs.Working.{set-within, set_agrees, fitted_signs}
use Rattle.analysis.specs.Worked.{Measured, numerator_in, deviation_in, scale_in, Workable, worked_out}
use Rattle.verdicts.specs.Zeros.{no_solution}

-- ---- verdicts

-- what an accepted job's tests are
pub job-tests : (h : Head) (d : List ℕ) (y : List ℤ) (w : ℕ) (M : ℤ) → job_verdict h d y w M ≡ accepted →
    (slices h d y ≡ accepted) × (clean h d ≡ accepted) × (in_reach y ≡ accepted)
unfolding job_verdict contents
job-tests h d y w M e =
    let a = opened (slices h d y) (contents h d y w M) e in
    let b = opened (clean h d ⨾ in_balance h d ⨾ restraint h w M) (in_reach y) a.1 in
    let c = opened (clean h d ⨾ in_balance h d) (restraint h w M) b.0 in
    let f = opened (clean h d) (in_balance h d) c.0 in
    (a.0, f.0, b.1)

-- ---- from the words

module _ (h : Head) (d : List ℕ) (y : List ℤ) (words : List ℕ) (s : Sound h d) (a : Laid h d words) where
  few : objects h ≤ 64
  few = omega (arith, s.sizes.objects-most)

  -- the numerators are the definition's
  numerator-is : (w : ℕ) (M : ℤ) → w < 2 ^ objects h → (i : ℕ) →
      numerator_in (total_in words y (blocks h)) (objects h) w (vbeta h d) M i ≡ numerator_of h d y w M i
  unfolding numerator_of
  numerator-is w M g i =
      ap₂ (λ (T S : ℤ). numerator (members (objects h) w) T S (vbeta h d) M) (a.totals y i)
      (set_agrees _ (total h d y) (objects h) w few g (λ j n. a.totals y j) ∙ set-within (total h d y) (objects h) w few g)

  -- the deviation numerators are the definition's
  deviation_is : (k : ℕ) → k < blocks h → deviation_in words y (total_in words y (blocks h)) (vbeta h d) k ≡ deviation_of h d y k
  unfolding deviation_of
  deviation_is k m =
      ap (λ (F : ℤ). pos (vbeta h d) *ℤ reading y k -ℤ F)
      (fitted_signs words k (objects h) few (a.within.below (2 * k) (omega arith)) (a.within.below (2 * k + 1) (omega arith)) _
      ∙ sum_cong (objects h) _ _ (λ i n. ap₂ ◌*ℤ◌ (a.signs k i m) (a.totals y i)) ∙ sym (difference_signs h d s (total h d y) k m))

-- ---- records

-- under a refusal it holds zeros
pub no_solution_is : (told verdict : Verdict) (h : Head) (d : List ℕ) (y : List ℤ) (w k at : ℕ) → told ≡ verdict → verdict ≡ refused k at →
    no_solution told ≡ solved_under verdict h d y w
no_solution_is told verdict h d y w k at p e = ap no_solution (p ∙ e) ∙ sym (ap (λ (v : Verdict). solved_under v h d y w) e)

-- ---- the spread

-- what is not below 0 is its own size
own-size : (z : ℤ) (n : ℕ) → z ≡ pos n → z ≡ pos (nat_abs z)
own-size z n e = e ∙ sym (ap (λ (x : ℤ). pos (nat_abs x)) e)

-- a difference of naturals that is a natural
natural_difference : (a b c : ℕ) → pos a ≡ pos b -ℤ pos c → (c ≤ b) × (b - c ≡ a)
natural_difference a b c e =
    let sum : a + c ≡ b = pos_inj (a + c) b (comb₁ (pos 1) e (ring₃ (λ a b c. (a ⊕ c) ⊝ b ≐ # 1 ⊗ (a ⊝ (b ⊝ c))) (pos a) (pos b) (pos c) refl)) in
    (omega arith, omega arith)

module _ (h : Head) (d : List ℕ) (s : Sound h d) (b : balanced h d ≡ true) (y : List ℤ) where
  -- Q as the code has it
  q_is : (nat_abs (squared_totals h d y) ≤ vbeta h d * nat_abs (squared_readings h y)) ×
      (vbeta h d * nat_abs (squared_readings h y) - nat_abs (squared_totals h d y) ≡ qOf h d y)
  unfolding squared_readings squared_totals
  q_is = natural_difference (qOf h d y) (vbeta h d * nat_abs (squared_readings h y)) (nat_abs (squared_totals h d y))
      (q_nonneg h d s b y
      ∙ ap₂ (λ (R T : ℤ). pos (vbeta h d) *ℤ R -ℤ T)
      (own-size (squared_readings h y) _ (sum-squares (blocks h) (reading y)))
      (own-size (squared_totals h d y) _ (sum-squares (objects h) (total h d y))))

  -- the spread that is made from it
  spreading_of_lem : Readings h y → spreading_from (wide (qOf h d y)) (vbeta h d) (freedom h) ≡ spreading_of h d y
  unfolding spread_hundredths_of
  spreading_of_lem r =
      let k : hundredths_from (value (wide (qOf h d y))) (vbeta h d) (freedom h) ≡ spread_hundredths (qOf h d y) (vbeta h d) (freedom h) =
      ap (λ (n : ℕ). hundredths_from n (vbeta h d) (freedom h)) (q_words h d s b y r)
      ∙ hundredths-is (qOf h d y) (vbeta h d) (freedom h) (spread_range h d s b y r) in
      λ j. record { q = wide (qOf h d y); vbeta = vbeta h d; freedom = freedom h; hundredths = k j; spread = spread_of (k j) (freedom h) }

  module _ (r : Readings h y) (vb readings totals : ℕ) (f : vb ≡ vbeta h d) (m : readings ≡ nat_abs (squared_readings h y))
      (g : totals ≡ nat_abs (squared_totals h d y)) where
    -- what is measured
    measured : Measured h vb readings totals
    measured = record {
      sizes = s.sizes;
      vbeta-most = subst (λ (v : ℕ). v ≤ 2600) (sym f) (vbeta-most h d s b);
      readings-most = subst (λ (R : ℕ). R ≤ squares_limit) (sym m) (squared_readings_most h d s y r);
      q_some = subst₂ (λ (t R : ℕ). t ≤ vb * R) (sym g) (sym m)
          (subst (λ (v : ℕ). nat_abs (squared_totals h d y) ≤ v * nat_abs (squared_readings h y)) (sym f) q_is.0);
      freedom-some = omega (arith, (parameters h d s b).enough);
    }

    -- is the job's own spread
    spreading_is : spreading_from (wide (vb * readings - totals)) vb (freedom h) ≡ spreading_of h d y
    spreading_is = (λ j. spreading_from (wide (f j * m j - g j)) (f j) (freedom h))
        ∙ ap (λ (Q : ℕ). spreading_from (wide Q) (vbeta h d) (freedom h)) q_is.1 ∙ spreading_of_lem r

-- ---- an accepted job, worked out

-- an accepted job with its parameters and its words
pub record Developed (h : Head) (d : List ℕ) (y : List ℤ) (w : ℕ) (M : ℤ) (p : Parameters) (words : List ℕ) : Type 0 where
  pub stands : job_verdict h d y w M ≡ accepted
  pub parameters_are : p ≡ parameters_of h d
  pub lay : Laid h d words

module _ {h : Head} {d : List ℕ} {y : List ℤ} {w : ℕ} {M : ℤ} {p : Parameters} {words : List ℕ} (a : Developed h d y w M p words) where
  its_job : Job h d y w M
  its_job = job h d y w M a.stands

  design : Sound h d
  design = its_job.measures.design

  -- its parameters are those of a balanced design
  constants : Numbers h d
  constants = parameters h d design its_job.measures.even

  scale-is : scale_in p ≡ vbeta h d
  scale-is = ap scale_in a.parameters_are ∙ ap (λ (b : ℕ). objects h * b) (omega (arith, constants.beta-is))

  -- it can be worked out
  pub workable : Workable h y w M p words
  workable = record {
    measured = measured h d design its_job.measures.even y its_job.measures.readings _ _ _ scale-is (sym (readings-squares h y))
        (laid-squares h d y words a.lay);
    weighable = weigh_reach h words y 50 d a.lay its_job.measures.readings.readings-long design.sizes.objects-most
        ∙ (job-tests h d y w M a.stands).2;
    less = subst (λ (q : Parameters). q.l1 ≤ q.l2) (sym a.parameters_are) constants.less;
    scale-most = subst (λ (x : ℕ). x ≤ 2600) (sym scale-is) (vbeta-most h d design its_job.measures.even);
    set-inside = its_job.restraint.set-inside;
    sum-most = its_job.restraint.sum-most;
  }

  -- its record is the definition's
  pub record_is : (verdict : Verdict) → verdict ≡ accepted → worked_out h y w p words ≡ solved_under verdict h d y w
  unfolding denominator_of
  record_is verdict e =
      (λ j. record {
        verdict = accepted;
        parameters = a.parameters_are j;
        denominator = denominator (members (objects h) w) (scale-is j);
        spreading = spreading_is h d design its_job.measures.even y its_job.measures.readings _ _ _ scale-is (sym (readings-squares h y))
            (laid-squares h d y words a.lay) j;
      })
      ∙ sym (ap (λ (v : Verdict). solved_under v h d y w) e)

  -- so are its values
  pub values_are : (values : List ℤ) →
      over (objects h) (numerator_in (total_in words y (blocks h)) (objects h) w (scale_in p) M) values ≡ over (objects h) (numerator_of h d y w M) values
  values_are values =
      (λ j. over (objects h) (numerator_in (total_in words y (blocks h)) (objects h) w (scale-is j) M) values)
      ∙ over_ext (objects h) _ _ values (λ i l. numerator-is h d y words design a.lay w M its_job.restraint.set-inside i)

  -- and its deviations
  pub deviations_are : (deviations : List ℤ) →
      over (blocks h) (deviation_in words y (total_in words y (blocks h)) (scale_in p)) deviations ≡ over (blocks h) (deviation_of h d y) deviations
  deviations_are deviations =
      (λ j. over (blocks h) (deviation_in words y (total_in words y (blocks h)) (scale-is j)) deviations)
      ∙ over_ext (blocks h) _ _ deviations (deviation_is h d y words design a.lay)

-- ---- rooms that are always long enough

module _ (h : Head) (f : Fits h) where
  -- 2600 words are enough
  words_enough : room 2600 (2 * blocks h) ≡ accepted
  words_enough = test_yes (leb (2 * blocks h) 2600) 10 0 (le-leb (2 * blocks h) 2600 (omega (arith, f.blocks-most)))

  -- 50 values are
  values_enough : room 50 (objects h) ≡ accepted
  values_enough = test_yes (leb (objects h) 50) 10 0 (le-leb (objects h) 50 f.objects-most)

  -- 1300 deviations are
  deviations_enough : room 1300 (blocks h) ≡ accepted
  deviations_enough = test_yes (leb (blocks h) 1300) 10 0 (le-leb (blocks h) 1300 f.blocks-most)

  -- with the other two long enough, the room for the values decides
  pub rooms-values : (len : ℕ) → rooms h 2600 len 1300 ≡ room len (objects h)
  unfolding rooms
  rooms-values len =
      ap (λ (v : Verdict). v ⨾ room 1300 (blocks h)) (goes_on (room len (objects h)) words_enough)
      ∙ ap (λ (v : Verdict). room len (objects h) ⨾ v) deviations_enough ∙ accepted-last (room len (objects h))

  -- or that for the deviations
  pub rooms-deviations : (len : ℕ) → rooms h 2600 50 len ≡ room len (blocks h)
  unfolding rooms
  rooms-deviations len = goes_on (room len (blocks h)) (accepts words_enough values_enough)

  -- or none
  pub rooms-all : rooms h 2600 50 1300 ≡ accepted
  rooms-all = rooms-deviations 1300 ∙ deviations_enough
