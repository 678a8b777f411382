-- A well-formed job is accepted exactly if its design is balanced: every test but the sixth accepts it, and that one decides balance. Assumes nothing.
use Rattle.std.proofs.Common.{Ok, Err}
use mathlib.Core.Path.{◌≡◌, refl, sym, ap, ◌∙◌}
use mathlib.Core.Bool.{Bool, true, false}
use mathlib.Core.Logic.{◌↔◌}
use mathlib.Core.List.{List}
use Prim.Native.Nat.{ℕ}
use Rattle.meaning.specs.Design.{balanced}
use Rattle.meaning.specs.Refusals.{Verdict, accepted, refused, ◌⨾◌}
use Rattle.meaning.specs.Calls.{design_verdict, judge_verdict, slices, contents, job_verdict, readings_verdict}
use Rattle.meaning.specs.File.{fields, placed, read_verdict}
use Rattle.laws.proofs.Chains.{opened, held, test_yes, accepts, goes_on, accepted-last, job, sliced, slices_sound, sound_accepted, judged_sound}
use Rattle.laws.proofs.Counting.{accepts_exactly, balanced-is}
use Rattle.laws.proofs.Files.{file-job, file-slices, job-file, read-moved}
use Rattle.demands.specs.Job.{Job, job_in, verdict_of, IsBalanced}
use Rattle.demands.specs.Refusals.{five, six, seven, eleven, eight, blocks_clean, restraint_fits, two_standards, readings_fit}
use Rattle.demands.specs.Papers.{WellFormed}
use Rattle.demands.specs.Answers.{WellFormedJob}

-- what a job that is not balanced by the test is not
not-balanced : (j : Job) → (IsBalanced j → ⊥) → balanced j.head j.initial ≡ false
not-balanced j un = go (balanced j.head j.initial) refl
  where
    go : (t : Bool) → balanced j.head j.initial ≡ t → t ≡ false
    go true e = absurd (un (_, _, balanced-is j.head j.initial e))
    go false e = refl

-- ---- a block list alone

module _ (j : Job) (well : design_verdict j.head j.initial ≡ accepted) where
  -- the test of balance holds exactly for balanced designs
  test_exactly : IsBalanced j → balanced j.head j.initial ≡ true
  test_exactly (l1, l2, b) = ((accepts_exactly j.head j.initial well).1 l1 l2 b).0

  pub design_exactly : (judge_verdict j.head j.initial ≡ accepted) ↔ IsBalanced j
  unfolding judge_verdict
  design_exactly = (
    λ e. (_, _, balanced-is j.head j.initial (judged_sound j.head j.initial e).1),
    λ b. accepts well (test_yes (balanced j.head j.initial) 6 0 (test_exactly b)),
  )

  pub design-unbalanced : (IsBalanced j → ⊥) → judge_verdict j.head j.initial ≡ refused 6 0
  unfolding judge_verdict
  design-unbalanced un = rw (well, not-balanced j un)

-- ---- a whole job

-- an accepted one is well-formed
pub job_well_formed : (j : Job) → verdict_of j ≡ accepted → WellFormedJob j
unfolding job_verdict slices contents
job_well_formed j e =
    let a = opened _ _ e in
    let b = opened _ _ a.1 in
    let c = opened _ _ b.0 in
    let d = opened _ _ c.0 in
    record {
      in_order = a.0;
      blocks-clean = held _ _ _ d.0;
      restraint_fits_lem = held _ _ _ (opened (seven j) (eleven j) c.1).0;
      two-standards = held _ _ _ (opened (seven j) (eleven j) c.1).1;
      readings-fit = held _ _ _ b.1;
    }

module _ (j : Job) (well : WellFormedJob j) where
  -- its slices are in order, and its block list is
  in_slices : slices j.head j.initial j.readings ≡ accepted
  unfolding slices
  in_slices = well.in_order

  in_design : design_verdict j.head j.initial ≡ accepted
  in_design = sound_accepted j.head j.initial
      (slices_sound j.head j.initial j.readings (sliced j.head j.initial j.readings in_slices)
      (test_yes (blocks_clean j) 5 _ well.blocks-clean))

  pub job_exactly : (verdict_of j ≡ accepted) ↔ IsBalanced j
  unfolding job_verdict contents
  job_exactly = (
    λ e. (_, _, balanced-is j.head j.initial (job j.head j.initial j.readings j.set j.sum e).measures.even),
    λ b. accepts in_slices (accepts (accepts (accepts (test_yes (blocks_clean j) 5 _ well.blocks-clean)
        (test_yes (balanced j.head j.initial) 6 0 (test_exactly j in_design b)))
        (accepts (test_yes (restraint_fits j) 7 0 well.restraint_fits_lem) (test_yes (two_standards j) 11 0 well.two-standards)))
        (test_yes (readings_fit j) 8 _ well.readings-fit)),
  )

  pub job-unbalanced : (IsBalanced j → ⊥) → verdict_of j ≡ refused 6 0
  unfolding job_verdict contents
  job-unbalanced un = goes_on _ in_slices ∙ rw (well.blocks-clean, not-balanced j un)

-- the calls that take no restraint have the verdict of the whole job with one that fits
pub no_restraint : (j : Job) → restraint_fits j ≡ true → two_standards j ≡ true → readings_verdict j.head j.initial j.readings ≡ verdict_of j
unfolding readings_verdict job_verdict contents
no_restraint j fits two = rw (fits, two) (same (slices j.head j.initial j.readings) (five j) (six j) (eight j))
  where
    same : (a b c e : Verdict) → a ⨾ b ⨾ c ⨾ e ≡ a ⨾ (b ⨾ c ⨾ accepted ⨾ e)
    same (Ok done) b c e = ap (λ (v : Verdict). v ⨾ e) (sym (accepted-last (b ⨾ c)))
    same (Err why) b c e = refl

-- ---- a file

module _ (s : List ℕ) (well : WellFormed (fields s) (job_in s)) where
  -- the job that it holds is well-formed
  holds_well : WellFormedJob (job_in s)
  unfolding slices
  holds_well = record {
    in_order = file-slices s well.in_order;
    blocks-clean = well.blocks-clean;
    restraint_fits_lem = well.restraint_fits_lem;
    two-standards = well.two-standards;
    readings-fit = well.readings-fit;
  }

  pub file_exactly : (read_verdict s ≡ accepted) ↔ IsBalanced (job_in s)
  file_exactly = (
    λ e. (job_exactly (job_in s) holds_well).0 (file-job s e).1,
    λ b. job-file s well.in_order ((job_exactly (job_in s) holds_well).1 b),
  )

  pub file-unbalanced : (IsBalanced (job_in s) → ⊥) → read_verdict s ≡ refused 6 0
  file-unbalanced un = read-moved s well.in_order ∙ ap (placed s) (job-unbalanced (job_in s) holds_well un)

-- an accepted one is well-formed
pub file_well_formed : (s : List ℕ) → read_verdict s ≡ accepted → WellFormed (fields s) (job_in s)
file_well_formed s e =
    let a = file-job s e in
    let w = job_well_formed (job_in s) a.1 in
    record {
      in_order = a.0;
      blocks-clean = w.blocks-clean;
      restraint_fits_lem = w.restraint_fits_lem;
      two-standards = w.two-standards;
      readings-fit = w.readings-fit;
    }
