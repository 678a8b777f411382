-- ANOTHER LABORATORY'S SHEET (02, P10). We receive sheets with a job and claimed hundredths and spread. Check them: acceptance exactly when every claim equals
-- what demand 2 and P3 give, otherwise the first object that differs, or v for the spread. A claimed `none` is right only when f = 0. Acceptance carries
-- demand 3 over to their figures, however they were made. Refusals: the job's own first, then 15 for a claim list of the wrong length.
-- That a sheet differs is an answer and no refusal. What the calls answer is equated to these definitions in docs/PROMISES.md. Assumes nothing.
use Rattle.std.specs.Prelude.{Some, Option, None, true, List, ◌↔◌, ◌≡◌, ℕ, ◌<◌, ◌≤◌, ℤ, pos, ◌*ℤ◌, length}
use Rattle.std.specs.Float.Ieee.{eq}
use Rattle.records.specs.declared.Spread.{Spread}
use Rattle.meaning.specs.Analysis.{restrained, freedom, spread_hundredths_of}
use Rattle.meaning.specs.Publishing.{float}
use Rattle.meaning.specs.Fractions.{Fraction, ◌+ᶠ◌, ◌≤ᶠ◌, ◌<ᶠ◌}
use Rattle.meaning.specs.Refusals.{Verdict, accepted, refused}
use Rattle.meaning.specs.File.{read_verdict}
use Rattle.meaning.specs.Edition2.{four_of, read_verdict2}
use Rattle.meaning.specs.Sheet.{Checked, agrees, differs, unchecked, claim, check_answer, file_answer, second_answer}
use Rattle.demands.specs.Job.{Job, job_in, v, verdict_of, exact, published, squares, Keeps}
use Rattle.demands.specs.Fractions.{distance, hundredths}
use Rattle.demands.specs.Demand3.{hundredth, half_hundredth, excess, Member}

-- ---- claims

module _ (j : Job) where
  -- a claimed spread is right: the f64 of k/100 as a number (no NaN is any, -0.0 is 0.0) with the job's degrees of freedom; none only when f = 0
  abbrev pub RightSpread : Option Spread → Type 0
  RightSpread (Some spread) = (0 < freedom j.head) × (spread.freedom ≡ freedom j.head) × (eq spread.value (float (pos (spread_hundredths_of j.head j.initial j.readings)) 100) ≡ true)
  RightSpread None = freedom j.head ≡ 0

  -- the claim of object i is right: the published hundredths
  abbrev pub Right : List ℤ → ℕ → Type 0
  Right claims i = claim claims i ≡ (published j i).top

-- ---- what acceptance carries over

module _ (j : Job) (claims : List ℤ) where
  -- the claimed values, in hundredths of a count
  abbrev pub claimed_values : ℕ → Fraction
  claimed_values i = hundredths (claim claims i)

  pub record Carried : Type 0 where
    -- The claimed column adds up: its members' hundredths add to exactly 100·M, and the claimed values keep the restraint
    pub column_adds_up : restrained (v j) j.set (claim claims) ≡ pos 100 *ℤ j.sum
    pub claimed_keeps : Keeps j claimed_values
    -- Each claimed value is less than a hundredth of a count away for members,
    pub members-near : (i : ℕ) → i < v j → Member j i → distance (claimed_values i) (exact j i) <ᶠ hundredth
    -- half a hundredth for the others;
    pub others-near : (i : ℕ) → i < v j → (Member j i → ⊥) → distance (claimed_values i) (exact j i) ≤ᶠ half_hundredth
    -- the claimed set's excess is at most beta·v²/10,000, and never below 0
    pub excess_at_most : squares j claimed_values ≤ᶠ squares j (exact j) +ᶠ excess j
    pub excess_at_least : squares j (exact j) ≤ᶠ squares j claimed_values

-- ---- what checking a sheet answers, under the verdict on its job

module _ (verdict : Verdict) (j : Job) (claims : List ℤ) (claimed : Option Spread) (answer : Checked) where
  -- the job is accepted, and there is one claim for each object
  abbrev pub Taken : Type 0
  Taken = (verdict ≡ accepted) × (length claims ≡ v j)

  pub record SheetChecked : Type 0 where
    -- Refusals: the job's own first,
    pub own-refusal : (k at : ℕ) → verdict ≡ refused k at → answer ≡ unchecked k at
    -- then 15 for a claim list of the wrong length
    pub wrong_length : verdict ≡ accepted → (length claims ≡ v j → ⊥) → answer ≡ unchecked 15 0
    -- Acceptance exactly when every claim equals what demand 2 and P3 give,
    pub agrees_exactly : (answer ≡ agrees) ↔ (Taken × ((i : ℕ) → i < v j → Right j claims i) × RightSpread j claimed)
    -- otherwise the first object that differs,
    pub first-object : (i : ℕ) → i < v j → (answer ≡ differs i) ↔ (Taken × ((o : ℕ) → o < i → Right j claims o) × (Right j claims i → ⊥))
    -- or v for the spread
    pub v_for_the_spread : (answer ≡ differs (v j)) ↔ (Taken × ((i : ℕ) → i < v j → Right j claims i) × (RightSpread j claimed → ⊥))
    -- (no other number is named)
    pub none_beyond : (i : ℕ) → answer ≡ differs i → i ≤ v j
    -- Acceptance carries demand 3 over to their figures, however they were made
    pub carries : answer ≡ agrees → Carried j claims

-- ---- over a job's parts, over a file, and over a file of the second edition

abbrev pub SheetOfParts : Job → List ℤ → Option Spread → Type 0
SheetOfParts j claims claimed =
    SheetChecked (verdict_of j) j claims claimed (check_answer j.head j.initial j.readings j.set j.sum claims claimed)

abbrev pub SheetOfFile : List ℕ → List ℤ → Option Spread → Type 0
SheetOfFile s claims claimed = SheetChecked (read_verdict s) (job_in s) claims claimed (file_answer s claims claimed)

abbrev pub SheetOfSecond : List ℕ → List ℤ → Option Spread → Type 0
SheetOfSecond s claims claimed = SheetChecked (read_verdict2 s) (job_in (four_of s)) claims claimed (second_answer s claims claimed)
