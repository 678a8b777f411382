-- Another laboratory's sheet (02, P10): claimed hundredths, one for each object of a job, and a claimed spread; and what each call that checks one answers.
-- Assumes nothing.
use Rattle.std.specs.Prelude.{None, Result, Some, Option, Ok, Err, ℕ, Bool, true, false, cond, not, ◌&&◌, List, get_or, length, ℤ, pos, eqb, ltb}
use Rattle.std.specs.Float.Ieee.{eq}
use Rattle.algebra.specs.Ranges.{first_from, eq_z}
use Rattle.records.specs.declared.Head.{Head}
use Rattle.records.specs.declared.Spread.{Spread}
use Rattle.records.specs.declared.Agreement.{Agreement}
use Rattle.records.specs.declared.Agreement.TheVariants.{Agrees, Differs}
use Rattle.records.specs.declared.Refusal.{Refusal}
use Rattle.meaning.specs.Design.{objects}
use Rattle.meaning.specs.Analysis.{freedom, spread_hundredths_of}
use Rattle.meaning.specs.Publishing.{published, spread_of}
use Rattle.meaning.specs.Refusals.{Verdict, accepted, refused, test, ◌⨾◌}
use Rattle.meaning.specs.Calls.{job_verdict}
use Rattle.meaning.specs.File.{head_of, blocks_of, readings_of, set_of, sum_of, read_verdict}
use Rattle.meaning.specs.Edition2.{four_of, read_verdict2}

-- the answer of a check: that the sheet agrees, where it differs, or a refusal
abbrev pub Checked : Type 0
Checked = Result Agreement Refusal

-- the answers by name
abbrev pub agrees : Checked
agrees = Ok Agrees

abbrev pub differs : ℕ → Checked
differs at = Ok (Differs at)

abbrev pub unchecked : ℕ → ℕ → Checked
unchecked number place = Err (record { number = number; place = place })

-- the hundredths that a sheet claims for object i
abbrev pub claim : List ℤ → ℕ → ℤ
claim claims i = get_or claims i (pos 0)

-- whether a claimed spread is right: its f64 is the spread's as a number (no NaN is any number, -0.0 is 0.0) with the same degrees of freedom, or both are
-- none
abbrev pub same_spread : Option Spread → Option Spread → Bool
same_spread (Some claimed) (Some spread) = eq claimed.value spread.value && eqb claimed.freedom spread.freedom
same_spread (Some claimed) None = false
same_spread None (Some spread) = false
same_spread None None = true

-- the first of the v objects whose claim differs from its hundredths, or v where none does
unfoldable pub differs_at : ℕ → (ℕ → ℤ) → List ℤ → ℕ
differs_at v hundredths claims = first_from (λ i. not (eq_z (claim claims i) (hundredths i))) 0 v

-- the claims against the hundredths of v objects and a spread: the objects first, and v for the spread
unfoldable pub against : ℕ → (ℕ → ℤ) → Option Spread → List ℤ → Option Spread → Checked
against v hundredths spread claims claimed =
    let at = differs_at v hundredths claims in cond (ltb at v) (differs at) (cond (same_spread claimed spread) agrees (differs v))

-- 15: there is one claim for each object
abbrev pub claims_fit : Head → List ℤ → Verdict
claims_fit h claims = test (eqb (length claims) (objects h)) 15 0

-- the answer under a verdict: a refusal keeps its number and place
abbrev pub checked_under : Verdict → Checked → Checked
checked_under (Ok done) answer = answer
checked_under (Err why) answer = unchecked why.number why.place

-- the verdict that an answer has: a difference is no refusal
abbrev pub checked_verdict : Checked → Verdict
checked_verdict (Ok Agrees) = accepted
checked_verdict (Ok (Differs at)) = accepted
checked_verdict (Err why) = refused why.number why.place

-- ---- over a job's parts: all that a whole job is tested for, then the number of the claims

module _ (h : Head) (d : List ℕ) (y : List ℤ) (w : ℕ) (M : ℤ) (claims : List ℤ) (claimed : Option Spread) where
  -- the claims against the published hundredths and the spread of a job
  abbrev pub comparison : Checked
  comparison = against (objects h) (published h d y w M) (spread_of (spread_hundredths_of h d y) (freedom h)) claims claimed

  abbrev pub check_answer : Checked
  check_answer = checked_under (job_verdict h d y w M ⨾ claims_fit h claims) comparison

-- ---- over a file of the first edition, and of the second: all that reading it is tested for, then the number of the claims

module _ (s : List ℕ) (claims : List ℤ) (claimed : Option Spread) where
  -- the claims against what a file of the first edition holds
  abbrev pub file_comparison : Checked
  file_comparison = comparison (head_of s) (blocks_of s) (readings_of s) (set_of s) (sum_of s) claims claimed

  abbrev pub file_answer : Checked
  file_answer = checked_under (read_verdict s ⨾ claims_fit (head_of s) claims) file_comparison

abbrev pub second_answer : List ℕ → List ℤ → Option Spread → Checked
second_answer s claims claimed = checked_under (read_verdict2 s ⨾ claims_fit (head_of (four_of s)) claims) (file_comparison (four_of s) claims claimed)
