-- How the answer of a sheet that was checked is handed over to C: a difference is no refusal. Assumes nothing.
use Rattle.std.specs.Prelude.{Ok, Err, ℕ, List, [], ◌∷◌, length}
use Rattle.records.specs.declared.Agreement.TheVariants.{Agrees, Differs}
use Rattle.meaning.specs.Refusals.{Verdict, ◌⨾◌, room}
use Rattle.meaning.specs.Sheet.{Checked, checked_verdict}
use Rattle.slots.specs.Laid.{laid}

-- 1 where the sheet agrees, else 0; where it differs, 0 where it agrees
abbrev pub checked_slots : Checked → List ℕ
checked_slots (Ok Agrees) = 1 ∷ 0 ∷ []
checked_slots (Ok (Differs at)) = 0 ∷ at ∷ []
checked_slots (Err why) = 0 ∷ 0 ∷ []

-- a sheet that was checked
module _ (checked : Checked) (answer : List ℕ) where
  unfoldable pub checked_call : Verdict
  checked_call = checked_verdict checked ⨾ room (length answer) 2

  abbrev pub checked_laid : List ℕ
  checked_laid = laid checked_call (checked_slots checked) answer
