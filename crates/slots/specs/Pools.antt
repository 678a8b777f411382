-- How the answer of a pool is handed over: the index of the job that a refusal speaks of stands beside its number. Assumes nothing.
use Rattle.std.specs.Prelude.{Ok, Err, ℕ, ◌%◌, ◌^◌, List, [], ◌∷◌, Float, length}
use Rattle.records.specs.declared.Pooled.{Pooled}
use Rattle.meaning.specs.Publishing.{spread_value}
use Rattle.meaning.specs.Refusals.{Verdict, ◌⨾◌, room}
use Rattle.slots.specs.Told.{coded}
use Rattle.slots.specs.Laid.{laid}
use Rattle.slots.specs.Slots.{spreading_slots}

-- a verdict with an index as one number, 0 where it accepts; an index takes 8 bits, and no pool has more than 64 jobs
abbrev pub told_at : Verdict → ℕ → ℕ
told_at (Ok done) index = 0
told_at (Err why) index = coded why.number (index % 2 ^ 8) why.place

-- a pooled spread: Q high, Q low, v·beta, f, hundredths, whether there is a spread; the spread, 0.0 for none
module _ (p : Pooled) (answer : List ℕ) (real : List Float) where
  unfoldable pub pooled_call : Verdict
  pooled_call = p.verdict ⨾ room (length answer) 6 ⨾ room (length real) 1

  abbrev pub pooled_told : ℕ
  pooled_told = told_at pooled_call p.index

  abbrev pub pooled_laid : List ℕ
  pooled_laid = laid pooled_call (spreading_slots p.spreading) answer

  abbrev pub pooled_real : List Float
  pooled_real = laid pooled_call (spread_value p.spreading.spread ∷ []) real
