-- How each answer of a direct call is handed over to C: the verdict, which is the answer's own and after it 10 where the lent slots are too few,
-- and what is lent after, under it. Signed slots stand before unsigned ones, and those before slots of f64. Assumes nothing.
use Rattle.std.specs.Prelude.{ℕ, List, [], ◌∷◌, length, ℤ, Float}
use Rattle.records.specs.declared.BlockDeviation.{BlockDeviation}
use Rattle.records.specs.declared.JobRead.{JobRead}
use Rattle.records.specs.declared.JobSpread.{JobSpread}
use Rattle.records.specs.declared.JobWritten.{JobWritten}
use Rattle.records.specs.declared.Judged.{Judged}
use Rattle.records.specs.declared.Listed.{Listed}
use Rattle.records.specs.declared.ObjectTotal.{ObjectTotal}
use Rattle.records.specs.declared.ObjectUncertainty.{ObjectUncertainty}
use Rattle.records.specs.declared.ObjectValue.{ObjectValue}
use Rattle.records.specs.declared.SecondRead.{SecondRead}
use Rattle.records.specs.declared.Solved.{Solved}
use Rattle.records.specs.declared.SquareSum.{SquareSum}
use Rattle.meaning.specs.Refusals.{Verdict, ◌⨾◌, room}
use Rattle.meaning.specs.Publishing.{spread_value}
use Rattle.meaning.specs.File.{Field, field_says, field_start, field_next}
use Rattle.slots.specs.Laid.{laid, laid_table}
use Rattle.slots.specs.Slots.{parameter_slots, stated_slots, stated_value, spreading_slots, solved_slots, read_slots, second_slots}

-- ---- designs

-- a pair table, under the verdict of its block list: 2,500 words, row after row
unfoldable pub table_call : Verdict → List ℕ → Verdict
table_call verdict lent = verdict ⨾ room (length lent) 2500

abbrev pub table_words : Verdict → List (List ℕ) → List ℕ → List ℕ
table_words verdict table lent = laid_table (table_call verdict lent) table lent

-- a judgement: v, b, r, p, L1, L2
module _ (j : Judged) (answer : List ℕ) where
  unfoldable pub judged_call : Verdict
  judged_call = j.verdict ⨾ room (length answer) 6

  abbrev pub judged_laid : List ℕ
  judged_laid = laid judged_call (parameter_slots j.parameters) answer

-- ---- analysis

-- the total of one object
module _ (t : ObjectTotal) (signed : List ℤ) where
  unfoldable pub total_call : Verdict
  total_call = t.verdict ⨾ room (length signed) 1

  abbrev pub total_signed : List ℤ
  total_signed = laid total_call (t.total ∷ []) signed

-- a sum of squares, and Q: high, low
module _ (s : SquareSum) (answer : List ℕ) where
  unfoldable pub sum_call : Verdict
  sum_call = s.verdict ⨾ room (length answer) 2

  abbrev pub sum_laid : List ℕ
  sum_laid = laid sum_call (s.sum.high ∷ s.sum.low ∷ []) answer

-- the value of one object: numerator, hundredths; denominator, variance factor; its f64, that of the factor
module _ (x : ObjectValue) (signed : List ℤ) (answer : List ℕ) (real : List Float) where
  unfoldable pub value_call : Verdict
  value_call = x.verdict ⨾ room (length signed) 2 ⨾ room (length answer) 2 ⨾ room (length real) 2

  abbrev pub value_signed : List ℤ
  value_signed = laid value_call (x.value.numerator ∷ x.value.hundredths ∷ []) signed

  abbrev pub value_laid : List ℕ
  value_laid = laid value_call (x.value.denominator ∷ x.value.factor ∷ []) answer

  abbrev pub value_real : List Float
  value_real = laid value_call (x.value.value ∷ x.value.factor_value ∷ []) real

-- the standard uncertainty of one object: hundredths, whether it is stated; its f64, 0.0 where it is not
module _ (x : ObjectUncertainty) (answer : List ℕ) (real : List Float) where
  unfoldable pub uncertainty_call : Verdict
  uncertainty_call = x.verdict ⨾ room (length answer) 2 ⨾ room (length real) 1

  abbrev pub uncertainty_laid : List ℕ
  uncertainty_laid = laid uncertainty_call (stated_slots x.uncertainty) answer

  abbrev pub uncertainty_real : List Float
  uncertainty_real = laid uncertainty_call (stated_value x.uncertainty ∷ []) real

-- the deviation of one block: numerator; denominator
module _ (x : BlockDeviation) (signed : List ℤ) (answer : List ℕ) where
  unfoldable pub deviation_call : Verdict
  deviation_call = x.verdict ⨾ room (length signed) 1 ⨾ room (length answer) 1

  abbrev pub deviation_signed : List ℤ
  deviation_signed = laid deviation_call (x.numerator ∷ []) signed

  abbrev pub deviation_laid : List ℕ
  deviation_laid = laid deviation_call (x.denominator ∷ []) answer

-- a spread: Q high, Q low, v·beta, f, hundredths, whether there is a spread; the spread, 0.0 for none
module _ (s : JobSpread) (answer : List ℕ) (real : List Float) where
  unfoldable pub spread_call : Verdict
  spread_call = s.verdict ⨾ room (length answer) 6 ⨾ room (length real) 1

  abbrev pub spread_laid : List ℕ
  spread_laid = laid spread_call (spreading_slots s.spreading) answer

  abbrev pub spread_real : List Float
  spread_real = laid spread_call (spread_value s.spreading.spread ∷ []) real

-- the slots of a job worked out, against those that are lent: a call that writes into rooms too asks for them before it does
abbrev pub solved_room : ℕ → ℕ → Verdict
solved_room answer real = room answer 13 ⨾ room real 1

-- a job worked out: v, b, r, p, L1, L2, denominator, Q high, Q low, v·beta, f, hundredths, whether there is a spread; the spread, 0.0 for none
module _ (s : Solved) (answer : List ℕ) (real : List Float) where
  unfoldable pub solved_call : Verdict
  solved_call = s.verdict ⨾ room (length answer) 13 ⨾ room (length real) 1

  abbrev pub solved_laid : List ℕ
  solved_laid = laid solved_call (solved_slots s) answer

  abbrev pub solved_real : List Float
  solved_real = laid solved_call (spread_value s.spreading.spread ∷ []) real

-- ---- files

-- the field at a place: where its body starts, and the byte after it
module _ (f : Field) (at : ℕ) (answer : List ℕ) where
  unfoldable pub field_call : Verdict
  field_call = field_says f ⨾ room (length answer) 2

  abbrev pub field_laid : List ℕ
  field_laid = laid field_call (field_start f ∷ field_next f at ∷ []) answer

-- a job that was read: M; n, flag, p, m, where the blocks and the readings start, the restraint set
module _ (j : JobRead) (signed : List ℤ) (answer : List ℕ) where
  unfoldable pub read_call : Verdict
  read_call = j.verdict ⨾ room (length signed) 1 ⨾ room (length answer) 7

  abbrev pub read_signed : List ℤ
  read_signed = laid read_call (j.sum ∷ []) signed

  abbrev pub read_laid : List ℕ
  read_laid = laid read_call (read_slots j) answer

-- a file of the second edition that was read: M; the slots of its job, and where the names stand
module _ (r : SecondRead) (signed : List ℤ) (answer : List ℕ) where
  unfoldable pub second_call : Verdict
  second_call = r.job.verdict ⨾ room (length signed) 1 ⨾ room (length answer) 8

  abbrev pub second_signed : List ℤ
  second_signed = laid second_call (r.job.sum ∷ []) signed

  abbrev pub second_laid : List ℕ
  second_laid = laid second_call (second_slots r) answer

-- a file that was written: how many bytes
module _ (w : JobWritten) (answer : List ℕ) where
  unfoldable pub written_call : Verdict
  written_call = w.verdict ⨾ room (length answer) 1

  abbrev pub written_laid : List ℕ
  written_laid = laid written_call (w.length ∷ []) answer

-- a listing: how many bytes
module _ (l : Listed) (answer : List ℕ) where
  unfoldable pub listed_call : Verdict
  listed_call = l.verdict ⨾ room (length answer) 1

  abbrev pub listed_laid : List ℕ
  listed_laid = laid listed_call (l.length ∷ []) answer
