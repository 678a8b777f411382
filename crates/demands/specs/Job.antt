-- A job as the demands speak of it: its parts, and what the definitions of the bench make of them, by short names. Assumes nothing.
use Rattle.std.specs.Prelude.{List, ℕ, ℤ}
use Rattle.records.specs.declared.Head.{Head}
use Rattle.meaning.specs.Design.{objects, blocks, Balanced}
use Rattle.meaning.specs.Fractions.{Fraction, squares_under, KeepsRestraint, exact_values, published_values}
use Rattle.meaning.specs.Calls.{job_verdict}
use Rattle.meaning.specs.File.{head_of, blocks_of, set_of, sum_of, readings_of}
use Rattle.meaning.specs.Refusals.{Verdict}

-- the parts of a job, as direct calls take them: the head, the bytes of the initial blocks, the readings, the restraint set and its accepted sum M
pub record Job : Type 0 where
  pub head : Head
  pub initial : List ℕ
  pub readings : List ℤ
  pub set : ℕ
  pub sum : ℤ

-- the job that a file holds
abbrev pub job_in : List ℕ → Job
job_in s = record { head = head_of s; initial = blocks_of s; readings = readings_of s; set = set_of s; sum = sum_of s }

module _ (j : Job) where
  -- v and b
  abbrev pub v : ℕ
  v = objects j.head

  abbrev pub b : ℕ
  b = blocks j.head

  -- the verdict of a direct call on the whole job
  abbrev pub verdict_of : Verdict
  verdict_of = job_verdict j.head j.initial j.readings j.set j.sum

  -- its design is balanced as the paper defines it: every two different objects share a side l1 times and oppose l2 times, for some two numbers
  abbrev pub IsBalanced : Type 0
  IsBalanced = (l1 : ℕ) × (l2 : ℕ) × Balanced j.head j.initial l1 l2

  -- its exact values, its published values, and the sum of the squared deviations of any set of values u from its readings
  abbrev pub exact : ℕ → Fraction
  exact = exact_values j.head j.initial j.readings j.set j.sum

  abbrev pub published : ℕ → Fraction
  published = published_values j.head j.initial j.readings j.set j.sum

  abbrev pub squares : (ℕ → Fraction) → Fraction
  squares u = squares_under j.head j.initial j.readings u

  -- the values u keep its restraint
  abbrev pub Keeps : (ℕ → Fraction) → Type 0
  Keeps u = KeepsRestraint (objects j.head) j.set j.sum u
