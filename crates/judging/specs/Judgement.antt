-- The judgement of a job: its verdict, and the parameters of its design under it. Assumes nothing.
use Rattle.std.specs.Prelude.{ℕ, List, ℤ}
use Rattle.records.specs.declared.Head.{Head}
use Rattle.records.specs.declared.Judged.{Judged}
use Rattle.meaning.specs.Design.{parameters_of}
use Rattle.meaning.specs.Calls.{given, no_parameters, job_verdict}
use Rattle.meaning.specs.Refusals.{Verdict}

-- a verdict with the parameters of its design, or with zeros where it refuses
abbrev pub judged_under : Verdict → Head → List ℕ → Judged
judged_under verdict h d = record { verdict = verdict; parameters = given verdict (parameters_of h d) no_parameters }

-- the judgement of a whole job
abbrev pub job_judged : Head → List ℕ → List ℤ → ℕ → ℤ → Judged
job_judged h d y w M = judged_under (job_verdict h d y w M) h d
