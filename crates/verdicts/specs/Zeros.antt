-- What a refusal hands back beside its verdict. Assumes nothing.
use Rattle.std.specs.Prelude.{pos}
use Rattle.records.specs.declared.Judged.{Judged}
use Rattle.records.specs.declared.ObjectTotal.{ObjectTotal}
use Rattle.records.specs.declared.ObjectValue.{ObjectValue}
use Rattle.records.specs.declared.BlockDeviation.{BlockDeviation}
use Rattle.records.specs.declared.Solved.{Solved}
use Rattle.records.specs.declared.JobRead.{JobRead}
use Rattle.meaning.specs.Publishing.{no_value}
use Rattle.meaning.specs.Calls.{no_parameters, no_spreading}
use Rattle.meaning.specs.File.{no_head}
use Rattle.meaning.specs.Refusals.{Verdict}

-- a judgement of zeros
abbrev pub no_judgement : Verdict → Judged
no_judgement verdict = record { verdict = verdict; parameters = no_parameters }

-- a job worked out to zeros
abbrev pub no_solution : Verdict → Solved
no_solution verdict = record { verdict = verdict; parameters = no_parameters; denominator = 0; spreading = no_spreading }

-- no total, no value, no deviation of one object or block
abbrev pub no_total : Verdict → ObjectTotal
no_total verdict = record { verdict = verdict; total = pos 0 }

abbrev pub no_value_under : Verdict → ObjectValue
no_value_under verdict = record { verdict = verdict; value = no_value }

abbrev pub no_deviation : Verdict → BlockDeviation
no_deviation verdict = record { verdict = verdict; numerator = pos 0; denominator = 0 }

-- no job
abbrev pub no_job : Verdict → JobRead
no_job verdict = record { verdict = verdict; head = no_head; blocks_at = 0; readings_at = 0; set = 0; sum = pos 0 }
