use Rattle.std.proofs.Common.{◌≡◌, ℕ, ◌<◌, false, ltb, nat_abs, get_or, pos}
use Rattle.meaning.specs.Refusals.{reading_limit}
use Rattle.weighing.proofs.readings.far_reading.Given as goal

-- no reading before is out of range
abbrev pub invariant-loop-k : goal.invariant-loop-k
invariant-loop-k l = (j : ℕ) → j < l.k → ltb reading_limit (nat_abs (get_or l.readings j (pos 0))) ≡ false
