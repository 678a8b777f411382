use Rattle.std.proofs.Common.{◌≡◌, ℕ, ◌<◌, false}
use Rattle.meaning.specs.Refusals.{offends}
use Rattle.design.proofs.blocks.offender.Given as goal

-- no byte before offends
abbrev pub invariant-loop-i : goal.invariant-loop-i
invariant-loop-i l = (k : ℕ) → k < l.i → offends l.head l.blocks k ≡ false
