use Rattle.std.proofs.Common.{◌≡◌, ℕ, ◌<◌, ◌*◌, ◌^◌, false, leb, get_or}
use Rattle.weighing.proofs.weighable.stray_word.Given as goal

-- no word of the blocks before strays
abbrev pub invariant-loop-k : goal.invariant-loop-k
invariant-loop-k l = (j : ℕ) → j < 2 * l.k → leb (2 ^ l.v) (get_or l.words j 0) ≡ false
