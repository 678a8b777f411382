-- `stray`: the first of all the bytes is the first of those that are left. Assumes nothing.
use Rattle.std.proofs.Common.{◌≡◌, ◌-◌, length}
use Rattle.algebra.specs.Ranges.{first_from}
use Rattle.meaning.specs.Groups.{strays, stray}
use Rattle.groups.proofs.lists.stray.Given as goal

abbrev pub invariant-loop-i : goal.invariant-loop-i
invariant-loop-i l = stray l.v l.p l.blocks ≡ first_from (strays l.v l.p l.blocks) l.i (length l.blocks - l.i)
