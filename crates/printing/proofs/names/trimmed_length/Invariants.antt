-- The loop of `printing::names::trimmed_length`: the bytes kept are the first i without the spaces at their end.
use Rattle.std.proofs.Common.{◌≡◌, ◌≤◌, take}
use Rattle.meaning.specs.Text.{trimmed}
use Rattle.printing.proofs.names.trimmed_length.Given as goal

abbrev pub invariant-loop-i : goal.invariant-loop-i
invariant-loop-i l = (l.kept ≤ l.i) × (take l.kept l.name ≡ trimmed (take l.i l.name))
