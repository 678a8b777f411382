-- `bench::pairs::first_odd`: the first of all the objects that is odd is the first of those that are left. Assumes nothing.
use Rattle.std.proofs.Common.{◌-◌, ◌≡◌}
use Rattle.algebra.specs.Ranges.{first_from}
use Rattle.bench.specs.Pairs.{odd, first_odd}
use Rattle.bench.proofs.pairs.first_odd.Given as goal

abbrev pub invariant-loop-j : goal.invariant-loop-j
invariant-loop-j l = first_odd l.company l.opposition ≡ first_from (odd l.company l.opposition) l.j (50 - l.j)
