use Rattle.std.proofs.Common.{map, take}
use Rattle.meaning.specs.Design.{occ, moved}
use Rattle.design.specs.Differences.{More}
use Rattle.design.proofs.differences.add_side.Given as goal

-- the objects of the bytes passed are counted
abbrev pub invariant-loop-byte : goal.invariant-loop-byte
invariant-loop-byte l = More (λ e. occ e (map (moved l.addition.head l.shift) (take l.byte-index l.side))) l.initial.counts l.counts
