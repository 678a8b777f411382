use Rattle.std.proofs.Common.{◌≡◌, ◌+◌, ◌^◌, ◌<◌}
use Rattle.words.specs.Bits.{opposition_of, lowest_of}
use Rattle.words.proofs.Changing.{walked}
use Rattle.balance.proofs.counting.add_row.Given as goal

-- what the rest of the other side is still to add, added now, is what that side was to add at first
abbrev pub invariant-loop-j : goal.invariant-loop-j
invariant-loop-j l =
    (l.j ≡ lowest_of l.rest) × (l.rest < 2 ^ 50) ×
    (walked l.rest (λ k x. x + opposition_of l.own l.other l.i k) l.row ≡ walked l.other (λ k x. x + opposition_of l.own l.other l.i k) l.initial.row)

abbrev pub decreases-loop-j : goal.decreases-loop-j
decreases-loop-j l = l.rest
