use Rattle.std.proofs.Common.{◌≡◌, ◌^◌, ◌<◌}
use Rattle.words.specs.Bits.{opposition_of, lowest_of}
use Rattle.words.proofs.Changing.{walked}
use Rattle.balance.specs.Meetings.{row_more}
use Rattle.balance.proofs.counting.add_meetings.Given as goal

-- what the rest of the side is still to add to its rows, added now, is what the side was to add at first
abbrev pub invariant-loop-i : goal.invariant-loop-i
invariant-loop-i l =
    (l.i ≡ lowest_of l.rest) × (l.rest < 2 ^ 50) ×
    (walked l.rest (λ k. row_more (opposition_of l.own l.other k)) l.table ≡ walked l.own (λ k. row_more (opposition_of l.own l.other k)) l.initial.table)

abbrev pub decreases-loop-i : goal.decreases-loop-i
decreases-loop-i l = l.rest
