-- The first of all the claims that differs is the first of those that are left.
use Rattle.std.proofs.Common.{◌≡◌, ◌-◌, length}
use Rattle.meaning.specs.Sheet.{claim, differs_at}
use Rattle.algebra.specs.Ranges.{first_from}
use Rattle.claims.proofs.Sheets.{off}
use Rattle.claims.proofs.comparing.first_difference.Given as goal

abbrev pub invariant-loop-i : goal.invariant-loop-i
invariant-loop-i l =
    differs_at (length l.claims) (claim l.hundredths) l.claims ≡ first_from (off (length l.claims) (claim l.hundredths) l.claims) l.i (length l.claims - l.i)
