-- The loop of `listing::text::put_deviations`: the lines so far are written.
use Rattle.algebra.specs.Buffers.{Wrote}
use Rattle.listing.specs.Sheet.{deviation_lines}
use Rattle.listing.proofs.text.put_deviations.Given as goal

abbrev pub invariant-loop-k : goal.invariant-loop-k
invariant-loop-k l = Wrote l.fn.out l.at (deviation_lines l.numerators l.denominator l.k) l.out l.place
