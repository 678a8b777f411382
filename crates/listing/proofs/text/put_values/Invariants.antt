-- The loop of `listing::text::put_values`: the lines so far are written.
use Rattle.std.proofs.Common.{length}
use Rattle.algebra.specs.Buffers.{Wrote}
use Rattle.listing.specs.Sheet.{value_lines}
use Rattle.listing.proofs.text.put_values.Given as goal

abbrev pub invariant-loop-i : goal.invariant-loop-i
invariant-loop-i l = Wrote l.fn.out l.at (value_lines l.numerators l.hundredths l.denominator (length l.yielded)) l.out l.place
