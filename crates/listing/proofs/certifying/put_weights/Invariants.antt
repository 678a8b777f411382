-- The loop of `listing::certifying::put_weights`: the lines so far are written.
use Rattle.algebra.specs.Buffers.{Wrote}
use Rattle.listing.specs.Certified.{weight_lines}
use Rattle.listing.proofs.certifying.put_weights.Given as goal

abbrev pub invariant-loop-i : goal.invariant-loop-i
invariant-loop-i l = Wrote l.fn.out l.at (weight_lines l.bytes l.names l.hundredths l.solved l.set l.i) l.out l.place
