-- The loop of `practice::readings::fill_readings`: the first k entries are the readings of their blocks, and x is the number before block k. Assumes nothing.
use Rattle.std.proofs.Common.{◌≡◌, ℕ}
use Rattle.algebra.specs.Buffers.{over}
use Rattle.meaning.specs.Practice.{state}
use Rattle.practice.specs.Drawn.{reading_in, before}
use Rattle.practice.proofs.readings.fill_readings.Given as goal

abbrev pub invariant-loop-k : goal.invariant-loop-k
invariant-loop-k l =
    (l.x ≡ before l.start l.k) × (l.readings ≡ over l.k (λ (j : ℕ). reading_in l.words l.truths l.width (state l.start j) j) l.fn.readings)
