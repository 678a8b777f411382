-- As many spaces are written as turns were taken.
use Rattle.algebra.specs.Buffers.{Wrote}
use Rattle.meaning.specs.Certificate.{spaces}
use Rattle.printing.proofs.columns.put_spaces.Given as goal

abbrev pub invariant-loop : goal.invariant-loop
invariant-loop l = Wrote l.initial.out l.at (spaces l.counter) l.out l.place
