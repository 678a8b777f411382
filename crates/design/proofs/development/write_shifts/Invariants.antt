use Rattle.std.proofs.Common.{◌≡◌, ◌+◌, ◌*◌, length}
use Rattle.algebra.specs.Buffers.{over}
use Rattle.meaning.specs.Calls.{word_at}
use Rattle.design.proofs.development.write_shifts.Given as goal

-- the words of the shifts passed are written
abbrev pub invariant-loop-shift : goal.invariant-loop-shift
invariant-loop-shift l = record {
  long : length l.part ≡ length l.initial.part;
  written : l.part ≡ over (2 * l.shift) (λ c. word_at l.addition.head l.blocks (2 * l.addition.head.n * l.j + c)) l.initial.part;
}
