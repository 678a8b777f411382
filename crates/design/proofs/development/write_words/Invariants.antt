use Rattle.std.proofs.Common.{◌≡◌, ◌*◌, length}
use Rattle.algebra.specs.Buffers.{over}
use Rattle.meaning.specs.Calls.{word_at}
use Rattle.design.proofs.development.write_words.Given as goal

-- the words of the initial blocks passed are written
abbrev pub invariant-loop-j : goal.invariant-loop-j
invariant-loop-j l = record {
  long : length l.words ≡ length l.initial.words;
  written : l.words ≡ over (2 * l.addition.head.n * l.j) (word_at l.addition.head l.blocks) l.initial.words;
}
