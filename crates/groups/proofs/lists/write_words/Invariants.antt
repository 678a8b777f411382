-- `write_words`: the words of the blocks before k are written over from the front.
use Rattle.std.proofs.Common.{◌≡◌, ◌*◌}
use Rattle.algebra.specs.Buffers.{over}
use Rattle.groups.specs.Words.{list_word_at}
use Rattle.groups.proofs.lists.write_words.Given as goal

abbrev pub invariant-loop-k : goal.invariant-loop-k
invariant-loop-k l = l.words ≡ over (2 * l.k) (list_word_at l.p l.blocks) l.fn.words
