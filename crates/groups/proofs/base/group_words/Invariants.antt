-- `group_words`: the words are written over from the front, each from what stood there. Assumes nothing.
use Rattle.std.proofs.Common.{◌≡◌, ℕ, get_or, take}
use Rattle.algebra.specs.Buffers.{over}
use Rattle.groups.specs.Words.{word_in_members}
use Rattle.groups.proofs.base.group_words.Given as goal

abbrev pub invariant-loop-word : goal.invariant-loop-word
invariant-loop-word l = l.word-items ≡ over l.word-index (λ (k : ℕ). word_in_members l.g l.v (get_or l.fn.words k 0)) (take l.c l.fn.words)
