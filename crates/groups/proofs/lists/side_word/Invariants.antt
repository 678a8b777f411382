-- `side_word`: the word so far and the word of the bytes left make the whole. Assumes nothing.
use Rattle.std.proofs.Common.{◌≡◌, ◌+◌, drop}
use Rattle.meaning.specs.Calls.{word}
use Rattle.groups.proofs.lists.side_word.Given as goal

abbrev pub invariant-loop-byte : goal.invariant-loop-byte
invariant-loop-byte l = l.sum + word (drop l.byte-index l.side) ≡ word l.side
