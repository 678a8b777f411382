use Rattle.std.proofs.Common.{◌≡◌, ◌+◌, map, drop}
use Rattle.meaning.specs.Design.{moved}
use Rattle.meaning.specs.Calls.{word}
use Rattle.design.proofs.development.side_word.Given as goal

-- the word so far and that of the bytes left make the whole
abbrev pub invariant-loop-byte : goal.invariant-loop-byte
invariant-loop-byte l = l.sum + word (map (moved l.addition.head l.shift) (drop l.byte-index l.side)) ≡ word (map (moved l.addition.head l.shift) l.side)
