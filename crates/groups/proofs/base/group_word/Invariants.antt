-- `group_word`: the sum so far is that of the objects before i.
use Rattle.std.proofs.Common.{◌≡◌}
use Rattle.groups.specs.Words.{word_in_members}
use Rattle.groups.proofs.base.group_word.Given as goal

abbrev pub invariant-loop-i : goal.invariant-loop-i
invariant-loop-i l = l.sum ≡ word_in_members l.g l.i l.word
