use Rattle.std.proofs.Common.{take}
use Rattle.design.specs.Differences.{More, met}
use Rattle.design.proofs.differences.count_from.Given as goal

-- the elements passed are counted from
abbrev pub invariant-loop-byte : goal.invariant-loop-byte
invariant-loop-byte l = record {
  within : More (λ e. met l.addition.head e l.own (take l.byte-index l.own)) l.initial.within l.within;
  across : More (λ e. met l.addition.head e l.other (take l.byte-index l.own)) l.initial.across l.across;
}
