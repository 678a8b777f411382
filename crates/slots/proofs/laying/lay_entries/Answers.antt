-- What is lent once the loop has come to the last entry, or to the end of what is lent.
use Rattle.std.proofs.Common.{refl, arith}
use Rattle.algebra.proofs.Filling.{over_none, over-step}
use Rattle.slots.proofs.laying.Laying.{entries_written}
use Rattle.slots.proofs.laying.lay_entries.Goals as goal

pub loop-k-init : goal.loop-k-init
loop-k-init c = over_none _ _

pub loop-k-preserved : goal.loop-k-preserved
loop-k-preserved c = over-step c.loop-k.k _ _ c.loop-k.invariant refl (omega arith)

pub returns-after-loop-k : goal.returns-after-loop-k
returns-after-loop-k c = entries_written _ _ _ _ c.is_ok.ensures.value c.if-is_ok.true c.loop-k.invariant (omega arith)
