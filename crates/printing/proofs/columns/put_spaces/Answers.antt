-- One space more is written in a turn.
use Rattle.std.proofs.Common.{[], ◌∷◌}
use Rattle.printing.proofs.Each.{no_lines, more-lines}
use Rattle.printing.proofs.columns.put_spaces.Goals as goal

pub loop-init : goal.loop-init
loop-init c = no_lines _ _ _

pub loop-preserved : goal.loop-preserved
loop-preserved c = more-lines (λ i. 32 ∷ []) c.loop.counter c.loop.invariant c.put_byte-place.ensures
