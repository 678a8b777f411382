-- `cards::optional::put_others`: before the loop all fields are left, a turn of it writes one, and after it none is left.
use Rattle.std.proofs.Common.{arith}
use Rattle.cards.proofs.optional.Parts.{goes_first, goes_on, goes_last}
use Rattle.cards.proofs.optional.put_others.Goals as goal

pub loop-field-init : goal.loop-field-init
loop-field-init c = goes_first _ _ _ _

pub loop-field-preserved : goal.loop-field-preserved
loop-field-preserved c =
    rw (c.from.ensures, c.two_bytes.ensures) (goes_on c.args.file.now (omega arith) c.loop-field.invariant c.put_other-place.ensures)

pub returns : goal.returns
returns c = goes_last c.args.file.now (omega arith) c.loop-field.invariant
