-- What is lent once the front of it is copied over.
use Rattle.slots.proofs.laying.Laying.{laid_front}
use Rattle.slots.proofs.laying.lay.Goals as goal

pub returns-then-is_ok : goal.returns-then-is_ok
returns-then-is_ok g c =
    let a = c.args in
    laid_front a.verdict a.slots.now a.lent.now c.is_ok.ensures.value c.if-is_ok.true c.min-count.ensures c.copy_from_slice.ensures.after
