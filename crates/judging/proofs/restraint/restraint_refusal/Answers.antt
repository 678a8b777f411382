-- `restraint_refusal`: a set that is empty, or has a bit at v or above, is not in order. Assumes nothing.
use Rattle.std.proofs.Common.{◌∙◌, sym, arith}
use Rattle.meaning.specs.Design.{objects}
use Rattle.design.proofs.Within.{within-sizes}
use Rattle.judging.proofs.Restrained.{past_none, restrained_no}
use Rattle.judging.proofs.restraint.restraint_refusal.Goals as goal
use Rattle.judging.proofs.restraint.restraint_refusal.Goals.{then-set-eq0-via-then-set-eq0, then-set-eq0-via-else-set-eq0+then-set-objects-ne0}

pub returns-then-set-eq0 : goal.returns-then-set-eq0
returns-then-set-eq0 c =
    sym (restrained_no c.args.head c.args.set c.args.sum (λ r.
    elim c.then-set-eq0.branch [
      | then-set-eq0-via-then-set-eq0 w ↦ omega (arith, r.set-some)
      | then-set-eq0-via-else-set-eq0+then-set-objects-ne0 w ↦
          let v = w.objects.ensures ∙ within-sizes c.args.head (objects c.args.head) c.requires in
          w.if-set-objects-ne0.true (rw v (past_none (objects c.args.head) c.args.set r.set-inside))
    ]))
