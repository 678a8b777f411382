-- `add_to`: what is still to be added, added now, is what was to be added at first. Assumes nothing.
use Rattle.std.proofs.Common.{◌≡◌}
use Rattle.words.proofs.Walk.{Left}
use Rattle.words.proofs.Changing.{walked}
use Rattle.weighing.specs.Developed.{more}
use Rattle.weighing.proofs.adding.add_to.Given as goal

abbrev pub invariant-loop-rest : goal.invariant-loop-rest
invariant-loop-rest l = Left l.word l.rest × (walked l.rest (more l.word l.y) l.totals ≡ walked l.word (more l.word l.y) l.fn.totals)

abbrev pub decreases-loop-rest : goal.decreases-loop-rest
decreases-loop-rest l = l.rest
