-- `spread`: the job worked out in local rooms.
use Rattle.std.proofs.Common.{rules}
use Rattle.analysis.proofs.deviations.Refusing.{spread_of_solved}
use Rattle.analysis.proofs.spread.spread.Goals as goal

pub returns : goal.returns
returns c = let a = c.args in spread_of_solved a.head a.blocks.now a.readings.now c.worked-solved.result (search rules)
