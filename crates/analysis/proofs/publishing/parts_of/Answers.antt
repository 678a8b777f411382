-- `parts_of`: each turn lays the part of its object. Assumes nothing.
use Rattle.std.proofs.Common.{◌≡◌, arith, rules}
use mathlib.Core.List.{replicate}
use Rattle.algebra.proofs.Filling.{over_none, over-step}
use Rattle.analysis.specs.Column.{part_from}
use Rattle.analysis.proofs.publishing.parts_of.Goals as goal

pub loop-i-init : goal.loop-i-init
loop-i-init c = over_none _ _

pub loop-i-preserved : goal.loop-i-preserved
loop-i-preserved c =
    let a = c.args in
    let part : c.hundredths_part.result ≡ part_from a.numerators.now a.denominator c.loop-i.i = search (c.hundredths_part.ensures, rules) in
    over-step c.loop-i.i _ (replicate 50 0) c.loop-i.invariant part (omega arith)
