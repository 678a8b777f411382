-- `bench::pairs::first_odd` meets its contract: a turn of its loop is a turn of the search that defines it. Assumes nothing.
use Rattle.std.proofs.Common.{rules, arith, refl, sym, ◌∙◌}
use Rattle.algebra.proofs.Tests.{first-here, first_on, first-end}
use Rattle.bench.specs.Pairs.{first_odd}
use Rattle.bench.proofs.pairs.first_odd.Goals as goal

pub loop-j-init : goal.loop-j-init
unfolding first_odd
loop-j-init c = refl

pub returns-then-is_odd : goal.returns-then-is_odd
returns-then-is_odd c =
    let l = c.loop-j in
    sym (l.invariant ∙ first-here _ 50 l.j (omega arith) (sym c.is_odd.ensures ∙ search rules))

pub loop-j-preserved : goal.loop-j-preserved
loop-j-preserved c =
    let l = c.loop-j in
    l.invariant ∙ first_on _ 50 l.j (omega arith) (sym c.is_odd.ensures ∙ search rules)

pub returns : goal.returns
returns c =
    let l = c.loop-j in
    sym (l.invariant ∙ first-end _ 50 l.j (omega arith))
