-- `stray`: a turn of the loop is a turn of the search that defines it. Assumes nothing.
use Rattle.std.proofs.Common.{◌∙◌, sym, arith, refl}
use native.Mathlib.Nat.{sub-zero}
use Rattle.algebra.proofs.Tests.{first-here, first_on, first-end}
use Rattle.meaning.specs.Groups.{stray}
use Rattle.groups.proofs.lists.stray.Goals as goal

pub loop-i-init : goal.loop-i-init
unfolding stray
loop-i-init c = rw sub-zero refl

pub returns-then-strays : goal.returns-then-strays
returns-then-strays c = sym (c.loop-i.invariant ∙ first-here _ _ c.loop-i.i (omega arith) (sym c.strays.ensures ∙ c.if-strays.true))

pub loop-i-preserved : goal.loop-i-preserved
loop-i-preserved c = c.loop-i.invariant ∙ first_on _ _ c.loop-i.i (omega arith) (sym c.strays.ensures ∙ c.if-strays.false)

pub returns : goal.returns
returns c = sym (c.loop-i.invariant ∙ first-end _ _ c.loop-i.i (omega arith))
