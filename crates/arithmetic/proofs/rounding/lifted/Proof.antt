-- `lifted`: each arm by what the test says of the sign. Assumes nothing.
use borrow.Author.Rules.{rules}
use mathlib.Core.Path.{◌≡◌, sym, ap, ◌∙◌}
use mathlib.Core.Bool.{Bool, cond}
use Prim.Native.Nat.{◌+◌, ◌-◌, ◌*◌}
use native.Mathlib.Omega.{arith}
use lib.IntN.{nat_abs}
use mir.Facts.{to_z-of_z}
use Rattle.algebra.proofs.Signs.{plain}
use Rattle.arithmetic.proofs.Exact.{Exact, exact-is}
use Rattle.arithmetic.proofs.rounding.Signed.{has_minus, no_minus}
use Rattle.arithmetic.proofs.rounding.lifted.Statement.{statement}
use Rattle.arithmetic.proofs.rounding.lifted.Tie as tie

-- what is known once the size is in hand
module _ (c : tie.After-size-whole) where
  range : Exact c.args.numerator c.args.denominator
  range = exact-is _ _ c.requires

  size : c.size-whole.result ≡ nat_abs c.args.numerator
  size = rw (to_z-of_z c.ranges.numerator) at c.size-whole.ensures

returns : tie.Need-returns-then-numerator-lt0
returns c =
    let s = c.before.before in
    let a = s.args.numerator in
    let below = has_minus a (plain a s.ranges.numerator c.if-numerator-lt0.true) in
    let lifts : 100 * c.size-whole.result + (s.args.denominator - 1) ≡ 100 * nat_abs a + (s.args.denominator - 1) =
    omega (arith, size c.before) in
    search (lifts ∙ sym (ap (λ (t : Bool). cond t (100 * nat_abs a + (s.args.denominator - 1)) (100 * nat_abs a)) below))

returns-2 : tie.Need-returns-else-numerator-lt0
returns-2 c =
    let s = c.before.before in
    let a = s.args.numerator in
    let above = no_minus a (plain a s.ranges.numerator c.if-numerator-lt0.false) in
    let whole : 100 * c.size-whole.result ≡ 100 * nat_abs a = omega (arith, size c.before) in
    search (whole ∙ sym (ap (λ (t : Bool). cond t (100 * nat_abs a + (s.args.denominator - 1)) (100 * nat_abs a)) above))

pub lifted_spec : {M : Type 1} → statement M
lifted_spec =
    tie.close
    (tie.spec
    (λ c κs. search rules)
    (λ c. omega (arith, range c, size c))
    (λ c. omega (arith, range c.before))
    (λ c. omega (arith, range c.before, size c.before))
    returns
    returns-2)
