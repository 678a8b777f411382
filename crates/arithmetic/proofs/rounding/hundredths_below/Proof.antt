-- `hundredths_below`: the quotient of the lifted size, cut, with the numerator's sign put back. Assumes nothing.
use borrow.Author.Rules.{rules}
use mathlib.Core.Path.{◌≡◌, sym, ap, ◌∙◌}
use mathlib.Core.Bool.{true}
use Prim.Native.Nat.{ℕ, ◌/◌, ◌^◌, ◌<◌}
use native.Mathlib.Nat.{div-le_self}
use native.Mathlib.Omega.{arith}
use mir.Facts.{to_z-of_z}
use Rattle.algebra.proofs.Signs.{read_back}
use Rattle.meaning.specs.Publishing.{minus, signed}
use Rattle.arithmetic.specs.Quotient.{exact, below_of, lifted_of}
use Rattle.arithmetic.proofs.Exact.{Exact, exact-is, below-is, lifted-most}
use Rattle.arithmetic.proofs.rounding.Signed.{floor-lifted}
use Rattle.arithmetic.proofs.rounding.hundredths_below.Statement.{statement}
use Rattle.arithmetic.proofs.rounding.hundredths_below.Tie as tie

-- the numbers are in their range
module _ (c : tie.Then-is_exact) where
  tested : exact c.args.numerator c.args.denominator ≡ true
  tested = sym (rw (to_z-of_z c.ranges.numerator) at c.is_exact.ensures) ∙ c.if-is_exact.true

  range : Exact c.args.numerator c.args.denominator
  range = exact-is _ _ tested

-- what is known once the size is lifted
module _ (c : tie.After-lifted-lifted) where
  abbrev start : tie.Start
  start = c.before.before.before

  lifts : c.lifted-lifted.result ≡ lifted_of start.args.numerator start.args.denominator
  lifts = rw (to_z-of_z start.ranges.numerator) at c.lifted-lifted.ensures

  small : c.lifted-lifted.result / start.args.denominator < 2 ^ 63
  small = omega (arith, lifts, lifted-most _ _ (range c.before), div-le_self c.lifted-lifted.result start.args.denominator)

returns : tie.Need-returns-then-is_exact
returns c =
    let s = c.before in
    let a = (start s).args.numerator in
    let d = (start s).args.denominator in
    read_back c.with_sign.result c.with_sign.type_inv
    ∙ (rw (to_z-of_z (start s).ranges.numerator) at c.with_sign.ensures)
    ∙ ap (λ (n : ℕ). signed (minus a) (n / d)) (lifts s) ∙ floor-lifted a d (range s.before).above ∙ sym (below-is a d (range s.before))

returns-2 : tie.Need-returns-else-is_exact
unfolding below_of
returns-2 c = rw (sym (rw (to_z-of_z c.ranges.numerator) at c.is_exact.ensures) ∙ c.if-is_exact.false) (search rules)

pub hundredths_below_spec : {M : Type 1} → statement M
hundredths_below_spec =
    tie.close
    (tie.spec
    (λ c κs. search rules)
    (λ c κs. rw (to_z-of_z c.ranges.numerator) (search (tested c)))
    (λ c. omega (arith, range c.before))
    (λ c κs. search (small c))
    returns
    returns-2)
