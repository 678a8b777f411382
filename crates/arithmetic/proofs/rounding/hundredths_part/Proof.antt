-- `hundredths_part`: the rest of the lifted size, or what it leaves of the denominator below zero. Assumes nothing.
use borrow.Author.Rules.{rules}
use mathlib.Core.Path.{◌≡◌, sym, ap, ◌∙◌}
use mathlib.Core.Bool.{true}
use Prim.Native.Nat.{ℕ, ◌-◌, ◌%◌, ◌<◌}
use native.Mathlib.Nat.{mod-lt}
use native.Mathlib.Omega.{arith}
use mir.Facts.{to_z-of_z}
use Rattle.algebra.proofs.Signs.{plain}
use Rattle.arithmetic.specs.Quotient.{exact, part_of, lifted_of}
use Rattle.arithmetic.proofs.Exact.{Exact, exact-is, part-is}
use Rattle.arithmetic.proofs.rounding.Signed.{has_minus, no_minus, part-above, part-below}
use Rattle.arithmetic.proofs.rounding.hundredths_part.Statement.{statement}
use Rattle.arithmetic.proofs.rounding.hundredths_part.Tie as tie

-- the numbers are in their range
module _ (c : tie.Then-is_exact) where
  tested : exact c.args.numerator c.args.denominator ≡ true
  tested = sym (rw (to_z-of_z c.ranges.numerator) at c.is_exact.ensures) ∙ c.if-is_exact.true

  range : Exact c.args.numerator c.args.denominator
  range = exact-is _ _ tested

-- what is known once the size is lifted
module _ (c : tie.After-lifted) where
  abbrev start : tie.Start
  start = c.before.before.before

  lifts : c.lifted.result ≡ lifted_of start.args.numerator start.args.denominator
  lifts = rw (to_z-of_z start.ranges.numerator) at c.lifted.ensures

  rest-less : c.lifted.result % start.args.denominator < start.args.denominator
  rest-less = mod-lt c.lifted.result (range c.before).above

returns : tie.Need-returns-then-numerator-lt0
returns c =
    let s = c.before in
    let a = (start s).args.numerator in
    let d = (start s).args.denominator in
    let below = has_minus a (plain a (start s).ranges.numerator c.if-numerator-lt0.true) in
    let left : d - 1 - s.lifted.result % d ≡ part_of a d =
    ap (λ (n : ℕ). d - 1 - n % d) (lifts s) ∙ part-below a d (range s.before).above below ∙ sym (part-is a d (range s.before)) in
    search left

returns-2 : tie.Need-returns-else-numerator-lt0
returns-2 c =
    let s = c.before in
    let a = (start s).args.numerator in
    let d = (start s).args.denominator in
    let above = no_minus a (plain a (start s).ranges.numerator c.if-numerator-lt0.false) in
    let rest : s.lifted.result % d ≡ part_of a d =
    ap (λ (n : ℕ). n % d) (lifts s) ∙ part-above a d above ∙ sym (part-is a d (range s.before)) in
    search rest

returns-3 : tie.Need-returns-else-is_exact
unfolding part_of
returns-3 c = rw (sym (rw (to_z-of_z c.ranges.numerator) at c.is_exact.ensures) ∙ c.if-is_exact.false) (search rules)

pub hundredths_part_spec : {M : Type 1} → statement M
hundredths_part_spec =
    tie.close
    (tie.spec
    (λ c κs. search rules)
    (λ c κs. rw (to_z-of_z c.ranges.numerator) (search (tested c)))
    (λ c. omega (arith, range c.before))
    (λ c. omega (arith, range c.before.before))
    (λ c. omega (arith, rest-less c.before))
    returns
    returns-2
    returns-3)
