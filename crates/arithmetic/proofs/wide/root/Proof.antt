-- `root`: the root is at least `low` and at most `high`, and the two come together. Assumes nothing.
use borrow.Author.Rules.{rules}
use mathlib.Core.Path.{◌≡◌, sym, ap, ◌∙◌}
use Prim.Native.Nat.{ℕ, ◌+◌, ◌-◌, ◌*◌, ◌/◌, ◌^◌, ◌≤◌, ◌<◌}
use native.Mathlib.Omega.{arith}
use borrow.Author.Tests.{leb-true, leb-false}
use lib.Dec.{leb}
use Rattle.laws.proofs.Rounding.{root_is}
use Rattle.meaning.specs.Wide.{value}
use Rattle.arithmetic.proofs.Words.{value-most, product_value}
use Rattle.arithmetic.proofs.wide.root.Statement.{statement}
use Rattle.arithmetic.proofs.wide.root.Tie as tie

abbrev invariant-loop : tie.invariant-loop-low
invariant-loop x low₀ high₀ low high = (low ≤ high) × (high < 2 ^ 64) × (low * low ≤ value x) × (value x < (high + 1) * (high + 1))

abbrev decreases-loop : tie.decreases-loop-low
decreases-loop x low₀ high₀ low high = high - low

-- x is below 2 ^ 128
most : (c : tie.Start invariant-loop decreases-loop) → value c.args.x < 2 ^ 128
most c = value-most c.args.x (omega arith) (omega arith)

-- what the test of the middle says
module _ (c : tie.After-at_most invariant-loop decreases-loop) where
  abbrev at : tie.At-loop-low invariant-loop decreases-loop
  at = c.before.before.before

  abbrev middle : ℕ
  middle = at.loop-low.high - (at.loop-low.high - at.loop-low.low) / 2

  small : middle < 2 ^ 64
  small = omega arith

  tested : c.at_most.result ≡ leb (middle * middle) (value at.args.x)
  tested = c.at_most.ensures ∙ ap (λ (n : ℕ). leb n (value at.args.x)) (product_value middle middle small small c.product.ensures)

loop-holds : tie.Need-loop-low-init invariant-loop decreases-loop
loop-holds c = (omega arith, omega arith, omega arith, most c)

sub_middle : tie.Need-overflow_sub-middle invariant-loop decreases-loop
sub_middle c = omega arith

sub_middle_2 : tie.Need-overflow_sub-middle-in-loop-low invariant-loop decreases-loop
sub_middle_2 c = omega arith

loop-less : tie.Need-loop-low-smaller-then-at_most invariant-loop decreases-loop
loop-less c = omega arith

loop-again : tie.Need-loop-low-preserved-then-at_most invariant-loop decreases-loop
loop-again c = (omega arith, omega arith, leb-true _ _ (sym (tested c.before) ∙ c.if-at_most.true), c.loop-low.invariant.3)

sub_high : tie.Need-overflow_sub-high invariant-loop decreases-loop
sub_high c = omega arith

loop-less-2 : tie.Need-loop-low-smaller invariant-loop decreases-loop
loop-less-2 c = omega arith

loop-again-2 : tie.Need-loop-low-preserved invariant-loop decreases-loop
loop-again-2 c =
    let e : middle c.before - 1 + 1 ≡ middle c.before = omega arith in
    (omega arith, omega arith, c.loop-low.invariant.2, rw e (leb-false _ _ (sym (tested c.before) ∙ c.if-at_most.false)))

returns : tie.Need-returns invariant-loop decreases-loop
returns c =
    let x = c.args.x in
    let e : c.loop-low.high ≡ c.loop-low.low = omega arith in
    root_is 64 (value x) c.loop-low.low (most c.before.before) c.loop-low.invariant.2 (rw e at c.loop-low.invariant.3)

pub root_spec : {M : Type 1} → statement M
root_spec =
    tie.close
    (tie.spec
    invariant-loop
    decreases-loop
    loop-holds
    sub_middle
    sub_middle_2
    (λ c κs. search rules)
    (λ c κs. search rules)
    loop-less
    loop-again
    sub_high
    loop-less-2
    loop-again-2
    returns)
