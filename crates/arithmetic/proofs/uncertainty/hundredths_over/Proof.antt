-- `hundredths_over`: inside the range no product leaves its words, and two divisions are one by the product. Assumes nothing.
use borrow.Author.Rules.{rules}
use mathlib.Core.Path.{◌≡◌, sym, ap, ◌∙◌}
use Prim.Native.Nat.{ℕ, ◌+◌, ◌-◌, ◌*◌, ◌/◌, ◌^◌, ◌≤◌, ◌<◌}
use native.Mathlib.Nat.{div-le_self}
use native.Mathlib.Omega.{arith}
use borrow.Author.Tests.{leb-true, leb-false}
use lib.Dec.{leb}
use Rattle.meaning.specs.Analysis.{root}
use Rattle.meaning.specs.Wide.{value, wide}
use Rattle.arithmetic.proofs.Words.{exact, are_words}
use Rattle.arithmetic.proofs.Division.{quotient_value, quotient_words}
use Rattle.arithmetic.proofs.Uncertainties.{InRange, stated-is, divisor_range, scaled_most, hundredths-none, hundredths-some, root-small}
use Rattle.arithmetic.proofs.uncertainty.hundredths_over.Statement.{statement}
use Rattle.arithmetic.proofs.uncertainty.hundredths_over.Tie as tie

-- what is known from the start
module _ (c : tie.Start) where
  range : InRange (value c.args.q) c.args.denominator c.args.vbeta c.args.freedom c.args.factor
  range = stated-is _ _ _ _ _ c.requires.0

  -- 10,000·Q·factor
  abbrev x : ℕ
  x = value c.args.q * (10000 * c.args.factor)

  x_most : x < 2 ^ 103
  x_most = scaled_most _ _ _ _ _ range

  divisor : (0 < c.args.denominator * c.args.vbeta) × (c.args.denominator * c.args.vbeta < 2 ^ 32)
  divisor = divisor_range _ _ _ _ _ range

-- the product and the test
module _ (c : tie.After-at_most) where
  abbrev start : tie.Start
  start = c.before.before

  scaled : value c.times-scaled.result ≡ x start
  scaled = exact (x start) (omega (arith, x_most start)) c.times-scaled.ensures

  tested : c.at_most.result ≡ leb (x start) 0
  tested = c.at_most.ensures ∙ ap (λ (n : ℕ). leb n 0) scaled

returns : tie.Need-returns-then-at_most
returns c = let s = start c.before in sym (hundredths-none _ _ _ _ _ s.requires.1 (leb-true _ _ (sym (tested c.before) ∙ c.if-at_most.true)))

-- the two quotients
module _ (c : tie.After-divide-second) where
  abbrev subtracted : tie.After-subtract-less
  subtracted = c.before.before.before

  abbrev begun : tie.Start
  begun = start subtracted.before.before

  some : 0 < x begun
  some = leb-false _ _ (sym (tested subtracted.before.before) ∙ subtracted.if-at_most.false)

  less : value subtracted.subtract-less.result ≡ x begun - 1
  less =
      let e = subtracted.subtract-less.ensures ∙ ap (λ (n : ℕ). wide (n - 1)) (scaled subtracted.before.before) in
      exact (x begun - 1) (omega (arith, x_most begun)) e

  quotient : value c.divide-second.result.quotient ≡ (x begun - 1) / (begun.args.denominator * begun.args.vbeta) / begun.args.freedom
  quotient =
      let w = are_words _ subtracted.subtract-less.ensures in
      let d = begun.args.denominator * begun.args.vbeta in
      let first = quotient_value subtracted.subtract-less.result d w.0 w.1 (divisor begun).0 (divisor begun).1 c.divide-first.ensures in
      let z = quotient_words subtracted.subtract-less.result d w.0 w.1 (divisor begun).0 (divisor begun).1 c.divide-first.ensures in
      let second = quotient_value c.divide-first.result.quotient begun.args.freedom z.0 z.1 begun.requires.1
      (omega (arith, (range begun).spread.freedom-most)) c.divide-second.ensures in
      second ∙ ap (λ (n : ℕ). n / begun.args.freedom) (first ∙ ap (λ (n : ℕ). n / d) less)

rooted : (c : tie.After-root) → c.root.result ≡ root 64 ((x (begun c.before.before) - 1) / ((begun c.before.before).args.denominator * (begun c.before.before).args.vbeta)
    / (begun c.before.before).args.freedom)
rooted c = c.root.ensures ∙ ap (root 64) (quotient c.before.before)

add_result : tie.Need-overflow_add-result
add_result c =
    let s = begun c.before.before in
    let first = (x s - 1) / (s.args.denominator * s.args.vbeta) in
    let under : first / s.args.freedom ≤ x s =
    omega (arith, div-le_self first s.args.freedom, div-le_self (x s - 1) (s.args.denominator * s.args.vbeta)) in
    omega (arith, rooted c, root-small (first / s.args.freedom) (omega (arith, x_most s)))

returns-2 : tie.Need-returns
returns-2 c =
    let s = begun c.before.before in
    ap (λ (n : ℕ). n + 1) (rooted c) ∙ sym (hundredths-some _ _ _ _ _ s.requires.1 (some c.before.before))

pub hundredths_over_spec : {M : Type 1} → statement M
hundredths_over_spec =
    tie.close
    (tie.spec
    (λ c. omega (arith, (range c).factor-most))
    (λ c κs. search rules)
    (λ c κs. search rules)
    returns
    (λ c κs. search rules)
    (λ c. omega (arith, (divisor (start c.before.before)).1))
    (λ c κs. search rules)
    (λ c κs. search rules)
    (λ c κs. search rules)
    add_result
    returns-2)
