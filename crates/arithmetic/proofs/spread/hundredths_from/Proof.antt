-- `hundredths_from`: inside the range no product leaves its words, and the root is that of the definition. Assumes nothing.
use borrow.Author.Rules.{rules}
use mathlib.Core.Path.{◌≡◌, sym, ap, ◌∙◌}
use Prim.Native.Nat.{ℕ, ◌*◌, ◌/◌, ◌^◌, ◌<◌}
use native.Mathlib.Nat.{mul_comm}
use native.Mathlib.Omega.{arith}
use Rattle.meaning.specs.Analysis.{root}
use Rattle.meaning.specs.Wide.{value}
use Rattle.arithmetic.specs.Hundredths.{hundredths_from}
use Rattle.arithmetic.proofs.Words.{exact, are_words}
use Rattle.arithmetic.proofs.Division.{quotient_value}
use Rattle.arithmetic.proofs.Spreads.{Ranged, ranged-is, scaled_fits, product_range, no_freedom, root_of_quotient, hundredths-none}
use Rattle.arithmetic.proofs.spread.hundredths_from.Statement.{statement}
use Rattle.arithmetic.proofs.spread.hundredths_from.Tie as tie

-- what is known inside the range
module _ (c : tie.Then-is_ranged) where
  abbrev start : tie.Start
  start = c.before.before.before

  range : Ranged (value start.args.q) start.args.vbeta start.args.freedom
  range = ranged-is _ _ _ (sym c.is_ranged.ensures ∙ c.if-is_ranged.true)

  product : (0 < start.args.vbeta * start.args.freedom) × (start.args.vbeta * start.args.freedom < 2 ^ 32)
  product = product_range _ _ _ range (omega arith)

returns : tie.Need-returns-then-freedom-eq0
returns c =
    let none : 0 ≡ c.args.freedom = omega arith in
    let q = value c.args.q in
    search (sym (no_freedom q c.args.vbeta) ∙ ap (hundredths_from q c.args.vbeta) none)

returns-2 : tie.Need-returns-then-is_ranged
returns-2 c =
    let t = c.before.before.before.before in
    let q = value (start t).args.q in
    let d = (start t).args.vbeta * (start t).args.freedom in
    let e = c.times-scaled.ensures in
    let w = are_words (q * 10000) e in
    let scaled : value c.times-scaled.result ≡ 10000 * q = exact (q * 10000) (scaled_fits q (range t).q_most) e ∙ mul_comm q 10000 in
    let part = quotient_value c.times-scaled.result d w.0 w.1 (product t).0 (product t).1 c.divide-part.ensures in
    c.root.ensures ∙ ap (root 64) (part ∙ ap (λ (n : ℕ). n / d) scaled) ∙ sym (root_of_quotient _ _ _ (range t) (omega arith))

returns-3 : tie.Need-returns-else-is_ranged
returns-3 c = sym (hundredths-none _ _ _ (sym c.is_ranged.ensures ∙ c.if-is_ranged.false))

pub hundredths_from_spec : {M : Type 1} → statement M
hundredths_from_spec =
    tie.close
    (tie.spec
    returns
    (λ c κs. search rules)
    (λ c κs. search rules)
    (λ c. omega (arith, product c.before))
    (λ c κs. search rules)
    (λ c κs. search rules)
    returns-2
    returns-3)
