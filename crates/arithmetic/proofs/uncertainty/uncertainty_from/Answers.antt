-- None with no freedom or outside the range, else the hundredths and these over 100.
use Rattle.std.proofs.Common.{◌≡◌, sym, ◌∙◌, arith}
use Rattle.meaning.specs.Wide.{value}
use Rattle.arithmetic.proofs.Uncertainties.{stated-is, none_free, none_outside, some-stated}
use Rattle.arithmetic.proofs.uncertainty.uncertainty_from.Goals as goal

pub returns-then-freedom-eq0 : goal.returns-then-freedom-eq0
returns-then-freedom-eq0 c =
    let a = c.args in
    let none : a.freedom ≡ 0 = omega arith in
    rw none (sym (none_free (value a.q) a.denominator a.vbeta a.factor))

pub returns-then-is_stated : goal.returns-then-is_stated
returns-then-is_stated c =
    let r = stated-is _ _ _ _ _ (sym c.is_stated.ensures ∙ c.if-is_stated.true) in
    some-stated _ _ _ _ _ _ _ r (omega arith) c.hundredths_over-hundredths.ensures c.unsigned_quotient-value.ensures

pub returns-else-is_stated : goal.returns-else-is_stated
returns-else-is_stated c = sym (none_outside _ _ _ _ _ (sym c.is_stated.ensures ∙ c.if-is_stated.false))
