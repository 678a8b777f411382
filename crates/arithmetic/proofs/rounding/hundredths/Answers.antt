-- The nearest whole number to the size's hundredths, with the numerator's sign put back.
use Rattle.std.proofs.Common.{◌≡◌, ℕ, ◌*◌, sym, ap, ◌∙◌, arith, rules}
use lib.IntN.{nat_abs}
use mir.Facts.{to_z-of_z}
use Rattle.algebra.proofs.Signs.{read_back}
use Rattle.meaning.specs.Publishing.{minus, signed, nearest}
use Rattle.arithmetic.specs.Quotient.{hundredths_of}
use Rattle.arithmetic.proofs.Exact.{exact-is, hundredths-is}
use Rattle.arithmetic.proofs.rounding.Signed.{nearest-most}
use Rattle.arithmetic.proofs.rounding.hundredths.Goals as goal

pub overflow_mul-size : goal.overflow_mul-size
overflow_mul-size c =
    let range = exact-is _ _ (sym (rw (to_z-of_z c.ranges.numerator) at c.is_exact.ensures) ∙ c.if-is_exact.true) in
    let size : c.size.result ≡ nat_abs c.args.numerator = rw (to_z-of_z c.ranges.numerator) at c.size.ensures in
    omega (arith, range, size)

pub nearest-requires : goal.nearest-requires
nearest-requires c =
    let range = exact-is _ _ (sym (rw (to_z-of_z c.ranges.numerator) at c.is_exact.ensures) ∙ c.if-is_exact.true) in
    let size : c.size.result ≡ nat_abs c.args.numerator = rw (to_z-of_z c.ranges.numerator) at c.size.ensures in
    omega (arith, range, size)

pub with_sign-requires : goal.with_sign-requires
with_sign-requires c =
    let range = exact-is _ _ (sym (rw (to_z-of_z c.ranges.numerator) at c.is_exact.ensures) ∙ c.if-is_exact.true) in
    let size : c.size.result ≡ nat_abs c.args.numerator = rw (to_z-of_z c.ranges.numerator) at c.size.ensures in
    omega (arith, range, size, c.nearest.ensures, nearest-most (100 * c.size.result) c.args.denominator)

pub returns-then-is_exact : goal.returns-then-is_exact
returns-then-is_exact c =
    let a = c.args.numerator in
    let range = exact-is _ _ (sym (rw (to_z-of_z c.ranges.numerator) at c.is_exact.ensures) ∙ c.if-is_exact.true) in
    let size : c.size.result ≡ nat_abs a = rw (to_z-of_z c.ranges.numerator) at c.size.ensures in
    read_back c.with_sign.result c.with_sign.type_inv
    ∙ (rw (to_z-of_z c.ranges.numerator) at c.with_sign.ensures)
    ∙ ap (signed (minus a)) (c.nearest.ensures ∙ ap (λ (m : ℕ). nearest (100 * m) c.args.denominator) size)
    ∙ sym (hundredths-is _ _ range)

pub returns-else-is_exact : goal.returns-else-is_exact
unfolding hundredths_of
returns-else-is_exact c = rw (sym (rw (to_z-of_z c.ranges.numerator) at c.is_exact.ensures) ∙ c.if-is_exact.false) (search rules)
