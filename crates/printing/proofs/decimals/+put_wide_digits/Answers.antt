-- `printing::decimals::put_wide_digits` calls itself on less, its last digit is a byte, and what it returns: one digit, or the digits of the tenth and
-- then the last one.
use Rattle.std.proofs.Common.{rules, arith, ◌≡◌, sym, ◌+◌, ◌/◌, ◌%◌, ◌^◌, ◌≤◌, ◌<◌, [], ◌∷◌, ◌++◌}
use native.Mathlib.Nat.{mod-lt}
use lib.Dec.{lit<}
use Rattle.algebra.proofs.Writing.{◌then◌, named}
use Rattle.meaning.specs.Text.{digits}
use Rattle.meaning.specs.Wide.{value}
use Rattle.records.specs.declared.Wide.{Wide}
use Rattle.arithmetic.specs.declared.wide.Divided.{Divided}
use Rattle.arithmetic.specs.Division.{divided}
use Rattle.arithmetic.proofs.Words.{value-most}
use Rattle.arithmetic.proofs.Division.{quotient_value, rest-value}
use Rattle.printing.proofs.decimals.Digits.{digits-one}
use Rattle.printing.proofs.decimals.Tenths.{wide-more, one-digit, more-digits, size, tenth_less}
use Rattle.printing.proofs.decimals.+put_wide_digits.Goals as goal

-- a number of more digits than one, and its division by 10
module _ (x : Wide) (parts : Divided) (high : x.high < 2 ^ 64) (low : x.low < 2 ^ 64) (more : 10 ≤ value x) (e : parts ≡ divided (value x) 10) where
  tenth : value parts.quotient ≡ value x / 10
  tenth = quotient_value x 10 high low (lit< tt) (lit< tt) e

  last : parts.rest ≡ value x % 10
  last = rest-value x 10 high low (lit< tt) (lit< tt) e

  less : size parts.quotient < size x
  less = tenth_less x parts.quotient more tenth

  one : parts.rest < 10
  one = rw last (mod-lt (value x) (lit< tt))

  text : digits 39 (value x) ≡ digits 39 (value parts.quotient) ++ ((48 + parts.rest) ∷ [])
  text = wide-more (value x) (value parts.quotient) parts.rest more (value-most x high low) tenth last

pub put_wide_digits-next-requires : goal.put_wide_digits-next-requires
put_wide_digits-next-requires t c =
    let more : 10 ≤ value c.args.x = more-digits c.args.x c.at_most.ensures c.if-at_most.false in
    (omega (arith, less c.args.x c.divide-tenth.result (omega arith) (omega arith) more c.divide-tenth.ensures), tt)

pub overflow_cast-tenth : goal.overflow_cast-tenth
overflow_cast-tenth t c =
    let more : 10 ≤ value c.args.x = more-digits c.args.x c.at_most.ensures c.if-at_most.false in
    omega (arith, one c.args.x c.divide-tenth.result (omega arith) (omega arith) more c.divide-tenth.ensures)

pub overflow_add-tenth : goal.overflow_add-tenth
overflow_add-tenth t c =
    let more : 10 ≤ value c.args.x = more-digits c.args.x c.at_most.ensures c.if-at_most.false in
    omega (arith, one c.args.x c.divide-tenth.result (omega arith) (omega arith) more c.divide-tenth.ensures)

pub returns-then-at_most : goal.returns-then-at_most
returns-then-at_most t c =
    let digit = one-digit c.args.x c.at_most.ensures c.if-at_most.true in
    named c.put_byte.ensures (rw (digits-one 38 (value c.args.x) digit.0, digit.1) (search rules))

pub returns-else-at_most : goal.returns-else-at_most
returns-else-at_most t c =
    let more : 10 ≤ value c.args.x = more-digits c.args.x c.at_most.ensures c.if-at_most.false in
    named (c.put_wide_digits-next.ensures then c.put_byte-else-at_most.ensures)
    (sym (text c.args.x c.divide-tenth.result (omega arith) (omega arith) more c.divide-tenth.ensures))
