-- `sheets::numerals::number`: a byte that is no digit, a number above the limit, one digit more, a word with no byte, and the number at the end.
use Rattle.std.proofs.Common.{◌≡◌, ◌+◌, ◌-◌, ◌*◌, ◌<◌, true, false, length, drop, get_or, sym, ◌∙◌, arith}
use Rattle.std.specs.Char.{is_ascii_digit}
use Rattle.sheets.proofs.numerals.Digits.{digit_here, no_digit_here, decimal-later, decimal_grows, digital-end, decimal-end, no_digits, no_word, too_large, is-number}
use Rattle.sheets.proofs.numerals.number.Goals as goal

pub returns-then-not-is_ascii_digit : goal.returns-then-not-is_ascii_digit
returns-then-not-is_ascii_digit c =
    let l = c.loop-byte in
    let a = c.args in
    let w = a.word.now in
    let other : is_ascii_digit (get_or w l.byte-index 0) ≡ false = cc in
    sym (no_digits a.limit w (l.invariant.digits ∙ no_digit_here w l.byte-index (omega arith) other))

pub returns-then-limit-digit : goal.returns-then-limit-digit
returns-then-limit-digit c =
    let l = c.loop-byte in
    let a = c.args in
    let w = a.word.now in
    let step = l.invariant.value ∙ decimal-later w l.byte-index (omega arith) l.n in
    let grows = decimal_grows (10 * l.n + (get_or w l.byte-index 0 - 48)) (drop (l.byte-index + 1) w) in
    sym (too_large a.limit w (omega (arith, step, grows)))

pub loop-byte-preserved : goal.loop-byte-preserved
loop-byte-preserved c =
    let l = c.loop-byte in
    let w = c.args.word.now in
    let more : l.byte-index < length w = omega arith in
    let digit : is_ascii_digit (get_or w l.byte-index 0) ≡ true = cc in
    let read : c.from-digit.result ≡ get_or w l.byte-index 0 - 48 = cc in
    record {
      small = omega arith;
      digits = l.invariant.digits ∙ digit_here w l.byte-index more digit;
      value = rw read (l.invariant.value ∙ decimal-later w l.byte-index more l.n);
    }

pub returns-then-is_empty : goal.returns-then-is_empty
returns-then-is_empty c =
    let a = c.args in
    sym (no_word a.limit a.word.now (sym c.is_empty.ensures ∙ c.if-is_empty.true))

pub returns : goal.returns
returns c =
    let l = c.loop-byte in
    let a = c.args in
    let w = a.word.now in
    let end : l.byte-index ≡ length w = omega arith in
    sym (is-number a.limit w (sym c.is_empty.ensures ∙ c.if-is_empty.false) (l.invariant.digits ∙ digital-end w l.byte-index end) l.n
    (l.invariant.value ∙ decimal-end w l.byte-index end l.n) l.invariant.small)
