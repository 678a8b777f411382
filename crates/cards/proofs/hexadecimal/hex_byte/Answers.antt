-- `cards::hexadecimal::hex_byte`: two digits are worth at most 255.
use native.Mathlib.Omega.{arith}
use Rattle.cards.proofs.hexadecimal.Digits.{digit-most}
use Rattle.cards.proofs.hexadecimal.hex_byte.Goals as goal

pub overflow_mul-result : goal.overflow_mul-result
overflow_mul-result c = omega (arith, c.hex_digit-high.ensures, digit-most _ c.requires.1)

pub overflow_add-result : goal.overflow_add-result
overflow_add-result c = omega (arith, c.hex_digit-high.ensures, c.hex_digit-low.ensures, digit-most _ c.requires.1, digit-most _ c.requires.2)
