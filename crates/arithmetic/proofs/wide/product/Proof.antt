-- `product`: the products of the halves, each with what the one below it carries. Assumes nothing.
use borrow.Author.Rules.{rules}
use mathlib.Core.Path.{◌≡◌, sym, ◌∙◌, ap₂}
use Prim.Native.Nat.{◌+◌, ◌*◌, ◌/◌, ◌%◌, ◌^◌, ◌≤◌}
use native.Mathlib.Nat.{div-add-mod', mod-eq_of_lt}
use native.Mathlib.Omega.{arith}
use Rattle.arithmetic.proofs.Words.{words, room, halves}
use Rattle.arithmetic.proofs.wide.product.Statement.{statement}
use Rattle.arithmetic.proofs.wide.product.Tie as tie

-- the four products of halves
module _ (c : tie.Start) where
  low : c.args.a % 2 ^ 32 * (c.args.b % 2 ^ 32) ≤ 18446744065119617025
  low = room (omega arith) (omega arith)

  left : c.args.a / 2 ^ 32 * (c.args.b % 2 ^ 32) ≤ 18446744065119617025
  left = room (omega arith) (omega arith)

  right : c.args.a % 2 ^ 32 * (c.args.b / 2 ^ 32) ≤ 18446744065119617025
  right = room (omega arith) (omega arith)

  high : c.args.a / 2 ^ 32 * (c.args.b / 2 ^ 32) ≤ 18446744065119617025
  high = room (omega arith) (omega arith)

  parts : c.args.a * c.args.b ≡ (c.args.a / 2 ^ 32 * 2 ^ 32 + c.args.a % 2 ^ 32) * (c.args.b / 2 ^ 32 * 2 ^ 32 + c.args.b % 2 ^ 32)
  parts = sym (ap₂ ◌*◌ (div-add-mod' c.args.a (2 ^ 32)) (div-add-mod' c.args.b (2 ^ 32)))

mul_first : tie.Need-overflow_mul-first
mul_first c = omega (arith, low c)

mul_second : tie.Need-overflow_mul-second
mul_second c = omega (arith, left c)

add_second : tie.Need-overflow_add-second
add_second c = omega (arith, low c, left c)

mul_third : tie.Need-overflow_mul-third
mul_third c = omega (arith, right c)

add_third : tie.Need-overflow_add-third
add_third c = omega (arith, right c)

mul_t10 : tie.Need-overflow_mul-result
mul_t10 c = omega (arith, high c)

add_t12 : tie.Need-overflow_add-result
add_t12 c = omega (arith, high c, left c, low c)

add_t14 : tie.Need-overflow_add-result-2
add_t14 c = omega (arith, high c, left c, low c, right c)

returns : tie.Need-returns
returns c =
    words (c.args.a * c.args.b) _ _ _ (sym (mod-eq_of_lt (omega (arith, high c, left c, low c, right c)))) (omega arith)
    (parts c ∙ halves (c.args.a / 2 ^ 32) (c.args.a % 2 ^ 32) (c.args.b / 2 ^ 32) (c.args.b % 2 ^ 32))

pub product_spec : {M : Type 1} → statement M
product_spec =
    tie.close
    (tie.spec
    mul_first
    mul_second
    add_second
    mul_third
    add_third
    mul_t10
    add_t12
    add_t14
    (λ c. search rules)
    (λ c. search rules)
    returns)
