-- A bit that is not in a word is added with no carry out of it. Assumes nothing.
use Prim.Native.Nat.{ℕ, ◌+◌, ◌-◌, ◌*◌, ◌/◌, ◌^◌, ◌<◌, ◌≤◌}
use mathlib.Core.Path.{◌≡◌, sym, ap, ◌∙◌}
use native.Mathlib.Omega.{arith}
use native.Mathlib.Nat.{div-add-mod', div-lt_iff_lt-mul, mul-le-mul_right, mul_assoc, add-mul, mod-lt}
use lib.Pow.{pow_pos, pow-add}
use Rattle.meaning.specs.Analysis.{member}

pub bit-room : (w i : ℕ) → i < 64 → w < 2 ^ 64 → member w i ≡ 0 → w + 2 ^ i < 2 ^ 64
bit-room w i low small none =
    let some : 0 < 2 ^ i = pow_pos i in
    let split : 63 - i + i ≡ 63 = omega arith in
    let half : 2 ^ (63 - i) * 2 ^ i ≡ 2 ^ 63 = sym (pow-add 2 (63 - i) i) ∙ ap (λ (n : ℕ). 2 ^ n) split in
    let whole : 2 * 2 ^ (63 - i) * 2 ^ i ≡ 2 ^ 64 = mul_assoc 2 (2 ^ (63 - i)) (2 ^ i) ∙ ap (λ (n : ℕ). 2 * n) half in
    let few : w / 2 ^ i < 2 * 2 ^ (63 - i) = (div-lt_iff_lt-mul {k = 2 ^ i} {x = w} {y = 2 * 2 ^ (63 - i)} some).1 (omega (arith, whole)) in
    let two : w / 2 ^ i + 2 ≤ 2 * 2 ^ (63 - i) = omega arith in
    omega (arith, mul-le-mul_right (2 ^ i) two, add-mul (w / 2 ^ i) 2 (2 ^ i), whole, div-add-mod' w (2 ^ i), mod-lt w some)
