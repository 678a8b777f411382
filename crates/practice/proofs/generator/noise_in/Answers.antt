-- Without a width there is none; else the quotient is the top bits, and the shifted 1 half of their range.
use Rattle.std.proofs.Common.{◌≡◌, ℕ, ◌-◌, ◌*◌, ◌/◌, ◌%◌, ◌^◌, ◌<◌, ◌≤◌, pos, ◌-ℤ◌, sym, ap, ◌∙◌, div-le_self, arith, lit<}
use native.Mathlib.Nat.{pow-le-pow_right}
use Rattle.algebra.proofs.Numbers.{Num, unsigned, minus}
use Rattle.words.proofs.Bits.{shl_one}
use Rattle.meaning.specs.Practice.{noise, width_limit}
use Rattle.laws.proofs.Practice.{noise-some}
use Rattle.practice.proofs.generator.noise_in.Goals as goal

pub returns-then-width-eq0 : goal.returns-then-width-eq0
unfolding noise
returns-then-width-eq0 c = sym (ap (λ (w : ℕ). noise w c.args.x) c.if-width-eq0.true)

-- a number of 32 bits and a width
module _ (x w : ℕ) (few : w ≤ width_limit) (fits : x < 2 ^ 32) where
  -- the shifted 1 is half of the range
  half_is : (1 * 2 ^ (w - 1)) % 2 ^ 64 ≡ 2 ^ (w - 1)
  half_is = shl_one (w - 1) (omega arith)

  half-most : (1 * 2 ^ (w - 1)) % 2 ^ 64 ≤ 256
  half-most = omega (arith, half_is, pow-le-pow_right {n = 2} (lit< tt) {i = w - 1} {j = 8} (omega arith))

  top-most : x / 2 ^ (32 - w) ≤ 4294967296
  top-most = omega (arith, fits, div-le_self x (2 ^ (32 - w)))

  abbrev top : Num
  top = unsigned (x / 2 ^ (32 - w)) 4294967296 top-most (lit< tt)

  abbrev half : Num
  half = unsigned ((1 * 2 ^ (w - 1)) % 2 ^ 64) 256 half-most (lit< tt)

  less : 0 < w → pos (x / 2 ^ (32 - w)) -ℤ pos ((1 * 2 ^ (w - 1)) % 2 ^ 64) ≡ noise w x
  less some = ap (λ (h : ℕ). pos (x / 2 ^ (32 - w)) -ℤ pos h) half_is ∙ sym (noise-some w x some)

pub returns : goal.returns
returns c =
    let x = c.args.x in
    let w = c.args.width in
    let few = c.requires in
    let fits = c.ranges.x.fits in
    let some : 0 < w = omega (arith, c.if-width-eq0.false) in
    (minus (top x w few fits) (half x w few fits) (lit< tt)).reads ∙ less x w few fits some
