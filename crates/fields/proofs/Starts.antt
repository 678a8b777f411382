-- How far the third field's start reaches where the sizes fit. Assumes nothing.
use Prim.Native.Nat.{ℕ, ◌≤◌}
use mathlib.Core.List.{List}
use native.Mathlib.Omega.{arith}
use Rattle.meaning.specs.File.{head_of, third_at}
use Rattle.laws.specs.Fits.{Fits}
use Rattle.laws.proofs.Chains.{listed-most}

-- where the sizes fit, the third field starts within 3210 bytes
pub third-most : (s : List ℕ) → Fits (head_of s) → third_at s ≤ 3210
third-most s f = omega (arith, listed-most (head_of s) f)
