-- How far the third field's start reaches in any file, whatever its head holds. Assumes nothing.
use Prim.Native.Nat.{ℕ, ◌*◌, ◌≤◌}
use mathlib.Core.List.{List}
use native.Mathlib.Nat.{mul-le-mul}
use native.Mathlib.Omega.{arith}
use lib.ListN.{get_or}
use mir.Syntax.{w8}
use mir.Val.{Fits}
use Rattle.meaning.specs.Design.{blocks}
use Rattle.meaning.specs.File.{head_of, third_at}

-- a size is a byte, so the third field of any file starts within these bytes
pub third_bound : (s : List ℕ) → Fits w8 (get_or s 5 0) → Fits w8 (get_or s 6 0) → third_at s ≤ 130060
third_bound s p m =
    let side : 2 * get_or s 5 0 ≤ 510 = omega (arith, p) in
    let lists : get_or s 6 0 ≤ 255 = omega (arith, m) in
    omega (arith, mul-le-mul side lists)

-- and has at most so many readings
pub blocks_bound : (s : List ℕ) → Fits w8 (get_or s 3 0) → Fits w8 (get_or s 6 0) → blocks (head_of s) ≤ 65025
blocks_bound s n m =
    let lists : get_or s 6 0 ≤ 255 = omega (arith, m) in
    let residues : get_or s 3 0 ≤ 255 = omega (arith, n) in
    omega (arith, mul-le-mul lists residues)
