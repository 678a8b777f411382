-- The law of `big`, the number that bytes make, in two parts. Assumes nothing.
use Prim.Native.Nat.{ℕ, zero, suc, ◌+◌, ◌*◌, ◌^◌}
use mathlib.Core.Path.{◌≡◌}
use mathlib.Core.List.{List}
use native.Mathlib.Omega.{arith}
use native.Mathlib.Nat.{add-suc, add-zero, add_assoc, mul_assoc, pow-suc}
use Rattle.meaning.specs.File.{big}

-- the number of some bytes is that of the first of them, moved up, and that of the rest
pub big_split : (s : List ℕ) (at j k : ℕ) → big s at (j + k) ≡ big s at j * 256 ^ k + big s (at + j) k
unfolding big
big_split s at j zero = rw add-zero (omega arith)
big_split s at j (suc k) = rw (add-suc, big_split s at j k, pow-suc, add_assoc at j k, ← mul_assoc) (omega arith)
