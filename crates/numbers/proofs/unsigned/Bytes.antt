-- The law of `big`, the number that bytes make, past the end. Assumes nothing.
use Prim.Native.Nat.{ℕ, zero, suc, ◌+◌, ◌≤◌}
use mathlib.Core.Path.{◌≡◌, refl}
use mathlib.Core.List.{List}
use native.Mathlib.Omega.{arith}
use lib.ListN.{length, get_or-eq_default}
use Rattle.meaning.specs.File.{big}

-- past the end it is 0
pub big_past : (s : List ℕ) (at c : ℕ) → length s ≤ at → big s at c ≡ 0
unfolding big
big_past s at zero h = refl
big_past s at (suc c) h = rw (big_past s at c h, get_or-eq_default s 0 {n = at + c} (omega arith))
