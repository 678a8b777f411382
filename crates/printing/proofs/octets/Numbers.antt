-- Laws of a number's bytes as the code puts them, byte after byte. Assumes nothing.
use mathlib.Core.Path.{◌≡◌, ap}
use mathlib.Core.List.{[], ◌∷◌, ◌++◌}
use Prim.Native.Nat.{ℕ, suc, ◌-◌, ◌/◌, ◌%◌}
use native.Mathlib.Omega.{arith}
use Rattle.meaning.specs.Writing.{bytes_of}

-- no bytes
pub bytes-end : (c x : ℕ) → c ≡ 0 → bytes_of c x ≡ []
unfolding bytes_of
bytes-end c x e = rw e

-- the last byte, after the others
pub bytes-last : (c x : ℕ) → (c ≡ 0 → ⊥) → bytes_of c x ≡ bytes_of (c - 1) (x / 256) ++ (x % 256 ∷ [])
unfolding bytes_of
bytes-last c x some = ap (λ (n : ℕ). bytes_of n x) one
  where
    one : c ≡ suc (c - 1)
    one = omega arith
