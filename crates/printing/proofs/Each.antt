-- Lines one after the other: none, one more, and the same lines give the same text. Assumes nothing.
use mathlib.Core.Path.{◌≡◌, refl}
use mathlib.Core.List.{List, ◌++◌}
use Prim.Native.Nat.{ℕ, zero, suc, ◌+◌, ◌<◌}
use native.Mathlib.Numerals.{add-one}
use native.Mathlib.Omega.{arith}
use Rattle.algebra.specs.Buffers.{Wrote}
use Rattle.algebra.proofs.Writing.{nothing, ◌then◌}
use Rattle.meaning.specs.Text.{each}

-- before the first turn of a loop over lines nothing is written
pub no_lines : (o : List ℕ) (at : ℕ) (f : ℕ → List ℕ) → Wrote o at (each 0 f) o at
unfolding each
no_lines o at f = nothing o at

-- a turn of a loop over lines
pub more-lines : {o o' o'' : List ℕ} {at r r' : ℕ} (f : ℕ → List ℕ) (i : ℕ) → Wrote o at (each i f) o' r → Wrote o' r (f i) o'' r' →
    Wrote o at (each (i + 1) f) o'' r'
unfolding each
more-lines f i p q = rw add-one (p then q)

-- the same lines give the same text
pub each_same : (n : ℕ) (f g : ℕ → List ℕ) → ((i : ℕ) → i < n → f i ≡ g i) → each n f ≡ each n g
unfolding each
each_same zero f g h = refl
each_same (suc n) f g h = λ j. each_same n f g (λ i l. h i (omega arith)) j ++ h n (omega arith) j
