-- A text that is written piece by piece, by what is yet to be written. Assumes nothing.
use Prim.Native.Nat.{ℕ, ◌+◌, ◌<◌}
use mathlib.Core.Path.{◌≡◌, sym, ◌∙◌}
use mathlib.Core.List.{List, [], ◌++◌}
use lib.ListN.{length}
use Rattle.algebra.specs.Buffers.{write, Wrote}
use Rattle.algebra.proofs.Writing.{write-append, plainly}

-- a piece is written: what is to be written after it
pub onward : {o o' : List ℕ} {at r : ℕ} {s : List ℕ} (t : List ℕ) → Wrote o at s o' r → write o' r t ≡ write o at (s ++ t)
onward {o} {o'} {at} {r} {s} t p = (λ j. write (p.is j).0 (p.is j).1 t) ∙ sym (write-append o at s t)

-- nothing is left
pub arrived : {o o' : List ℕ} {at r : ℕ} {s : List ℕ} → write o' r [] ≡ write o at s → Wrote o at s o' r
unfolding write
arrived e = record { is = e }

-- the place after a text is counted
pub place : {o o' : List ℕ} {at r : ℕ} {s : List ℕ} → Wrote o at s o' r → at + length s < 18446744073709551615 → r ≡ at + length s
place {o} {o'} {at} {r} {s} p h = (λ j. (p.is j).1) ∙ (λ j. (plainly o at s h j).1)
