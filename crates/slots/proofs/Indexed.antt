-- What is told of a verdict with an index says all three numbers, each by itself; and it is 0 exactly where the verdict accepts. Assumes nothing.
use Rattle.std.proofs.Common.{Ok, Err}
use Prim.Native.Nat.{ℕ, ◌/◌, ◌%◌, ◌<◌}
use mathlib.Core.Path.{◌≡◌, refl}
use native.Mathlib.Omega.{arith}
use Rattle.meaning.specs.Refusals.{Verdict, accepted, refused}
use Rattle.slots.specs.Pools.{told_at}
use Rattle.slots.proofs.Numbered.{Numbered}

-- the number is in the lowest eight bits, whatever the index
pub indexed_number : (k i at : ℕ) → k < 256 → told_at (refused k at) i % 256 ≡ k
indexed_number k i at l = omega arith

-- the index in the next eight
pub indexed_index : (k i at : ℕ) → k < 256 → i < 256 → told_at (refused k at) i / 256 % 256 ≡ i
indexed_index k i at l m = omega arith

-- the place from the seventeenth on
pub indexed_place : (k i at : ℕ) → k < 256 → i < 256 → at < 281474976710656 → told_at (refused k at) i / 65536 ≡ at
indexed_place k i at l m n = omega arith

-- it accepts where what is told is 0
pub indexed_zero : (v : Verdict) (i : ℕ) → Numbered v → told_at v i ≡ 0 → v ≡ accepted
indexed_zero (Ok done) i n e = refl
indexed_zero (Err why) i n e = n.unless (omega arith)
