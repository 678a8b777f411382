-- What a direct call is handed of a file is what the file holds. Assumes nothing.
use Prim.Native.Nat.{ℕ, ◌+◌, ◌-◌, ◌*◌, ◌≤◌}
use mathlib.Core.Path.{◌≡◌, ap, ◌∙◌}
use mathlib.Core.List.{List}
use native.Mathlib.Omega.{arith}
use lib.IntN.{ℤ}
use lib.ListN.{length, take, drop}
use mir.Syntax.{w64}
use mir.Val.{to_z, of_z, SFits}
use Rattle.algebra.proofs.Filling.{over-long}
use Rattle.algebra.proofs.Signs.{read_back}
use Rattle.records.specs.declared.Held.{Held}
use Rattle.algebra.specs.Buffers.{over}
use Rattle.meaning.specs.Design.{blocks, list_length}
use Rattle.meaning.specs.Refusals.{accepted}
use Rattle.meaning.specs.File.{big, twos, head_of, blocks_at, third_at, readings_at, blocks_of, readings_of, sum_of, fields}
use Rattle.laws.proofs.Files.{filed}
use Rattle.numbers.proofs.Rows.{take-numbers}
use Rattle.fields.specs.Contents.{held_in}
use Rattle.job.proofs.places.Places.{readings-most}

-- a file's bytes, and what `held` told of them
module _ (s : List ℕ) (k : Held) (e : k ≡ held_in s) where
  -- the bytes from the blocks' place up to the third field are the blocks
  pub held-blocks : take (k.restraint_at - k.blocks_at) (drop k.blocks_at s) ≡ blocks_of s
  held-blocks = let c : third_at s - blocks_at ≡ list_length (head_of s) = omega arith in rw e (ap (λ (c : ℕ). take c (drop blocks_at s)) c)

  -- the start of a room that was written with the readings is these
  pub held-readings : (room after : List ℤ) → blocks (head_of s) ≤ length room →
      after ≡ over k.count (λ i. twos 32 (big s (k.readings_at + 4 * i) 4)) room → take k.count after ≡ readings_of s
  held-readings room after fit w = let w' = rw e at w in rw (e, w') (take-numbers s (readings_at s) (blocks (head_of s)) room fit)

  -- the accepted sum is what it is as a number of 64 bits
  pub held-sum : SFits w64 k.sum → to_z w64 (of_z w64 k.sum) ≡ sum_of s
  held-sum f = read_back k.sum f.sfits ∙ ap (λ (x : Held). x.sum) e

  -- where the fields are there, the third starts within the bytes,
  pub held-end : fields s ≡ accepted → k.restraint_at ≤ length s
  held-end there = omega (arith, ap (λ (x : Held). x.restraint_at) e, (filed s there).ends)

  -- and a room of 1,300 is enough for the readings
  pub held-few : fields s ≡ accepted → (room after : List ℤ) (f : ℕ → ℤ) → length room ≡ 1300 → after ≡ over k.count f room → k.count ≤ length after
  held-few there room after f long w = omega (arith, ap (λ (x : Held). x.count) e, readings-most s there, over-long k.count f room after w, long)
