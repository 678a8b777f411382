-- `side_word`: the byte's bit and the word of the rest make the whole, which is below 2 ^ 55. Assumes nothing.
use Rattle.std.proofs.Common.{◌≡◌, ℕ, ◌+◌, ◌*◌, ◌^◌, ◌%◌, ◌<◌, List, length, get_or, drop, arith}
use native.Mathlib.Nat.{le_of_lt}
use Rattle.meaning.specs.Calls.{word}
use Rattle.groups.proofs.lists.Words.{word_none, word_more, word-most, bit_of}
use Rattle.groups.proofs.lists.side_word.Goals as goal

module _ (side : List ℕ) (sum k : ℕ) (small : (i : ℕ) → i < length side → get_or side i 0 < 50) (more : k < length side) (so_far : sum + word (drop k side) ≡ word side) where
  whole : sum + (1 * 2 ^ get_or side k 0) % 18446744073709551616 + word (drop (k + 1) side) ≡ word side
  whole = omega (arith, bit_of _ (le_of_lt (small k more)), word_more side k more, so_far)

pub overflow_add-sum : goal.overflow_add-sum
overflow_add-sum c =
    omega (arith, whole c.args.side.now c.loop-byte.sum c.loop-byte.byte-index c.requires.1 (omega arith) c.loop-byte.invariant, word-most c.args.side.now c.requires.0 c.requires.1)

pub loop-byte-preserved : goal.loop-byte-preserved
loop-byte-preserved c = whole c.args.side.now c.loop-byte.sum c.loop-byte.byte-index c.requires.1 (omega arith) c.loop-byte.invariant

pub returns : goal.returns
returns c = omega (arith, c.loop-byte.invariant, word_none c.args.side.now c.loop-byte.byte-index (omega arith))
