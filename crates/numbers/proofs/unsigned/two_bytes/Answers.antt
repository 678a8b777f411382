-- The two bytes are what `big` adds up, and past the end both are 0.
use Rattle.std.proofs.Common.{arith, sym}
use native.Mathlib.Nat.{add-zero}
use Rattle.numbers.proofs.unsigned.Bytes.{big_past}
use Rattle.meaning.specs.File.{big}
use Rattle.numbers.proofs.unsigned.two_bytes.Goals as goal

pub returns-then-place-bytes : goal.returns-then-place-bytes
returns-then-place-bytes c = sym (big_past c.args.bytes.now c.args.place 2 (omega arith))

pub returns : goal.returns
unfolding big
returns c = simp add-zero (omega arith)
