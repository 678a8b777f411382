-- The number is made of its halves (`big_split`), and past the end all of it is 0.
use Rattle.std.proofs.Common.{arith, sym}
use Rattle.numbers.proofs.unsigned.Bytes.{big_past}
use Rattle.numbers.proofs.unsigned.Parts.{big_split}
use Rattle.numbers.proofs.unsigned.four_bytes.Goals as goal

pub returns-then-place-bytes : goal.returns-then-place-bytes
returns-then-place-bytes c = sym (big_past c.args.bytes.now c.args.place 4 (omega arith))

pub returns : goal.returns
returns c = omega (arith, big_split c.args.bytes.now c.args.place 2 2)
