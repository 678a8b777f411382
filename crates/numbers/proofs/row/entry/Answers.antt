-- Past the end the number is 0.
use Rattle.std.proofs.Common.{arith, ◌+◌, ◌*◌}
use Rattle.numbers.proofs.unsigned.Bytes.{big_past}
use Rattle.numbers.proofs.row.entry.Goals as goal

pub returns-then-place-bytes : goal.returns-then-place-bytes
returns-then-place-bytes c = rw (big_past c.args.bytes.now (c.args.place + 4 * c.args.i) 4 (omega arith))
