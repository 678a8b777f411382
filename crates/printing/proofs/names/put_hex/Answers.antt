-- The higher digit, then the lower.
use Rattle.std.proofs.Common.{rules}
use Rattle.algebra.proofs.Writing.{◌then◌, named}
use Rattle.printing.proofs.names.put_hex.Goals as goal

pub returns : goal.returns
returns c =
    named (c.put_byte-next.ensures then c.put_byte.ensures) (rw (c.hex_letter-high.ensures, c.hex_letter-low.ensures) (search rules))
