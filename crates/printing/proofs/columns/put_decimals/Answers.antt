-- The whole counts, a point, two digits.
use Rattle.std.proofs.Common.{rules}
use Rattle.algebra.proofs.Writing.{◌then◌, named}
use Rattle.printing.proofs.columns.put_decimals.Goals as goal

pub returns : goal.returns
returns c =
    named (c.put_digits-whole_end.ensures then (c.put_byte-point_end.ensures then c.put_byte-tenth_end.ensures then c.put_byte.ensures)) (search rules)
