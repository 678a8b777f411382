-- A space, then the digits.
use Rattle.std.proofs.Common.{rules}
use Rattle.algebra.proofs.Writing.{◌then◌, named}
use Rattle.printing.proofs.decimals.put_number.Goals as goal

pub returns : goal.returns
returns c = named (c.put_byte-next.ensures then c.put_digits.ensures) (search rules)
