-- The tag, then the length in two bytes.
use Rattle.std.proofs.Common.{rules}
use Rattle.algebra.proofs.Writing.{◌then◌, named}
use Rattle.writing.proofs.encoding.put_start.Goals as goal

pub returns : goal.returns
returns c = named (c.put_byte-next.ensures then c.put_bytes.ensures) (search rules)
