-- The start of the field, then four bytes.
use Rattle.std.proofs.Common.{rules}
use Rattle.algebra.proofs.Writing.{◌then◌, named}
use Rattle.writing.proofs.file.put_sizes.Goals as goal

pub returns : goal.returns
returns c = named (c.put_start-body.ensures then c.put_text.ensures) (search rules)
