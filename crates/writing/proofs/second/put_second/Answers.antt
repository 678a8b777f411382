-- The edition field, the four fields and the names, one after another.
use Rattle.std.proofs.Common.{to_z-of_z, rules}
use Rattle.algebra.proofs.Writing.{◌then◌, named}
use Rattle.meaning.specs.Edition2.{file_of2}
use Rattle.writing.proofs.second.put_second.Goals as goal

pub returns : goal.returns
unfolding file_of2
returns c = named (c.put_text-start.ensures then c.put_file-end.ensures then c.put_names.ensures) (rw (to_z-of_z c.ranges.sum) (search rules))
