-- The four fields, one after another.
use Rattle.std.proofs.Common.{to_z-of_z, rules}
use Rattle.algebra.proofs.Writing.{◌then◌, named}
use Rattle.meaning.specs.Writing.{file_of}
use Rattle.writing.proofs.file.put_file.Goals as goal

pub returns : goal.returns
unfolding file_of
returns c =
    named (c.put_sizes-second.ensures then (c.put_start-blocks_at.ensures then c.put_text-third.ensures) then c.put_restraint-fourth.ensures then
    (c.put_start-readings_at.ensures then c.put_readings.ensures)) (rw (to_z-of_z c.ranges.sum, c.requires.1, c.requires.2) (search rules))
