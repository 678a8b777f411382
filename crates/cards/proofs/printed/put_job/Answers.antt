-- `cards::printed::put_job`: the lines one after the other.
use mathlib.Core.Path.{◌∙◌}
use borrow.Author.Rules.{rules}
use mir.Facts.{to_z-of_z}
use Rattle.algebra.proofs.Writing.{◌then◌, named}
use Rattle.meaning.specs.Design.{objects}
use Rattle.design.proofs.Within.{within-sizes}
use Rattle.cards.proofs.printed.put_job.Goals as goal

pub returns : goal.returns
returns c =
    let head = c.args.head in
    named (c.put_kind-kind_end.ensures then c.put_fixed-fixed_end.ensures then c.put_blocks-blocks_end.ensures then c.put_restraint-restraint_end.ensures then c.put_readings.ensures)
    (rw (c.objects.ensures ∙ within-sizes head (objects head) c.requires.0, to_z-of_z c.ranges.sum, c.requires.2) (search rules))
