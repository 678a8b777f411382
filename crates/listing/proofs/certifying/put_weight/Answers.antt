-- `certifying::put_weight`: its cells one after the other, a newline. Assumes nothing.
use borrow.Author.Rules.{rules}
use Rattle.algebra.proofs.Writing.{◌then◌, named}
use mir.Facts.{to_z-of_z}
use Rattle.listing.proofs.certifying.put_weight.Goals as goal

pub returns : goal.returns
returns c =
    named (c.put_object-object_end.ensures then c.put_named-name_end.ensures then c.put_standard-standard_end.ensures then c.put_value-value_end.ensures then c.put_uncertainty-uncertainty_end.ensures
    then c.put_byte.ensures) (rw (to_z-of_z c.ranges.hundredths) (search rules))
