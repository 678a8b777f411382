-- The start of the field, the set, the bits of the sum.
use Rattle.std.proofs.Common.{◌≡◌, ap, ◌∙◌, to_z-of_z, rules}
use Rattle.algebra.proofs.Writing.{◌then◌, named}
use Rattle.meaning.specs.Writing.{wrapped}
use Rattle.writing.proofs.encoding.put_restraint.Goals as goal

pub returns : goal.returns
returns c =
    let sum : c.bits.result ≡ wrapped 64 c.args.sum = c.bits.ensures ∙ ap (wrapped 64) (to_z-of_z c.ranges.sum) in
    named (c.put_start-body.ensures then (c.put_bytes-middle.ensures then c.put_bytes.ensures)) (rw (← sum) (search rules))
