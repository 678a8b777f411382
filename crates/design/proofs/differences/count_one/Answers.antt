use Rattle.std.proofs.Common.{◌<◌, arith}
use Rattle.meaning.proofs.Addition.{plus_group}
use Rattle.laws.proofs.Differences.{names}
use Rattle.design.proofs.addition.Negatives.{back_below}
use Rattle.design.proofs.differences.count_one.Goals as goal

-- the shift that takes the element to 0 is one
pub add_side-requires : goal.add_side-requires
add_side-requires c =
    let h = c.args.addition.head in
    let shift : c.back-shift.result < h.n =
    omega (
      arith,
      c.back-shift.ensures,
      back_below h (plus_group h c.args.addition.fits.has_addition_lem) c.from.result
          (omega (arith, names h c.args.byte c.requires.0 (λ e. omega arith))),
    ) in
    (shift, c.requires.1, c.requires.3)

pub add_side-requires-2 : goal.add_side-requires-2
add_side-requires-2 c =
    let h = c.args.addition.head in
    let shift : c.back-shift.result < h.n =
    omega (
      arith,
      c.back-shift.ensures,
      back_below h (plus_group h c.args.addition.fits.has_addition_lem) c.from.result
          (omega (arith, names h c.args.byte c.requires.0 (λ e. omega arith))),
    ) in
    (shift, c.requires.2, c.requires.4)
