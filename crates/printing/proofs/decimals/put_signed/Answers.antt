-- Below 0 a space, a minus, and the digits of the size of x.
use Rattle.std.proofs.Common.{◌≡◌, sym, ap, ◌∙◌, rules}
use lib.IntN.{nat_abs}
use mir.Facts.{to_z-of_z}
use Rattle.algebra.proofs.Signs.{plain}
use Rattle.algebra.proofs.Writing.{◌then◌, named}
use Rattle.printing.proofs.decimals.Signed.{signed_below}
use Rattle.printing.proofs.decimals.put_signed.Goals as goal

pub returns-then-x-lt0 : goal.returns-then-x-lt0
returns-then-x-lt0 c =
    let size : nat_abs c.args.x ≡ c.size-magnitude.result = sym (c.size-magnitude.ensures ∙ ap nat_abs (to_z-of_z c.ranges.x)) in
    let below = plain _ c.ranges.x c.if-x-lt0.true in
    named (c.put_byte-sign.ensures then c.put_byte-first.ensures then c.put_digits.ensures) (rw (signed_below c.args.x below, size) (search rules))
