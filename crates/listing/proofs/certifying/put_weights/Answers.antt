-- `listing::certifying::put_weights`: no line before the first turn, one line more with each, and all of them at the end.
use Rattle.std.proofs.Common.{◌≡◌, pos, length, get_or, ap, arith, rules}
use Rattle.algebra.proofs.Writing.{named}
use Rattle.algebra.proofs.Signs.{read_back}
use Rattle.printing.proofs.Each.{no_lines, more-lines}
use Rattle.listing.specs.Certified.{weight_at, weight_lines}
use Rattle.listing.proofs.certifying.put_weights.Goals as goal

pub loop-i-init : goal.loop-i-init
loop-i-init c = no_lines _ _ _

pub loop-i-preserved : goal.loop-i-preserved
loop-i-preserved c =
    let l = c.loop-i in
    let a = c.args in
    let read = read_back (get_or a.hundredths.now l.i (pos 0)) (search rules) in
    more-lines (weight_at a.bytes.now a.names a.hundredths.now a.solved a.set) l.i l.invariant
    (named c.put_weight-place.ensures (rw (read, c.holds-held.ensures, c.uncertainty_in-uncertainty.ensures) (search rules)))

pub returns : goal.returns
returns c =
    let a = c.args in
    let end : c.loop-i.i ≡ length a.hundredths.now = omega arith in
    named c.loop-i.invariant (ap (weight_lines a.bytes.now a.names a.hundredths.now a.solved a.set) end)
