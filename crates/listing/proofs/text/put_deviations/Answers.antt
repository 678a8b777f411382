-- `listing::text::put_deviations`: no line before the first turn, one line more with each, and all of them at the end.
use Rattle.std.proofs.Common.{◌≡◌, ℤ, pos, length, get_or, ap, arith, rules}
use Rattle.algebra.proofs.Writing.{named}
use Rattle.algebra.proofs.Signs.{read_back}
use Rattle.printing.proofs.Each.{no_lines, more-lines}
use Rattle.meaning.specs.Text.{dev_line}
use Rattle.listing.specs.Sheet.{deviation_at, deviation_lines}
use Rattle.listing.proofs.text.put_deviations.Goals as goal

pub loop-k-init : goal.loop-k-init
loop-k-init c = no_lines _ _ _

pub loop-k-preserved : goal.loop-k-preserved
loop-k-preserved c =
    let l = c.loop-k in
    let a = c.args in
    let read = read_back (get_or a.numerators.now l.k (pos 0)) (search rules) in
    more-lines (deviation_at a.numerators.now a.denominator) l.k l.invariant
    (named c.put_deviation-place.ensures (ap (λ (x : ℤ). dev_line l.k x a.denominator) read))

pub returns : goal.returns
returns c =
    let a = c.args in
    let end : c.loop-k.k ≡ length a.numerators.now = omega arith in
    named c.loop-k.invariant (ap (deviation_lines a.numerators.now a.denominator) end)
