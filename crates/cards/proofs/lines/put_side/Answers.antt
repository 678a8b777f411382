-- `cards::lines::put_side`: before the loop nothing is written, and a turn of it writes one object more.
use Rattle.std.proofs.Common.{◌+◌, ◌-◌, ◌≡◌, get_or, take, drop, ap, arith, ◌∙◌}
use Rattle.std.proofs.lemmas.List.{get_or-take, get_or-drop}
use Rattle.algebra.proofs.Writing.{named}
use Rattle.meaning.specs.CardText.{object_text}
use Rattle.printing.proofs.Each.{no_lines, more-lines}
use Rattle.cards.proofs.lines.put_side.Goals as goal

pub loop-object-init : goal.loop-object-init
loop-object-init c = no_lines _ _ _

pub loop-object-preserved : goal.loop-object-preserved
loop-object-preserved c =
    let a = c.args in
    let i = c.loop-object.object-index in
    let part = drop a.start a.blocks.now in
    let here : get_or (take (a.start + a.head.p - a.start) part) i 0 ≡ get_or a.blocks.now (a.start + i) 0 =
    get_or-take (a.start + a.head.p - a.start) part i 0 (omega arith) ∙ get_or-drop a.start a.blocks.now i 0 in
    more-lines (λ i. object_text (get_or a.blocks.now (a.start + i) 0)) i c.loop-object.invariant
    (named c.put_object-place.ensures (ap object_text here))
