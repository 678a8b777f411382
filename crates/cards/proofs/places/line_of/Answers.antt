-- `cards::places::line_of`: the newlines are counted among the bytes before the place, or among all.
use Rattle.std.proofs.Common.{rules, arith, ◌≡◌, min, length, take, eqb, ap, sym, ◌∙◌}
use Rattle.std.specs.List.{count_by}
use Rattle.std.proofs.lemmas.List.{take_min}
use Rattle.cards.proofs.places.Turns.{newlines}
use Rattle.cards.proofs.places.line_of.Goals as goal

pub returns : goal.returns
returns c =
    let s = c.args.card.now in
    let p = c.args.place in
    let counted : c.count.result ≡ count_by (λ x. eqb x 10) (take (min p (length s)) s) = search rules in
    omega (arith, counted ∙ ap (count_by (λ x. eqb x 10)) (take_min p s) ∙ sym (newlines (take p s)))
