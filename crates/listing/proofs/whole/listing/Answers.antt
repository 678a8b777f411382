-- `whole::listing`: the rooms are enough for every file, and what was worked out gives its text. Assumes nothing.
use Rattle.std.proofs.Common.{◌≡◌, length, ◌∙◌}
use Rattle.meaning.specs.File.{set_of}
use Rattle.meaning.specs.Text.{text_answer, text_after}
use Rattle.listing.proofs.whole.Worked.{solved_fits, solved-text}
use Rattle.listing.proofs.whole.listing.Goals as goal

pub render_first-requires : goal.render_first-requires
render_first-requires c =
    let solved = c.solve-solved.ensures in
    solved_fits c.args.bytes.now solved.value solved.values_after solved.deviations_after (λ j. (c.held-held.ensures j).set) c.column-hundredths.ensures

pub returns-clause-value : goal.returns-clause-value
returns-clause-value c =
    let solved = c.solve-solved.ensures in
    let set : c.held-held.result.set ≡ set_of c.args.bytes.now = λ j. (c.held-held.ensures j).set in
    let same = solved-text c.args.bytes.now solved.value solved.values_after solved.deviations_after set c.column-hundredths.ensures in
    c.render_first.ensures.value ∙ (λ j. text_answer (same j) (length c.args.out.now))

pub returns-clause-out_after : goal.returns-clause-out_after
returns-clause-out_after c =
    let solved = c.solve-solved.ensures in
    let set : c.held-held.result.set ≡ set_of c.args.bytes.now = λ j. (c.held-held.ensures j).set in
    let same = solved-text c.args.bytes.now solved.value solved.values_after solved.deviations_after set c.column-hundredths.ensures in
    c.render_first.ensures.out_after ∙ (λ j. text_after (same j) c.args.out.now)
