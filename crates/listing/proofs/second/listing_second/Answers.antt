-- `second::listing_second`: the rooms are enough for every file, and what was worked out gives its text. Assumes nothing.
use Rattle.std.proofs.Common.{length, ◌∙◌}
use Rattle.meaning.specs.Text.{text_answer, text_after}
use Rattle.listing.proofs.whole.Worked.{solved_fits2, solved_text2}
use Rattle.listing.proofs.second.listing_second.Goals as goal

pub render_first-requires : goal.render_first-requires
render_first-requires c =
    let solved = c.solve_second-solved.ensures in
    solved_fits2 c.args.bytes.now solved.value solved.values_after solved.deviations_after c.set_second.ensures c.column-hundredths.ensures

pub returns-clause-value : goal.returns-clause-value
returns-clause-value c =
    let solved = c.solve_second-solved.ensures in
    let same = solved_text2 c.args.bytes.now solved.value solved.values_after solved.deviations_after c.set_second.ensures c.column-hundredths.ensures in
    c.render_first.ensures.value ∙ (λ j. text_answer (same j) (length c.args.out.now))

pub returns-clause-out_after : goal.returns-clause-out_after
returns-clause-out_after c =
    let solved = c.solve_second-solved.ensures in
    let same = solved_text2 c.args.bytes.now solved.value solved.values_after solved.deviations_after c.set_second.ensures c.column-hundredths.ensures in
    c.render_first.ensures.out_after ∙ (λ j. text_after (same j) c.args.out.now)
