-- `certified::certificate_second`: the rooms are enough for every file, and what was worked out gives its certificate. Assumes nothing.
use Rattle.std.proofs.Common.{length, ◌∙◌}
use Rattle.meaning.specs.Text.{text_answer, text_after}
use Rattle.listing.proofs.certified.Standing.{read_small2, column_fits2, certificate_is2}
use Rattle.listing.proofs.certified.certificate_second.Goals as goal

pub certify-requires-clause-long : goal.certify-requires-clause-long
certify-requires-clause-long c =
    let solved = c.solve_second-solved.ensures in
    column_fits2 c.args.bytes.now solved.value solved.values_after c.read_second-found.ensures c.column-hundredths.ensures

pub certify-requires-clause-small : goal.certify-requires-clause-small
certify-requires-clause-small c = read_small2 c.args.bytes.now c.read_second-found.ensures

pub returns-clause-value : goal.returns-clause-value
returns-clause-value c =
    let solved = c.solve_second-solved.ensures in
    let same = certificate_is2 c.args.bytes.now solved.value solved.values_after c.read_second-found.ensures c.column-hundredths.ensures in
    c.certify.ensures.value ∙ (λ j. text_answer (same j) (length c.args.out.now))

pub returns-clause-out_after : goal.returns-clause-out_after
returns-clause-out_after c =
    let solved = c.solve_second-solved.ensures in
    let same = certificate_is2 c.args.bytes.now solved.value solved.values_after c.read_second-found.ensures c.column-hundredths.ensures in
    c.certify.ensures.out_after ∙ (λ j. text_after (same j) c.args.out.now)
