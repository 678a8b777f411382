-- `certified::certificate`: the rooms are enough for every file, and what was worked out gives its certificate. Assumes nothing.
use Rattle.std.proofs.Common.{length, ◌∙◌}
use Rattle.meaning.specs.Text.{text_answer, text_after}
use Rattle.listing.proofs.certified.Standing.{read_small, column_fits, certificate_is}
use Rattle.listing.proofs.certified.certificate.Goals as goal

pub certify-requires-clause-long : goal.certify-requires-clause-long
certify-requires-clause-long c =
    let solved = c.solve-solved.ensures in
    column_fits c.args.bytes.now solved.value solved.values_after c.read-found.ensures c.column-hundredths.ensures

pub certify-requires-clause-small : goal.certify-requires-clause-small
certify-requires-clause-small c = read_small c.args.bytes.now c.read-found.ensures

pub returns-clause-value : goal.returns-clause-value
returns-clause-value c =
    let solved = c.solve-solved.ensures in
    let same = certificate_is c.args.bytes.now solved.value solved.values_after c.read-found.ensures c.column-hundredths.ensures in
    c.certify.ensures.value ∙ (λ j. text_answer (same j) (length c.args.out.now))

pub returns-clause-out_after : goal.returns-clause-out_after
returns-clause-out_after c =
    let solved = c.solve-solved.ensures in
    let same = certificate_is c.args.bytes.now solved.value solved.values_after c.read-found.ensures c.column-hundredths.ensures in
    c.certify.ensures.out_after ∙ (λ j. text_after (same j) c.args.out.now)
