-- `cards::printed::card_of`: what reading told of the file gives its card.
use Rattle.std.proofs.Common.{[], sym, ap, ◌∙◌, length, arith}
use Rattle.records.specs.declared.JobRead.{JobRead}
use Rattle.meaning.specs.Refusals.{Verdict}
use Rattle.meaning.specs.CardText.{text_answer, text_after}
use Rattle.laws.proofs.Files.{file-job}
use Rattle.cards.specs.Printed.{printed_text}
use Rattle.cards.proofs.printed.Whole.{first-printed}
use Rattle.cards.proofs.printed.card_of.Goals as goal

pub render-requires : goal.render-requires
render-requires c e =
    let told = ap (λ (k : JobRead). k.verdict) c.read-read.ensures in
    ((file-job c.args.bytes.now (sym told ∙ e)).0, omega arith, omega arith)

pub returns-clause-value : goal.returns-clause-value
returns-clause-value c =
    let told = ap (λ (k : JobRead). k.verdict) c.read-read.ensures in
    let text = ap (λ (v : Verdict). printed_text v c.args.bytes.now [] 0 0) told ∙ first-printed c.args.bytes.now in
    c.render.ensures.value ∙ (λ j. text_answer (text j) (length c.args.out.now))

pub returns-clause-out_after : goal.returns-clause-out_after
returns-clause-out_after c =
    let told = ap (λ (k : JobRead). k.verdict) c.read-read.ensures in
    let text = ap (λ (v : Verdict). printed_text v c.args.bytes.now [] 0 0) told ∙ first-printed c.args.bytes.now in
    c.render.ensures.out_after ∙ (λ j. text_after (text j) c.args.out.now)
