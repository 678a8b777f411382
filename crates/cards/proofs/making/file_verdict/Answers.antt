-- `cards::making::file_verdict`: the file read by its edition, and what it says moved to the card.
use Rattle.std.proofs.Common.{sym, ap, ◌∙◌}
use Rattle.records.specs.declared.Card.{Card}
use Rattle.records.specs.declared.JobRead.{JobRead}
use Rattle.records.specs.declared.SecondRead.{SecondRead}
use Rattle.meaning.specs.File.{read_verdict}
use Rattle.meaning.specs.Edition2.{read_verdict2}
use Rattle.meaning.specs.Card.{is_second, moved_to}
use Rattle.cards.proofs.making.Answers.{second-tests, first-tests}
use Rattle.cards.proofs.making.file_verdict.Goals as goal

pub returns-then-is_second : goal.returns-then-is_second
returns-then-is_second c =
    let card = c.args.card.now in
    let edition = c.is_second.ensures ∙ ap (λ (k : Card). is_second k) c.requires.is in
    let verdict = ap (λ (k : SecondRead). k.job.verdict) c.read_second.ensures ∙ ap read_verdict2 c.requires.whole in
    c.moved_to.ensures ∙ ap (moved_to card 4) verdict ∙ second-tests card (sym edition ∙ c.if-is_second.true)

pub returns : goal.returns
returns c =
    let card = c.args.card.now in
    let edition = c.is_second.ensures ∙ ap (λ (k : Card). is_second k) c.requires.is in
    let verdict = ap (λ (k : JobRead). k.verdict) c.read.ensures ∙ ap read_verdict c.requires.whole in
    c.moved_to-2.ensures ∙ ap (moved_to card 0) verdict ∙ first-tests card (sym edition ∙ c.if-is_second.false)
