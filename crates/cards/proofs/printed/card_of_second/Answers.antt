-- `cards::printed::card_of_second`: what reading told of the file gives its card.
use Rattle.std.proofs.Common.{◌≡◌, sym, ap, ◌∙◌, cond, eqb, ◌+◌, ◌-◌, ◌*◌, length, take, drop}
use Rattle.records.specs.declared.SecondRead.{SecondRead}
use Rattle.meaning.specs.Design.{objects}
use Rattle.meaning.specs.Edition2.{four_of}
use Rattle.meaning.specs.CardText.{text_answer, text_after}
use Rattle.laws.proofs.Edition2.{four-part, whole, file_job2}
use Rattle.design.specs.Within.{within}
use Rattle.cards.proofs.optional.Parts.{part-found}
use Rattle.cards.proofs.printed.Whole.{names-most, second_told}
use Rattle.cards.proofs.printed.card_of_second.Goals as goal

pub others_at-others-requires : goal.others_at-others-requires
others_at-others-requires c = rw (ap (λ (k : SecondRead). k.names_at) c.read_second-read.ensures) (names-most c.args.bytes.now)

pub render-requires : goal.render-requires
render-requires c e =
    let s = c.args.bytes.now in
    let four : take (c.min-stop.result - c.min-start.result) (drop c.min-start.result s) ≡ four_of s =
    part-found s 4 (length (four_of s)) _ _ _ c.min-start.ensures c.min-stop.ensures c.four_end-end.ensures ∙ four-part s in
    let w = whole s (file_job2 s (sym (ap (λ (k : SecondRead). k.job.verdict) c.read_second-read.ensures) ∙ e)).0 in
    (rw four w.four, w.short, rw (ap (λ (k : SecondRead). k.names_at) c.read_second-read.ensures) (names-most s))

pub returns-clause-value : goal.returns-clause-value
returns-clause-value c =
    let s = c.args.bytes.now in
    let read = c.read_second-read.ensures in
    let four = part-found s 4 (length (four_of s)) _ _ _ c.min-start.ensures c.min-stop.ensures c.four_end-end.ensures ∙ four-part s in
    let others = c.others_at-others.ensures ∙ (λ j.
    let head = (read j).job.head in
    cond (eqb (read j).names_at 0) (c.four_end-end.ensures j) ((read j).names_at + 8 * within head (objects head))) in
    let text = second_told s (ap (λ (k : SecondRead). k.job.verdict) read) four (ap (λ (k : SecondRead). k.names_at) read) others in
    c.render.ensures.value ∙ (λ j. text_answer (text j) (length c.args.out.now))

pub returns-clause-out_after : goal.returns-clause-out_after
returns-clause-out_after c =
    let s = c.args.bytes.now in
    let read = c.read_second-read.ensures in
    let four = part-found s 4 (length (four_of s)) _ _ _ c.min-start.ensures c.min-stop.ensures c.four_end-end.ensures ∙ four-part s in
    let others = c.others_at-others.ensures ∙ (λ j.
    let head = (read j).job.head in
    cond (eqb (read j).names_at 0) (c.four_end-end.ensures j) ((read j).names_at + 8 * within head (objects head))) in
    let text = second_told s (ap (λ (k : SecondRead). k.job.verdict) read) four (ap (λ (k : SecondRead). k.names_at) read) others in
    c.render.ensures.out_after ∙ (λ j. text_after (text j) c.args.out.now)
