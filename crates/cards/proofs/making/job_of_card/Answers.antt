-- `making::job_of_card`: each test that refuses, and behind the last the file. Assumes nothing.
use Rattle.std.proofs.Common.{refl, sym, ◌∙◌, arith}
use Rattle.algebra.proofs.Writing.{measured}
use Rattle.cards.specs.Filing.{unreadable}
use Rattle.cards.proofs.filing.Parts.{stands}
use Rattle.cards.proofs.making.Answers.{too_long, bad-word, too_early, too_many, can_be_read}
use Rattle.cards.proofs.making.job_of_card.Goals as goal

pub returns-then-card-gt-CARD_LIMIT-clause-value : goal.returns-then-card-gt-CARD_LIMIT-clause-value
returns-then-card-gt-CARD_LIMIT-clause-value c = c.unread.ensures ∙ (too_long c.args.card.now c.args.out.now (omega arith)).0

pub returns-then-card-gt-CARD_LIMIT-clause-out_after : goal.returns-then-card-gt-CARD_LIMIT-clause-out_after
returns-then-card-gt-CARD_LIMIT-clause-out_after c = (too_long c.args.card.now c.args.out.now (omega arith)).1

pub returns-then-seen-clause-value : goal.returns-then-seen-clause-value
returns-then-seen-clause-value c =
    let walk = c.walked-walk.ensures in
    c.unread-then-seen.ensures ∙ (λ j. unreadable (walk.at_value j) c.walked-walk.result.card.wants)
    ∙ (bad-word c.args.card.now c.args.out.now (omega arith) walk.card_value c.if-seen.true).0

pub returns-then-seen-clause-out_after : goal.returns-then-seen-clause-out_after
returns-then-seen-clause-out_after c =
    (bad-word c.args.card.now c.args.out.now (omega arith) c.walked-walk.ensures.card_value c.if-seen.true).1

pub returns-then-not-may_end-clause-value : goal.returns-then-not-may_end-clause-value
returns-then-not-may_end-clause-value c =
    let early = sym c.may_end.ensures ∙ c.if-not-may_end.true in
    c.unread-then-not-may_end.ensures
    ∙ (too_early c.args.card.now c.args.out.now (omega arith) c.walked-walk.ensures.card_value c.if-seen.false early).0

pub returns-then-not-may_end-clause-out_after : goal.returns-then-not-may_end-clause-out_after
returns-then-not-may_end-clause-out_after c =
    let early = sym c.may_end.ensures ∙ c.if-not-may_end.true in
    (too_early c.args.card.now c.args.out.now (omega arith) c.walked-walk.ensures.card_value c.if-seen.false early).1

pub returns-then-length-gt-BYTES_LIMIT-clause-value : goal.returns-then-length-gt-BYTES_LIMIT-clause-value
returns-then-length-gt-BYTES_LIMIT-clause-value c =
    let whole = sym c.may_end.ensures ∙ c.if-not-may_end.false in
    c.unread-then-length-gt-BYTES_LIMIT.ensures ∙ (λ j. unreadable (c.word_of.ensures j) 22)
    ∙ (too_many c.args.card.now c.args.out.now (omega arith) c.walked-walk.ensures.card_value c.if-seen.false whole (omega arith)).0

pub returns-then-length-gt-BYTES_LIMIT-clause-out_after : goal.returns-then-length-gt-BYTES_LIMIT-clause-out_after
returns-then-length-gt-BYTES_LIMIT-clause-out_after c =
    let whole = sym c.may_end.ensures ∙ c.if-not-may_end.false in
    (too_many c.args.card.now c.args.out.now (omega arith) c.walked-walk.ensures.card_value c.if-seen.false whole (omega arith)).1

pub make_file-requires : goal.make_file-requires
make_file-requires c =
    let wrote = c.walked-walk.ensures.wrote c.if-seen.false in
    let long = measured wrote (omega arith) in
    record {
      short = omega arith;
      is = c.walked-walk.ensures.card_value;
      bytes = (stands wrote refl (omega arith) (omega (arith, long))).0;
      few = omega (arith, long);
    }

pub returns-clause-value : goal.returns-clause-value
returns-clause-value c =
    let whole = sym c.may_end.ensures ∙ c.if-not-may_end.false in
    c.make_file.ensures.value
    ∙ (can_be_read c.args.card.now c.args.out.now (omega arith) c.walked-walk.ensures.card_value c.if-seen.false whole (omega arith)).0

pub returns-clause-out_after : goal.returns-clause-out_after
returns-clause-out_after c =
    let whole = sym c.may_end.ensures ∙ c.if-not-may_end.false in
    c.make_file.ensures.out_after
    ∙ (can_be_read c.args.card.now c.args.out.now (omega arith) c.walked-walk.ensures.card_value c.if-seen.false whole (omega arith)).1
