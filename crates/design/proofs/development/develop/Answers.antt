use Rattle.std.proofs.Common.{sym, arith}
use Rattle.std.proofs.lemmas.Result.{err_from_is_err_and}
use borrow.Author.Tests.{le-leb, lt-leb}
use Rattle.meaning.specs.Calls.{develop_verdict}
use Rattle.laws.proofs.Chains.{sound}
use Rattle.design.proofs.development.develop.Goals as goal

pub returns-in_err-pairs_refusal-clause-value : goal.returns-in_err-pairs_refusal-clause-value
unfolding develop_verdict
returns-in_err-pairs_refusal-clause-value c =
    let e = err_from_is_err_and c.from_residual.result c.from_residual.ensures.1 in
    rw (← c.in_err-pairs_refusal.ensures, e.1, e.2)

pub returns-in_err-pairs_refusal-clause-words_after : goal.returns-in_err-pairs_refusal-clause-words_after
unfolding develop_verdict
returns-in_err-pairs_refusal-clause-words_after c = rw (← c.in_err-pairs_refusal.ensures)

pub overflow_mul-head : goal.overflow_mul-head
overflow_mul-head c = let f = (sound _ _ (sym c.in_ok-pairs_refusal.ensures)).sizes in omega arith

pub overflow_mul-head-2 : goal.overflow_mul-head-2
overflow_mul-head-2 c = let f = (sound _ _ (sym c.in_ok-pairs_refusal.ensures)).sizes in omega arith

pub returns-then-words-head-clause-value : goal.returns-then-words-head-clause-value
unfolding develop_verdict
returns-then-words-head-clause-value c = rw (← c.in_ok-pairs_refusal.ensures, lt-leb _ _ c.if-words-head.true)

pub returns-then-words-head-clause-words_after : goal.returns-then-words-head-clause-words_after
unfolding develop_verdict
returns-then-words-head-clause-words_after c = rw (← c.in_ok-pairs_refusal.ensures, lt-leb _ _ c.if-words-head.true)

pub card_of-card-requires : goal.card_of-card-requires
card_of-card-requires c = (sound _ _ (sym c.in_ok-pairs_refusal.ensures)).sizes

pub returns-clause-value : goal.returns-clause-value
unfolding develop_verdict
returns-clause-value c = rw (← c.in_ok-pairs_refusal.ensures, le-leb _ _ c.if-words-head.false)

pub returns-clause-words_after : goal.returns-clause-words_after
unfolding develop_verdict
returns-clause-words_after c = rw (← c.in_ok-pairs_refusal.ensures, le-leb _ _ c.if-words-head.false) c.write_words.ensures

pub invariant_of-addition : goal.invariant_of-addition
invariant_of-addition c = record { fits = (sound _ _ (sym c.in_ok-pairs_refusal.ensures)).sizes; sums = c.card_of-card.ensures }
