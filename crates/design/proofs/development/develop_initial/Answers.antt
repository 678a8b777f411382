use Rattle.std.proofs.Common.{◌*◌, sym, arith}
use Rattle.std.proofs.lemmas.Result.{err_from_is_err_and}
use borrow.Author.Tests.{le-leb, lt-leb, lt-ltb, le-ltb}
use Rattle.meaning.specs.Calls.{initial_verdict}
use Rattle.algebra.proofs.Filling.{lent_back}
use Rattle.laws.proofs.Chains.{sound}
use Rattle.design.proofs.development.develop_initial.Goals as goal

pub returns-in_err-pairs_refusal-clause-value : goal.returns-in_err-pairs_refusal-clause-value
unfolding initial_verdict
returns-in_err-pairs_refusal-clause-value c =
    let e = err_from_is_err_and c.from_residual.result c.from_residual.ensures.1 in
    rw (← c.in_err-pairs_refusal.ensures, e.1, e.2)

pub returns-in_err-pairs_refusal-clause-words_after : goal.returns-in_err-pairs_refusal-clause-words_after
unfolding initial_verdict
returns-in_err-pairs_refusal-clause-words_after c = rw (← c.in_err-pairs_refusal.ensures)

pub overflow_mul-room : goal.overflow_mul-room
overflow_mul-room c = let f = (sound _ _ (sym c.in_ok-pairs_refusal.ensures)).sizes in omega arith

pub overflow_mul-room-2 : goal.overflow_mul-room-2
overflow_mul-room-2 c = let f = (sound _ _ (sym c.in_ok-pairs_refusal.ensures)).sizes in omega arith

pub returns-then-m-j-clause-value : goal.returns-then-m-j-clause-value
unfolding initial_verdict
returns-then-m-j-clause-value c = rw (← c.in_ok-pairs_refusal.ensures, le-ltb _ _ c.if-m-j.true)

pub returns-then-m-j-clause-words_after : goal.returns-then-m-j-clause-words_after
unfolding initial_verdict
returns-then-m-j-clause-words_after c = rw (← c.in_ok-pairs_refusal.ensures, le-ltb _ _ c.if-m-j.true)

pub returns-then-words-room-clause-value : goal.returns-then-words-room-clause-value
unfolding initial_verdict
returns-then-words-room-clause-value c = rw (← c.in_ok-pairs_refusal.ensures, lt-ltb _ _ c.if-m-j.false, lt-leb _ _ c.if-words-room.true)

pub returns-then-words-room-clause-words_after : goal.returns-then-words-room-clause-words_after
unfolding initial_verdict
returns-then-words-room-clause-words_after c = rw (← c.in_ok-pairs_refusal.ensures, lt-ltb _ _ c.if-m-j.false, lt-leb _ _ c.if-words-room.true)

pub card_of-card-requires : goal.card_of-card-requires
card_of-card-requires c = (sound _ _ (sym c.in_ok-pairs_refusal.ensures)).sizes

pub returns-clause-value : goal.returns-clause-value
unfolding initial_verdict
returns-clause-value c = rw (← c.in_ok-pairs_refusal.ensures, lt-ltb _ _ c.if-m-j.false, le-leb _ _ c.if-words-room.false)

pub returns-clause-words_after : goal.returns-clause-words_after
unfolding initial_verdict
returns-clause-words_after c =
    let a = c.args in
    rw (← c.in_ok-pairs_refusal.ensures, lt-ltb _ _ c.if-m-j.false, le-leb _ _ c.if-words-room.false)
    (lent_back (2 * a.head.n * a.j) (2 * a.head.n) _ a.words.now c.write_shifts.ensures)

pub invariant_of-addition : goal.invariant_of-addition
invariant_of-addition c = record { fits = (sound _ _ (sym c.in_ok-pairs_refusal.ensures)).sizes; sums = c.card_of-card.ensures }
