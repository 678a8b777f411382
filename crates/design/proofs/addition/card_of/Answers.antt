use Rattle.std.proofs.Common.{arith, rules}
use Rattle.meaning.specs.Design.{field_prime, digit_sum}
use Rattle.design.proofs.addition.Cards.{card-sums, laid-sums, field_there, last-field}
use Rattle.design.proofs.addition.card_of.Goals as goal

pub returns-in-8 : goal.returns-in-8
unfolding field_prime digit_sum
returns-in-8 c t x s l m = rw (laid-sums c.args.head 8 x s (omega arith) c.in-8.is t l m c.laid.ensures)

pub returns-in-9 : goal.returns-in-9
unfolding field_prime digit_sum
returns-in-9 c t x s l m = rw (laid-sums c.args.head 9 x s (omega arith) c.in-9.is t l m c.laid-in-9.ensures)

pub returns-in-16 : goal.returns-in-16
unfolding field_prime digit_sum
returns-in-16 c t x s l m = rw (laid-sums c.args.head 16 x s (omega arith) c.in-16.is t l m c.laid-in-16.ensures)

pub returns-in-25 : goal.returns-in-25
unfolding field_prime digit_sum
returns-in-25 c t x s l m = rw (laid-sums c.args.head 25 x s (omega arith) c.in-25.is t l m c.laid-in-25.ensures)

pub returns-in-27 : goal.returns-in-27
unfolding field_prime digit_sum
returns-in-27 c t x s l m = rw (laid-sums c.args.head 27 x s (omega arith) c.in-27.is t l m c.laid-in-27.ensures)

pub returns-in-32 : goal.returns-in-32
unfolding field_prime digit_sum
returns-in-32 c t x s l m = rw (laid-sums c.args.head 32 x s (omega arith) c.in-32.is t l m c.laid-in-32.ensures)

pub returns-in_default : goal.returns-in_default
unfolding field_prime digit_sum
returns-in_default c t x s l m =
    let n = c.args.head.n in
    let last = last-field n (field_there c.args.head c.requires t) (search rules) (search rules) (search rules) (search rules) (search rules) (search rules) in
    rw (card-sums c.args.head 49 x s last t l m _)
