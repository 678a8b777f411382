-- `cards::written::put_word`: by what is wanted.
use Rattle.std.proofs.Common.{arith}
use Rattle.algebra.proofs.Writing.{named}
use Rattle.cards.proofs.Giving.{given-at, given-object, given_other, name-good, puts, puts_none, puts_named, puts_where}
use Rattle.cards.proofs.Keeping.{given-short}
use Rattle.cards.proofs.written.put_word.Goals as goal

pub returns-in-16 : goal.returns-in-16
returns-in-16 c =
    let short = given-short c.args.card c.args.word.now in
    puts _ (named c.put_reading.ensures (given-at c.args.card c.args.word.now 16 (omega arith))) c.requires.3 (omega (arith, short, c.requires.2))

pub returns-in-17 : goal.returns-in-17
returns-in-17 c =
    let short = given-short c.args.card c.args.word.now in
    puts _ (named c.put_after.ensures (given-at c.args.card c.args.word.now 17 (omega arith))) c.requires.3 (omega (arith, short, c.requires.2))

pub returns-in-18 : goal.returns-in-18
returns-in-18 c =
    puts_named (puts_where (name-good c.args.card c.args.word.now (omega arith)) c.put_named.ensures)
    (given-at c.args.card c.args.word.now 18 (omega arith))

pub returns-in-21 : goal.returns-in-21
returns-in-21 c =
    let short = given-short c.args.card c.args.word.now in
    puts _ (named c.put_field.ensures (given-at c.args.card c.args.word.now 21 (omega arith))) c.requires.3 (omega (arith, short, c.requires.2))

pub returns-in-6-to-10 : goal.returns-in-6-to-10
returns-in-6-to-10 c =
    let short = given-short c.args.card c.args.word.now in
    puts _ (named c.put_object.ensures (given-object c.args.card c.args.word.now (omega arith) (omega arith))) c.requires.3 (omega (arith, short, c.requires.2))

pub returns-in_default : goal.returns-in_default
returns-in_default c =
    puts_named (puts_none _ _ _)
    (given_other c.args.card c.args.word.now (λ e. omega arith) (λ e. omega arith) (λ e. omega arith) (λ e. omega arith) (λ h. omega arith))

pub returns-in_default-2 : goal.returns-in_default-2
returns-in_default-2 c =
    puts_named (puts_none _ _ _)
    (given_other c.args.card c.args.word.now (λ e. omega arith) (λ e. omega arith) (λ e. omega arith) (λ e. omega arith) (λ h. omega arith))
