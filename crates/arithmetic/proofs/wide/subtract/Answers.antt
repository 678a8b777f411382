-- Where the low word is too small it borrows one high word.
use Rattle.std.proofs.Common.{arith, sym, ◌∙◌, ◌-◌, ◌<◌, ◌^◌, rules}
use native.Mathlib.Nat.{sub-eq-zero_of_le}
use borrow.Author.Tests.{leb-true, leb-false}
use Rattle.meaning.specs.Wide.{value}
use Rattle.arithmetic.proofs.Words.{words, borrow_is}
use Rattle.arithmetic.proofs.wide.subtract.Goals as goal

pub returns-then-at_most : goal.returns-then-at_most
returns-then-at_most c =
    let a = c.args in
    words _ 0 0 0 (omega arith) (omega arith) (sub-eq-zero_of_le (leb-true (value a.x) (value a.y) (sym c.at_most.ensures ∙ c.if-at_most.true)))

pub returns : goal.returns
returns c =
    let a = c.args in
    let less = leb-false (value a.x) (value a.y) (sym c.at_most.ensures ∙ c.if-at_most.false) in
    let t = c.overflowing_sub-low in
    let fits : t.result.0 < 2 ^ 64 = search rules in
    let parts = borrow_is a.x.high a.y.high a.x.low a.y.low t.result.0 t.result.1 less (omega arith) (omega arith) fits t.ensures.value t.ensures.overflow in
    words _ (a.x.high - a.y.high - c.from.result) _ _ (omega arith) fits (omega arith)
