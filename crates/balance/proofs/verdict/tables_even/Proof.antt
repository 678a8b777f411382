-- `balance::verdict::tables_even` meets its contract: every row before i passed. Assumes nothing.
use Prim.Native.Nat.{◌≤◌, ◌-◌}
use mathlib.Core.Path.{◌≡◌, sym, ap, ◌∙◌}
use mathlib.Core.Bool.{true}
use borrow.Author.Tests.{not-true, not-false}
use Rattle.balance.specs.Tables.{tables_even}
use Rattle.balance.proofs.verdict.Judging.{tables_none, tables_more, tables_fail}
use native.Mathlib.Omega.{arith}
use borrow.Author.Rules.{rules}
use Rattle.balance.proofs.verdict.tables_even.Statement.{statement}
use Rattle.balance.proofs.verdict.tables_even.Tie as tie

abbrev invariant-loop : tie.invariant-loop-i
invariant-loop company opposition v l1 l2 i₀ i = (i ≤ v) × (tables_even company opposition l1 l2 i ≡ true)

abbrev decreases-loop : tie.decreases-loop-i
decreases-loop company opposition v l1 l2 i₀ i = v - i

loop-holds : tie.Need-loop-i-init invariant-loop decreases-loop
loop-holds c = (search rules, tables_none _ _ _ _)

returns : tie.Need-returns-then-not-row_even invariant-loop decreases-loop
returns c =
    let a = c.args in
    let l = c.loop-i in
    sym (tables_fail a.company.now a.opposition.now a.l1 a.l2 a.v l.i c.loop-i-test.true
    (search (sym c.row_even.ensures ∙ not-true _ c.if-not-row_even.true-raw)))

loop-again : tie.Need-loop-i-preserved invariant-loop decreases-loop
loop-again c =
    let a = c.args in
    let l = c.loop-i in (
      search rules,
      tables_more a.company.now a.opposition.now a.l1 a.l2 l.i l.invariant.1
          (search (sym c.row_even.ensures ∙ not-false _ c.if-not-row_even.false-raw)),
    )

returns-2 : tie.Need-returns invariant-loop decreases-loop
returns-2 c =
    let a = c.args in
    let l = c.loop-i in
    let e : a.v ≡ l.i = omega arith in
    sym (ap (tables_even a.company.now a.opposition.now a.l1 a.l2) e ∙ l.invariant.1)

pub tables_even_spec : {M : Type 1} → statement M
tables_even_spec =
    tie.close
    (tie.spec
    invariant-loop
    decreases-loop
    loop-holds
    (λ c. search rules)
    (λ c. search rules)
    (λ c. search rules)
    (λ c. search rules)
    (λ c κs. search rules)
    returns
    (λ c. search rules)
    (λ c. search rules)
    loop-again
    returns-2)
