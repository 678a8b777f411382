use Rattle.std.proofs.Common.{◌≡◌, ◌∙◌, ◌+◌, ◌-◌, sym, true, false, rules, arith, eqb, take, drop, tests}
use Rattle.std.specs.List.{list_all}
use Rattle.std.proofs.lemmas.Iterator.{YieldsList-from_slice}
use Rattle.std.proofs.lemmas.Iterator.Search.{all_from_yields_List}
use Rattle.balance.proofs.Slices.{both-parts}
use Rattle.balance.proofs.verdict.row_even.Goals as goal

pub returns-then-all : goal.returns-then-all
returns-then-all c =
    let a = c.args in
    let of_company = all_from_yields_List (λ x. eqb x a.l1) _ _ c.all.result c.all.ensures.ran
    (YieldsList-from_slice (take (a.from + a.count - a.from) (drop a.from a.company.now)) (search rules)) (λ x b q k. search (rules, tests)) in
    let of_opposition = all_from_yields_List (λ x. eqb x a.l2) _ _ c.all-then-all.result c.all-then-all.ensures.ran
    (YieldsList-from_slice (take (a.from + a.count - a.from) (drop a.from a.opposition.now)) (search rules)) (λ x b q k. search (rules, tests)) in
    let passed : list_all (λ x. eqb x a.l1) (take (a.from + a.count - a.from) (drop a.from a.company.now)) ≡ true = sym of_company ∙ c.if-all.true in
    of_opposition
    ∙ rw passed at (both-parts (λ x. eqb x a.l1) (λ x. eqb x a.l2) a.company.now a.opposition.now a.from a.count (omega arith) (omega arith))

pub returns-else-all : goal.returns-else-all
returns-else-all c =
    let a = c.args in
    let of_company = all_from_yields_List (λ x. eqb x a.l1) _ _ c.all.result c.all.ensures.ran
    (YieldsList-from_slice (take (a.from + a.count - a.from) (drop a.from a.company.now)) (search rules)) (λ x b q k. search (rules, tests)) in
    let failed : list_all (λ x. eqb x a.l1) (take (a.from + a.count - a.from) (drop a.from a.company.now)) ≡ false = sym of_company ∙ c.if-all.false in
    c.if-all.false
    ∙ rw failed at (both-parts (λ x. eqb x a.l1) (λ x. eqb x a.l2) a.company.now a.opposition.now a.from a.count (omega arith) (omega arith))
