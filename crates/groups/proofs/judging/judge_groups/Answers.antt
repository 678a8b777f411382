-- `judge_groups`: the mate and the stranger of object 0 have rows, and the test of the tables decides. Assumes nothing.
use Rattle.std.proofs.Common.{◌≡◌, ◌<◌, ◌≤◌, ◌∙◌, sym, true, rules, arith, List, ℕ, length}
use Rattle.meaning.specs.Groups.{even_groups, mate, stranger}
use Rattle.laws.proofs.Groups.{even-groups, mate-below, stranger-below}
use Rattle.groups.proofs.judging.Tables.{tables_refused, tables_accepted}
use Rattle.groups.proofs.judging.judge_groups.Goals as goal

some : (groups : List ℕ) → even_groups groups ≡ true → 1 ≤ length groups
some groups t = let e = even-groups groups t in omega (arith, e.several)

module _ (groups : List ℕ) (v : ℕ) (few : v ≤ 50) (long : length groups ≡ v) (t : even_groups groups ≡ true) where
  near : (at : ℕ) → at ≡ mate groups → at < 50
  near at e = omega (arith, e, (mate-below groups (even-groups groups t)).1, few, long)

  far : (at : ℕ) → at ≡ stranger groups → at < 50
  far at e = omega (arith, e, (stranger-below groups (even-groups groups t)).1, few, long)

pub first_other-near-requires : goal.first_other-near-requires
first_other-near-requires c = some _ c.requires.2

pub first_other-far-requires : goal.first_other-far-requires
first_other-far-requires c = some _ c.requires.2

pub offset_bounds-company-near : goal.offset_bounds-company-near
offset_bounds-company-near c = omega (arith, near _ _ c.requires.0 c.requires.1 c.requires.2 _ c.first_other-near.ensures)

pub bounds-company-near : goal.bounds-company-near
bounds-company-near c = near _ _ c.requires.0 c.requires.1 c.requires.2 _ c.first_other-near.ensures

pub offset_bounds-opposition-near : goal.offset_bounds-opposition-near
offset_bounds-opposition-near c = omega (arith, near _ _ c.requires.0 c.requires.1 c.requires.2 _ c.first_other-near.ensures)

pub bounds-opposition-near : goal.bounds-opposition-near
bounds-opposition-near c = near _ _ c.requires.0 c.requires.1 c.requires.2 _ c.first_other-near.ensures

pub offset_bounds-company-far : goal.offset_bounds-company-far
offset_bounds-company-far c = omega (arith, far _ _ c.requires.0 c.requires.1 c.requires.2 _ c.first_other-far.ensures)

pub bounds-company-far : goal.bounds-company-far
bounds-company-far c = far _ _ c.requires.0 c.requires.1 c.requires.2 _ c.first_other-far.ensures

pub offset_bounds-opposition-far : goal.offset_bounds-opposition-far
offset_bounds-opposition-far c = omega (arith, far _ _ c.requires.0 c.requires.1 c.requires.2 _ c.first_other-far.ensures)

pub bounds-opposition-far : goal.bounds-opposition-far
bounds-opposition-far c = far _ _ c.requires.0 c.requires.1 c.requires.2 _ c.first_other-far.ensures

pub returns-then-not-tables_alike : goal.returns-then-not-tables_alike
returns-then-not-tables_alike c =
    let t = sym c.tables_alike.ensures ∙ c.if-not-tables_alike.true in
    tables_refused c.args.v c.args.groups.now c.args.company c.args.opposition c.first_other-near.result c.first_other-far.result c.first_other-near.ensures c.first_other-far.ensures
    (search t) (search rules)

pub returns : goal.returns
returns c =
    let t = sym c.tables_alike.ensures ∙ c.if-not-tables_alike.false in
    tables_accepted c.args.v c.args.groups.now c.args.company c.args.opposition c.first_other-near.result c.first_other-far.result c.first_other-near.ensures c.first_other-far.ensures
    (search t) (search rules)
