use Rattle.std.proofs.Common.{◌≡◌, [], arith}
use Rattle.words.specs.Bits.{opposition_of}
use Rattle.words.proofs.Bits.{product-most}
use Rattle.words.proofs.Walk.{lowest_lt, some_left, none_left, rest-less}
use Rattle.words.proofs.Changing.{each_same, walk_step, walk_end}
use Rattle.balance.specs.Meetings.{row_more}
use Rattle.balance.proofs.counting.Adding.{rows-most}
use Rattle.balance.proofs.counting.add_meetings.Goals as goal

pub bounds-table-i : goal.bounds-table-i
bounds-table-i c =
    let l = c.loop-i in
    omega (arith, lowest_lt 50 l.rest (some_left l.rest (omega arith)) l.invariant.1 (omega arith))

pub loop-i-smaller : goal.loop-i-smaller
loop-i-smaller c =
    let l = c.loop-i in
    omega (arith, c.without_lowest-rest.ensures, rest-less l.rest (some_left l.rest (omega arith)))

pub add_row-requires : goal.add_row-requires
add_row-requires c =
    let a = c.args in
    let l = c.loop-i in (
      c.requires.sides_bound.1,
      λ j. omega (
        arith,
        rows-most (opposition_of a.own a.other) (product-most a.own a.other) l.rest a.own l.table a.table.now l.invariant.2 l.i j,
        c.requires.by_index l.i j,
      ),
    )

pub loop-i-preserved : goal.loop-i-preserved
loop-i-preserved c =
    let a = c.args in
    let l = c.loop-i in
    let some = some_left l.rest (omega arith) in
    let less = rest-less l.rest some in (
      c.lowest-i-in-loop-i.ensures,
      omega arith,
      walk_step (λ k. row_more (opposition_of a.own a.other k)) l.rest l.table [] some (omega arith) l.invariant.0 c.without_lowest-rest.ensures
          c.add_row.ensures l.invariant.2,
    )

pub returns : goal.returns
returns c =
    let a = c.args in
    let l = c.loop-i in
    let none : l.rest ≡ 0 = none_left l.rest (omega arith) (omega arith) in
    walk_end (λ k. row_more (opposition_of a.own a.other k)) a.own l.table a.table.now (λ k r e. each_same _ r (λ j x. rw e (omega arith)))
    (rw none at l.invariant.2)
