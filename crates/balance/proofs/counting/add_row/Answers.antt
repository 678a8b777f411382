use Rattle.std.proofs.Common.{◌≡◌, ◌+◌, ℕ, ap, get_or, arith}
use Rattle.words.specs.Bits.{opposition_of}
use Rattle.words.proofs.Bits.{product-most}
use Rattle.words.proofs.Walk.{lowest_lt, some_left, none_left, rest-less}
use Rattle.words.proofs.Changing.{walk_step, walk_end}
use Rattle.balance.proofs.counting.Adding.{row-most}
use Rattle.balance.proofs.counting.add_row.Goals as goal

pub bounds-row-j : goal.bounds-row-j
bounds-row-j c =
    let l = c.loop-j in
    omega (arith, lowest_lt 50 l.rest (some_left l.rest (omega arith)) l.invariant.1 (omega arith))

pub bounds-row-j-in-loop-j : goal.bounds-row-j-in-loop-j
bounds-row-j-in-loop-j c =
    let l = c.loop-j in
    omega (arith, lowest_lt 50 l.rest (some_left l.rest (omega arith)) l.invariant.1 (omega arith))

pub overflow_add-row : goal.overflow_add-row
overflow_add-row c =
    let a = c.args in
    let l = c.loop-j in
    omega (
      arith,
      row-most (opposition_of a.own a.other a.i) (λ k. product-most a.own a.other a.i k) l.rest a.other l.row a.row.now l.invariant.2 l.j,
      c.requires.1 l.j,
      product-most a.own a.other a.i l.j,
      c.meetings.ensures,
    )

pub loop-j-smaller : goal.loop-j-smaller
loop-j-smaller c =
    let l = c.loop-j in
    omega (arith, c.without_lowest-rest.ensures, rest-less l.rest (some_left l.rest (omega arith)))

pub loop-j-preserved : goal.loop-j-preserved
loop-j-preserved c =
    let a = c.args in
    let l = c.loop-j in
    let some = some_left l.rest (omega arith) in
    let less = rest-less l.rest some in (
      c.lowest-j-in-loop-j.ensures,
      omega arith,
      walk_step (λ k x. x + opposition_of a.own a.other a.i k) l.rest l.row 0 some (omega arith) l.invariant.0 c.without_lowest-rest.ensures
          (ap (λ (y : ℕ). get_or l.row l.j 0 + y) c.meetings.ensures) l.invariant.2,
    )

pub returns : goal.returns
returns c =
    let a = c.args in
    let l = c.loop-j in
    let none : l.rest ≡ 0 = none_left l.rest (omega arith) (omega arith) in
    walk_end (λ k x. x + opposition_of a.own a.other a.i k) a.other l.row a.row.now (λ k x e. rw e (omega arith)) (rw none at l.invariant.2)
