use Rattle.std.proofs.Common.{◌≡◌, ◌∙◌, ◌≤◌, ◌<◌, ℕ, Bool, true, List, refl, sym, ap, arith}
use Rattle.meaning.specs.Calls.{no_table}
use Rattle.algebra.specs.Tables.{entry}
use Rattle.words.specs.Bits.{opposition_of}
use Rattle.words.proofs.Bits.{product-most}
use Rattle.balance.specs.Meetings.{table_more, tally, countable}
use Rattle.balance.proofs.counting.Adding.{entry-most}
use Rattle.balance.proofs.counting.Countable.{countable_is, counted_yes, counted_no}
use Rattle.balance.proofs.counting.Counted.{filled_none, filled_more, filled_most}
use Rattle.balance.proofs.counting.count_meetings.Goals as goal
use Rattle.balance.proofs.counting.count_meetings.Goals.{then-opposite, else-opposite}

-- the table has room for a block more
room : (opposite : Bool) (ws : List ℕ) (b k : ℕ) → countable ws b ≡ true → k < b → {t : List (List ℕ)} → t ≡ table_more (tally opposite ws k) no_table
    → (i j : ℕ) → entry t i j ≤ 2598
room opposite ws b k can l e i j = let w = countable_is ws b can in omega (arith, w.blocks-most, filled_most opposite ws k e i j)

-- and after its first side for the second
room-after : (own other : ℕ) (t u : List (List ℕ)) → ((i j : ℕ) → entry t i j ≤ 2598) → u ≡ table_more (opposition_of own other) t → (i j : ℕ) → entry u i j ≤ 2600
room-after own other t u most e i j =
    omega (arith, ap (λ (x : List (List ℕ)). entry x i j) e, entry-most (opposition_of own other) t i j, product-most own other i j, most i j)

pub returns-then-not-can_count : goal.returns-then-not-can_count
returns-then-not-can_count c = counted_no _ _ _ (sym c.can_count.ensures ∙ c.if-not-can_count.true) refl

pub loop-k-init : goal.loop-k-init
loop-k-init c = filled_none _ _ refl

pub add_meetings-requires-clause-by_index : goal.add_meetings-requires-clause-by_index
add_meetings-requires-clause-by_index c = λ i j.
    omega (arith, room _ _ c.args.b _ (sym c.can_count.ensures ∙ c.if-not-can_count.false) c.loop-k-test.true c.loop-k.invariant i j)

pub add_meetings-requires-then-opposite-clause-by_index : goal.add_meetings-requires-then-opposite-clause-by_index
add_meetings-requires-then-opposite-clause-by_index c =
    room-after _ _ c.loop-k.table _ (room _ _ c.args.b _ (sym c.can_count.ensures ∙ c.if-not-can_count.false) c.loop-k-test.true c.loop-k.invariant) c.add_meetings.ensures

pub add_meetings-requires-else-opposite-clause-by_index : goal.add_meetings-requires-else-opposite-clause-by_index
add_meetings-requires-else-opposite-clause-by_index c = λ i j.
    omega (arith, room _ _ c.args.b _ (sym c.can_count.ensures ∙ c.if-not-can_count.false) c.loop-k-test.true c.loop-k.invariant i j)

pub add_meetings-requires-else-opposite-2-clause-by_index : goal.add_meetings-requires-else-opposite-2-clause-by_index
add_meetings-requires-else-opposite-2-clause-by_index c =
    room-after _ _ c.loop-k.table _ (room _ _ c.args.b _ (sym c.can_count.ensures ∙ c.if-not-can_count.false) c.loop-k-test.true c.loop-k.invariant)
    c.add_meetings-else-opposite.ensures

pub loop-k-preserved : goal.loop-k-preserved
loop-k-preserved c =
    let l = c.loop-k in
    elim c.if-opposite.branch [
      | then-opposite w ↦ w.table-is ∙ filled_more _ _ l.k _ _ (λ i j. rw w.if-opposite.true (omega arith)) l.invariant w.add_meetings.ensures
          w.add_meetings-then-opposite.ensures
      | else-opposite w ↦ w.table-is ∙ filled_more _ _ l.k _ _ (λ i j. rw w.if-opposite.false (omega arith)) l.invariant
          w.add_meetings-else-opposite.ensures w.add_meetings-else-opposite-2.ensures
    ]

pub returns : goal.returns
returns c =
    let l = c.loop-k in
    let e : l.k ≡ c.args.b = omega arith in
    counted_yes _ _ _ (sym c.can_count.ensures ∙ c.if-not-can_count.false) (rw (← e) l.invariant)
