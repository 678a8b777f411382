-- The tests of words and readings that are to be weighed. Assumes nothing.
use Rattle.std.specs.Prelude.{ℕ, ◌*◌, ◌^◌, List, eqb, leb, ℤ, get_or, length}
use Rattle.algebra.specs.Ranges.{first_from}
use Rattle.records.specs.declared.Head.{Head}
use Rattle.meaning.specs.Design.{objects, blocks}
use Rattle.records.specs.declared.SquareSum.{SquareSum}
use Rattle.meaning.specs.Calls.{written, square_sum}
use Rattle.weighing.specs.Developed.{total_in, squared_totals_in}
use Rattle.meaning.specs.Refusals.{Verdict, ◌⨾◌, test, sizes, length_is, in_reach, room}

-- of the first c words, the first that names an object from v on, or c where none does
unfoldable pub stray_word : List ℕ → ℕ → ℕ → ℕ
stray_word words c v = first_from (λ i. leb (2 ^ v) (get_or words i 0)) 0 c

-- 5: none does
abbrev pub inside : List ℕ → ℕ → ℕ → Verdict
inside words c v = test (eqb (stray_word words c v) c) 5 (stray_word words c v)

-- the sizes, two words a block, a reading a block, no object from v on, no reading out of range, and room for the totals
unfoldable pub weigh_verdict : Head → List ℕ → List ℤ → ℕ → Verdict
weigh_verdict h words y len =
    sizes h ⨾ test (leb (2 * blocks h) (length words)) 3 0 ⨾ length_is (length y) (blocks h) ⨾ inside words (2 * blocks h) (objects h) ⨾ in_reach y
    ⨾ room len (objects h)

-- the answer, and the room of the totals after
abbrev pub weigh_answer : Head → List ℕ → List ℤ → List ℤ → SquareSum
weigh_answer h words y totals = square_sum (weigh_verdict h words y (length totals)) (squared_totals_in words y (blocks h) (objects h))

abbrev pub weigh_after : Head → List ℕ → List ℤ → List ℤ → List ℤ
weigh_after h words y totals = written (weigh_verdict h words y (length totals)) (objects h) (total_in words y (blocks h)) totals
