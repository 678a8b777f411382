-- The job file, in the request's order. Assumes nothing.
use Rattle.std.specs.Prelude.{Result, Ok, Err, ℕ, zero, suc, ◌+◌, ◌-◌, ◌*◌, ◌^◌, cond, ◌||◌, List, [], ◌∷◌, get_or, take, drop, length, ℤ, pos, ◌-ℤ◌, eqb, ltb, leb}
use Rattle.records.specs.declared.Body.{Body}
use Rattle.records.specs.declared.Head.{Head}
use Rattle.records.specs.declared.Refusal.{Refusal}
use Rattle.records.specs.declared.JobRead.{JobRead}
use Rattle.records.specs.declared.Solved.{Solved}
use Rattle.meaning.specs.Design.{blocks, list_length}
use Rattle.meaning.specs.Refusals.{Verdict, accepted, refused, test, ◌⨾◌, sizes}
use Rattle.meaning.specs.Calls.{given, contents, rooms, words_under, values_under, deviations_under, solved_under}

-- the number that c bytes from `at` on make, the first the highest
unfoldable pub big : List ℕ → ℕ → ℕ → ℕ
big s at zero = 0
big s at (suc c) = big s at c * 256 + get_or s (at + c) 0

-- x as a signed number of w bits
abbrev pub twos : ℕ → ℕ → ℤ
twos w x = cond (ltb x (2 ^ (w - 1))) (pos x) (pos x -ℤ pos (2 ^ w))

-- c signed 32-bit numbers from `at` on
unfoldable pub numbers_at : List ℕ → ℕ → ℕ → List ℤ
numbers_at s at zero = []
numbers_at s at (suc c) = twos 32 (big s at 4) ∷ numbers_at s (at + 4) c

-- the length of the body of the field with this tag, which reading and writing share: 1 the sizes, 2 the initial blocks, 3 the restraint, 4 the readings
abbrev pub body_length : Head → ℕ → ℕ
body_length h tag = cond (eqb tag 1) 4 (cond (eqb tag 2) (list_length h) (cond (eqb tag 3) 16 (4 * blocks h)))

-- ---- a field

-- the tests of a field at a place: its three-byte start, its tag, its length, its body
unfoldable pub field_verdict : List ℕ → ℕ → ℕ → ℕ → Verdict
field_verdict s at tag len =
    test (leb (at + 3) (length s)) 1 at
    ⨾ test (eqb (get_or s at 0) tag) 2 at
    ⨾ test (eqb (big s (at + 1) 2) len) 3 at
    ⨾ test (leb (at + 3 + len) (length s)) 1 at

-- a field that was looked for: where its body starts and the byte after it, or its refusal
abbrev pub Field : Type 0
Field = Result Body Refusal

abbrev pub stands : ℕ → ℕ → Field
stands start next = Ok (record { start = start; next = next })

abbrev pub unfit : ℕ → ℕ → Field
unfit number place = Err (record { number = number; place = place })

-- a field by its verdict
abbrev pub field_under : Verdict → ℕ → ℕ → Field
field_under (Ok done) at len = stands (at + 3) (at + 3 + len)
field_under (Err why) at len = unfit why.number why.place

unfoldable pub field_at : List ℕ → ℕ → ℕ → ℕ → Field
field_at s at tag len = field_under (field_verdict s at tag len) at len

-- a field's answer as a verdict, which has its number and place
abbrev pub field_says : Field → Verdict
field_says (Ok body) = accepted
field_says (Err why) = refused why.number why.place

-- where the body of a field starts, 0 where there is none
abbrev pub field_start : Field → ℕ
field_start (Ok body) = body.start
field_start (Err why) = 0

-- where a reader at `at` stands after a field: past it, or, on a refusal, at its start
abbrev pub field_next : Field → ℕ → ℕ
field_next (Ok body) at = body.next
field_next (Err why) at = at

-- ---- what a file holds

abbrev pub head_of : List ℕ → Head
head_of s = record { n = get_or s 3 0; flag = get_or s 4 0; p = get_or s 5 0; m = get_or s 6 0 }

-- where the second, third and fourth field start, and the byte after the fourth
abbrev pub second_at : ℕ
second_at = 7

abbrev pub third_at : List ℕ → ℕ
third_at s = second_at + 3 + body_length (head_of s) 2

abbrev pub fourth_at : List ℕ → ℕ
fourth_at s = third_at s + 3 + body_length (head_of s) 3

abbrev pub end_at : List ℕ → ℕ
end_at s = fourth_at s + 3 + body_length (head_of s) 4

-- where the initial blocks and the readings start
abbrev pub blocks_at : ℕ
blocks_at = second_at + 3

abbrev pub readings_at : List ℕ → ℕ
readings_at s = fourth_at s + 3

-- the initial blocks, the restraint set, its accepted sum M, and the readings
abbrev pub blocks_of : List ℕ → List ℕ
blocks_of s = take (body_length (head_of s) 2) (drop blocks_at s)

abbrev pub set_of : List ℕ → ℕ
set_of s = big s (third_at s + 3) 8

abbrev pub sum_of : List ℕ → ℤ
sum_of s = twos 64 (big s (third_at s + 11) 8)

abbrev pub readings_of : List ℕ → List ℤ
readings_of s = numbers_at s (readings_at s) (blocks (head_of s))

-- ---- the verdict of a file

-- the four fields, 4 right after the first, 9 after the fourth
unfoldable pub fields : List ℕ → Verdict
fields s =
    field_verdict s 0 1 (body_length (head_of s) 1) ⨾ sizes (head_of s)
    ⨾ field_verdict s second_at 2 (body_length (head_of s) 2)
    ⨾ field_verdict s (third_at s) 3 (body_length (head_of s) 3)
    ⨾ field_verdict s (fourth_at s) 4 (body_length (head_of s) 4)
    ⨾ test (eqb (end_at s) (length s)) 9 (end_at s)

-- a direct call's refusal of what a file holds, moved to its place in the file: 5 to that byte, 7 and 11 to the field's start, 8 to the reading's first byte
abbrev pub placed : List ℕ → Verdict → Verdict
placed s (Ok done) = accepted
placed s (Err why) = refused why.number (cond (eqb why.number 5) (blocks_at + why.place) (cond (eqb why.number 7 || eqb why.number 11) (third_at s) (cond (eqb why.number 8) (readings_at s + 4 * why.place) why.place)))

-- the verdict of reading: the fields, then what they hold, looked at as a direct call does
unfoldable pub read_verdict : List ℕ → Verdict
read_verdict s = fields s ⨾ placed s (contents (head_of s) (blocks_of s) (readings_of s) (set_of s) (sum_of s))

-- the verdict of solving into rooms of these lengths
unfoldable pub solve_verdict : List ℕ → ℕ → ℕ → ℕ → Verdict
solve_verdict s words values deviations = read_verdict s ⨾ rooms (head_of s) words values deviations

-- what solving answers on three lent rooms, and each room after
abbrev pub solving : List ℕ → List ℕ → List ℤ → List ℤ → Verdict
solving s words values deviations = solve_verdict s (length words) (length values) (length deviations)

abbrev pub solve_answer : List ℕ → List ℕ → List ℤ → List ℤ → Solved
solve_answer s words values deviations = solved_under (solving s words values deviations) (head_of s) (blocks_of s) (readings_of s) (set_of s)

abbrev pub solve_words : List ℕ → List ℕ → List ℤ → List ℤ → List ℕ
solve_words s words values deviations = words_under (solving s words values deviations) (head_of s) (blocks_of s) words

abbrev pub solve_values : List ℕ → List ℕ → List ℤ → List ℤ → List ℤ
solve_values s words values deviations = values_under (solving s words values deviations) (head_of s) (blocks_of s) (readings_of s) (set_of s) (sum_of s) values

abbrev pub solve_deviations : List ℕ → List ℕ → List ℤ → List ℤ → List ℤ
solve_deviations s words values deviations = deviations_under (solving s words values deviations) (head_of s) (blocks_of s) (readings_of s) deviations

-- ---- the answer of reading

abbrev pub no_head : Head
no_head = record { n = 0; flag = 0; p = 0; m = 0 }

abbrev pub read_answer : List ℕ → JobRead
read_answer s = let verdict = read_verdict s in
    let head = given verdict (head_of s) no_head in let set = given verdict (set_of s) 0 in let sum = given verdict (sum_of s) (pos 0) in
    let at_blocks = given verdict blocks_at 0 in let at_readings = given verdict (readings_at s) 0 in
    record { verdict = verdict; head = head; blocks_at = at_blocks; readings_at = at_readings; set = set; sum = sum }
