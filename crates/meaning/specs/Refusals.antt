-- The tests that a call makes, each with the number and place of its refusal. A chain of them, in the request's order, is a call's verdict. Assumes
-- nothing.
use Rattle.std.specs.Prelude.{Result, Ok, Err, ⊤, ℕ, ◌-◌, ◌*◌, ◌%◌, ◌^◌, Bool, true, false, cond, not, ◌&&◌, ◌||◌, List, get_or, take, drop, length, ℤ, nat_abs, eqb, ltb, leb}
use Rattle.algebra.specs.Ranges.{first_from}
use Rattle.records.specs.declared.Head.{Head}
use Rattle.records.specs.declared.Refusal.{Refusal}
use Rattle.meaning.specs.Design.{objects, with_fixed, sized, occ, balanced}
use Rattle.meaning.specs.Analysis.{reading, members}

-- a verdict: a call accepts, or refuses
abbrev pub Verdict : Type 0
Verdict = Result ⊤ Refusal

-- the two verdicts by name
abbrev pub accepted : Verdict
accepted = Ok tt

abbrev pub refused : ℕ → ℕ → Verdict
refused number place = Err (record { number = number; place = place })

-- the number of a verdict, 0 where it accepts
abbrev pub number : Verdict → ℕ
number (Ok done) = 0
number (Err why) = why.number

-- the place of a verdict, 0 where it accepts
abbrev pub place : Verdict → ℕ
place (Ok done) = 0
place (Err why) = why.place

-- a test, with the number and the place of its refusal
abbrev pub test : Bool → ℕ → ℕ → Verdict
test true k at = accepted
test false k at = refused k at

-- one test after another: the first that refuses counts
infixl 25 ◌⨾◌
abbrev pub ◌⨾◌ : Verdict → Verdict → Verdict
Ok done ⨾ after = after
Err why ⨾ after = Err why

-- the largest reading, and the largest accepted sum
abbrev pub reading_limit : ℕ
reading_limit = 200000000

abbrev pub sum_limit : ℕ
sum_limit = 1000000000000

-- the byte x names an object of the design: an element, or ∞ where it takes part
abbrev pub in_range : Head → ℕ → Bool
in_range h x = cond (eqb x 255) (with_fixed h) (ltb x h.n)

-- byte i of a block list is out of range, or was already in its block, on either side
abbrev pub offends : Head → List ℕ → ℕ → Bool
offends h d i = not (in_range h (get_or d i 0)) || ltb 0 (occ (get_or d i 0) (take (i % (2 * h.p)) (drop (i - i % (2 * h.p)) d)))

-- the first byte that offends, or the length where none does
unfoldable pub offender : Head → List ℕ → ℕ
offender h d = first_from (offends h d) 0 (length d)

-- the first reading out of range, or how many there are where none is
unfoldable pub far_reading : List ℤ → ℕ
far_reading y = first_from (λ k. ltb reading_limit (nat_abs (reading y k))) 0 (length y)

-- 4: the sizes
abbrev pub sizes : Head → Verdict
sizes h = test (sized h) 4 0

-- 3: a slice has the length that is wanted
abbrev pub length_is : ℕ → ℕ → Verdict
length_is len want = test (eqb len want) 3 0

-- 5: no byte of the block list offends
abbrev pub clean : Head → List ℕ → Verdict
clean h d = test (eqb (offender h d) (length d)) 5 (offender h d)

-- 5: the object, initial block or reading of the number i exists
abbrev pub exists : ℕ → ℕ → Verdict
exists i count = test (ltb i count) 5 i

-- 6: the developed design is balanced
abbrev pub in_balance : Head → List ℕ → Verdict
in_balance h d = test (balanced h d) 6 0

-- 7: the restraint set is not empty and has no bit at v or above, and M is in its range
abbrev pub in_restraint : Head → ℕ → ℤ → Verdict
in_restraint h w M = test (ltb 0 w && ltb w (2 ^ objects h) && leb (nat_abs M) sum_limit) 7 0

-- 11: one standard is too few
abbrev pub standards : Head → ℕ → Verdict
standards h w = test (leb 2 (members (objects h) w)) 11 0

-- the tests of a restraint
abbrev pub restraint : Head → ℕ → ℤ → Verdict
restraint h w M = in_restraint h w M ⨾ standards h w

-- 8: no reading is out of range
abbrev pub in_reach : List ℤ → Verdict
in_reach y = test (eqb (far_reading y) (length y)) 8 (far_reading y)

-- 10: a lent buffer has the room that is wanted
abbrev pub room : ℕ → ℕ → Verdict
room len want = test (leb want len) 10 0
