-- Practice readings, from weights whose true values are known (02, P11), and the practice job that has them, with its file. Assumes nothing.
use Rattle.std.specs.Prelude.{ℕ, zero, suc, ◌+◌, ◌-◌, ◌*◌, ◌/◌, ◌%◌, ◌^◌, Bool, ◌&&◌, List, [], ◌∷◌, ◌++◌, get_or, drop, length, ℤ, pos, ◌+ℤ◌, ◌-ℤ◌, nat_abs, leb}
use Rattle.algebra.specs.Ranges.{all}
use Rattle.records.specs.declared.Head.{Head}
use Rattle.records.specs.declared.JobWritten.{JobWritten}
use Rattle.meaning.specs.Design.{objects, blocks, list_length}
use Rattle.meaning.specs.Analysis.{restrained, difference}
use Rattle.meaning.specs.Refusals.{Verdict, ◌⨾◌, test, sizes, length_is, clean, in_balance, restraint, room}
use Rattle.meaning.specs.Calls.{given, written}
use Rattle.meaning.specs.Writing.{file_of, file_length}

-- ---- the generator

-- its step turns x into 1664525·x + 1013904223, wrapping at 32 bits
unfoldable pub step : ℕ → ℕ
step x = (1664525 * x + 1013904223) % 2 ^ 32

-- the number that block k uses: from the start number on it is stepped once per block before use
unfoldable pub state : ℕ → ℕ → ℕ
state start zero = step start
state start (suc k) = step (state start k)

-- the noise of width w in a 32-bit number x: its top w bits less half of their range, and 0 for w = 0
unfoldable pub noise : ℕ → ℕ → ℤ
noise zero x = pos 0
noise (suc w) x = pos (x / 2 ^ (32 - suc w)) -ℤ pos (2 ^ w)

-- ---- the readings

-- the true value of object i
abbrev pub truth : List ℤ → ℕ → ℤ
truth u i = get_or u i (pos 0)

-- reading k: the left sum of the true values less the right sum, plus noise
unfoldable pub practice_reading : Head → List ℕ → List ℤ → ℕ → ℕ → ℕ → ℤ
practice_reading h d u start w k = difference h d (truth u) k +ℤ noise w (state start k)

-- ---- the call

-- the largest true value on either side of 0, and the largest width
abbrev pub truth_limit : ℕ
truth_limit = 3000

abbrev pub width_limit : ℕ
width_limit = 8

-- every true value is in its range
unfoldable pub near : List ℤ → Bool
near u = all (length u) (λ i. leb (nat_abs (truth u i)) truth_limit)

-- 16: the true values and the width are in their ranges
abbrev pub known : List ℤ → ℕ → Verdict
known u w = test (near u && leb w width_limit) 16 0

-- the tests of practice with no room: the design, balanced, with a true value for each object, then 16
unfoldable pub practised : Head → List ℕ → List ℤ → ℕ → Verdict
practised h d u w = sizes h ⨾ length_is (length d) (list_length h) ⨾ length_is (length u) (objects h) ⨾ clean h d ⨾ in_balance h d ⨾ known u w

-- the verdict, from the length of the lent room, and the room after, under it
unfoldable pub practice_verdict : Head → List ℕ → List ℤ → ℕ → ℕ → Verdict
practice_verdict h d u w len = practised h d u w ⨾ room len (blocks h)

abbrev pub practice_after : Head → List ℕ → List ℤ → ℕ → ℕ → List ℤ → List ℤ
practice_after h d u start w readings = written (practice_verdict h d u w (length readings)) (blocks h) (practice_reading h d u start w) readings

-- ---- the practice job: the design, its practice readings, a restraint set, and for M the true sum over it

-- f 0 .. f (n - 1) as a list
unfoldable pub listed : ℕ → (ℕ → ℤ) → List ℤ
listed zero f = []
listed (suc n) f = f 0 ∷ listed n (λ i. f (suc i))

-- all readings, in the order of the blocks
abbrev pub practice_readings : Head → List ℕ → List ℤ → ℕ → ℕ → List ℤ
practice_readings h d u start w = listed (blocks h) (practice_reading h d u start w)

-- M: the true values over the restraint set, added
abbrev pub true_sum : Head → List ℤ → ℕ → ℤ
true_sum h u set = restrained (objects h) set (truth u)

-- its file
abbrev pub practice_file : Head → List ℕ → List ℤ → ℕ → ℕ → ℕ → List ℕ
practice_file h d u start w set = file_of h d (practice_readings h d u start w) set (true_sum h u set)

-- the verdict of writing it into room for len bytes: the tests of practice, the restraint, the room
unfoldable pub practice_file_verdict : Head → List ℕ → List ℤ → ℕ → ℕ → ℕ → Verdict
practice_file_verdict h d u w set len = practised h d u w ⨾ restraint h set (true_sum h u set) ⨾ room len (file_length h)

-- the answer: how many bytes were written
abbrev pub practice_file_answer : Head → List ℕ → List ℤ → ℕ → ℕ → ℕ → JobWritten
practice_file_answer h d u w set len = let verdict = practice_file_verdict h d u w set len in
    record { verdict = verdict; length = given verdict (file_length h) 0 }

-- the room after: the file at its front, and later bytes stay
abbrev pub practice_file_after : Head → List ℕ → List ℤ → ℕ → ℕ → ℕ → List ℕ → List ℕ
practice_file_after h d u start w set out = given (practice_file_verdict h d u w set (length out))
    (practice_file h d u start w set ++ drop (file_length h) out) out
