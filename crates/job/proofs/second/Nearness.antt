-- How large the place of a refusal of a file of the first edition is, so that it can be moved. Assumes nothing.
use Rattle.std.proofs.Common.{Ok, Err}
use Prim.Native.Nat.{ℕ, ◌+◌, ◌*◌, ◌≤◌}
use mathlib.Core.Path.{◌≡◌, refl, sym, ap}
use mathlib.Core.Bool.{Bool, true, false, ◌||◌}
use mathlib.Core.List.{List}
use native.Mathlib.Omega.{arith}
use lib.Dec.{eqb, leb}
use lib.ListN.{length, get_or}
use Rattle.meaning.specs.Design.{objects, blocks, list_length, sized}
use Rattle.meaning.specs.Refusals.{Verdict, accepted, refused, place, test, ◌⨾◌, sizes}
use Rattle.meaning.specs.Calls.{rooms}
use Rattle.meaning.specs.File.{big, field_verdict, head_of, second_at, third_at, fourth_at, end_at, fields, placed, read_verdict, solve_verdict}
use Rattle.laws.proofs.Chains.{opened}
use Rattle.laws.proofs.Writing.{fielded}
use Rattle.job.specs.Direct.{place_limit, moved_limit, direct_verdict}
use Rattle.job.proofs.places.Places.{third-low}
use Rattle.job.proofs.reading.Directly.{direct-near, read-direct}

-- the place of a chain: that of its first part, or, where it accepts, that of the next
next_place : (a b : Verdict) (most : ℕ) → place a ≤ most → (a ≡ accepted → place b ≤ most) → place (a ⨾ b) ≤ most
next_place (Ok done) b most p q = q refl
next_place (Err why) b most p q = p

test-place : (t : Bool) (k at : ℕ) → place (test t k at) ≤ at
test-place true k at = omega arith
test-place false k at = omega arith

-- a field is refused at its start
field-place : (s : List ℕ) (at tag len : ℕ) → place (field_verdict s at tag len) ≤ at
unfolding field_verdict
field-place s at tag len =
    next_place (test (leb (at + 3) (length s)) 1 at ⨾ test (eqb (get_or s at 0) tag) 2 at ⨾ test (eqb (big s (at + 1) 2) len) 3 at)
    (test (leb (at + 3 + len) (length s)) 1 at) at
    (next_place (test (leb (at + 3) (length s)) 1 at ⨾ test (eqb (get_or s at 0) tag) 2 at) (test (eqb (big s (at + 1) 2) len) 3 at) at
    (next_place (test (leb (at + 3) (length s)) 1 at) (test (eqb (get_or s at 0) tag) 2 at) at (test-place (leb (at + 3) (length s)) 1 at)
    (λ e. test-place (eqb (get_or s at 0) tag) 2 at))
    (λ e. test-place (eqb (big s (at + 1) 2) len) 3 at)) (λ e. test-place (leb (at + 3 + len) (length s)) 1 at)

-- the fields of a file are refused within it
pub fields-place : (s : List ℕ) → place (fields s) ≤ length s
unfolding fields
fields-place s =
    let one = field_verdict s 0 1 4 in
    let sized-too = one ⨾ sizes (head_of s) in
    let two = field_verdict s second_at 2 (list_length (head_of s)) in
    let three = field_verdict s (third_at s) 3 16 in
    let four = field_verdict s (fourth_at s) 4 (4 * blocks (head_of s)) in
    next_place (sized-too ⨾ two ⨾ three ⨾ four) (test (eqb (end_at s) (length s)) 9 (end_at s)) (length s)
    (next_place (sized-too ⨾ two ⨾ three) four (length s)
    (next_place (sized-too ⨾ two) three (length s)
    (next_place sized-too two (length s)
    (next_place one (sizes (head_of s)) (length s) (omega (arith, field-place s 0 1 4)) (λ e. omega (arith, test-place (sized (head_of s)) 4 0)))
    (λ e. omega (arith, field-place s second_at 2 (list_length (head_of s)), (fielded s 0 1 4 (opened one (sizes (head_of s)) e).0).inside)))
    (λ e. omega (arith, field-place s (third_at s) 3 16, (fielded s second_at 2 (list_length (head_of s)) (opened sized-too two e).1).inside)))
    (λ e. omega (arith, field-place s (fourth_at s) 4 (4 * blocks (head_of s)), (fielded s (third_at s) 3 16 (opened (sized-too ⨾ two) three e).1).inside)))
    (λ e. omega (
      arith,
      test-place (eqb (end_at s) (length s)) 9 (end_at s),
      (fielded s (fourth_at s) 4 (4 * blocks (head_of s)) (opened (sized-too ⨾ two ⨾ three) four e).1).inside,
    ))

-- a moved place is within the readings, four bytes each
placed-most : (s : List ℕ) (v : Verdict) → third_at s ≤ 3210 → place v ≤ place_limit → place (placed s v) ≤ 30000
placed-most s (Ok done) t l = omega arith
placed-most s (Err why) t l = by (eqb why.number 5) (eqb why.number 7 || eqb why.number 11) (eqb why.number 8) refl refl refl
  where
    by : (a b c : Bool) → eqb why.number 5 ≡ a → eqb why.number 7 || eqb why.number 11 ≡ b → eqb why.number 8 ≡ c → place (placed s (refused why.number why.place)) ≤ 30000
    by true b c e f g = rw e (omega arith)
    by false true c e f g = rw (e, f) (omega arith)
    by false false true e f g = rw (e, f, g) (omega arith)
    by false false false e f g = rw (e, f, g) (omega arith)

-- what the fields hold is refused within the limit
pub read-place : (s : List ℕ) → fields s ≡ accepted → place (read_verdict s) ≤ moved_limit
read-place s e = omega (arith, ap place (sym (read-direct s e)), placed-most s (direct_verdict s) (third-low s e) (direct-near s e))

-- with rooms too
pub solve_place : (s : List ℕ) → fields s ≡ accepted → (words values deviations : ℕ) → place (solve_verdict s words values deviations) ≤ moved_limit
unfolding solve_verdict rooms
solve_place s e words values deviations =
    next_place (read_verdict s) (rooms (head_of s) words values deviations) moved_limit (read-place s e) (λ f. go (leb (2 * blocks (head_of s)) words)
    (leb (objects (head_of s)) values) (leb (blocks (head_of s)) deviations))
  where
    go : (a b c : Bool) → place (test a 10 0 ⨾ test b 10 0 ⨾ test c 10 0) ≤ moved_limit
    go false b c = omega arith
    go true false c = omega arith
    go true true false = omega arith
    go true true true = omega arith
