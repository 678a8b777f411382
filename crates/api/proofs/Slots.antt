-- A call from C asks for its slots last. With too few of them nothing is laid, whatever its tests say; with enough of them its verdict is that of the
-- direct call. Every test for room refuses by 10 at 0, so with too few slots the call is refused as its tests alone say, and else by 10.
-- Assumes nothing.
use Rattle.std.proofs.Common.{Ok, Err}
use Rattle.std.specs.Prelude.{is_err}
use Prim.Native.Nat.{ℕ, ◌*◌, ◌<◌, ◌≤◌}
use mathlib.Core.Path.{◌≡◌, refl, sym, ap, ◌∙◌}
use mathlib.Core.Bool.{Bool, true, false, false≢true}
use mathlib.Core.List.{List}
use native.Mathlib.Omega.{arith}
use borrow.Author.Tests.{le-leb, lt-leb}
use lib.Dec.{leb}
use lib.ListN.{length}
use Rattle.records.specs.declared.Head.{Head}
use Rattle.meaning.specs.Design.{objects, blocks}
use Rattle.meaning.specs.Refusals.{Verdict, ◌⨾◌, refused, accepted, test, room}
use Rattle.meaning.specs.Calls.{given, rooms}
use Rattle.meaning.specs.Edition2.{four_of, optional_at, read_verdict2, to_first_verdict}
use Rattle.laws.proofs.Chains.{test_yes, test_no, accepted-last, opened}
use Rattle.laws.proofs.Files.{filed, file-job}
use Rattle.laws.proofs.Edition2.{file_job2}

-- the refusal of a test for room
abbrev ten : Verdict
ten = refused 10 0

-- too few slots, and enough
few : (len want : ℕ) → len < want → room len want ≡ ten
few len want l = test_no (leb want len) 10 0 (lt-leb want len l)

enough : (len want : ℕ) → want ≤ len → room len want ≡ accepted
enough len want l = test_yes (leb want len) 10 0 (le-leb want len l)

-- a call that comes to 10 after its tests leaves what is lent
kept : {A : Type 0} (verdict : Verdict) (answer lent : A) → given (verdict ⨾ ten) answer lent ≡ lent
kept (Ok done) answer lent = refl
kept (Err why) answer lent = refl

-- before 10 a test for room makes no difference
idle : (tests : Verdict) (t : Bool) → tests ⨾ test t 10 0 ⨾ ten ≡ tests ⨾ ten
idle (Ok done) true = refl
idle (Ok done) false = refl
idle (Err why) t = refl

-- ---- slots in one room

module _ {A : Type 0} (verdict : Verdict) (slots need : ℕ) (answer lent : A) where
  -- with too few nothing is laid
  pub nothing_laid : slots < need → given (verdict ⨾ room slots need) answer lent ≡ lent
  nothing_laid l = ap (λ (r : Verdict). given (verdict ⨾ r) answer lent) (few slots need l) ∙ kept verdict answer lent

  -- with enough the room is as the direct call leaves it
  pub laid_once : need ≤ slots → given (verdict ⨾ room slots need) (given verdict answer lent) lent ≡ given verdict answer lent
  laid_once l = ap (λ (r : Verdict). given (verdict ⨾ r) (given verdict answer lent) lent) (enough slots need l) ∙ by verdict
    where
      by : (v : Verdict) → given (v ⨾ accepted) (given v answer lent) lent ≡ given v answer lent
      by (Ok done) = refl
      by (Err why) = refl

module _ (tests : Verdict) (len want slots need : ℕ) (short : slots < need) where
  -- with too few the tests alone count, and after them 10
  pub tests_alone : tests ⨾ room len want ⨾ room slots need ≡ tests ⨾ refused 10 0
  tests_alone = ap (λ (r : Verdict). tests ⨾ room len want ⨾ r) (few slots need short) ∙ idle tests (leb want len)

  -- a room of one that is too small for what is written tells the same
  pub room_of_one : 1 < want → tests ⨾ room len want ⨾ room slots need ≡ tests ⨾ room 1 want
  room_of_one l = tests_alone ∙ sym (ap (λ (r : Verdict). tests ⨾ r) (few 1 want l))

  pub room_of_one_under : (tests ≡ accepted → 1 < want) → tests ⨾ room len want ⨾ room slots need ≡ tests ⨾ room 1 want
  room_of_one_under l = tests_alone ∙ by tests l
    where
      by : (t : Verdict) → (t ≡ accepted → 1 < want) → t ⨾ ten ≡ t ⨾ room 1 want
      by (Ok done) l = sym (few 1 want (l refl))
      by (Err why) l = refl

-- a text has no test before its room
pub text_alone : (len want slots need : ℕ) → slots < need → room len want ⨾ room slots need ≡ refused 10 0
text_alone len want slots need l = tests_alone accepted len want slots need l

-- a file moved back to the first edition: its four fields have more than one byte
module _ (s : List ℕ) where
  abbrev optional : Verdict
  optional = test (leb (length s) (optional_at s)) 13 (optional_at s)

  pub first_alone : (len slots need : ℕ) → slots < need → to_first_verdict s len ⨾ room slots need ≡ to_first_verdict s 1
  unfolding to_first_verdict
  first_alone len slots need l = room_of_one_under (read_verdict2 s ⨾ optional) len (length (four_of s)) slots need l (λ e.
      let reads = (file_job2 s (opened (read_verdict2 s) optional e).0).1 in
      omega (arith, (filed (four_of s) (file-job (four_of s) reads).0).ends))

-- ---- slots in two rooms, for a job worked out

module _ (answer real : ℕ) where
  abbrev slots_of : Verdict
  slots_of = room answer 13 ⨾ room real 1

  joined : (verdict : Verdict) → verdict ⨾ room answer 13 ⨾ room real 1 ≡ verdict ⨾ slots_of
  joined (Ok done) = refl
  joined (Err why) = refl

  -- two tests for room that refuse are 10
  refuses : is_err slots_of ≡ true → slots_of ≡ ten
  refuses = by (leb 13 answer) (leb 1 real)
    where
      by : (s t : Bool) → is_err (test s 10 0 ⨾ test t 10 0) ≡ true → test s 10 0 ⨾ test t 10 0 ≡ ten
      by true true e = absurd (false≢true e)
      by true false e = refl
      by false t e = refl

  accepts : is_err slots_of ≡ false → slots_of ≡ accepted
  accepts = by (leb 13 answer) (leb 1 real)
    where
      by : (s t : Bool) → is_err (test s 10 0 ⨾ test t 10 0) ≡ false → test s 10 0 ⨾ test t 10 0 ≡ accepted
      by true true e = refl
      by true false e = absurd (false≢true (sym e))
      by false t e = absurd (false≢true (sym e))

  -- with too few nothing is laid
  pub nothing_solved : {A : Type 0} (verdict : Verdict) (given_back lent : A) → is_err (room answer 13 ⨾ room real 1) ≡ true
      → given (verdict ⨾ room answer 13 ⨾ room real 1) given_back lent ≡ lent
  nothing_solved verdict given_back lent e =
      ap (λ (v : Verdict). given v given_back lent) (joined verdict ∙ ap (λ (r : Verdict). verdict ⨾ r) (refuses e)) ∙ kept verdict given_back lent

  -- with too few the tests before the rooms count alone
  pub solved_alone : (tests : Verdict) (h : Head) (words values deviations : ℕ) → is_err (room answer 13 ⨾ room real 1) ≡ true
      → tests ⨾ rooms h words values deviations ⨾ room answer 13 ⨾ room real 1 ≡ tests ⨾ refused 10 0
  unfolding rooms
  solved_alone tests h words values deviations e =
      joined (tests ⨾ rooms h words values deviations) ∙ ap (λ (r : Verdict). tests ⨾ rooms h words values deviations ⨾ r) (refuses e)
      ∙ by tests (leb (2 * blocks h) words) (leb (objects h) values) (leb (blocks h) deviations)
    where
      by : (v : Verdict) (s t u : Bool) → v ⨾ (test s 10 0 ⨾ test t 10 0 ⨾ test u 10 0) ⨾ ten ≡ v ⨾ ten
      by (Ok done) true true u = idle accepted u
      by (Ok done) true false u = refl
      by (Ok done) false t u = refl
      by (Err why) s t u = refl

  -- with enough the verdict is that of the direct call
  pub solved_enough : (verdict : Verdict) → is_err (room answer 13 ⨾ room real 1) ≡ false → verdict ⨾ room answer 13 ⨾ room real 1 ≡ verdict
  solved_enough verdict e = joined verdict ∙ ap (λ (r : Verdict). verdict ⨾ r) (accepts e) ∙ accepted-last verdict

-- ---- by kind of call: a text put, a file written, a job worked out

pub ruleset text_calls = (nothing_laid, laid_once, text_alone)

pub ruleset file_calls = (nothing_laid, laid_once, tests_alone, room_of_one, first_alone)

pub ruleset solving_calls = (nothing_solved, solved_alone, solved_enough)
