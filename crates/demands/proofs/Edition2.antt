-- Files moved from one edition to the other, as the request has it. Assumes nothing.
use Rattle.std.proofs.Common.{Ok, Err}
use mathlib.Core.Path.{◌≡◌, refl, sym, ap, subst, ◌∙◌}
use mathlib.Core.List.{List}
use Prim.Native.Nat.{ℕ, zero, suc, ◌+◌, ◌*◌, ◌≤◌, ◌<◌}
use native.Mathlib.Omega.{arith}
use native.Mathlib.Decide.{dec_le}
use borrow.Author.Tests.{le-leb, lt-leb, leb-true, eq-eqb, ne_eqb}
use lib.Dec.{eqb, leb}
use lib.ListN.{length, get_or, take, drop, length-drop, get_or-eq_default}
use lib.Seq.{take_at, drop_at, length-take-le}
use Rattle.meaning.specs.Refusals.{Verdict, accepted, test, ◌⨾◌, room}
use Rattle.meaning.specs.File.{big, field_verdict, fields, read_verdict}
use Rattle.meaning.specs.Text.{text_under, text_of}
use Rattle.meaning.specs.Edition2.{
  file_limit2,
  edition,
  four_of,
  moved_on,
  names_tag,
  optional_at,
  optional_verdict,
  optionals,
  optional_fields,
  names_at,
  fields2,
  read_verdict2,
  text_of2,
  put_answer,
  put_after,
  second_of,
  to_second_verdict,
  to_second_after,
  to_first_verdict,
}
use Rattle.laws.proofs.Chains.{opened, held, accepts, test_yes, given_no}
use Rattle.laws.proofs.Writing.{one-file}
use Rattle.laws.proofs.Edition2.Optionals.{over, one}
use Rattle.laws.proofs.Edition2.{
  four-part,
  four-inside,
  four-second,
  whole,
  file_job2,
  optionals-end,
  Optionals,
  optional-fields,
  to-second,
  second-text,
  to-first,
  first-reader,
}
use Rattle.demands.proofs.FourFields.{four_places}
use Rattle.demands.specs.Job.{job_in}
use Rattle.demands.specs.Edition2.{in_second, in_first, objects_in, name_of, optionals_from, Rising, FirstEdition, SecondEdition}
use Rattle.demands.specs.Edition2.Rising.{no_more, one_more}

-- what an accepted call put is the file
put_is : (v : Verdict) (file out : List ℕ) → v ≡ accepted → take (put_answer v file).length (put_after v file out) ≡ file
put_is v file out e = rw e (take_at file (drop (length file) out) (length file) refl)

-- and what follows it in the room stays
put-later : (v : Verdict) (file out : List ℕ) → v ≡ accepted → drop (length file) (put_after v file out) ≡ drop (length file) out
put-later v file out e = rw e (drop_at file (drop (length file) out) (length file) refl)

-- a chain is read from either end
joined : (a b c : Verdict) → a ⨾ (b ⨾ c) ≡ a ⨾ b ⨾ c
joined (Ok done) b c = refl
joined (Err why) b c = refl

-- ---- a file of the first edition

module _ (s : List ℕ) where
  second_yes : (len : ℕ) → read_verdict s ≡ accepted → 4 + length s ≤ len → to_second_verdict s len ≡ accepted
  unfolding to_second_verdict
  second_yes len e l = accepts e (test_yes (leb (4 + length s) len) 10 0 (le-leb (4 + length s) len l))

  second-long : length (second_of s) ≡ 4 + length s
  second-long = omega arith

  in_second_lem : (out : List ℕ) → to_second_verdict s (length out) ≡ accepted → in_second s out ≡ second_of s
  in_second_lem out e = put_is (to_second_verdict s (length out)) (second_of s) out e

-- ---- a file of the second edition

module _ (s : List ℕ) where
  first_yes : (len : ℕ) → read_verdict2 s ≡ accepted → length s ≤ optional_at s → length (four_of s) ≤ len → to_first_verdict s len ≡ accepted
  unfolding to_first_verdict
  first_yes len e none l =
      accepts (accepts e (test_yes (leb (length s) (optional_at s)) 13 (optional_at s) (le-leb (length s) (optional_at s) none)))
      (test_yes (leb (length (four_of s)) len) 10 0 (le-leb (length (four_of s)) len l))

  in_first_lem : (out : List ℕ) → to_first_verdict s (length out) ≡ accepted → in_first s out ≡ four_of s
  in_first_lem out e = put_is (to_first_verdict s (length out)) (four_of s) out e

  -- what an accepted move back says
  moved_back : (len : ℕ) → to_first_verdict s len ≡ accepted → (read_verdict2 s ≡ accepted) × (length s ≤ optional_at s)
  unfolding to_first_verdict
  moved_back len e =
      let a = opened (read_verdict2 s ⨾ test (leb (length s) (optional_at s)) 13 (optional_at s)) (room len (length (four_of s))) e in
      let b = opened (read_verdict2 s) (test (leb (length s) (optional_at s)) 13 (optional_at s)) a.0 in
      (b.0, leb-true _ _ (held (leb (length s) (optional_at s)) 13 (optional_at s) b.1))

  -- the edition of an accepted file
  edition_yes : read_verdict2 s ≡ accepted → edition s ≡ accepted
  unfolding fields2
  edition_yes e =
      let a = opened (test (leb (length s) file_limit2) 4 0 ⨾ edition s ⨾ moved_on (fields (four_of s))) (optional_fields s) (file_job2 s e).0 in
      let b = opened (test (leb (length s) file_limit2) 4 0 ⨾ edition s) (moved_on (fields (four_of s))) a.0 in
      (opened (test (leb (length s) file_limit2) 4 0) (edition s) b.0).1

  ends : read_verdict2 s ≡ accepted → length s ≤ optional_at s → optional_at s ≡ length s
  ends e l = omega (arith, four-inside s (whole s (file_job2 s e).0).edition_there.long)

  -- ---- optional fields

  -- as many turns as there are bytes left are enough, and more change nothing
  more-turns : (k m names least at : ℕ) → length s ≤ at + k → length s ≤ at + m → optionals k s names least at ≡ optionals m s names least at
  unfolding optionals
  more-turns zero m names least at p q = optionals-end zero s names least at (omega arith) ∙ sym (optionals-end m s names least at (omega arith))
  more-turns (suc k) zero names least at p q = optionals-end (suc k) s names least at (omega arith) ∙ sym (optionals-end zero s names least at (omega arith))
  more-turns (suc k) (suc m) names least at p q = turn (λ l. more-turns k m names (get_or s at 0 + 1) (at + 3 + big s (at + 1) 2) (omega arith) (omega arith))
      (dec_le (length s) at)
    where
      turn : (at < length s → optionals k s names (get_or s at 0 + 1) (at + 3 + big s (at + 1) 2)
          ≡ optionals m s names (get_or s at 0 + 1) (at + 3 + big s (at + 1) 2)) → Dec (length s ≤ at) →
          optionals (suc k) s names least at ≡ optionals (suc m) s names least at
      turn ih (yes l) = optionals-end (suc k) s names least at l ∙ sym (optionals-end (suc m) s names least at l)
      turn ih (no l) = rw (lt-leb (length s) at (omega arith)) (ap (λ (v : Verdict). optional_verdict s names least at ⨾ v) (ih (omega arith)))

  -- one optional field, and the rest of them
  pub one-optional : (least at : ℕ) → at < length s →
      optionals_from s least at ≡ optional_verdict s (8 * objects_in s) least at ⨾ optionals_from s (get_or s at 0 + 1) (at + 3 + big s (at + 1) 2)
  unfolding optionals
  one-optional least at l = more-turns (length s) (suc (length s)) (8 * objects_in s) least at (omega arith) (omega arith) ∙ turn
    where
      turn : optionals (suc (length s)) s (8 * objects_in s) least at
          ≡ optional_verdict s (8 * objects_in s) least at ⨾ optionals_from s (get_or s at 0 + 1) (at + 3 + big s (at + 1) 2)
      turn = rw (lt-leb (length s) at l) refl

  -- accepted ones rise, and end where the file does
  rise : {least at : ℕ} → Optionals s (8 * objects_in s) least at → at ≤ length s → Rising s least at
  rise (over {least = least} {at = at} l) m = let ended : length s ≡ at = omega arith in subst (Rising s least) ended (no_more least)
  rise (one {least = least} {at = at} here tag names inside more) m = one_more least at tag names inside (rise more inside)

  optionals_in : read_verdict2 s ≡ accepted → Optionals s (8 * objects_in s) 128 (optional_at s)
  optionals_in e = optional-fields s (whole s (file_job2 s e).0).optional

  rises : read_verdict2 s ≡ accepted → Rising s 128 (optional_at s)
  rises e = rise (optionals_in e) (four-inside s (whole s (file_job2 s e).0).edition_there.long)

  -- names in the first of them have their length, and lie in the file
  names-first : {at : ℕ} → Optionals s (8 * objects_in s) 128 at → get_or s at 0 ≡ 128 →
      (big s (at + 1) 2 ≡ 8 * objects_in s) × (at + 3 + big s (at + 1) 2 ≤ length s)
  names-first (over {at = at} l) tag = absurd (omega (arith, tag, get_or-eq_default s 0 {n = at} l))
  names-first (one here least names inside more) tag = (names tag, inside)

  module _ (e : read_verdict2 s ≡ accepted) (tag : get_or s (optional_at s) 0 ≡ 128) where
    told : big s (optional_at s + 1) 2 ≡ 8 * objects_in s
    told = (names-first (optionals_in e) tag).0

    body : optional_at s + 3 + big s (optional_at s + 1) 2 ≤ length s
    body = (names-first (optionals_in e) tag).1

    names_there : (names_at s ≡ optional_at s + 3) × (big s (optional_at s + 1) 2 ≡ 8 * objects_in s) × (names_at s + 8 * objects_in s ≤ length s)
    names_there = let at : names_at s ≡ optional_at s + 3 = rw (eq-eqb (get_or s (optional_at s) 0) names_tag tag) refl in
        (at, told, omega (arith, at, told, body))

    -- that of each object
    name_there : (i : ℕ) → i < objects_in s → (length (name_of s i) ≡ 8) × (names_at s + 8 * i + 8 ≤ optional_at s + 3 + big s (optional_at s + 1) 2)
    name_there i l =
        let at = names_there.0 in
        let inside : names_at s + 8 * i + 8 ≤ optional_at s + 3 + big s (optional_at s + 1) 2 = omega (arith, at, told) in
        (length-take-le 8 (drop (names_at s + 8 * i) s) (omega (arith, inside, body, length-drop (names_at s + 8 * i) s)), inside)

-- ---- the request

pub first-edition : (s : List ℕ) → FirstEdition s
unfolding to_second_verdict
first-edition s = record {
  order = λ len. refl;
  leaves = λ out k at e. given_no _ _ out k at e;
  hands_back = λ len k at e. rw e;
  hands_back_its_length = λ len e. rw e (ap (λ (c : ℕ). record { verdict = accepted; length = c }) (second-long s));
  later_bytes_stay = λ out e. ap (λ (c : ℕ). drop c (to_second_after s out)) (sym (second-long s)) ∙ put-later _ (second_of s) out e
      ∙ ap (λ (c : ℕ). drop c out) (second-long s);
  there_and_back = λ out back e l m.
      let v = second_yes s (length out) e l in
      let t = in_second_lem s out v in
      let four = four-second s e in
      let r = first_yes (second_of s) (length back) (to-second s e) (omega (arith, ap length four)) (omega (arith, ap length four)) in
      let w = subst (λ (u : List ℕ). to_first_verdict u (length back) ≡ accepted) (sym t) r in
      (v, w, in_first_lem (in_second s out) back w ∙ ap four_of t ∙ four);
  keeps_every_byte = λ out e. in_second_lem s out e;
  same-job = λ e. (to-second s e, ap job_in (four-second s e));
  same_listing = second-text s;
  one_file_per_job = λ j u a b p q. one-file s u j.head j.initial j.readings j.set j.sum a b p q;
}

pub second-edition : (s : List ℕ) → SecondEdition s
unfolding read_verdict2 fields2 edition optional_verdict optional_fields to_first_verdict text_of2 text_of
second-edition s = record {
  order = ap (λ (v : Verdict). v ⨾ moved_on (fields (four_of s)) ⨾ optional_fields s ⨾ moved_on (read_verdict (four_of s)))
      (joined (test (leb (length s) 16384) 4 0) (field_verdict s 0 16 1) (test (eqb (get_or s 3 0) 2) 12 3));
  too_long = λ l. rw (lt-leb (length s) 16384 l) refl;
  four-fields = four_places s;
  optional_from = refl;
  optional-none = λ least at l. optionals-end (length s) s (8 * objects_in s) least at l;
  optional-one = one-optional s;
  optional_rising = rises s;
  holds_the_four = λ e. ((file_job2 s e).1, sym (four-part s));
  same_listing = λ e. ap (λ (v : Verdict). text_under v (four_of s)) (e ∙ sym (file_job2 s e).1);
  names = names_there s;
  each-name = name_there s;
  no_names = λ other. rw (ne_eqb (get_or s (optional_at s) 0) names_tag other) refl;
  first_edition_reader = λ e. first-reader s (edition_yes s e);
  by_its_edition_field = first-reader s;
  back-order = λ len. refl;
  leaves = λ out k at e. given_no _ _ out k at e;
  hands_back = λ len k at e. rw e;
  hands_back_its_length = λ len e. rw e;
  moved-is = in_first_lem s;
  later_bytes_stay = λ out e. put-later _ (four_of s) out e;
  done_only = λ len e. let b = moved_back s len e in ends s b.0 b.1;
  done_there = λ len e none l. first_yes s len e (omega (arith, none)) l;
  back_and_there = λ out forth e l.
      let b = moved_back s (length out) e in
      let t = in_first_lem s out e in
      let same = to-first s (edition_yes s b.0) b.1 in
      let v = second_yes (four_of s) (length forth) (file_job2 s b.0).1 (omega (arith, ends s b.0 b.1)) in
      let w = subst (λ (u : List ℕ). to_second_verdict u (length forth) ≡ accepted) (sym t) v in
      (w, in_second_lem (in_first s out) forth w ∙ ap second_of t ∙ same);
}
