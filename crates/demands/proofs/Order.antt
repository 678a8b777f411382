-- The verdict of a file as one flat row of tests, in file order; that each of them refuses by a listed number at a listed place; and where a reader stands
-- meanwhile. Assumes nothing.
use Rattle.std.proofs.Common.{Ok, Err}
use mathlib.Core.Path.{◌≡◌, refl, sym, ◌∙◌, ap, subst, subst₂}
use mathlib.Core.Logic.{inl, inr}
use mathlib.Core.Bool.{Bool, true, false}
use mathlib.Core.List.{List}
use Prim.Native.Nat.{ℕ, ◌+◌, ◌*◌, ◌≤◌, ◌<◌}
use native.Mathlib.Omega.{arith}
use lib.Dec.{eqb, ltb, leb}
use lib.IntN.{nat_abs}
use lib.ListN.{get_or, drop, length, length-take}
use borrow.Author.Tests.{eqb-false, lt-leb}
use Rattle.algebra.specs.Ranges.{first_from}
use Rattle.algebra.proofs.Tests.{first_bounds}
use Rattle.meaning.specs.Design.{blocks, sized, list_length, balanced}
use Rattle.meaning.specs.Analysis.{reading}
use Rattle.meaning.specs.Refusals.{Verdict, accepted, refused, number, place, test, ◌⨾◌, reading_limit, offends, offender, far_reading}
use Rattle.meaning.specs.Calls.{contents, rooms}
use Rattle.meaning.specs.File.{
  big,
  field_verdict,
  field_under,
  field_at,
  field_start,
  field_next,
  head_of,
  second_at,
  third_at,
  fourth_at,
  end_at,
  blocks_at,
  readings_at,
  blocks_of,
  readings_of,
  fields,
  placed,
  read_verdict,
  solve_verdict,
}
use Rattle.laws.proofs.Chains.{refused_is_not, opened}
use Rattle.laws.proofs.Files.{filed, numbers-long}
use Rattle.demands.specs.Job.{job_in, v, b}
use Rattle.demands.specs.Refusals.{
  start,
  body,
  tagged,
  long,
  blocks_clean,
  restraint_fits,
  two_standards,
  readings_fit,
  four,
  six,
  ten,
  file_tests,
  FieldStart,
  Listed,
  Ends,
}
use Rattle.demands.specs.Refusals.FieldStart.{first, second, third, fourth}
use Rattle.demands.specs.Demand1.{Reader}

-- ---- the flat row

-- a field's tests after others, taken out of their field
field_flat : (a : Verdict) (s : List ℕ) (at tag len : ℕ) → a ⨾ field_verdict s at tag len ≡ a ⨾ start s at ⨾ tagged s at tag ⨾ long s at len ⨾ body s at len
unfolding field_verdict
field_flat (Ok done) s at tag len = refl
field_flat (Err why) s at tag len = refl

-- the tests of what a file holds after others, moved to their places
contents_flat : (a : Verdict) (s : List ℕ) (t5 t6 t7 t11 t8 : Bool) (i k : ℕ) →
    a ⨾ placed s (test t5 5 i ⨾ test t6 6 0 ⨾ (test t7 7 0 ⨾ test t11 11 0) ⨾ test t8 8 k)
    ≡ a ⨾ test t5 5 (blocks_at + i) ⨾ test t6 6 0 ⨾ test t7 7 (third_at s) ⨾ test t11 11 (third_at s) ⨾ test t8 8 (readings_at s + 4 * k)
contents_flat (Err why) s t5 t6 t7 t11 t8 i k = refl
contents_flat (Ok done) s false t6 t7 t11 t8 i k = refl
contents_flat (Ok done) s true false t7 t11 t8 i k = refl
contents_flat (Ok done) s true true false t11 t8 i k = refl
contents_flat (Ok done) s true true true false t8 i k = refl
contents_flat (Ok done) s true true true true false i k = refl
contents_flat (Ok done) s true true true true true i k = refl

module _ (s : List ℕ) where
  -- the tests up to the first field with its sizes, up to the second, up to the third, and all four with 9 after them
  abbrev one : Verdict
  one = start s 0 ⨾ tagged s 0 1 ⨾ long s 0 4 ⨾ body s 0 4 ⨾ four (job_in s)

  abbrev two : Verdict
  two = one ⨾ start s second_at ⨾ tagged s second_at 2 ⨾ long s second_at (list_length (head_of s)) ⨾ body s second_at (list_length (head_of s))

  abbrev three : Verdict
  three = two ⨾ start s (third_at s) ⨾ tagged s (third_at s) 3 ⨾ long s (third_at s) 16 ⨾ body s (third_at s) 16

  abbrev all : Verdict
  all = three ⨾ start s (fourth_at s) ⨾ tagged s (fourth_at s) 4 ⨾ long s (fourth_at s) (4 * b (job_in s)) ⨾ body s (fourth_at s) (4 * b (job_in s))
      ⨾ test (eqb (end_at s) (length s)) 9 (end_at s)

  -- after the fields 5, 6, 7, 11, 8
  abbrev then : Verdict → Verdict
  then a = a ⨾ test (blocks_clean (job_in s)) 5 (blocks_at + offender (head_of s) (blocks_of s)) ⨾ six (job_in s)
      ⨾ test (restraint_fits (job_in s)) 7 (third_at s)
      ⨾ test (two_standards (job_in s)) 11 (third_at s)
      ⨾ test (readings_fit (job_in s)) 8 (readings_at s + 4 * far_reading (readings_of s))

  -- the fields of the definition are these
  fields_flat : fields s ≡ all
  unfolding fields field_verdict
  fields_flat = ap (λ v. v ⨾ test (eqb (end_at s) (length s)) 9 (end_at s)) (ap (λ v. v ⨾ field_verdict s (fourth_at s) 4 (4 * b (job_in s)))
      (ap (λ v. v ⨾ field_verdict s (third_at s) 3 16) (field_flat one s second_at 2 (list_length (head_of s))) ∙ field_flat two s (third_at s) 3 16)
      ∙ field_flat three s (fourth_at s) 4 (4 * b (job_in s)))

  -- the verdict of a file is the first of these tests that fails
  pub file-order : read_verdict s ≡ file_tests s
  unfolding read_verdict contents
  file-order =
      contents_flat (fields s) s (blocks_clean (job_in s)) (balanced (head_of s) (blocks_of s))
      (restraint_fits (job_in s)) (two_standards (job_in s)) (readings_fit (job_in s))
      (offender (head_of s) (blocks_of s)) (far_reading (readings_of s))
      ∙ ap then fields_flat

  -- solving asks for its rooms after them
  pub rooms-last : (words values deviations : ℕ) → solve_verdict s words values deviations
      ≡ file_tests s ⨾ ten words (2 * b (job_in s)) ⨾ ten values (v (job_in s)) ⨾ ten deviations (b (job_in s))
  unfolding solve_verdict rooms
  rooms-last words values deviations =
      out (read_verdict s) (ten words (2 * b (job_in s))) (ten values (v (job_in s))) (ten deviations (b (job_in s)))
      ∙ ap (λ (a : Verdict). a ⨾ ten words (2 * b (job_in s)) ⨾ ten values (v (job_in s)) ⨾ ten deviations (b (job_in s))) file-order
    where
      out : (a b c e : Verdict) → a ⨾ (b ⨾ c ⨾ e) ≡ a ⨾ b ⨾ c ⨾ e
      out (Ok done) b c e = refl
      out (Err why) b c e = refl

-- ---- every refusal is listed

-- whatever the verdict refuses by is listed
abbrev Lists : List ℕ → Verdict → Type 0
Lists s verdict = (k at : ℕ) → verdict ≡ refused k at → Listed s k at

-- a verdict that refuses by nothing else ends
ends : (s : List ℕ) (a : Verdict) → Lists s a → Ends s a
ends s (Ok done) l = inl refl
ends s (Err why) l = inr (why.number, why.place, refl, l why.number why.place refl)

-- one test, and one chain after another
lists_test : (s : List ℕ) (t : Bool) (k at : ℕ) → (t ≡ false → Listed s k at) → Lists s (test t k at)
lists_test s true k at l n there e = refused_is_not n there (sym e)
lists_test s false k at l n there e = subst₂ (Listed s) (ap number e) (ap place e) (l refl)

lists_then : (s : List ℕ) (a b : Verdict) → Lists s a → Lists s b → Lists s (a ⨾ b)
lists_then s (Ok done) b p q = q
lists_then s (Err why) b p q = p

-- the tests of a field after others
lists_field : (s : List ℕ) (a : Verdict) (at tag len : ℕ) → FieldStart s at → Lists s a →
    Lists s (a ⨾ start s at ⨾ tagged s at tag ⨾ long s at len ⨾ body s at len)
lists_field s a at tag len f l =
    lists_then s _ _
    (lists_then s _ _
    (lists_then s _ _
    (lists_then s _ _ l
    (lists_test s (leb (at + 3) (length s)) 1 at (λ e. Listed.past_the_end at f)))
    (lists_test s (eqb (get_or s at 0) tag) 2 at (λ e. Listed.other_tag at f)))
    (lists_test s (eqb (big s (at + 1) 2) len) 3 at (λ e. Listed.other_length at f)))
    (lists_test s (leb (at + 3 + len) (length s)) 1 at (λ e. Listed.past_the_end at f))

-- a search that does not come to the end stays inside
found_inside : (p : ℕ → Bool) (c most : ℕ) → c ≤ most → (first_from p 0 c ≡ c → ⊥) → first_from p 0 c < most
found_inside p c most l e = under (first_from p 0 c) (first_bounds p 0 c).1 e
  where
    under : (x : ℕ) → x ≤ 0 + c → (x ≡ c → ⊥) → x < most
    under x m e = omega arith

module _ (s : List ℕ) where
  -- a byte of the blocks that offends is one of them, and so with a reading out of range
  offender-inside : blocks_clean (job_in s) ≡ false → offender (head_of s) (blocks_of s) < list_length (head_of s)
  unfolding offender
  offender-inside e = found_inside (offends (head_of s) (blocks_of s)) (length (blocks_of s)) (list_length (head_of s))
      (omega (arith, length-take (list_length (head_of s)) (drop blocks_at s))) (eqb-false _ _ e)

  far-inside : readings_fit (job_in s) ≡ false → far_reading (readings_of s) < blocks (head_of s)
  unfolding far_reading
  far-inside e = found_inside (λ k. ltb reading_limit (nat_abs (reading (readings_of s) k))) (length (readings_of s)) (blocks (head_of s))
      (omega (arith, numbers-long s (readings_at s) (blocks (head_of s)))) (eqb-false _ _ e)

  -- so with every test of a file
  file_lists : Lists s (file_tests s)
  file_lists =
      lists_then s _ _
      (lists_then s _ _
      (lists_then s _ _
      (lists_then s _ _
      (lists_then s _ _
      (lists_then s _ _
      (lists_field s _ (fourth_at s) 4 (4 * b (job_in s)) fourth
      (lists_field s _ (third_at s) 3 16 third
      (lists_field s _ second_at 2 (list_length (head_of s)) second
      (lists_then s _ _
      (lists_field s accepted 0 1 4 first (λ k at e. refused_is_not k at (sym e)))
      (lists_test s (sized (head_of s)) 4 0 (λ e. Listed.size))))))
      (lists_test s (eqb (end_at s) (length s)) 9 (end_at s) (λ e. Listed.bytes_after)))
      (lists_test s (blocks_clean (job_in s)) 5 _ (λ e. Listed.object (offender (head_of s) (blocks_of s)) (offender-inside e))))
      (lists_test s (balanced (head_of s) (blocks_of s)) 6 0 (λ e. Listed.unbalanced)))
      (lists_test s (restraint_fits (job_in s)) 7 (third_at s) (λ e. Listed.restraint)))
      (lists_test s (two_standards (job_in s)) 11 (third_at s) (λ e. Listed.one_standard)))
      (lists_test s (readings_fit (job_in s)) 8 _ (λ e. Listed.reading (far_reading (readings_of s)) (far-inside e)))

  pub reading-ends : Ends s (read_verdict s)
  reading-ends = subst (Ends s) (sym (file-order s)) (ends s (file_tests s) file_lists)

  pub solving-ends : (words values deviations : ℕ) → Ends s (solve_verdict s words values deviations)
  solving-ends words values deviations = subst (Ends s) (sym (rooms-last s words values deviations)) (ends s _
      (lists_then s _ _ (lists_then s _ _ (lists_then s _ _ file_lists (ten_lists words (2 * b (job_in s)))) (ten_lists values (v (job_in s))))
      (ten_lists deviations (b (job_in s)))))
    where
      ten_lists : (len want : ℕ) → Lists s (ten len want)
      ten_lists len want = lists_test s (leb want len) 10 0 (λ e. Listed.short-room)

-- ---- a reader led past the fields

-- each test of a field refuses at the field's start
refused-at : (a b c f : Bool) (at k there : ℕ) → test a 1 at ⨾ test b 2 at ⨾ test c 3 at ⨾ test f 1 at ≡ refused k there → there ≡ at
refused-at false b c f at k there e = ap place (sym e)
refused-at true false c f at k there e = ap place (sym e)
refused-at true true false f at k there e = ap place (sym e)
refused-at true true true false at k there e = ap place (sym e)
refused-at true true true true at k there e = refused_is_not k there (sym e)

-- a reader at any place
pub keeps_position : (s : List ℕ) (at tag len : ℕ) → Reader s at tag len
unfolding field_at field_verdict
keeps_position s at tag len = record {
  order = refl;
  past_the_end = λ l. rw (lt-leb (at + 3) (length s) l) refl;
  refused_stays = λ k there e. (
    ap (λ v. field_next (field_under v at len) at) e,
    refused-at (leb (at + 3) (length s)) (eqb (get_or s at 0) tag) (eqb (big s (at + 1) 2) len) (leb (at + 3 + len) (length s)) at k there e,
  );
  accepted_moves = λ e. (ap (λ v. field_start (field_under v at len)) e, ap (λ v. field_next (field_under v at len) at) e);
}

-- each of four accepted fields leads to the next, and the last to the end
pub fields-led : (s : List ℕ) → fields s ≡ accepted →
    (field_next (field_at s 0 1 4) 0 ≡ second_at)
    × (field_next (field_at s second_at 2 (list_length (head_of s))) second_at ≡ third_at s)
    × (field_next (field_at s (third_at s) 3 16) (third_at s) ≡ fourth_at s)
    × (field_next (field_at s (fourth_at s) 4 (4 * blocks (head_of s))) (fourth_at s) ≡ length s)
unfolding fields
fields-led s e =
    let a = opened _ _ e in
    let b = opened _ _ a.0 in
    let c = opened _ _ b.0 in
    let f = opened _ _ c.0 in
    let g = opened _ _ f.0 in (
      ((keeps_position s 0 1 4).accepted_moves g.0).1,
      ((keeps_position s second_at 2 (list_length (head_of s))).accepted_moves f.1).1,
      ((keeps_position s (third_at s) 3 16).accepted_moves c.1).1,
      ((keeps_position s (fourth_at s) 4 (4 * blocks (head_of s))).accepted_moves b.1).1 ∙ (filed s e).ends,
    )
