-- What the calls on files of the second edition answer and leave, and that each of their refusals is listed: those of the four fields by the list of the first
-- edition, in which 9 alone never arises here. Assumes nothing.
use Rattle.std.proofs.Common.{Ok, Err}
use mathlib.Core.Path.{◌≡◌, refl, sym, ap, subst, subst₂, ◌∙◌}
use mathlib.Core.Bool.{Bool, true, false, cond, not, ◌||◌}
use mathlib.Core.List.{List, [], ◌∷◌, ◌++◌}
use mathlib.Core.Logic.{◌⊎◌, inl, inr}
use Prim.Native.Nat.{ℕ, zero, suc, ◌+◌, ◌*◌, ◌≤◌, ◌<◌}
use native.Mathlib.Omega.{arith}
use native.Mathlib.Decide.{dec_lt}
use borrow.Author.Tests.{le-leb, eqb-true, eq-eqb, ne_eqb}
use lib.Dec.{eqb, leb}
use lib.IntN.{ℤ, pos}
use lib.ListN.{length, get_or, take, drop, length-append, get_or-append, get_or-eq_default}
use lib.Seq.{take_at, drop_at, take-length, get_or-drop, drop-drop, drop-append-add}
use Rattle.records.specs.declared.Head.{Head}
use Rattle.meaning.specs.Design.{objects, sized, list_length, blocks, balanced}
use Rattle.meaning.specs.Refusals.{Verdict, accepted, refused, number, place, test, ◌⨾◌, offender, far_reading}
use Rattle.meaning.specs.Calls.{given, slices, contents, job_verdict, rooms, solved_under}
use Rattle.meaning.specs.File.{
  big,
  head_of,
  end_at,
  blocks_at,
  readings_at,
  blocks_of,
  set_of,
  sum_of,
  readings_of,
  field_verdict,
  fields,
  placed,
  read_verdict,
  no_head,
}
use Rattle.meaning.specs.Writing.{bytes_of, file_of, file_length, ReadsAs}
use Rattle.meaning.specs.Text.{text_under}
use Rattle.meaning.specs.Edition2.{
  file_limit2,
  edition_field,
  edition,
  four_of,
  moved_on,
  names_tag,
  names_length,
  optional_at,
  optional_verdict,
  optionals,
  optional_fields,
  names_at,
  fields2,
  read_verdict2,
  read_answer2,
  solve_verdict2,
  solve_answer2,
  text_of2,
  names_field,
  names_fit,
  file_of2,
  file_length2,
  write_verdict2,
  written_after2,
  to_first_verdict,
}
use Rattle.laws.proofs.Chains.{refused_is_not, opened, held, test_yes, goes_on, refused_stays, accepts, given_no, job}
use Rattle.laws.proofs.Bytes.{bytes-long}
use Rattle.laws.proofs.BytesBack.{read_bytes_at}
use Rattle.laws.proofs.Files.{filed, file-job}
use Rattle.laws.proofs.Cut.{longest_file}
use Rattle.laws.proofs.WritingBack.{reads-back, file-length}
use Rattle.laws.proofs.Edition2.{edited, whole, job_file2, optionals-end, text_length2, names-none, names-some, names-long, second-length}
use Rattle.demands.specs.Job.{Job, job_in, v, b, verdict_of}
use Rattle.demands.specs.Refusals.{
  Listed,
  blocks_clean,
  restraint_fits,
  two_standards,
  readings_fit,
  four,
  three_blocks,
  three_readings,
  five,
  six,
  seven,
  eleven,
  eight,
  ten,
}
use Rattle.demands.specs.Edition2.{objects_in}
use Rattle.demands.specs.SecondCalls.{OptionalStart, Listed2, Ends2, SecondCalls, WritingSecond}
use Rattle.demands.proofs.Calls.{four-out, three-out}
use Rattle.demands.proofs.Order.{reading-ends}
use Rattle.demands.proofs.Answers.{three-written}
use Rattle.demands.proofs.FourFields.{four_places}
use Rattle.demands.proofs.Edition2.{one-optional}

-- ---- chains that never refuse by 9

abbrev No9 : Verdict → Type 0
No9 verdict = (at : ℕ) → verdict ≡ refused 9 at → ⊥

no9_test : (t : Bool) (k at : ℕ) → (k ≡ 9 → ⊥) → No9 (test t k at)
no9_test true k at n there e = refused_is_not 9 there (sym e)
no9_test false k at n there e = n (ap number e)

no9_then : (a b : Verdict) → No9 a → No9 b → No9 (a ⨾ b)
no9_then (Ok done) b p q = q
no9_then (Err why) b p q = p

no9_field : (s : List ℕ) (at tag len : ℕ) → No9 (field_verdict s at tag len)
unfolding field_verdict
no9_field s at tag len =
    no9_then _ _
    (no9_then _ _
    (no9_then _ _
    (no9_test (leb (at + 3) (length s)) 1 at (λ e. omega (arith, e)))
    (no9_test (eqb (get_or s at 0) tag) 2 at (λ e. omega (arith, e))))
    (no9_test (eqb (big s (at + 1) 2) len) 3 at (λ e. omega (arith, e))))
    (no9_test (leb (at + 3 + len) (length s)) 1 at (λ e. omega (arith, e)))

-- a refusal that is moved to its place keeps its number
no9_placed : (s : List ℕ) (a : Verdict) → No9 a → No9 (placed s a)
no9_placed s (Ok done) n there e = refused_is_not 9 there (sym e)
no9_placed s (Err why) n there e = n why.place (ap (λ (c : ℕ). refused c why.place) (ap number e))

module _ (s : List ℕ) where
  abbrev file : List ℕ
  file = four_of s

  -- cut where the fourth ends, the four fields have no bytes after them
  no9_fields : 4 ≤ length s → No9 (fields file)
  no9_fields l at e =
      let h = head_of (drop 4 s) in
      subst No9 (sym (four_places s l))
      (no9_then _ _
      (no9_then _ _
      (no9_then _ _
      (no9_then _ _ (no9_field s 4 1 4) (no9_test (sized h) 4 4 (λ e. omega (arith, e))))
      (no9_field s 11 2 (list_length h)))
      (no9_field s (14 + list_length h) 3 16))
      (no9_field s (33 + list_length h) 4 (4 * blocks h)))
      (4 + at) (ap moved_on e)

  -- and what they hold is refused by 5 to 8 and 11
  no9_read : fields file ≡ accepted → No9 (read_verdict file)
  unfolding read_verdict contents
  no9_read e = let j = job_in file in subst No9 (sym (goes_on _ e)) (no9_placed file _
      (no9_then _ _
      (no9_then _ _
      (no9_then _ _
      (no9_test (blocks_clean j) 5 (offender j.head j.initial) (λ e. omega (arith, e)))
      (no9_test (balanced j.head j.initial) 6 0 (λ e. omega (arith, e))))
      (no9_then _ _ (no9_test (restraint_fits j) 7 0 (λ e. omega (arith, e))) (no9_test (two_standards j) 11 0 (λ e. omega (arith, e)))))
      (no9_test (readings_fit j) 8 (far_reading j.readings) (λ e. omega (arith, e)))))

  -- ---- every refusal is listed

  abbrev Lists2 : Verdict → Type 0
  Lists2 verdict = (k at : ℕ) → verdict ≡ refused k at → Listed2 s k at

  ends2 : (a : Verdict) → Lists2 a → Ends2 s a
  ends2 (Ok done) l = inl refl
  ends2 (Err why) l = inr (why.number, why.place, refl, l why.number why.place refl)

  lists_test : (t : Bool) (k at : ℕ) → Listed2 s k at → Lists2 (test t k at)
  lists_test true k at l n there e = refused_is_not n there (sym e)
  lists_test false k at l n there e = subst₂ (Listed2 s) (ap number e) (ap place e) l

  lists_then : (a b : Verdict) → Lists2 a → (a ≡ accepted → Lists2 b) → Lists2 (a ⨾ b)
  lists_then (Ok done) b p q = q refl
  lists_then (Err why) b p q = p

  -- of the four fields, by the list of the first edition
  lists_moved : (a : Verdict) → ((k at : ℕ) → a ≡ refused k at → Listed file k at) → No9 a → Lists2 (moved_on a)
  lists_moved (Ok done) l n k at e = refused_is_not k at (sym e)
  lists_moved (Err why) l n number_is place_is e = subst₂ (Listed2 s) (ap number e) (ap place e)
      (Listed2.in_the_four why.number why.place (l why.number why.place refl) (λ same. n why.place (ap (λ (c : ℕ). refused c why.place) same)))

  four_lists : (k at : ℕ) → read_verdict file ≡ refused k at → Listed file k at
  four_lists k at e = by (reading-ends file)
    where
      by : (read_verdict file ≡ accepted) ⊎ ((n : ℕ) × (there : ℕ) × (read_verdict file ≡ refused n there) × Listed file n there) → Listed file k at
      by (inl a) = refused_is_not k at (sym e ∙ a)
      by (inr (n, there, f, l)) = subst₂ (Listed file) (ap number (sym f ∙ e)) (ap place (sym f ∙ e)) l

  fields_lists : (k at : ℕ) → fields file ≡ refused k at → Listed file k at
  unfolding read_verdict
  fields_lists k at e = four_lists k at (refused_stays _ k at e)

  edition_lists : Lists2 (edition s)
  unfolding edition field_verdict
  edition_lists =
      lists_then _ _
      (lists_then _ _
      (lists_then _ _
      (lists_then _ _
      (lists_test (leb 3 (length s)) 1 0 Listed2.edition_past_the_end)
      (λ a. lists_test (eqb (get_or s 0 0) 16) 2 0 Listed2.edition_other_tag))
      (λ a. lists_test (eqb (big s 1 2) 1) 3 0 Listed2.edition_other_length))
      (λ a. lists_test (leb 4 (length s)) 1 0 Listed2.edition_past_the_end))
      (λ a. lists_test (eqb (get_or s 3 0) 2) 12 3 Listed2.other-edition)

  -- of an optional field, and of all from it on
  optional_lists : (names least at : ℕ) → OptionalStart s at → Lists2 (optional_verdict s names least at)
  unfolding optional_verdict
  optional_lists names least at o =
      lists_then _ _
      (lists_then _ _
      (lists_then _ _
      (lists_test (leb (at + 3) (length s)) 1 at (Listed2.optional_past_the_end at o))
      (λ a. lists_test (leb least (get_or s at 0)) 2 at (Listed2.optional_other_tag at o)))
      (λ a. lists_test (not (eqb (get_or s at 0) names_tag) || eqb (big s (at + 1) 2) names) 3 at (Listed2.optional_other_length at o)))
      (λ a. lists_test (leb (at + 3 + big s (at + 1) 2) (length s)) 1 at (Listed2.optional_past_the_end at o))

  optionals-list : (k names least at : ℕ) → OptionalStart s at → Lists2 (optionals k s names least at)
  unfolding optionals
  optionals-list zero names least at o = λ n there e. refused_is_not n there (sym e)
  optionals-list (suc k) names least at o = turn (leb (length s) at)
      (optionals-list k names (get_or s at 0 + 1) (at + 3 + big s (at + 1) 2) (OptionalStart.next at o))
    where
      turn : (t : Bool) → Lists2 (optionals k s names (get_or s at 0 + 1) (at + 3 + big s (at + 1) 2)) →
          Lists2 (cond t accepted (optional_verdict s names least at ⨾ optionals k s names (get_or s at 0 + 1) (at + 3 + big s (at + 1) 2)))
      turn true ih = λ n there e. refused_is_not n there (sym e)
      turn false ih = lists_then _ _ (optional_lists names least at o) (λ a. ih)

  fields2-list : Lists2 (fields2 s)
  unfolding fields2 optional_fields
  fields2-list =
      lists_then _ _
      (lists_then _ _
      (lists_then _ _ (lists_test (leb (length s) file_limit2) 4 0 Listed2.too_long) (λ a. edition_lists))
      (λ a. lists_moved (fields file) fields_lists
      (no9_fields (edited s (opened (test (leb (length s) file_limit2) 4 0) (edition s) a).1).long)))
      (λ a. optionals-list (length s) (names_length (head_of file)) names_tag (optional_at s) OptionalStart.first)

  read_lists : Lists2 (read_verdict2 s)
  unfolding read_verdict2
  read_lists = lists_then _ _ fields2-list (λ a. lists_moved (read_verdict file) four_lists (no9_read (whole s a).four))

  ten_lists : (len want : ℕ) → Lists2 (ten len want)
  ten_lists len want = lists_test (leb want len) 10 0 (Listed2.in_the_four 10 0 Listed.short-room (λ e. omega (arith, e)))

  solve_order : (words values deviations : ℕ) → solve_verdict2 s words values deviations ≡
      read_verdict2 s ⨾ ten words (2 * b (job_in file)) ⨾ ten values (v (job_in file)) ⨾ ten deviations (b (job_in file))
  unfolding solve_verdict2 rooms
  solve_order words values deviations =
      three-out (read_verdict2 s) (ten words (2 * b (job_in file))) (ten values (v (job_in file))) (ten deviations (b (job_in file)))

  solve_ends : (words values deviations : ℕ) → Ends2 s (solve_verdict2 s words values deviations)
  solve_ends words values deviations = subst (Ends2 s) (sym (solve_order words values deviations)) (ends2 _
      (lists_then _ _
      (lists_then _ _
      (lists_then _ _ read_lists (λ a. ten_lists words (2 * b (job_in file))))
      (λ a. ten_lists values (v (job_in file))))
      (λ a. ten_lists deviations (b (job_in file)))))

  move_ends : (len : ℕ) → Ends2 s (to_first_verdict s len)
  unfolding to_first_verdict
  move_ends len = ends2 _
      (lists_then _ _
      (lists_then _ _ read_lists (λ a. lists_test (leb (length s) (optional_at s)) 13 (optional_at s) Listed2.optional-field))
      (λ a. ten_lists len (length file)))

  -- ---- the calls

  -- what is handed out hangs on the verdict and the four fields alone
  skipped : (u : List ℕ) → read_verdict2 s ≡ read_verdict2 u → four_of s ≡ four_of u →
      ((read_answer2 s).job ≡ (read_answer2 u).job)
      × ((words : List ℕ) (values deviations : List ℤ) → solve_answer2 s words values deviations ≡ solve_answer2 u words values deviations)
      × (text_of2 s ≡ text_of2 u)
  unfolding solve_verdict2 text_of2
  skipped u both same = (
    λ i. record {
      verdict = both i;
      head = given (both i) (head_of (same i)) no_head;
      blocks_at = given (both i) (4 + blocks_at) 0;
      readings_at = given (both i) (4 + readings_at (same i)) 0;
      set = given (both i) (set_of (same i)) 0;
      sum = given (both i) (sum_of (same i)) (pos 0);
    },
    λ words values deviations. λ i. let h = head_of (same i) in
        solved_under (both i ⨾ rooms h (length words) (length values) (length deviations)) h (blocks_of (same i)) (readings_of (same i)) (set_of (same i)),
    λ i. text_under (both i) (same i),
  )

  pub second_calls : SecondCalls s
  unfolding solve_verdict2 text_of2
  second_calls = record {
    reading-ends = ends2 (read_verdict2 s) read_lists;
    solving-ends = solve_ends;
    moving_ends = move_ends;
    solving-order = solve_order;
    listing_order = λ len. refl;
    solving-leaves = λ words values deviations. (
      λ k at e. rw e,
      λ k at e. rw e,
      λ k at e. rw e,
    );
    listing_leaves = λ out k at e. rw e;
    reading-refused = λ k at e. rw e;
    solving-refused = λ words values deviations k at e. rw e;
    listing_refused = λ len k at e. rw e;
    reading_hands_back = λ e. rw e;
    solving_writes = three-written (read_verdict2 s) (job_in file);
    solving_hands_back = λ words values deviations e. rw e;
    printed = λ e. ap (λ (a : Verdict). text_under a file) e;
    refusal-printed = λ k at e. ap (λ (a : Verdict). text_under a file) e;
    text_is_short = text_length2 s;
    listing_writes = λ out e. let rest = drop (length (text_of2 s)) out in
        rw e (take_at (text_of2 s) rest (length (text_of2 s)) refl, drop_at (text_of2 s) rest (length (text_of2 s)) refl);
    listing_hands_back = λ len e. rw e;
    others_skipped = λ u e f same. skipped u (e ∙ sym f) same;
  }

-- ---- a job, written with names

-- how long the field of the names is
names-size : (names : List ℕ) → length (names_field names) ≡ cond (eqb (length names) 0) 0 (3 + length names)
names-size [] = refl
names-size (x ∷ names) = rw (ne_eqb (length (x ∷ names)) 0 (λ e. omega (arith, e)))
    (omega (arith, length-append (bytes_of 2 (length (x ∷ names))) (x ∷ names), bytes-long 2 (length (x ∷ names))))

or_right : (a b : Bool) → b ≡ true → a || b ≡ true
or_right true b e = refl
or_right false b e = e

or_split : (a b : Bool) → a || b ≡ true → (a ≡ true) ⊎ (b ≡ true)
or_split true b e = inl refl
or_split false b e = inr e

-- what was written, read again
module _ (h : Head) (d : List ℕ) (y : List ℤ) (w : ℕ) (M : ℤ) (names : List ℕ) (e : job_verdict h d y w M ≡ accepted) (few : length names ≤ 8 * objects h) where
  abbrev F : List ℕ
  F = file_of h d y w M

  abbrev N : List ℕ
  N = names_field names

  abbrev s : List ℕ
  s = edition_field ++ F ++ N

  reads : ReadsAs F h d y w M
  reads = reads-back h d y w M e

  long-file : length F ≡ file_length h
  long-file = file-length h d y w M e

  -- the four fields are the file of the job
  head-same : head_of (F ++ N) ≡ head_of F
  head-same = λ i. record {
    n = get_or-append F N 0 3 (omega (arith, long-file)) i;
    flag = get_or-append F N 0 4 (omega (arith, long-file)) i;
    p = get_or-append F N 0 5 (omega (arith, long-file)) i;
    m = get_or-append F N 0 6 (omega (arith, long-file)) i;
  }

  end_same : end_at (F ++ N) ≡ length F
  end_same = ap (λ (k : Head). 10 + list_length k + 3 + 16 + 3 + 4 * blocks k) head-same ∙ (filed F (file-job F reads.accepts).0).ends

  four_is : four_of s ≡ F
  unfolding four_of
  four_is = ap (λ (c : ℕ). take c (F ++ N)) end_same ∙ take_at F N (length F) refl

  at-is : optional_at s ≡ 4 + length F
  at-is = ap (λ (l : List ℕ). 4 + length l) four_is

  objects-same : objects_in s ≡ objects h
  objects-same = ap (λ (l : List ℕ). objects (head_of l)) four_is ∙ ap objects reads.head

  long-second : length s ≡ 4 + length F + length N
  long-second = omega (arith, length-append F N)

  from_optional : drop (optional_at s) s ≡ N
  from_optional = ap (λ (c : ℕ). drop c s) at-is ∙ drop-append-add edition_field (F ++ N) (length F) ∙ drop_at F N (length F) refl

  edition_there : edition s ≡ accepted
  unfolding edition field_verdict big
  edition_there =
      let three : leb 3 (length s) ≡ true = le-leb 3 (length s) (omega (arith, long-second)) in
      let all : leb 4 (length s) ≡ true = le-leb 4 (length s) (omega (arith, long-second)) in
      rw (three, all) refl

  -- accepted, where its optional fields are
  second-accepted : optional_fields s ≡ accepted → read_verdict2 s ≡ accepted
  unfolding fields2
  second-accepted o = job_file2 s
      (accepts (accepts (accepts
      (test_yes (leb (length s) file_limit2) 4 0 (le-leb (length s) file_limit2 (omega (
        arith,
        long-second,
        longest_file F reads.accepts,
        names-long names,
        few,
        (job h d y w M e).measures.design.sizes.objects-most,
      ))))
      edition_there)
      (ap moved_on (ap fields four_is ∙ (file-job F reads.accepts).0)))
      o)
      (ap read_verdict four_is ∙ reads.accepts)

  reads-four : ReadsAs (four_of s) h d y w M
  reads-four = subst (λ (l : List ℕ). ReadsAs l h d y w M) (sym four_is) reads

  -- without names
  module _ (none : length names ≡ 0) where
    no_field : length s ≤ optional_at s
    no_field = omega (arith, long-second, at-is, ap length (names-none names none))

    none-accepted : read_verdict2 s ≡ accepted
    unfolding optional_fields
    none-accepted = second-accepted (optionals-end (length s) s (8 * objects_in s) names_tag (optional_at s) no_field)

    none-back : names_at s ≡ 0
    none-back =
        let other : get_or s (optional_at s) 0 ≡ 128 → ⊥ = λ tag. omega (arith, tag, get_or-eq_default s 0 {n = optional_at s} no_field) in
        rw (ne_eqb (get_or s (optional_at s) 0) names_tag other) refl

  -- with them
  module _ (some : 0 < length names) (eight-each : length names ≡ 8 * objects h) where
    after : drop (optional_at s) s ≡ names_tag ∷ bytes_of 2 (length names) ++ names
    after = from_optional ∙ names-some names some

    tag : get_or s (optional_at s) 0 ≡ names_tag
    tag =
        let here : optional_at s ≡ optional_at s + 0 = omega arith in
        ap (λ (k : ℕ). get_or s k 0) here ∙ sym (get_or-drop (optional_at s) s 0 0) ∙ ap (λ (l : List ℕ). get_or l 0 0) after

    after_tag : drop (optional_at s + 1) s ≡ bytes_of 2 (length names) ++ names
    after_tag = sym (drop-drop 1 (optional_at s) s) ∙ ap (drop 1) after

    told : big s (optional_at s + 1) 2 ≡ length names
    told = read_bytes_at s (optional_at s + 1) 2 (length names) names after_tag (omega (arith, few, (job h d y w M e).measures.design.sizes.objects-most))

    after-start : drop (optional_at s + 3) s ≡ names
    after-start =
        let three : optional_at s + 3 ≡ optional_at s + 1 + 2 = omega arith in
        ap (λ (k : ℕ). drop k s) three ∙ sym (drop-drop 2 (optional_at s + 1) s) ∙ ap (drop 2) after_tag
        ∙ drop_at (bytes_of 2 (length names)) names 2 (bytes-long 2 (length names))

    ended : optional_at s + 3 + big s (optional_at s + 1) 2 ≡ length s
    ended = omega (
      arith,
      told,
      at-is,
      long-second,
      ap length (names-some names some),
      length-append (bytes_of 2 (length names)) names,
      bytes-long 2 (length names),
    )

    field_there : optional_verdict s (8 * objects_in s) names_tag (optional_at s) ≡ accepted
    unfolding optional_verdict
    field_there =
        let at = optional_at s in
        accepts (accepts (accepts
        (test_yes (leb (at + 3) (length s)) 1 at (le-leb (at + 3) (length s) (omega (arith, ended))))
        (test_yes (leb names_tag (get_or s at 0)) 2 at (le-leb names_tag (get_or s at 0) (omega (arith, tag)))))
        (test_yes (not (eqb (get_or s at 0) names_tag) || eqb (big s (at + 1) 2) (8 * objects_in s)) 3 at
        (or_right (not (eqb (get_or s at 0) names_tag)) _
        (eq-eqb (big s (at + 1) 2) (8 * objects_in s) (told ∙ eight-each ∙ ap (λ (c : ℕ). 8 * c) (sym objects-same))))))
        (test_yes (leb (at + 3 + big s (at + 1) 2) (length s)) 1 at (le-leb (at + 3 + big s (at + 1) 2) (length s) (omega (arith, ended))))

    some-accepted : read_verdict2 s ≡ accepted
    unfolding optional_fields
    some-accepted = second-accepted (one-optional s names_tag (optional_at s) (omega (arith, ended))
        ∙ accepts field_there (optionals-end (length s) s (8 * objects_in s) (get_or s (optional_at s) 0 + 1) _ (omega (arith, ended))))

    some_back : take (length names) (drop (names_at s) s) ≡ names
    some_back =
        let at : names_at s ≡ optional_at s + 3 = rw (eq-eqb (get_or s (optional_at s) 0) names_tag tag) refl in
        ap (λ (k : ℕ). take (length names) (drop k s)) at ∙ ap (take (length names)) after-start ∙ take-length names

-- ---- the call

module _ (j : Job) (names : List ℕ) where
  open j use {head as h, initial as d, readings as y, set as w, sum as M}

  abbrev size : ℕ
  size = 4 + (32 + 2 * h.p * h.m + 4 * (h.m * h.n)) + cond (eqb (length names) 0) 0 (3 + length names)

  size_is : file_length2 h names ≡ size
  size_is = ap (λ (c : ℕ). 4 + (32 + 2 * h.p * h.m + 4 * (h.m * h.n)) + c) (names-size names)

  flat : (len : ℕ) → write_verdict2 h d y w M names len ≡ four j ⨾ three_blocks j ⨾ three_readings j ⨾ names_fit h names
      ⨾ five j ⨾ six j ⨾ seven j ⨾ eleven j ⨾ eight j ⨾ ten len size
  unfolding write_verdict2 slices contents
  flat len = λ i.
      four-out (four j ⨾ three_blocks j ⨾ three_readings j ⨾ names_fit h names) (five j) (six j) (seven j) (eleven j) (eight j) i ⨾ ten len (size_is i)

  -- the job is accepted
  write-job : (len : ℕ) → write_verdict2 h d y w M names len ≡ accepted → verdict_of j ≡ accepted
  unfolding write_verdict2 job_verdict
  write-job len e =
      let a = opened (slices h d y ⨾ names_fit h names ⨾ contents h d y w M) (ten len (file_length2 h names)) e in
      let c = opened (slices h d y ⨾ names_fit h names) (contents h d y w M) a.0 in
      accepts (opened (slices h d y) (names_fit h names) c.0).0 c.1

  module _ (out : List ℕ) (e : write_verdict2 h d y w M names (length out) ≡ accepted) where
    -- so the file has its length
    long : length (file_of2 h d y w M names) ≡ size
    long = second-length h d y w M names (write-job (length out) e) ∙ size_is

    abbrev text : List ℕ
    text = file_of2 h d y w M names

    front : take (length text) (written_after2 h d y w M names out) ≡ text
    front = rw e (take_at text (drop (length text) out) (length text) refl)

    later : drop (length text) (written_after2 h d y w M names out) ≡ drop (length text) out
    later = rw e (drop_at text (drop (length text) out) (length text) refl)

  -- the names are none, or eight bytes for each object
  named : (len : ℕ) → write_verdict2 h d y w M names len ≡ accepted → (length names ≡ 0) ⊎ (length names ≡ 8 * v j)
  unfolding write_verdict2
  named len e =
      let a = opened (slices h d y ⨾ names_fit h names ⨾ contents h d y w M) (ten len (file_length2 h names)) e in
      let c = opened (slices h d y ⨾ names_fit h names) (contents h d y w M) a.0 in
      by (or_split _ _ (held (eqb (length names) 0 || eqb (length names) (8 * v j)) 3 0 (opened (slices h d y) (names_fit h names) c.0).1))
    where
      by : (eqb (length names) 0 ≡ true) ⊎ (eqb (length names) (8 * v j) ≡ true) → (length names ≡ 0) ⊎ (length names ≡ 8 * v j)
      by (inl t) = inl (eqb-true _ _ t)
      by (inr t) = inr (eqb-true _ _ t)

  few-names : (length names ≡ 0) ⊎ (length names ≡ 8 * v j) → length names ≤ 8 * v j
  few-names (inl a) = omega (arith, a)
  few-names (inr a) = omega (arith, a)

  all-names : (length names ≡ 0) ⊎ (length names ≡ 8 * v j) → 0 < length names → length names ≡ 8 * v j
  all-names (inl a) l = absurd (omega (arith, a, l))
  all-names (inr a) l = a

  module _ (len : ℕ) (e : write_verdict2 h d y w M names len ≡ accepted) where
    some_back_again : (some : 0 < length names) → (read_verdict2 (file_of2 h d y w M names) ≡ accepted)
        × (take (length names) (drop (names_at (file_of2 h d y w M names)) (file_of2 h d y w M names)) ≡ names)
    unfolding file_of2
    some_back_again some =
        let n = named len e in
        let c = few-names n in
        (some-accepted h d y w M names (write-job len e) c some (all-names n some), some_back h d y w M names (write-job len e) c some (all-names n some))

    none_back_again : length names ≡ 0 → (read_verdict2 (file_of2 h d y w M names) ≡ accepted) × (names_at (file_of2 h d y w M names) ≡ 0)
    unfolding file_of2
    none_back_again none =
        let c = few-names (named len e) in
        (none-accepted h d y w M names (write-job len e) c none, none-back h d y w M names (write-job len e) c none)

    back-again : (read_verdict2 (file_of2 h d y w M names) ≡ accepted) × ReadsAs (four_of (file_of2 h d y w M names)) h d y w M
    unfolding file_of2
    back-again = (by (dec_lt 0 (length names)), reads-four h d y w M names (write-job len e) (few-names (named len e)))
      where
        by : Dec (0 < length names) → read_verdict2 (file_of2 h d y w M names) ≡ accepted
        by (yes some) = (some_back_again some).0
        by (no none) = (none_back_again (omega arith)).0

  pub second-written : WritingSecond j names
  second-written = record {
    order = flat;
    leaves = λ out k at e. given_no _ _ out k at e;
    hands_back = λ len k at e. rw e;
    written_in_front = λ out e. (
      rw e (ap (λ (c : ℕ). record { verdict = accepted; length = c }) (long out e)),
      ap (λ (c : ℕ). take c (written_after2 h d y w M names out)) (sym (long out e)) ∙ front out e,
      ap (λ (c : ℕ). drop c (written_after2 h d y w M names out)) (sym (long out e)) ∙ later out e ∙ ap (λ (c : ℕ). drop c out) (long out e),
    );
    read_back = back-again;
    names-back = λ len e some. (some_back_again len e some).1;
    no_names_back = λ len e none. (none_back_again len e none).1;
  }
