-- The file of a job, read back: it is taken apart at the starts of its fields.
--     reads-back    the file of an accepted job reads as that job
--     file-length   it has 32 + 2pm + 4b entries
-- Assumes nothing.
use mathlib.Core.Path.{◌≡◌, refl, sym, ap, ◌∙◌}
use mathlib.Core.List.{List, [], ◌∷◌, ◌++◌, append_assoc, append-nil}
use Prim.Native.Nat.{ℕ, ◌+◌, ◌*◌, ◌^◌, ◌<◌}
use native.Mathlib.Nat.{pow-le-pow_right}
use native.Mathlib.Omega.{arith}
use borrow.Author.Tests.{eq-eqb}
use lib.Dec.{eqb, lit<}
use lib.IntN.{ℤ, nat_abs}
use lib.ListN.{length, take, drop}
use lib.Seq.{take_at, drop_at, drop-drop}
use Rattle.records.specs.declared.Head.{Head}
use Rattle.meaning.specs.Design.{objects, blocks, sized, list_length}
use Rattle.meaning.specs.Refusals.{Verdict, accepted, test, ◌⨾◌, sizes}
use Rattle.meaning.specs.Calls.{job_verdict}
use Rattle.meaning.specs.File.{big, twos, numbers_at, field_verdict, head_of, second_at, blocks_of, set_of, sum_of, readings_of, fields}
use Rattle.meaning.specs.Writing.{bytes_of, wrapped, sizes_body, restraint_body, readings_body, file_of, file_length, ReadsAs}
use Rattle.laws.specs.Fits.{Fits}
use Rattle.laws.proofs.Chains.{test_yes, accepts, sized_yes, listed-most, Job, job}
use Rattle.laws.proofs.Files.{job-file}
use Rattle.laws.proofs.Bytes.{bytes-long, wrapped-below, twos-wrapped, numbers-bytes}
use Rattle.laws.proofs.BytesBack.{read_bytes_at, read-numbers}
use Rattle.laws.proofs.Writing.{first, second, third, fourth, field_there, field-long, restraint-long, file-long}

-- what follows a part
drop_on : (s : List ℕ) (at next : ℕ) (t rest : List ℕ) → drop at s ≡ t ++ rest → at + length t ≡ next → drop next s ≡ rest
drop_on s at next t rest e n = ap (λ (i : ℕ). drop i s) (sym n) ∙ sym (drop-drop (length t) at s) ∙ ap (drop (length t)) e ∙ drop_at t rest (length t) refl

-- where the third and the fourth start, and the byte after the fourth, by the head
abbrev third_start : Head → ℕ
third_start h = second_at + 3 + list_length h

abbrev fourth-at : Head → ℕ
fourth-at h = third_start h + 3 + 16

abbrev end-at : Head → ℕ
end-at h = fourth-at h + 3 + 4 * blocks h

-- the fields of a job stand in s at their places
record Laid (s : List ℕ) (h : Head) (d : List ℕ) (y : List ℤ) (w : ℕ) (M : ℤ) : Type 0 where
  head : head_of s ≡ h
  from_first : s ≡ first h ++ (second h d ++ (third h w M ++ fourth h y))
  from_second : drop 7 s ≡ second h d ++ (third h w M ++ fourth h y)
  from_third : drop (third_start h) s ≡ third h w M ++ fourth h y
  from_fourth : drop (fourth-at h) s ≡ fourth h y
  long : length s ≡ file_length h

module _ (h : Head) (d : List ℕ) (y : List ℤ) (w : ℕ) (M : ℤ) where
  -- the fields stand in it
  laid : length d ≡ list_length h → length y ≡ blocks h → Laid (file_of h d y w M) h d y w M
  unfolding file_of bytes_of
  laid l r =
      let s = file_of h d y w M in
      let two : drop 7 s ≡ second h d ++ (third h w M ++ fourth h y) = append_assoc (second h d) (third h w M) (fourth h y) in
      let three = drop_on s 7 (third_start h) (second h d) (third h w M ++ fourth h y) two (omega (arith, field-long h 2 d)) in
      let four = drop_on s (third_start h) (fourth-at h) (third h w M) (fourth h y) three
      (omega (arith, field-long h 3 (restraint_body w M), restraint-long w M)) in
      record {
        head = refl;
        from_first = append_assoc (first h ++ second h d) (third h w M) (fourth h y) ∙ append_assoc (first h) (second h d) (third h w M ++ fourth h y);
        from_second = two;
        from_third = three;
        from_fourth = four;
        long = file-long h d y w M l r;
      }

-- where they stand, reading gives the job back
module _ (s : List ℕ) (h : Head) (d : List ℕ) (y : List ℤ) (w : ℕ) (M : ℤ) (l : Laid s h d y w M) (j : Job h d y w M) where
  f : Fits h
  f = j.measures.design.sizes

  -- the tests of the fields, by the head
  fields-under : Head → Verdict
  fields-under x =
      field_verdict s 0 1 4 ⨾ sizes x ⨾ field_verdict s second_at 2 (list_length x) ⨾ field_verdict s (third_start x) 3 16
      ⨾ field_verdict s (fourth-at x) 4 (4 * blocks x)
      ⨾ test (eqb (end-at x) (length s)) 9 (end-at x)

  -- they all hold
  fields_there : fields s ≡ accepted
  unfolding fields fields-under
  fields_there =
      let list : list_length h < 65536 = omega (arith, listed-most h f) in
      let readings : length (readings_body y) ≡ 4 * blocks h = omega (arith, numbers-bytes y, j.measures.readings.readings-long) in
      let end : end-at h ≡ length s = omega (arith, l.long) in
      ap fields-under l.head
      ∙ accepts (accepts (accepts (accepts (accepts
      (field_there s 0 1 4 (sizes_body h) (second h d ++ (third h w M ++ fourth h y)) l.from_first refl (omega arith))
      (test_yes (sized h) 4 0 (sym (sized_yes h f))))
      (field_there s second_at 2 (list_length h) d (third h w M ++ fourth h y) l.from_second j.measures.design.long list))
      (field_there s (third_start h) 3 16 (restraint_body w M) (fourth h y) l.from_third (restraint-long w M) (omega arith)))
      (field_there s (fourth-at h) 4 (4 * blocks h) (readings_body y) [] (l.from_fourth ∙ sym (append-nil (fourth h y))) readings
      (omega (arith, f.blocks-most))))
      (test_yes (eqb (end-at h) (length s)) 9 (end-at h) (eq-eqb _ _ end))

  -- the restraint, with what follows it
  third-body : drop (third_start h + 3) s ≡ bytes_of 8 w ++ (bytes_of 8 (wrapped 64 M) ++ fourth h y)
  third-body =
      drop_on s (third_start h) (third_start h + 3) (3 ∷ bytes_of 2 16) (restraint_body w M ++ fourth h y)
      (l.from_third ∙ append_assoc (3 ∷ bytes_of 2 16) (restraint_body w M) (fourth h y)) (omega (arith, bytes-long 2 16))
      ∙ append_assoc (bytes_of 8 w) (bytes_of 8 (wrapped 64 M)) (fourth h y)

  -- the blocks
  blocks-back : blocks_of s ≡ d
  blocks-back =
      let after = drop_on s second_at 10 (2 ∷ bytes_of 2 (list_length h)) (d ++ (third h w M ++ fourth h y))
      (l.from_second ∙ append_assoc (2 ∷ bytes_of 2 (list_length h)) d (third h w M ++ fourth h y)) (omega (arith, bytes-long 2 (list_length h))) in
      ap (λ (x : Head). take (list_length x) (drop 10 s)) l.head ∙ ap (take (list_length h)) after
      ∙ take_at d (third h w M ++ fourth h y) (list_length h) j.measures.design.long

  -- the restraint set, below 2 to the power 50
  set_back : set_of s ≡ w
  set_back =
      let small : w < 256 ^ 8 = omega (arith, j.restraint.set-inside, pow-le-pow_right {n = 2} (lit< tt) {i = objects h} {j = 50} f.objects-most) in
      ap (λ (x : Head). big s (third_start x + 3) 8) l.head ∙ read_bytes_at s (third_start h + 3) 8 w (bytes_of 8 (wrapped 64 M) ++ fourth h y) third-body small

  -- its accepted sum
  sum_back : sum_of s ≡ M
  sum_back =
      let small : nat_abs M < 2 ^ 63 = omega (arith, j.restraint.sum-most) in
      let after = drop_on s (third_start h + 3) (third_start h + 11) (bytes_of 8 w) (bytes_of 8 (wrapped 64 M) ++ fourth h y) third-body
      (omega (arith, bytes-long 8 w)) in
      ap (λ (x : Head). twos 64 (big s (third_start x + 11) 8)) l.head
      ∙ ap (twos 64) (read_bytes_at s (third_start h + 11) 8 (wrapped 64 M) (fourth h y) after (wrapped-below 64 refl M small))
      ∙ twos-wrapped 64 refl M small

  -- the readings
  readings-back : readings_of s ≡ y
  readings-back =
      let long = j.measures.readings.readings-long in
      let after = drop_on s (fourth-at h) (fourth-at h + 3) (4 ∷ bytes_of 2 (4 * blocks h)) (readings_body y) l.from_fourth
      (omega (arith, bytes-long 2 (4 * blocks h))) in
      ap (λ (x : Head). numbers_at s (fourth-at x + 3) (blocks x)) l.head
      ∙ ap (numbers_at s (fourth-at h + 3)) (sym long)
      ∙ read-numbers y s (fourth-at h + 3) [] (after ∙ sym (append-nil (readings_body y))) (λ k m. j.measures.readings.readings-most k (omega (arith, long)))

module _ (h : Head) (d : List ℕ) (y : List ℤ) (w : ℕ) (M : ℤ) (e : job_verdict h d y w M ≡ accepted) where
  sound_job : Job h d y w M
  sound_job = job h d y w M e

  -- the file of an accepted job reads as that job
  pub reads-back : ReadsAs (file_of h d y w M) h d y w M
  reads-back =
      let s = file_of h d y w M in
      let j = sound_job in
      let l = laid h d y w M j.measures.design.long j.measures.readings.readings-long in
      let b = blocks-back s h d y w M l j in
      let r = readings-back s h d y w M l j in
      let t = set_back s h d y w M l j in
      let u = sum_back s h d y w M l j in
      record {
        accepts = job-file s (fields_there s h d y w M l j) ((λ i. job_verdict (l.head i) (b i) (r i) (t i) (u i)) ∙ e);
        head = l.head;
        blocks = b;
        readings = r;
        set = t;
        sum = u;
      }

  -- its length
  pub file-length : length (file_of h d y w M) ≡ file_length h
  file-length = file-long h d y w M sound_job.measures.design.long sound_job.measures.readings.readings-long
