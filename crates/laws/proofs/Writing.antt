-- A job and its file, both ways.
--     file-long, file-bytes     the file of an accepted job has 32 + 2pm + 4b entries, which are bytes; that it reads as that job is in WritingBack
--     writes_again              a file of bytes that is accepted, written again from what it holds, is the same
--     the_file, one-file        a file of bytes that reads as a job is that job's file, so two that read as one job are the same
-- A file is taken apart at the starts of its fields. Assumes nothing.
use mathlib.Core.Path.{◌≡◌, refl, sym, ap, ap₂, ◌∙◌}
use mathlib.Core.Bool.{Bool, true, false, cond}
use mathlib.Core.List.{List, [], ◌∷◌, ◌++◌, append_assoc}
use Prim.Native.Nat.{ℕ, ◌+◌, ◌*◌, ◌≤◌, ◌<◌}
use native.Mathlib.Nat.{add-zero}
use native.Mathlib.Numerals.{add-one}
use native.Mathlib.Omega.{arith}
use borrow.Author.Tests.{eqb-true, eq-eqb, leb-true, le-leb, ltb-true}
use lib.Dec.{eqb, leb, ltb}
use lib.IntN.{ℤ}
use lib.ListN.{length, get_or, take, drop, length-append, length-drop}
use lib.Seq.{take_all, take-add, drop-cons, drop-drop, get_or-drop}
use Rattle.records.specs.declared.Head.{Head}
use Rattle.meaning.specs.Design.{with_fixed, blocks, list_length}
use Rattle.meaning.specs.Refusals.{accepted, test, sizes}
use Rattle.meaning.specs.Calls.{job_verdict}
use Rattle.meaning.specs.File.{big, body_length, field_verdict, head_of, second_at, third_at, fourth_at, end_at, readings_at, blocks_of, set_of, sum_of, readings_of, fields, read_verdict}
use Rattle.meaning.specs.Writing.{Bytes, bytes_of, wrapped, sizes_body, restraint_body, readings_body, field_bytes, file_of, file_length, ReadsAs}
use Rattle.laws.proofs.Chains.{opened, held, test_yes, accepts, Job, job}
use Rattle.laws.proofs.Clean.{in_range_lem}
use Rattle.laws.proofs.Files.{file-job}
use Rattle.laws.proofs.Bytes.{bytes-none, bytes-more, bytes-append, bytes-long, bytes_are, big-below, write_bytes, wrapped-twos, write-numbers, numbers-bytes, numbers_are}
use Rattle.laws.proofs.BytesBack.{read_bytes_at}

-- ---- a field

-- what its tests say: its tag, its length, and that its body is there
pub record Fielded (s : List ℕ) (at tag len : ℕ) : Type 0 where
  pub tagged : get_or s at 0 ≡ tag
  pub told : big s (at + 1) 2 ≡ len
  pub inside : at + 3 + len ≤ length s

pub fielded : (s : List ℕ) (at tag len : ℕ) → field_verdict s at tag len ≡ accepted → Fielded s at tag len
unfolding field_verdict
fielded s at tag len e =
    let a = opened _ _ e in
    let b = opened _ _ a.0 in
    let c = opened (test (leb (at + 3) (length s)) 1 at) (test (eqb (get_or s at 0) tag) 2 at) b.0 in
    record {
      tagged = eqb-true _ _ (held (eqb (get_or s at 0) tag) 2 at c.1);
      told = eqb-true _ _ (held (eqb (big s (at + 1) 2) len) 3 at b.1);
      inside = leb-true _ _ (held (leb (at + 3 + len) (length s)) 1 at a.1);
    }

-- where it stands, with what was before it dropped, its tests hold
pub field_there : (s : List ℕ) (at tag len : ℕ) (body rest : List ℕ) → drop at s ≡ tag ∷ bytes_of 2 len ++ body ++ rest → length body ≡ len → len < 65536 →
    field_verdict s at tag len ≡ accepted
unfolding field_verdict
field_there s at tag len body rest e l small =
    let after : drop (at + 1) s ≡ bytes_of 2 len ++ (body ++ rest) = sym (drop-drop 1 at s) ∙ ap (drop 1) e ∙ append_assoc (bytes_of 2 len) body rest in
    let long : length s ≡ at + 3 + len + length rest = omega (arith, length-drop at s, bytes-long 2 len, simp length-append at (ap length e)) in
    let first : get_or s at 0 ≡ tag = ap (λ (i : ℕ). get_or s i 0) (sym (add-zero at)) ∙ sym (get_or-drop at s 0 0) ∙ ap (λ (t : List ℕ). get_or t 0 0) e in
    accepts (accepts (accepts
    (test_yes (leb (at + 3) (length s)) 1 at (le-leb (at + 3) (length s) (omega arith)))
    (test_yes (eqb (get_or s at 0) tag) 2 at (eq-eqb _ _ first)))
    (test_yes (eqb (big s (at + 1) 2) len) 3 at (eq-eqb _ _ (read_bytes_at s (at + 1) 2 len (body ++ rest) after small))))
    (test_yes (leb (at + 3 + len) (length s)) 1 at (le-leb (at + 3 + len) (length s) (omega arith)))

-- the start of such a field, written again, is what stood there
start-again : (s : List ℕ) → Bytes s → (at tag len : ℕ) → Fielded s at tag len → tag ∷ bytes_of 2 len ≡ take 3 (drop at s)
start-again s b at tag len f =
    ap₂ (λ (x c : ℕ). x ∷ bytes_of 2 c) (sym f.tagged) (sym f.told)
    ∙ ap (λ (t : List ℕ). get_or s at 0 ∷ t) (write_bytes s b (at + 1) 2 (omega (arith, f.inside)) ∙ ap (λ (i : ℕ). take 2 (drop i s)) (add-one at))
    ∙ sym (ap (take 3) (drop-cons s at 0 (omega (arith, f.inside))))

-- and so is the whole field
pub field-again : (s : List ℕ) → Bytes s → (at tag len : ℕ) → Fielded s at tag len → tag ∷ bytes_of 2 len ++ take len (drop (at + 3) s) ≡ take (3 + len) (drop at s)
field-again s b at tag len f = ap₂ (λ (a c : List ℕ). a ++ c) (start-again s b at tag len f) (ap (take len) (sym (drop-drop 3 at s)))
    ∙ sym (take-add 3 len (drop at s))

-- it has three bytes more than its body
pub field-long : (h : Head) (tag : ℕ) (body : List ℕ) → length (field_bytes h tag body) ≡ 3 + length body
field-long h tag body = rw length-append (omega (arith, bytes-long 2 (body_length h tag)))

-- it is of bytes where its body is
field-bytes : (h : Head) (tag : ℕ) (body : List ℕ) → tag < 256 → Bytes body → Bytes (field_bytes h tag body)
field-bytes h tag body t b =
    let len = body_length h tag in
    bytes-append (tag ∷ bytes_of 2 len) body (bytes-more tag (bytes_of 2 len) t (bytes_are 2 len)) b

-- ---- what is written

-- the four fields of a job
abbrev pub first : Head → List ℕ
first h = field_bytes h 1 (sizes_body h)

abbrev pub second : Head → List ℕ → List ℕ
second h d = field_bytes h 2 d

abbrev pub third : Head → ℕ → ℤ → List ℕ
third h w M = field_bytes h 3 (restraint_body w M)

abbrev pub fourth : Head → List ℤ → List ℕ
fourth h y = field_bytes h 4 (readings_body y)

-- the restraint has 16 bytes
pub restraint-long : (w : ℕ) (M : ℤ) → length (restraint_body w M) ≡ 16
restraint-long w M = rw length-append (omega (arith, bytes-long 8 w, bytes-long 8 (wrapped 64 M)))

module _ (h : Head) (d : List ℕ) (y : List ℤ) (w : ℕ) (M : ℤ) where
  -- how long the file is
  pub file-long : length d ≡ list_length h → length y ≡ blocks h → length (file_of h d y w M) ≡ file_length h
  unfolding file_of
  file-long l r =
      let two : (tag : ℕ) → length (bytes_of 2 (body_length h tag)) ≡ 2 = λ tag. bytes-long 2 (body_length h tag) in
      simp length-append (omega (arith, two 1, two 2, two 3, two 4, bytes-long 8 w, bytes-long 8 (wrapped 64 M), numbers-bytes y))

module _ (h : Head) (d : List ℕ) (y : List ℤ) (w : ℕ) (M : ℤ) (e : job_verdict h d y w M ≡ accepted) where
  sound_job : Job h d y w M
  sound_job = job h d y w M e

  -- the sizes are bytes
  sizes-bytes : Bytes (sizes_body h)
  sizes-bytes =
      let f = sound_job.measures.design.sizes in
      bytes-more h.n (h.flag ∷ h.p ∷ h.m ∷ []) (omega arith)
      (bytes-more h.flag (h.p ∷ h.m ∷ []) (omega arith) (bytes-more h.p (h.m ∷ []) (omega arith) (bytes-more h.m [] (omega arith) bytes-none)))

  -- the objects of its blocks are bytes
  pub objects-bytes : Bytes d
  objects-bytes i l = by (eqb (get_or d i 0) 255) refl (in_range_lem h d sound_job.measures.design i l)
    where
      by : (b : Bool) → eqb (get_or d i 0) 255 ≡ b → cond b (with_fixed h) (ltb (get_or d i 0) h.n) ≡ true → get_or d i 0 < 256
      by true c r = omega (arith, eqb-true (get_or d i 0) 255 c)
      by false c r = omega (arith, ltb-true (get_or d i 0) h.n r, sound_job.measures.design.sizes.n_most)

  -- the file is of bytes
  pub file-bytes : Bytes (file_of h d y w M)
  unfolding file_of
  file-bytes =
      bytes-append (first h ++ second h d ++ third h w M) (fourth h y)
      (bytes-append (first h ++ second h d) (third h w M)
      (bytes-append (first h) (second h d) (field-bytes h 1 (sizes_body h) (omega arith) sizes-bytes) (field-bytes h 2 d (omega arith) objects-bytes))
      (field-bytes h 3 (restraint_body w M) (omega arith) (bytes-append (bytes_of 8 w) (bytes_of 8 (wrapped 64 M)) (bytes_are 8 w) (bytes_are 8 (wrapped 64 M)))))
      (field-bytes h 4 (readings_body y) (omega arith) (numbers_are y))

-- ---- what was read is written again

-- four parts, one after another
four-parts : (s : List ℕ) (a b c e : ℕ) → take a s ++ take b (drop a s) ++ take c (drop (a + b) s) ++ take e (drop (a + b + c) s) ≡ take (a + b + c + e) s
four-parts s a b c e =
    ap (λ (l : List ℕ). l ++ take c (drop (a + b) s) ++ take e (drop (a + b + c) s)) (sym (take-add a b s))
    ∙ ap (λ (l : List ℕ). l ++ take e (drop (a + b + c) s)) (sym (take-add (a + b) c s))
    ∙ sym (take-add (a + b + c) e s)

module _ (s : List ℕ) (b : Bytes s) (e : read_verdict s ≡ accepted) where
  -- its four fields and its end
  record Four : Type 0 where
    one : Fielded s 0 1 4
    two : Fielded s second_at 2 (list_length (head_of s))
    three : Fielded s (third_at s) 3 16
    four : Fielded s (fourth_at s) 4 (4 * blocks (head_of s))
    ends : end_at s ≡ length s

  found : Four
  unfolding fields
  found =
      let z = opened _ _ (file-job s e).0 in
      let d = opened _ _ z.0 in
      let c = opened _ _ d.0 in
      let a = opened _ _ c.0 in
      record {
        one = fielded s 0 1 4 (opened (field_verdict s 0 1 4) (sizes (head_of s)) a.0).0;
        two = fielded s second_at 2 (list_length (head_of s)) a.1;
        three = fielded s (third_at s) 3 16 c.1;
        four = fielded s (fourth_at s) 4 (4 * blocks (head_of s)) d.1;
        ends = eqb-true _ _ (held (eqb (end_at s) (length s)) 9 (end_at s) z.1);
      }

  -- the sizes
  sizes-again : sizes_body (head_of s) ≡ take 4 (drop 3 s)
  sizes-again =
      let room = found.one.inside in
      sym (ap (take 4) (drop-cons s 3 0 (omega arith) ∙ ap (λ (t : List ℕ). get_or s 3 0 ∷ t) (drop-cons s 4 0 (omega arith)
      ∙ ap (λ (t : List ℕ). get_or s 4 0 ∷ t) (drop-cons s 5 0 (omega arith) ∙ ap (λ (t : List ℕ). get_or s 5 0 ∷ t) (drop-cons s 6 0 (omega arith))))))

  -- the restraint
  restraint-again : restraint_body (set_of s) (sum_of s) ≡ take 16 (drop (third_at s + 3) s)
  restraint-again =
      let room = found.three.inside in
      let next : third_at s + 3 + 8 ≡ third_at s + 11 = omega arith in
      ap₂ (λ (x r : List ℕ). x ++ r) (write_bytes s b (third_at s + 3) 8 (omega arith))
      (ap (bytes_of 8) (wrapped-twos 64 refl (big s (third_at s + 11) 8) (big-below s b (third_at s + 11) 8)) ∙ write_bytes s b (third_at s + 11) 8 (omega arith)
      ∙ ap (λ (i : ℕ). take 8 (drop i s)) (sym next) ∙ ap (take 8) (sym (drop-drop 8 (third_at s + 3) s)))
      ∙ sym (take-add 8 8 (drop (third_at s + 3) s))

  -- where the third and the fourth field start, by the lengths of those before
  third-place : third_at s ≡ 7 + (3 + list_length (head_of s))
  third-place = omega arith

  fourth-place : fourth_at s ≡ 7 + (3 + list_length (head_of s)) + 19
  fourth-place = omega arith

  -- each field
  first-again : first (head_of s) ≡ take 7 s
  first-again = ap (λ (t : List ℕ). 1 ∷ bytes_of 2 4 ++ t) sizes-again ∙ field-again s b 0 1 4 found.one

  second-again : second (head_of s) (blocks_of s) ≡ take (3 + list_length (head_of s)) (drop 7 s)
  second-again = field-again s b 7 2 (list_length (head_of s)) found.two

  third-again : third (head_of s) (set_of s) (sum_of s) ≡ take 19 (drop (7 + (3 + list_length (head_of s))) s)
  third-again =
      ap (λ (t : List ℕ). 3 ∷ bytes_of 2 16 ++ t) restraint-again ∙ field-again s b (third_at s) 3 16 found.three
      ∙ ap (λ (i : ℕ). take 19 (drop i s)) third-place

  fourth-again : fourth (head_of s) (readings_of s) ≡ take (3 + 4 * blocks (head_of s)) (drop (7 + (3 + list_length (head_of s)) + 19) s)
  fourth-again =
      ap (λ (t : List ℕ). 4 ∷ bytes_of 2 (4 * blocks (head_of s)) ++ t) (write-numbers s b (readings_at s) (blocks (head_of s)) (omega (arith, found.ends)))
      ∙ field-again s b (fourth_at s) 4 (4 * blocks (head_of s)) found.four
      ∙ ap (λ (i : ℕ). take (3 + 4 * blocks (head_of s)) (drop i s)) fourth-place

  -- a file of bytes that is accepted, written again from what it holds, is the same
  pub writes_again : file_of (head_of s) (blocks_of s) (readings_of s) (set_of s) (sum_of s) ≡ s
  unfolding file_of
  writes_again =
      (λ i. first-again i ++ second-again i ++ third-again i ++ fourth-again i)
      ∙ four-parts s 7 (3 + list_length (head_of s)) 19 (3 + 4 * blocks (head_of s))
      ∙ take_all (7 + (3 + list_length (head_of s)) + 19 + (3 + 4 * blocks (head_of s))) s (omega (arith, found.ends))

-- ---- one file

-- a file of bytes that reads as a job is the job's file
pub the_file : (s : List ℕ) (h : Head) (d : List ℕ) (y : List ℤ) (w : ℕ) (M : ℤ) → Bytes s → ReadsAs s h d y w M → s ≡ file_of h d y w M
the_file s h d y w M b r = sym (writes_again s b r.accepts) ∙ (λ i. file_of (r.head i) (r.blocks i) (r.readings i) (r.set i) (r.sum i))

-- two files of bytes that read as one job are the same
pub one-file : (s t : List ℕ) (h : Head) (d : List ℕ) (y : List ℤ) (w : ℕ) (M : ℤ) → Bytes s → Bytes t → ReadsAs s h d y w M → ReadsAs t h d y w M → s ≡ t
one-file s t h d y w M a b p q = the_file s h d y w M a p ∙ sym (the_file t h d y w M b q)
