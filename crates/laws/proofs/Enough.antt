-- 64 KiB are room for the text of every byte string.
--     text-length   no text is longer
--     enough        so with that room the whole text is given: as many bytes as are answered are the text
--     counts        whatever the room, as many bytes as are answered stand in it
-- Of an accepted job the lines are few and the denominators of its deviations short; a refusal is one line. Assumes nothing.
use Rattle.std.proofs.Common.{Ok, Err}
use mathlib.Core.Path.{◌≡◌, refl, sym}
use mathlib.Core.Bool.{Bool, true, false}
use mathlib.Core.List.{List, ◌++◌}
use Prim.Native.Nat.{ℕ, ◌*◌, ◌^◌, ◌≤◌, ◌<◌}
use native.Mathlib.Omega.{arith}
use borrow.Author.Tests.{le-leb}
use lib.Dec.{leb}
use lib.IntN.{ℤ}
use lib.ListN.{length, take, drop, length-append}
use lib.Seq.{length-take-le, take-append_seam}
use Rattle.records.specs.declared.Head.{Head}
use Rattle.records.specs.declared.Listed.{Listed}
use Rattle.meaning.specs.Design.{objects, blocks, parameters_of}
use Rattle.meaning.specs.Analysis.{vbeta, numerator_of, denominator_of, deviation_of}
use Rattle.meaning.specs.Publishing.{published}
use Rattle.meaning.specs.Refusals.{Verdict, accepted, test}
use Rattle.meaning.specs.Calls.{given, job_verdict, spreading_of}
use Rattle.meaning.specs.File.{head_of, blocks_of, readings_of, set_of, sum_of, read_verdict}
use Rattle.meaning.specs.Text.{each, value_line, dev_line, job_text, text_under, text_of, listed_answer, listed_after}
use Rattle.laws.proofs.Chains.{job}
use Rattle.laws.proofs.SizesMost.{vbeta-most}
use Rattle.laws.proofs.Files.{file-job}
use Rattle.laws.proofs.Lengths.{each-length, design-length, value-length, dev_length, spread-length, refused-length}

-- the listing of an accepted job
pub job-length : (h : Head) (d : List ℕ) (y : List ℤ) (w : ℕ) (M : ℤ) → job_verdict h d y w M ≡ accepted → length (job_text h d y w M) ≤ 51643
job-length h d y w M e =
    let j = job h d y w M e in
    let size = j.measures.design.sizes in
    let small : vbeta h d < 10 ^ 4 = omega (arith, vbeta-most h d j.measures.design j.measures.even) in
    let values : length (each (objects h) (λ i. value_line i (numerator_of h d y w M i) (denominator_of h d w) (published h d y w M i))) ≤ objects h * 92 =
    each-length (objects h) 92 _ (λ i l. value-length i (numerator_of h d y w M i) (denominator_of h d w) (published h d y w M i)) in
    let deviations : length (each (blocks h) (λ k. dev_line k (deviation_of h d y k) (vbeta h d))) ≤ blocks h * 36 =
    each-length (blocks h) 36 _ (λ k l. dev_length 3 3 k (deviation_of h d y k) (vbeta h d) (omega (arith, size.blocks-most)) small) in
    rw (length-append, length-append, length-append)
    (omega (arith, design-length (parameters_of h d), values, deviations, spread-length (spreading_of h d y), size.objects-most, size.blocks-most))

-- the text of any byte string
pub text-length : (s : List ℕ) → length (text_of s) ≤ 65536
unfolding text_of
text-length s = by (read_verdict s) refl
  where
    by : (v : Verdict) → read_verdict s ≡ v → length (text_under v s) ≤ 65536
    by (Ok done) e = omega (arith, job-length (head_of s) (blocks_of s) (readings_of s) (set_of s) (sum_of s) (file-job s e).1)
    by (Err why) e = omega (arith, refused-length why.number why.place)

module _ (s out : List ℕ) {r : Listed} {after : List ℕ} (says : r ≡ listed_answer s (length out)) (leaves : after ≡ listed_after s out) where
  -- with that room, as many bytes as are answered are the text
  pub enough : 65536 ≤ length out → take r.length after ≡ text_of s
  enough l = rw (says, leaves, le-leb (length (text_of s)) (length out) (omega (arith, text-length s)))
      (take-append_seam (text_of s) (drop (length (text_of s)) out))

  -- whatever the room, as many as are answered stand in it
  pub counts : (r.length ≤ length after) × (r.length ≡ length (take r.length after))
  counts = let l = stands in (l, sym (length-take-le r.length after l))
    where
      by : (t : Bool) → given (test t 10 0) (length (text_of s)) 0 ≤ length (given (test t 10 0) (text_of s ++ drop (length (text_of s)) out) out)
      by true = rw length-append (omega arith)
      by false = omega arith

      stands : r.length ≤ length after
      stands = rw (says, leaves) (by (leb (length (text_of s)) (length out)))
