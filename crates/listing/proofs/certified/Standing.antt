-- What was worked out gives the certificate of the file: where the numbers in hand are those of the job, each line is that of the definition. Assumes
-- nothing.
use Rattle.std.proofs.Common.{Ok, Err}
use mathlib.Core.Path.{◌≡◌, refl, sym, ap, ◌∙◌}
use mathlib.Core.List.{List, ◌++◌, append_assoc, replicate}
use Prim.Native.Nat.{ℕ, ◌≤◌, ◌<◌}
use native.Mathlib.Omega.{arith}
use lib.IntN.{ℤ, pos, nat_abs, ◌*ℤ◌}
use lib.ListN.{length, get_or, take}
use lib.Seq.{length-take-le, get_or-take}
use Rattle.algebra.specs.Buffers.{over}
use Rattle.records.specs.declared.Head.{Head}
use Rattle.records.specs.declared.JobRead.{JobRead}
use Rattle.records.specs.declared.SecondRead.{SecondRead}
use Rattle.records.specs.declared.Solved.{Solved}
use Rattle.meaning.specs.Design.{objects, parameters_of}
use Rattle.meaning.specs.Analysis.{member, numerator_of, denominator_of, vbeta, qOf, freedom}
use Rattle.meaning.specs.Publishing.{published}
use Rattle.meaning.specs.Wide.{value, wide}
use Rattle.meaning.specs.Refusals.{Verdict, accepted, sum_limit}
use Rattle.meaning.specs.Calls.{given, no_parameters, job_verdict, values_under, spreading_of, solved_under}
use Rattle.meaning.specs.File.{head_of, blocks_of, readings_of, set_of, sum_of, read_verdict, read_answer, solve_verdict}
use Rattle.meaning.specs.Text.{digits, each}
use Rattle.meaning.specs.Edition2.{four_of, names_at, read_verdict2, read_answer2, solve_verdict2}
use Rattle.meaning.specs.Certificate.{
  counts_text,
  spread_text,
  weight_line,
  figure_line,
  proved_line,
  uncertainty_of,
  name_from,
  certificate_text,
  certificate_under,
  certificate_of,
  certificate_of2,
}
use Rattle.laws.proofs.Chains.{Job, job}
use Rattle.laws.proofs.Column.{job_adds_up}
use Rattle.laws.proofs.Files.{file-job}
use Rattle.laws.proofs.Edition2.{file_job2}
use Rattle.arithmetic.specs.Uncertainties.{uncertainty_in}
use Rattle.analysis.specs.Column.{column_of}
use Rattle.analysis.proofs.Column.{column-published}
use Rattle.analysis.proofs.values.Refusing.{factor-is}
use Rattle.analysis.proofs.uncertainty.Stating.{uncertainty_of_job}
use Rattle.printing.proofs.Each.{each_same}
use Rattle.listing.specs.Certified.{heading_text, weight_at, weight_lines, certified_lines, certified_text}
use Rattle.listing.proofs.whole.Worked.{column-long, rooms_enough, rooms_enough2}

-- two figures, and two more, among what stands before and after
regroup : (h w a b s t p : List ℕ) → h ++ w ++ (a ++ b) ++ (s ++ t) ++ p ≡ h ++ w ++ a ++ b ++ s ++ t ++ p
regroup h w a b s t p = simp append_assoc

-- ---- an accepted job

module _ (h : Head) (d : List ℕ) (y : List ℤ) (w : ℕ) (M : ℤ) (e : job_verdict h d y w M ≡ accepted) (values : List ℤ) (f : length values ≡ 50)
    (s : List ℕ) (names : ℕ) where
  good : Job h d y w M
  good = job h d y w M e

  few : objects h ≤ 50
  few = good.measures.design.sizes.objects-most

  -- the column that is worked out from the room, and its first numbers
  abbrev column : List ℤ
  column = column_of (over (objects h) (numerator_of h d y w M) values) (denominator_of h d w) w

  abbrev a : List ℤ
  a = take (objects h) column

  long : length a ≡ objects h
  long = length-take-le (objects h) column (omega (arith, column-long (over (objects h) (numerator_of h d y w M) values) (denominator_of h d w) w, few))

  weight : (i : ℕ) → i < objects h → weight_at s names a (solved_under accepted h d y w) w i ≡
      weight_line i (name_from s names i) (member w i) (published h d y w M i) (uncertainty_of h d y w i)
  weight i l =
      let hundredths : get_or a i (pos 0) ≡ published h d y w M i = get_or-take (objects h) column i (pos 0) l
      ∙ column-published h d y w M good values _ f refl i l in
      let uncertainty = ap (uncertainty_in (value (wide (qOf h d y))) (denominator_of h d w) (vbeta h d) (freedom h)) (factor-is h d y w M i good)
      ∙ uncertainty_of_job h d y w M i good in
      λ j. weight_line i (name_from s names i) (member w i) (hundredths j) (uncertainty j)

  weights : weight_lines s names a (solved_under accepted h d y w) w (length a) ≡ each (objects h)
      (λ i. weight_line i (name_from s names i) (member w i) (published h d y w M i) (uncertainty_of h d y w i))
  weights = (λ k. weight_lines s names a (solved_under accepted h d y w) w (long k)) ∙ each_same (objects h) _ _ weight

  -- its lines are those of the definition
  pub job-certified : certified_lines s names a (solved_under accepted h d y w) w M ≡ certificate_text h d y w M (name_from s names)
  unfolding certified_lines
  job-certified =
      let t = spreading_of h d y in
      let sum = job_adds_up h d y w M good in
      regroup (heading_text (parameters_of h d)) (weight_lines s names a (solved_under accepted h d y w) w (length a))
      (figure_line "sum of the standards                               " (counts_text (pos 100 *ℤ M)))
      (figure_line "accepted sum M                                     " (counts_text (pos 100 *ℤ M)))
      (figure_line "spread                                             " (spread_text t.spread t.hundredths))
      (figure_line "degrees of freedom                                 " (digits 20 t.freedom)) proved_line
      ∙ (λ k. heading_text (parameters_of h d) ++ weights k
      ++ figure_line "sum of the standards                               " (counts_text (sym sum k))
      ++ figure_line "accepted sum M                                     " (counts_text (pos 100 *ℤ M))
      ++ figure_line "spread                                             " (spread_text t.spread t.hundredths)
      ++ figure_line "degrees of freedom                                 " (digits 20 t.freedom) ++ proved_line)

-- ---- the four fields of any byte string, under a verdict that accepts them where it accepts

module _ (four s : List ℕ) (names : ℕ) (values : List ℤ) (f : length values ≡ 50) where
  abbrev answer : Verdict → Solved
  answer v = solved_under v (head_of four) (blocks_of four) (readings_of four) (set_of four)

  abbrev left : Verdict → List ℤ
  left v = values_under v (head_of four) (blocks_of four) (readings_of four) (set_of four) (sum_of four) values

  text : (v : Verdict) → (v ≡ accepted → read_verdict four ≡ accepted) →
      certified_text s names (take (answer v).parameters.v (column_of (left v) (answer v).denominator (given v (set_of four) 0))) (answer v)
      (given v (set_of four) 0) (given v (sum_of four) (pos 0)) ≡ certificate_under v four (name_from s names)
  unfolding certified_text
  text (Ok done) e = job-certified (head_of four) (blocks_of four) (readings_of four) (set_of four) (sum_of four) (file-job four (e refl)).1 values f s names
  text (Err why) e = refl

-- the sum that was read is in its range
sum-small : (four : List ℕ) (v : Verdict) → (v ≡ accepted → read_verdict four ≡ accepted) → nat_abs (given v (sum_of four) (pos 0)) ≤ sum_limit
sum-small four (Ok done) e = (job _ _ _ _ _ (file-job four (e refl)).1).restraint.sum-most
sum-small four (Err why) e = omega arith

-- ---- any byte string

abbrev zeros : List ℤ
zeros = replicate 50 (pos 0)

-- as many numbers of the column are handed on as the answer counts
enough : (four : List ℕ) (v : Verdict) → (v ≡ accepted → read_verdict four ≡ accepted) →
    (given v (parameters_of (head_of four) (blocks_of four)) no_parameters).v ≤ 50
enough four (Ok done) e = (job _ _ _ _ _ (file-job four (e refl)).1).measures.design.sizes.objects-most
enough four (Err why) e = omega arith

module _ (s : List ℕ) where
  pub read_small : {found : JobRead} → found ≡ read_answer s → nat_abs found.sum ≤ sum_limit
  read_small e = rw e (sum-small s (read_verdict s) (λ a. a))

  abbrev verdict : Verdict
  verdict = solve_verdict s 2600 50 1300

  module _ {r : Solved} {after column : List ℤ} {found : JobRead} (says : r ≡ answer s s 0 zeros refl verdict) (first : after ≡ left s s 0 zeros refl verdict)
      (read : found ≡ read_answer s) (worked : column ≡ column_of after r.denominator found.set) where
    -- the column has a number for each object
    pub column_fits : r.parameters.v ≤ length column
    column_fits =
        let long : length column ≡ 50 = (λ j. length (worked j)) ∙ column-long after r.denominator found.set in
        rw (says, rooms_enough s) (omega (arith, long, enough s (read_verdict s) (λ a. a)))

    -- and its first numbers give the certificate
    pub certificate_is : certified_text s 0 (take r.parameters.v column) r found.set found.sum ≡ certificate_of s
    unfolding certificate_of
    certificate_is = rw (worked, says, first, read, rooms_enough s) (text s s 0 zeros refl (read_verdict s) (λ a. a))

-- ---- the same read as a file of the second edition

module _ (s : List ℕ) where
  four-accepts : read_verdict2 s ≡ accepted → read_verdict (four_of s) ≡ accepted
  four-accepts e = (file_job2 s e).1

  pub read_small2 : {found : SecondRead} → found ≡ read_answer2 s → nat_abs found.job.sum ≤ sum_limit
  read_small2 e = rw e (sum-small (four_of s) (read_verdict2 s) four-accepts)

  abbrev verdict2 : Verdict
  verdict2 = solve_verdict2 s 2600 50 1300

  -- the names stand where reading says, or the refusal has none
  text2 : (v : Verdict) → (v ≡ accepted → read_verdict (four_of s) ≡ accepted) →
      certified_text s (given v (names_at s) 0)
      (take (answer (four_of s) s 0 zeros refl v).parameters.v
      (column_of (left (four_of s) s 0 zeros refl v) (answer (four_of s) s 0 zeros refl v).denominator (given v (set_of (four_of s)) 0)))
      (answer (four_of s) s 0 zeros refl v) (given v (set_of (four_of s)) 0) (given v (sum_of (four_of s)) (pos 0)) ≡
      certificate_under v (four_of s) (name_from s (names_at s))
  unfolding certified_text
  text2 (Ok done) e = text (four_of s) s (names_at s) zeros refl accepted e
  text2 (Err why) e = refl

  module _ {r : Solved} {after column : List ℤ} {found : SecondRead} (says : r ≡ answer (four_of s) s 0 zeros refl verdict2)
      (first : after ≡ left (four_of s) s 0 zeros refl verdict2) (read : found ≡ read_answer2 s) (worked : column ≡ column_of after r.denominator found.job.set)
    where
      pub column_fits2 : r.parameters.v ≤ length column
      column_fits2 =
          let long : length column ≡ 50 = (λ j. length (worked j)) ∙ column-long after r.denominator found.job.set in
          rw (says, rooms_enough2 s) (omega (arith, long, enough (four_of s) (read_verdict2 s) four-accepts))

      pub certificate_is2 : certified_text s found.names_at (take r.parameters.v column) r found.job.set found.job.sum ≡ certificate_of2 s
      unfolding certificate_of2
      certificate_is2 = rw (worked, says, first, read, rooms_enough2 s) (text2 (read_verdict2 s) four-accepts)
