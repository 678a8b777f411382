-- What two days and their sum add to: the added readings are those of the days block by block, since both have every block, and the rest are the laws of
-- sums. Assumes nothing.
use mathlib.Core.Path.{◌≡◌, refl, sym, subst}
use mathlib.Core.List.{List, [], ◌∷◌}
use Prim.Native.Nat.{ℕ, zero, suc, ◌*◌, ◌<◌}
use native.Mathlib.Omega.{arith}
use lib.IntN.{ℤ, pos, ◌+ℤ◌, ◌*ℤ◌}
use lib.ListN.{length}
use Rattle.algebra.specs.Ranges.{sum}
use Rattle.records.specs.declared.Head.{Head}
use Rattle.meaning.specs.Design.{blocks}
use Rattle.meaning.specs.Analysis.{sq, reading, sign, vbeta, numerator_of, deviation_of, qOf}
use Rattle.meaning.specs.Refusals.{accepted}
use Rattle.meaning.specs.Calls.{job_verdict}
use Rattle.laws.proofs.Chains.{Measured, job}
use Rattle.laws.proofs.Analysis.{squares_add}
use Rattle.laws.proofs.Files.{file-job}
use Rattle.laws.proofs.Days.{numerators_add, deviations_add, squares_of_sum, deviations_cancel}
use Rattle.demands.specs.Job.{Job, job_in, verdict_of}
use Rattle.demands.specs.Days.{added, OneDesign, together, DaysAdd, SumsOfDays, SumsOfFiles, DeviationsAdd}

-- a block's added reading is the sum of its two readings
added-reading : (y z : List ℤ) (k : ℕ) → k < length y → k < length z → reading (added y z) k ≡ reading y k +ℤ reading z k
added-reading [] z k l m = absurd (omega arith)
added-reading (a ∷ y) [] k l m = absurd (omega arith)
added-reading (a ∷ y) (c ∷ z) zero l m = refl
added-reading (a ∷ y) (c ∷ z) (suc k) l m = added-reading y z k (omega arith) (omega arith)

-- ---- two days, by their parts
module _ (h : Head) (d : List ℕ) (y z : List ℤ) (w : ℕ) (M N : ℤ) (e : job_verdict h d y w M ≡ accepted) (f : job_verdict h d z w N ≡ accepted) where
  -- the day's job of these readings
  abbrev day : List ℤ → ℤ → Job
  day x L = record { head = h; initial = d; readings = x; set = w; sum = L }

  -- both days have every block
  adds : (k : ℕ) → k < blocks h → reading (added y z) k ≡ reading y k +ℤ reading z k
  adds k l =
      let first : k < length y = omega (arith, (job h d y w M e).measures.readings.readings-long) in
      let second : k < length z = omega (arith, (job h d z w N f).measures.readings.readings-long) in
      added-reading y z k first second

  days_add : DaysAdd (day y M) (day z N) (together (day y M) (day z N))
  days_add = record {
    values_add = λ i l.
        let sums : numerator_of h d (added y z) w (M +ℤ N) i ≡ numerator_of h d y w M i +ℤ numerator_of h d z w N i =
        numerators_add h d (added y z) y z adds w M N i in search sums;
    deviations_add = λ k l.
        let sums : deviation_of h d (added y z) k ≡ deviation_of h d y k +ℤ deviation_of h d z k = deviations_add h d (added y z) y z adds k l in search sums;
    value_bottoms = (refl, refl);
    deviation_bottoms = (refl, refl);
    squares_of_the_sum =
        let sums : sum (blocks h) (λ k. sq (deviation_of h d y k +ℤ deviation_of h d z k)) ≡ pos (vbeta h d * qOf h d (added y z)) =
        squares_of_sum h d (added y z) y z adds (job h d y w M e).measures.design (job h d y w M e).measures.even in
        search sums;
  }

-- ---- two days of one design and restraint set

-- the second day, by the first day's design and restraint set
second : (one two : Job) → OneDesign one two →
    record { head = one.head; initial = one.initial; readings = two.readings; set = one.set; sum = two.sum } ≡ two
second one two s = rw (sym s.head, sym s.initial, sym s.set) refl

-- in direct calls
pub days_added : (one two : Job) → SumsOfDays one two
days_added one two s e f g = subst (λ (j : Job). DaysAdd one j (together one two)) (second one two s)
    (days_add one.head one.initial one.readings two.readings one.set one.sum two.sum e
    (subst (λ (j : Job). verdict_of j ≡ accepted) (sym (second one two s)) f))

-- in three files
pub files_added : (one two both : List ℕ) → SumsOfFiles one two both
files_added one two both s sums e f g = subst (DaysAdd (job_in one) (job_in two)) (sym sums)
    (days_added (job_in one) (job_in two) s (file-job one e).1 (file-job two f).1
    (subst (λ (j : Job). verdict_of j ≡ accepted) sums (file-job both g).1))

-- ---- the deviations of an accepted job
module _ (j : Job) (e : verdict_of j ≡ accepted) where
  open j use {head as h, initial as d, readings as y, set as w, sum as M}

  -- its design, and its readings
  measures : Measured h d y
  measures = (job h d y w M e).measures

  pub deviations-added : DeviationsAdd j
  deviations-added = record {
    squares_add =
        let squares : sum (blocks h) (λ k. sq (deviation_of h d y k)) ≡ pos (vbeta h d * qOf h d y) =
        squares_add h d measures.design measures.even y in
        search squares;
    left_minus_right = λ i l.
        let sums : sum (blocks h) (λ k. sign h d k i *ℤ deviation_of h d y k) ≡ pos 0 =
        deviations_cancel h d measures.design measures.even y i l in
        search sums;
  }
