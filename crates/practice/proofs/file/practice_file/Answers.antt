-- Refused, nothing is written; else the file of the readings that were drawn.
use Rattle.std.proofs.Common.{◌≡◌, ℕ, List, Bool, true, false, ℤ, sym, refl, ◌∙◌, arith, lit<, length-take-le}
use Rattle.algebra.proofs.Numbers.{called}
use Rattle.records.specs.declared.Head.{Head}
use Rattle.meaning.specs.Design.{blocks}
use Rattle.meaning.specs.Refusals.{Verdict, accepted}
use Rattle.meaning.specs.Calls.{given}
use Rattle.meaning.specs.Practice.{practised, practice_verdict}
use Rattle.laws.proofs.Practice.{Practised, practised-is}
use Rattle.verdicts.proofs.Told.{refusing, accepting}
use Rattle.practice.specs.Drawn.{between}
use Rattle.practice.proofs.Drawing.{between-small, knows, true-sum}
use Rattle.practice.proofs.Answers.{practice_roomy, front_few, front_readings, file_unwritten, file-written}
use Rattle.practice.proofs.file.practice_file.Goals as goal

-- past the tests of practice
module _ (h : Head) (d : List ℕ) (u : List ℤ) (w : ℕ) {tested : Verdict} (e : tested ≡ practice_verdict h d u w 1300) {b : Bool}
    (f : b ≡ given tested false true) (g : b ≡ false) where
  passed : practised h d u w ≡ accepted
  passed = sym (practice_roomy _ _ _ _) ∙ sym e ∙ accepting _ (sym f ∙ g)

  stands : Practised h d u w
  stands = practised-is _ _ _ _ passed

pub returns-then-is_refused : goal.returns-then-is_refused
returns-then-is_refused c =
    let a = c.args in
    let none = file_unwritten a.head a.blocks.now a.truths.now a.start a.width a.set a.out.now _ _ _ c.practice-tested.ensures.value
    (refusing _ (sym c.is_refused.ensures ∙ c.if-is_refused.true)) in
    record { value = search none.0; out_after = search none.1 }

pub sum_between-sum-requires : goal.sum_between-sum-requires
sum_between-sum-requires c =
    let a = c.args in
    knows _ _ _ _ (stands a.head a.blocks.now a.truths.now a.width c.practice-tested.ensures.value c.is_refused.ensures c.if-is_refused.false)

pub overflow_mul-b : goal.overflow_mul-b
overflow_mul-b c =
    let a = c.args in
    let f = (stands a.head a.blocks.now a.truths.now a.width c.practice-tested.ensures.value c.is_refused.ensures c.if-is_refused.false).design.sizes in
    omega arith

pub slice_bounds-readings-end : goal.slice_bounds-readings-end
slice_bounds-readings-end c =
    let a = c.args in
    let passes = passed a.head a.blocks.now a.truths.now a.width c.practice-tested.ensures.value c.is_refused.ensures c.if-is_refused.false in
    front_few _ _ _ _ _ _ refl c.practice-tested.ensures.readings_after passes

pub slice_bounds-write-end : goal.slice_bounds-write-end
slice_bounds-write-end c =
    let a = c.args in
    let passes = passed a.head a.blocks.now a.truths.now a.width c.practice-tested.ensures.value c.is_refused.ensures c.if-is_refused.false in
    sym (length-take-le _ _ (front_few _ _ _ _ _ _ refl c.practice-tested.ensures.readings_after passes))

pub returns : goal.returns
returns c =
    let a = c.args in
    let passes = passed a.head a.blocks.now a.truths.now a.width c.practice-tested.ensures.value c.is_refused.ensures c.if-is_refused.false in
    let s = practised-is _ _ _ _ passes in
    let summed : c.sum_between-sum.result ≡ between a.truths.now a.set 0 = search c.sum_between-sum.ensures in
    let M = called c.sum_between-sum.result 150000 summed (between-small _ _ _ (knows _ _ _ _ s)) (lit< tt) in
    let written = file-written a.head a.blocks.now a.truths.now a.start a.width a.set a.out.now passes _ _
    (front_readings _ _ _ _ _ _ refl c.practice-tested.ensures.readings_after passes)
    (M.reads ∙ true-sum _ _ _ _ s a.set) c.write.ensures.value c.write.ensures.out_after in
    record { value = search written.0; out_after = search written.1 }
