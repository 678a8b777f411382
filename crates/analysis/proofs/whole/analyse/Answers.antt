-- `analyse`: each way out is its verdict, by the tests that led there; what was worked out stands under it.
use Rattle.std.proofs.Common.{◌≡◌, ℕ, ◌*◌, ◌≤◌, true, false, List, ℤ, length, sym, ap, ◌∙◌, to_z-of_z}
use Rattle.algebra.specs.Buffers.{over}
use Rattle.records.specs.declared.Head.{Head}
use Rattle.records.specs.declared.Judged.{Judged}
use Rattle.meaning.specs.Design.{objects, blocks, parameters_of}
use Rattle.meaning.specs.Refusals.{Verdict, accepted, refused, number, place}
use Rattle.meaning.specs.Calls.{given, word_at, no_parameters, job_verdict, analysed, rooms, develop_after}
use Rattle.laws.proofs.Chains.{given_yes, given_no, job}
use Rattle.verdicts.proofs.Told.{refusing, accepting}
use Rattle.weighing.proofs.Developing.{laid}
use Rattle.judging.specs.Judgement.{job_judged}
use Rattle.analysis.proofs.whole.Rooms.{analyse_refused, analyse_rooms, enough, developed-words}
use Rattle.analysis.proofs.Accepting.{Developed, workable, record_is, values_are, deviations_are, no_solution_is}
use Rattle.analysis.proofs.whole.analyse.Goals as goal

module _ (h : Head) (d : List ℕ) (y : List ℤ) (w : ℕ) (M : ℤ) {judged : Judged} (j : judged ≡ job_judged h d y w M) where
  -- the tests of the job, as they were told
  tested : judged.verdict ≡ job_verdict h d y w M
  tested = ap (λ (r : Judged). r.verdict) j

  module _ (words : List ℕ) (values deviations : List ℤ) where
    abbrev verdict : Verdict
    verdict = analysed h d y w M words values deviations

    abbrev roomy : Verdict
    roomy = rooms h (length words) (length values) (length deviations)

    -- where they refuse, so does the call
    refuses : given judged.verdict false true ≡ true → verdict ≡ refused (number judged.verdict) (place judged.verdict)
    refuses r = analyse_refused _ _ _ _ _ _ _ _ _ _ (sym tested ∙ refusing _ r)

    -- past them the rooms decide
    module _ (passes : judged.verdict ≡ accepted) where
      passed : job_verdict h d y w M ≡ accepted
      passed = sym tested ∙ passes

      decide : verdict ≡ roomy
      decide = analyse_rooms _ _ _ _ _ _ _ _ passed

      -- past these too, once the words are developed
      module _ (accepts : roomy ≡ accepted) {after : List ℕ} (e : after ≡ develop_after h d words) where
        stands : (2 * blocks h ≤ length words) × (objects h ≤ length values) × (blocks h ≤ length deviations)
        stands = enough h _ _ _ accepts

        all : verdict ≡ accepted
        all = decide ∙ accepts

        words_are : after ≡ over (2 * blocks h) (word_at h d) words
        words_are = developed-words _ _ _ _ _ _ passed stands.0 e

        developed : Developed h d y w M judged.parameters after
        developed = record {
          stands = passed;
          parameters_are = ap (λ (r : Judged). r.parameters) j
              ∙ given_yes (job_verdict h d y w M) (parameters_of h d) no_parameters passed;
          lay = laid h d words after (job _ _ _ _ _ passed).measures.design stands.0 words_are;
        }

pub returns-then-is_refused : goal.returns-then-is_refused
returns-then-is_refused c =
    let a = c.args in
    let j = rw (to_z-of_z c.ranges.sum) at c.judged_job-judged.ensures in
    let r = sym c.is_refused.ensures ∙ c.if-is_refused.true in
    let v = verdict a.head a.blocks.now a.readings.now a.set a.sum j a.words.now a.values.now a.deviations.now in
    let e = refuses a.head a.blocks.now a.readings.now a.set a.sum j a.words.now a.values.now a.deviations.now r in
    record {
      value = c.no_solution.ensures ∙ no_solution_is _ v a.head a.blocks.now a.readings.now a.set _ _ (refusing _ r ∙ sym e) e;
      words_after = sym (given_no v _ _ _ _ e);
      values_after = sym (given_no v _ _ _ _ e);
      deviations_after = sym (given_no v _ _ _ _ e);
    }

pub rooms_refusal-roomy-requires : goal.rooms_refusal-roomy-requires
rooms_refusal-roomy-requires c =
    let a = c.args in
    let j = rw (to_z-of_z c.ranges.sum) at c.judged_job-judged.ensures in
    let passes = accepting _ (sym c.is_refused.ensures ∙ c.if-is_refused.false) in
    (job _ _ _ _ _ (passed a.head a.blocks.now a.readings.now a.set a.sum j a.words.now a.values.now a.deviations.now passes)).measures.design.sizes

pub returns-then-is_refused-2 : goal.returns-then-is_refused-2
returns-then-is_refused-2 c =
    let a = c.args in
    let j = rw (to_z-of_z c.ranges.sum) at c.judged_job-judged.ensures in
    let passes = accepting _ (sym c.is_refused.ensures ∙ c.if-is_refused.false) in
    let r = refusing _ (sym c.is_refused-2.ensures ∙ c.if-is_refused-2.true) in
    let v = verdict a.head a.blocks.now a.readings.now a.set a.sum j a.words.now a.values.now a.deviations.now in
    let e = decide a.head a.blocks.now a.readings.now a.set a.sum j a.words.now a.values.now a.deviations.now passes
    ∙ sym c.rooms_refusal-roomy.ensures ∙ r in
    record {
      value = c.no_solution-then-is_refused-2.ensures ∙ no_solution_is _ v a.head a.blocks.now a.readings.now a.set _ _ (r ∙ sym e) e;
      words_after = sym (given_no v _ _ _ _ e);
      values_after = sym (given_no v _ _ _ _ e);
      deviations_after = sym (given_no v _ _ _ _ e);
    }

pub work-requires : goal.work-requires
work-requires c =
    let a = c.args in
    let j = rw (to_z-of_z c.ranges.sum) at c.judged_job-judged.ensures in
    let passes = accepting _ (sym c.is_refused.ensures ∙ c.if-is_refused.false) in
    let accepts = sym c.rooms_refusal-roomy.ensures ∙ accepting _ (sym c.is_refused-2.ensures ∙ c.if-is_refused-2.false) in
    let s = stands a.head a.blocks.now a.readings.now a.set a.sum j a.words.now a.values.now a.deviations.now passes accepts c.develop.ensures.words_after in
    let k = developed a.head a.blocks.now a.readings.now a.set a.sum j a.words.now a.values.now a.deviations.now passes accepts
    c.develop.ensures.words_after in
    record { workable = rw (to_z-of_z c.ranges.sum) (workable k); head_in_bounds = (s.1, s.2) }

pub returns : goal.returns
returns c =
    let a = c.args in
    let j = rw (to_z-of_z c.ranges.sum) at c.judged_job-judged.ensures in
    let passes = accepting _ (sym c.is_refused.ensures ∙ c.if-is_refused.false) in
    let accepts = sym c.rooms_refusal-roomy.ensures ∙ accepting _ (sym c.is_refused-2.ensures ∙ c.if-is_refused-2.false) in
    let v = verdict a.head a.blocks.now a.readings.now a.set a.sum j a.words.now a.values.now a.deviations.now in
    let e = all a.head a.blocks.now a.readings.now a.set a.sum j a.words.now a.values.now a.deviations.now passes accepts c.develop.ensures.words_after in
    let k = developed a.head a.blocks.now a.readings.now a.set a.sum j a.words.now a.values.now a.deviations.now passes accepts
    c.develop.ensures.words_after in
    record {
      value = c.work.ensures.value ∙ record_is k v e;
      words_after = words_are a.head a.blocks.now a.readings.now a.set a.sum j a.words.now a.values.now a.deviations.now passes accepts
          c.develop.ensures.words_after ∙ sym (given_yes v _ _ e);
      values_after = (rw (to_z-of_z c.ranges.sum) at c.work.ensures.values_after) ∙ values_are k _ ∙ sym (given_yes v _ _ e);
      deviations_after = c.work.ensures.deviations_after ∙ deviations_are k _ ∙ sym (given_yes v _ _ e);
    }
