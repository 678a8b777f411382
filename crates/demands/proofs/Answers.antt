-- What the direct calls write and hand back where they accept: each definition under an accepting verdict. Assumes nothing.
use mathlib.Core.Path.{◌≡◌}
use mathlib.Core.List.{List}
use Prim.Native.Nat.{ℕ, ◌+◌, ◌*◌, ◌≤◌, ◌<◌}
use native.Mathlib.Nat.{mul_assoc, mul_comm, mul-suc, mul-le-mul_left}
use native.Mathlib.Omega.{arith}
use borrow.Author.Tests.{leb-true, ltb-true}
use lib.Dec.{leb, ltb}
use lib.IntN.{ℤ}
use lib.ListN.{length}
use Rattle.records.specs.declared.Head.{Head}
use Rattle.meaning.specs.Design.{objects, blocks}
use Rattle.meaning.specs.Analysis.{numerator_of, deviation_of}
use Rattle.meaning.specs.Refusals.{Verdict, accepted, ◌⨾◌}
use Rattle.meaning.specs.Calls.{
  written,
  word_at,
  design_verdict,
  develop_verdict,
  words_under,
  initial_verdict,
  initial_words,
  values_verdict,
  values_under,
  readings_verdict,
  deviations_verdict,
  deviations_under,
  rooms,
  analyse_verdict,
}
use Rattle.laws.proofs.Chains.{opened, held}
use Rattle.demands.specs.Job.{Job, v, b, verdict_of}
use Rattle.demands.specs.Refusals.{five_for, ten}
use Rattle.demands.specs.Outcomes.{WritesOnly}
use Rattle.demands.specs.Answers.{Demand2Calls}
use Rattle.demands.proofs.Whole.{squared_readings_whole, squared_totals_whole, q_whole}
use Rattle.demands.proofs.Outcomes.{writes_front, writes_part}
use Rattle.demands.proofs.Balance.{design_exactly, design-unbalanced, job_exactly, job-unbalanced, job_well_formed, no_restraint}
use Rattle.demands.proofs.Papers.{developed, judged, papers_parameters, papers_fractions}

-- a room that is asked for is there: one, one after other tests, and three after other tests
is_there : (len want : ℕ) → ten len want ≡ accepted → want ≤ len
is_there len want e = leb-true want len (held (leb want len) 10 0 e)

last-room : (a : Verdict) (len want : ℕ) → a ⨾ ten len want ≡ accepted → want ≤ len
last-room a len want e = is_there len want (opened a (ten len want) e).1

three-rooms : (a : Verdict) (h : Head) (words values deviations : ℕ) → a ⨾ rooms h words values deviations ≡ accepted →
    (2 * blocks h ≤ words) × (objects h ≤ values) × (blocks h ≤ deviations)
unfolding rooms
three-rooms a h words values deviations e =
    let all = (opened a (ten words (2 * blocks h) ⨾ ten values (objects h) ⨾ ten deviations (blocks h)) e).1 in
    let last = opened (ten words (2 * blocks h) ⨾ ten values (objects h)) (ten deviations (blocks h)) all in
    let two = opened (ten words (2 * blocks h)) (ten values (objects h)) last.0 in
    (is_there words (2 * blocks h) two.0, is_there values (objects h) two.1, is_there deviations (blocks h) last.1)

-- the front of a room, under an accepting verdict
writes_under : {A : Type 0} (verdict : Verdict) (c : ℕ) (f : ℕ → A) (before : List A) → verdict ≡ accepted → c ≤ length before →
    WritesOnly before (written verdict c f before) 0 c f
writes_under verdict c f before e l = rw e (writes_front c f before l)

-- so with the three rooms of a job, after any tests
pub three-written : (a : Verdict) (j : Job) (words : List ℕ) (values deviations : List ℤ) →
    let verdict = a ⨾ rooms j.head (length words) (length values) (length deviations) in verdict ≡ accepted →
    WritesOnly words (words_under verdict j.head j.initial words) 0 (2 * b j) (word_at j.head j.initial)
    × WritesOnly values (values_under verdict j.head j.initial j.readings j.set j.sum values) 0 (v j)
    (numerator_of j.head j.initial j.readings j.set j.sum)
    × WritesOnly deviations (deviations_under verdict j.head j.initial j.readings deviations) 0 (b j) (deviation_of j.head j.initial j.readings)
three-written a j words values deviations e =
    let (x, y, z) = three-rooms a j.head (length words) (length values) (length deviations) e in
    (writes_under _ (2 * b j) _ words e x, writes_under _ (v j) _ values e y, writes_under _ (b j) _ deviations e z)

-- the 2n words of initial block i lie among those of all m
part_fits : (n m i len : ℕ) → i < m → 2 * (m * n) ≤ len → 2 * n * i + 2 * n ≤ len
part_fits n m i len l enough = omega (arith, mul_assoc 2 n i, mul_comm m n, mul-suc n i, mul-le-mul_left n l)

module _ (j : Job) where
  open j use {head as h, initial as d, readings as y, set as w, sum as M}

  -- one initial block
  own-part : (i : ℕ) (words : List ℕ) → initial_verdict h d i (length words) ≡ accepted →
      WritesOnly words (initial_words h d i words) (2 * h.n * i) (2 * h.n) (word_at h d)
  unfolding initial_verdict
  own-part i words e =
      let a = opened (design_verdict h d ⨾ five_for i h.m) (ten (length words) (2 * b j)) e in
      let exists = ltb-true i h.m (held (ltb i h.m) 5 i (opened (design_verdict h d) (five_for i h.m) a.0).1) in
      let inside = part_fits h.n h.m i (length words) exists (last-room (design_verdict h d ⨾ five_for i h.m) (length words) (2 * b j) e) in
      rw e (writes_part (2 * h.n * i) (2 * h.n) (word_at h d) words inside)

  pub answering : Demand2Calls j
  unfolding develop_verdict values_verdict deviations_verdict analyse_verdict
  answering = record {
    design_accepted_exactly = design_exactly j;
    design_unbalanced_refused = design-unbalanced j;
    job_accepted_exactly = job_exactly j;
    job_unbalanced_refused = job-unbalanced j;
    accepted_well_formed = job_well_formed j;
    accepted_has_a_design = judged j;
    no_restraint_needed = no_restraint j;
    developed = developed j;
    papers_parameters = papers_parameters j;
    papers_fractions = papers_fractions j;
    development = λ words e. writes_under _ (2 * b j) _ words e (last-room (design_verdict h d) (length words) (2 * b j) e);
    initial-block = own-part;
    judgement = λ e. rw e;
    squared-readings = λ e. rw e;
    squared-totals = λ e. rw e;
    squared_readings_whole = squared_readings_whole h d y;
    squared_totals_whole = squared_totals_whole h d y;
    total_of = λ i e. rw e;
    Q_of = λ e. rw e;
    Q_whole = q_whole h d y;
    spread_of_lem = λ e. rw e;
    deviations_of_all = λ deviations e. writes_under _ (b j) _ deviations e (last-room (readings_verdict h d y) (length deviations) (b j) e);
    deviation_of_lem = λ i e. rw e;
    values_of_all = λ values e. writes_under _ (v j) _ values e (last-room (verdict_of j) (length values) (v j) e);
    published_of_all = λ hundredths e. writes_under _ (v j) _ hundredths e (last-room (verdict_of j) (length hundredths) (v j) e);
    value_of_lem = λ i e. rw e;
    analysis = λ words values deviations e. let (x, y, z) = three-written (verdict_of j) j words values deviations e in (x, y, z, rw e);
  }
