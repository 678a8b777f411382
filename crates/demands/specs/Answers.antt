-- DEMAND 2, call by call: when a design and a whole job are accepted, what an accepting call writes into each lent room, and what it hands back.
-- A call takes those parts of the job j that its definition names: the head h, the initial blocks d, the readings y, the restraint set w, its accepted
-- sum M. Assumes nothing.
use Rattle.std.specs.Prelude.{true, List, ◌↔◌, ◌≡◌, ℕ, ◌*◌, ℤ, nat_abs, length}
use Rattle.meaning.specs.Design.{parameters_of}
use Rattle.meaning.specs.Analysis.{
  total,
  vbeta,
  numerator_of,
  denominator_of,
  deviation_of,
  squared_readings,
  squared_totals,
  qOf,
  freedom,
  spread_hundredths_of,
}
use Rattle.meaning.specs.Publishing.{published, spread_of, value_of}
use Rattle.meaning.specs.Refusals.{accepted, refused, ◌⨾◌}
use Rattle.meaning.specs.Wide.{value, wide}
use Rattle.meaning.specs.Calls.{
  word_at,
  design_verdict,
  develop_verdict,
  words_under,
  initial_verdict,
  initial_words,
  judge_verdict,
  judged,
  total_verdict,
  total_answer,
  values_verdict,
  values_under,
  published_after,
  value_verdict,
  value_answer,
  readings_verdict,
  deviations_verdict,
  deviations_under,
  deviation_verdict,
  deviation_answer,
  squared_readings_verdict,
  squared_readings_answer,
  squared_totals_verdict,
  squared_totals_answer,
  qAnswer,
  spread_answer,
  analyse_verdict,
  spreading_of,
  solved_under,
}
use Rattle.demands.specs.Job.{Job, v, b, verdict_of, IsBalanced}
use Rattle.demands.specs.Refusals.{four, three_blocks, three_readings, restraint_fits, two_standards}
use Rattle.demands.specs.Outcomes.{OnAcceptance, WritesOnly}
use Rattle.demands.specs.Papers.{WellFormed, Developed, PapersParameters, PapersFractions}

module _ (j : Job) where
  open j use {head as h, initial as d, readings as y, set as w, sum as M}

  -- a whole job that a direct call takes is well-formed
  abbrev pub WellFormedJob : Type 0
  WellFormedJob = WellFormed (four j ⨾ three_blocks j ⨾ three_readings j) j

  pub record Demand2Calls : Type 0 where
    -- A well-formed design within the sizes is accepted exactly if, developed, it is balanced as the paper defines it: a block list alone,
    pub design_accepted_exactly : design_verdict h d ≡ accepted → (judge_verdict h d ≡ accepted) ↔ IsBalanced j
    pub design_unbalanced_refused : design_verdict h d ≡ accepted → (IsBalanced j → ⊥) → judge_verdict h d ≡ refused 6 0
    -- and a whole job; nothing that is not well-formed is accepted
    pub job_accepted_exactly : WellFormedJob → (verdict_of j ≡ accepted) ↔ IsBalanced j
    pub job_unbalanced_refused : WellFormedJob → (IsBalanced j → ⊥) → verdict_of j ≡ refused 6 0
    pub accepted_well_formed : verdict_of j ≡ accepted → WellFormedJob
    pub accepted_has_a_design : verdict_of j ≡ accepted → judge_verdict h d ≡ accepted
    -- (deviations, Q and spread take no restraint: theirs is the verdict of the job with any restraint that fits)
    pub no_restraint_needed : restraint_fits j ≡ true → two_standards j ≡ true → readings_verdict h d y ≡ verdict_of j
    -- Parameters, values and deviations are the paper's whole-number fractions, the spread its standard deviation cut to hundredths, each f64 the one
    -- rounded quotient
    pub developed : design_verdict h d ≡ accepted → Developed j
    pub papers_parameters : judge_verdict h d ≡ accepted → PapersParameters j
    pub papers_fractions : verdict_of j ≡ accepted → PapersFractions j
    -- ---- They are what the calls hand out: a block list

    -- `develop`; and `develop_initial`, which of initial block i writes its own 2n words only, those of the whole development
    pub development : (words : List ℕ) → let verdict = develop_verdict h d (length words) in
        verdict ≡ accepted → WritesOnly words (words_under verdict h d words) 0 (2 * b j) (word_at h d)
    pub initial-block : (i : ℕ) (words : List ℕ) → initial_verdict h d i (length words) ≡ accepted →
        WritesOnly words (initial_words h d i words) (2 * h.n * i) (2 * h.n) (word_at h d)
    -- `judge` (`company` and `opposition`: the tables of `Developed`)
    pub judgement : OnAcceptance (judge_verdict h d) (judged h d) (record { verdict = accepted; parameters = parameters_of h d })
    -- ---- readings

    -- `sum_of_squares`, `sum_of_squared_totals`
    pub squared-readings : OnAcceptance (squared_readings_verdict h y) (squared_readings_answer h y)
        (record { verdict = accepted; sum = wide (nat_abs (squared_readings h y)) })
    pub squared-totals : OnAcceptance (squared_totals_verdict h d y) (squared_totals_answer h d y)
        (record { verdict = accepted; sum = wide (nat_abs (squared_totals h d y)) })
    -- their two words are the very sums, which no word is lost from; so are those of Q below
    pub squared_readings_whole : squared_readings_verdict h y ≡ accepted → value (squared_readings_answer h y).sum ≡ nat_abs (squared_readings h y)
    pub squared_totals_whole : squared_totals_verdict h d y ≡ accepted → value (squared_totals_answer h d y).sum ≡ nat_abs (squared_totals h d y)
    -- `total`: of object i
    pub total_of : (i : ℕ) → OnAcceptance (total_verdict h d y i) (total_answer h d y i) (record { verdict = accepted; total = total h d y i })
    -- `q`; and `spread`, with all that it is made from
    pub Q_of : OnAcceptance (readings_verdict h d y) (qAnswer h d y) (record { verdict = accepted; sum = wide (qOf h d y) })
    pub Q_whole : readings_verdict h d y ≡ accepted → (value (qAnswer h d y).sum ≡ qOf h d y) × (value (spread_answer h d y).spreading.q ≡ qOf h d y)
    pub spread_of_lem : let k = spread_hundredths_of h d y in OnAcceptance (readings_verdict h d y) (spread_answer h d y) (record {
      verdict = accepted;
      spreading = record { q = wide (qOf h d y); vbeta = vbeta h d; freedom = freedom h; hundredths = k; spread = spread_of k (freedom h) };
    })
    -- `deviations`: the numerators of all; `deviation_of`: of block i
    pub deviations_of_all : (deviations : List ℤ) → let verdict = deviations_verdict h d y (length deviations) in
        verdict ≡ accepted → WritesOnly deviations (deviations_under verdict h d y deviations) 0 (b j) (deviation_of h d y)
    pub deviation_of_lem : (i : ℕ) → OnAcceptance (deviation_verdict h d y i) (deviation_answer h d y i)
        (record { verdict = accepted; numerator = deviation_of h d y i; denominator = vbeta h d })
    -- ---- a whole job

    -- `values`: the numerators of all; `published`: the hundredths of all; `value_of`: of object i
    pub values_of_all : (values : List ℤ) → let verdict = values_verdict h d y w M (length values) in
        verdict ≡ accepted → WritesOnly values (values_under verdict h d y w M values) 0 (v j) (numerator_of h d y w M)
    pub published_of_all : (hundredths : List ℤ) → values_verdict h d y w M (length hundredths) ≡ accepted →
        WritesOnly hundredths (published_after h d y w M hundredths) 0 (v j) (published h d y w M)
    pub value_of_lem : (i : ℕ) →
        OnAcceptance (value_verdict h d y w M i) (value_answer h d y w M i) (record { verdict = accepted; value = value_of h d y w M i })
    -- `analyse`: everything at once, into three rooms
    pub analysis : (words : List ℕ) (values deviations : List ℤ) → let verdict = analyse_verdict h d y w M (length words) (length values) (length deviations) in
        verdict ≡ accepted →
        WritesOnly words (words_under verdict h d words) 0 (2 * b j) (word_at h d)
        × WritesOnly values (values_under verdict h d y w M values) 0 (v j) (numerator_of h d y w M)
        × WritesOnly deviations (deviations_under verdict h d y deviations) 0 (b j) (deviation_of h d y)
        × (solved_under verdict h d y w
        ≡ record { verdict = accepted; parameters = parameters_of h d; denominator = denominator_of h d w; spreading = spreading_of h d y })
