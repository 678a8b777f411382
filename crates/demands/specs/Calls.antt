-- DEMAND 1, call by call: of each direct call its refusals by number in their order, what a refusal leaves of each lent buffer, and what it hands back.
-- A call takes those parts of the job j that its definition names: the head h, the initial blocks d, the readings y, the restraint set w, its accepted
-- sum M. The number i of an object, an initial block or a reading is any number. `read`, `solve`, `listing` and the reader stand in Demand1, `write` in
-- Writing. Assumes nothing.
use Rattle.std.specs.Prelude.{List, ◌≡◌, true, ◌↔◌, ℕ, ◌*◌, ◌^◌, ◌≤◌, ◌<◌, ℤ, pos, nat_abs, length}
use Rattle.meaning.specs.Analysis.{reading}
use Rattle.meaning.specs.Refusals.{◌⨾◌}
use Rattle.meaning.specs.Publishing.{no_value}
use Rattle.meaning.specs.Wide.{wide_zero}
use Rattle.meaning.specs.Calls.{
  design_verdict,
  develop_verdict,
  words_under,
  initial_verdict,
  initial_words,
  no_table,
  company_table,
  opposition_table,
  no_parameters,
  judge_verdict,
  judged,
  total_verdict,
  total_answer,
  values_verdict,
  values_under,
  published_after,
  value_verdict,
  value_answer,
  readings_verdict,
  deviations_verdict,
  deviations_under,
  deviation_verdict,
  deviation_answer,
  squared_readings_verdict,
  squared_readings_answer,
  squared_totals_verdict,
  squared_totals_answer,
  qAnswer,
  no_spreading,
  spread_answer,
  analyse_verdict,
  solved_under,
}
use Rattle.demands.specs.Job.{Job, v, b, verdict_of}
use Rattle.demands.specs.Refusals.{restraint_fits, readings_fit, four, three_blocks, three_readings, five, five_for, six, seven, eleven, eight, ten}
use Rattle.demands.specs.Outcomes.{OnRefusal}

module _ (j : Job) where
  open j use {head as h, initial as d, readings as y, set as w, sum as M}

  pub record Demand1Calls : Type 0 where
    -- ---- a block list

    -- `develop`: all of its blocks
    pub development : (words : List ℕ) → let verdict = develop_verdict h d (length words) in
        (verdict ≡ four j ⨾ three_blocks j ⨾ five j ⨾ ten (length words) (2 * b j))
        × OnRefusal verdict (words_under verdict h d words) words
    -- `develop_initial`: the blocks of initial block i, with room asked for all
    pub initial-block : (i : ℕ) (words : List ℕ) → let verdict = initial_verdict h d i (length words) in
        (verdict ≡ four j ⨾ three_blocks j ⨾ five j ⨾ five_for i h.m ⨾ ten (length words) (2 * b j))
        × OnRefusal verdict (initial_words h d i words) words
    -- `company`, `opposition`: the pair tables, each handed back alone; `pairs_refusal`: their refusal
    pub pair_tables :
        (design_verdict h d ≡ four j ⨾ three_blocks j ⨾ five j)
        × OnRefusal (design_verdict h d) (company_table h d) no_table
        × OnRefusal (design_verdict h d) (opposition_table h d) no_table
    -- `judge`: its balance and parameters
    pub judgement :
        (judge_verdict h d ≡ four j ⨾ three_blocks j ⨾ five j ⨾ six j)
        × OnRefusal (judge_verdict h d) (judged h d) (record { verdict = judge_verdict h d; parameters = no_parameters })
    -- ---- readings

    -- `sum_of_squares`: of the readings
    pub squared-readings :
        (squared_readings_verdict h y ≡ four j ⨾ three_readings j ⨾ eight j)
        × OnRefusal (squared_readings_verdict h y) (squared_readings_answer h y) (record { verdict = squared_readings_verdict h y; sum = wide_zero })
    -- `sum_of_squared_totals`: balanced or not
    pub squared-totals :
        (squared_totals_verdict h d y ≡ four j ⨾ three_blocks j ⨾ three_readings j ⨾ five j ⨾ eight j)
        × OnRefusal (squared_totals_verdict h d y) (squared_totals_answer h d y) (record { verdict = squared_totals_verdict h d y; sum = wide_zero })
    -- `total`: of object i, balanced or not
    pub total_of : (i : ℕ) → let verdict = total_verdict h d y i in
        (verdict ≡ four j ⨾ three_blocks j ⨾ three_readings j ⨾ five j ⨾ five_for i (v j) ⨾ eight j)
        × OnRefusal verdict (total_answer h d y i) (record { verdict = verdict; total = pos 0 })
    -- `q`, `spread`
    pub Q_and_spread : let verdict = readings_verdict h d y in
        (verdict ≡ four j ⨾ three_blocks j ⨾ three_readings j ⨾ five j ⨾ six j ⨾ eight j)
        × OnRefusal verdict (qAnswer h d y) (record { verdict = verdict; sum = wide_zero })
        × OnRefusal verdict (spread_answer h d y) (record { verdict = verdict; spreading = no_spreading })
    -- `deviations`: the numerators of all
    pub deviations_of_all : (deviations : List ℤ) → let verdict = deviations_verdict h d y (length deviations) in
        (verdict ≡ four j ⨾ three_blocks j ⨾ three_readings j ⨾ five j ⨾ six j ⨾ eight j ⨾ ten (length deviations) (b j))
        × OnRefusal verdict (deviations_under verdict h d y deviations) deviations
    -- `deviation_of`: of block i
    pub deviation_of_lem : (i : ℕ) → let verdict = deviation_verdict h d y i in
        (verdict ≡ four j ⨾ three_blocks j ⨾ three_readings j ⨾ five j ⨾ five_for i (b j) ⨾ six j ⨾ eight j)
        × OnRefusal verdict (deviation_answer h d y i) (record { verdict = verdict; numerator = pos 0; denominator = 0 })
    -- ---- a whole job

    -- `refusal`: its verdict alone
    pub whole-job : verdict_of j ≡ four j ⨾ three_blocks j ⨾ three_readings j ⨾ five j ⨾ six j ⨾ seven j ⨾ eleven j ⨾ eight j
    -- (7 and 8 by the numbers of the range, both inclusive: the restraint fits exactly if its set is not empty and below 2 to the power v, and M is within
    -- ±1,000,000,000,000; the readings exactly if each is within ±200,000,000)
    pub restraint_range : (restraint_fits j ≡ true) ↔ ((0 < w) × (w < 2 ^ v j) × (nat_abs M ≤ 1000000000000))
    pub readings_range : (readings_fit j ≡ true) ↔ ((k : ℕ) → k < length y → nat_abs (reading y k) ≤ 200000000)
    -- `values`: the numerators of all
    pub values_of_all : (values : List ℤ) → let verdict = values_verdict h d y w M (length values) in
        (verdict ≡ four j ⨾ three_blocks j ⨾ three_readings j ⨾ five j ⨾ six j ⨾ seven j ⨾ eleven j ⨾ eight j ⨾ ten (length values) (v j))
        × OnRefusal verdict (values_under verdict h d y w M values) values
    -- `published`: the hundredths of all
    pub published_of_all : (hundredths : List ℤ) → let verdict = values_verdict h d y w M (length hundredths) in
        (verdict ≡ four j ⨾ three_blocks j ⨾ three_readings j ⨾ five j ⨾ six j ⨾ seven j ⨾ eleven j ⨾ eight j ⨾ ten (length hundredths) (v j))
        × OnRefusal verdict (published_after h d y w M hundredths) hundredths
    -- `value_of`: of object i; the number of a missing one comes after the other 5 and before 6
    pub value_of_lem : (i : ℕ) → let verdict = value_verdict h d y w M i in
        (verdict ≡ four j ⨾ three_blocks j ⨾ three_readings j ⨾ five j ⨾ five_for i (v j) ⨾ six j ⨾ seven j ⨾ eleven j ⨾ eight j)
        × OnRefusal verdict (value_answer h d y w M i) (record { verdict = verdict; value = no_value })
    -- `analyse`: everything at once, into three rooms
    pub analysis : (words : List ℕ) (values deviations : List ℤ) → let verdict = analyse_verdict h d y w M (length words) (length values) (length deviations) in
        (verdict ≡ four j ⨾ three_blocks j ⨾ three_readings j ⨾ five j ⨾ six j ⨾ seven j ⨾ eleven j ⨾ eight j
        ⨾ ten (length words) (2 * b j) ⨾ ten (length values) (v j) ⨾ ten (length deviations) (b j))
        × OnRefusal verdict (words_under verdict h d words) words
        × OnRefusal verdict (values_under verdict h d y w M values) values
        × OnRefusal verdict (deviations_under verdict h d y deviations) deviations
        × OnRefusal verdict (solved_under verdict h d y w) (record { verdict = verdict; parameters = no_parameters; denominator = 0; spreading = no_spreading })
