-- SUMS OF DAYS (02, P12). We repeat a job on two days and add the readings. For one design and restraint set, if both days and their sum are accepted,
-- numerators of values and deviations for the summed readings with M added are the sums of the days' numerators. Also, the squared deviation numerators add
-- to v·beta·Q, and the deviations, taken left minus right, total 0 for every object. Published hundredths are not claimed to add.
-- Nothing new runs. `numerator_of`, `denominator_of`, `deviation_of`, `vbeta` and `qOf` are what the calls hand out (Demand2, Answers) and the listing prints,
-- so the numerators on two listings, added line by line, are those on the listing of the sum. Assumes nothing.
use Rattle.std.specs.Prelude.{List, [], ◌∷◌, ◌≡◌, ℕ, ◌*◌, ◌<◌, ℤ, pos, ◌+ℤ◌, ◌-ℤ◌, ◌*ℤ◌}
use Rattle.algebra.specs.Ranges.{sum}
use Rattle.meaning.specs.Design.{occ, left, right}
use Rattle.meaning.specs.Analysis.{sq, vbeta, numerator_of, denominator_of, deviation_of, qOf}
use Rattle.meaning.specs.Refusals.{accepted}
use Rattle.meaning.specs.File.{read_verdict}
use Rattle.demands.specs.Job.{Job, job_in, v, b, verdict_of}

-- ---- two days and their sum

-- the readings of two days, added block by block
abbrev pub added : List ℤ → List ℤ → List ℤ
added [] zs = []
added (y ∷ ys) [] = []
added (y ∷ ys) (z ∷ zs) = (y +ℤ z) ∷ added ys zs

-- two days have one design and restraint set
pub record OneDesign (one two : Job) : Type 0 where
  pub head : two.head ≡ one.head
  pub initial : two.initial ≡ one.initial
  pub set : two.set ≡ one.set

-- their sum: the job of the summed readings, with M added
abbrev pub together : Job → Job → Job
together one two = record {
  head = one.head;
  initial = one.initial;
  readings = added one.readings two.readings;
  set = one.set;
  sum = one.sum +ℤ two.sum;
}

module _ (j : Job) where
  open j use {head as h, initial as d, readings as y, set as w, sum as M}

  -- a job's numerators: of the value of object i, and of the deviation of block k
  abbrev pub value_top : ℕ → ℤ
  value_top = numerator_of h d y w M

  abbrev pub deviation_top : ℕ → ℤ
  deviation_top = deviation_of h d y

  -- their denominators
  abbrev pub value_bottom : ℕ
  value_bottom = denominator_of h d w

  abbrev pub deviation_bottom : ℕ
  deviation_bottom = vbeta h d

  -- its Q
  abbrev pub Q : ℕ
  Q = qOf h d y

pub record DaysAdd (one two both : Job) : Type 0 where
  -- Numerators of values
  pub values_add : (i : ℕ) → i < v both → value_top both i ≡ value_top one i +ℤ value_top two i
  -- and deviations for the summed readings with M added are the sums of the days' numerators
  pub deviations_add : (k : ℕ) → k < b both → deviation_top both k ≡ deviation_top one k +ℤ deviation_top two k
  -- (over the same denominators)
  pub value_bottoms : (value_bottom both ≡ value_bottom one) × (value_bottom both ≡ value_bottom two)
  pub deviation_bottoms : (deviation_bottom both ≡ deviation_bottom one) × (deviation_bottom both ≡ deviation_bottom two)
  -- (Q does not add: the sum's own Q is had from the days' deviations, first added, then squared)
  pub squares_of_the_sum : sum (b both) (λ k. sq (deviation_top one k +ℤ deviation_top two k)) ≡ pos (deviation_bottom both * Q both)

-- For one design and restraint set, if both days and their sum are accepted: in direct calls, and in three files
abbrev pub SumsOfDays : Job → Job → Type 0
SumsOfDays one two =
    OneDesign one two → verdict_of one ≡ accepted → verdict_of two ≡ accepted → verdict_of (together one two) ≡ accepted → DaysAdd one two (together one two)

abbrev pub SumsOfFiles : List ℕ → List ℕ → List ℕ → Type 0
SumsOfFiles one two both =
    OneDesign (job_in one) (job_in two) → job_in both ≡ together (job_in one) (job_in two) →
    read_verdict one ≡ accepted → read_verdict two ≡ accepted → read_verdict both ≡ accepted → DaysAdd (job_in one) (job_in two) (job_in both)

-- ---- the deviations of any accepted job, a day's or a sum's

module _ (j : Job) where
  open j use {head as h, initial as d}

  pub record DeviationsAdd : Type 0 where
    -- The squared deviation numerators add to v·beta·Q,
    pub squares_add : sum (b j) (λ k. sq (deviation_top j k)) ≡ pos (vbeta h d * Q j)
    -- and the deviations, taken left minus right, total 0 for every object: those of the blocks with it on the left, less those with it on the right
    pub left_minus_right : (i : ℕ) → i < v j → sum (b j) (λ k. (pos (occ i (left h d k)) -ℤ pos (occ i (right h d k))) *ℤ deviation_top j k) ≡ pos 0

-- for an accepted job: in a direct call, and in a file
abbrev pub SumsOfDeviations : Job → Type 0
SumsOfDeviations j = verdict_of j ≡ accepted → DeviationsAdd j

abbrev pub SumsOfDeviationsIn : List ℕ → Type 0
SumsOfDeviationsIn s = read_verdict s ≡ accepted → DeviationsAdd (job_in s)
