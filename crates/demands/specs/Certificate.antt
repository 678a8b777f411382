-- THE STANDARD UNCERTAINTY AND THE CERTIFICATE. Certificates state the standard uncertainty of each weight: the least whole number u of hundredths that is not
-- below 100 times the spread's exact standard deviation times the root of the variance factor, so that it is never understated; none where f is 0. The
-- certificate is one text for every file, of fixed width, and the figure below its standards is the accepted sum. Assumes nothing.
use Rattle.std.specs.Prelude.{None, List, ◌≡◌, ℕ, ◌-◌, ◌*◌, ◌≤◌, ◌<◌, pos, ◌*ℤ◌, length}
use Rattle.meaning.specs.Analysis.{member, restrained, vbeta, denominator_of, factor, qOf, freedom}
use Rattle.meaning.specs.Publishing.{published, float, Near}
use Rattle.meaning.specs.Refusals.{accepted, refused}
use Rattle.meaning.specs.Calls.{value_answer}
use Rattle.meaning.specs.File.{read_verdict}
use Rattle.meaning.specs.Text.{text_of}
use Rattle.meaning.specs.Edition2.{four_of, names_at, text_of2, read_verdict2}
use Rattle.meaning.specs.Certificate.{
  states,
  uncertainty_hundredths_of,
  uncertainty_of,
  uncertainty_answer,
  name_from,
  weight_line,
  certificate_text,
  certificate_of,
  certificate_of2,
}
use Rattle.demands.specs.Job.{Job, job_in, v, verdict_of}

module _ (j : Job) where
  open j use {head as h, initial as d, readings as y, set as w, sum as M}

  -- u of object i, in hundredths of a count
  abbrev pub u : ℕ → ℕ
  u i = uncertainty_hundredths_of h d y w i

  -- k·k·(t·v·beta)·(v·beta)·f, and what it is held against: 10,000·Q·(t-1 or t+1)
  abbrev pub reach : ℕ → ℕ
  reach k = k * k * (denominator_of h d w * vbeta h d * freedom h)

  abbrev pub asked : ℕ → ℕ
  asked i = 10000 * qOf h d y * factor h w i

  -- ---- what an accepted job keeps

  pub record StandardUncertainty : Type 0 where
    -- It is never understated: u·u·(t·v·beta)·(v·beta)·f is at least 10,000·Q·(t-1 or t+1),
    pub never_understated : (i : ℕ) → 0 < freedom h → asked i ≤ reach (u i)
    -- and it is the least: u is 0, or (u-1)·(u-1)·(t·v·beta)·(v·beta)·f is below
    pub least : (i : ℕ) → 0 < freedom h → 0 < u i → reach (u i - 1) < asked i
    -- There is none where f is 0,
    pub none : (i : ℕ) → freedom h ≡ 0 → uncertainty_of h d y w i ≡ None
    -- and u hundredths, with their f64, where it is not
    pub stated : (i : ℕ) → 0 < freedom h → uncertainty_of h d y w i ≡ states (u i) (float (pos (u i)) 100)
    pub near : (i : ℕ) → 0 < freedom h → Near 53 (float (pos (u i)) 100) (pos (u i)) 100
    -- The call hands it out for each object
    pub handed_out : (i : ℕ) → i < v j → (uncertainty_answer h d y w M i).uncertainty ≡ uncertainty_of h d y w i

  -- The call refuses as the call for the object's value does, and a refusal states nothing; of any job
  pub record UncertaintyRefused : Type 0 where
    pub as_the_value : (i : ℕ) → (uncertainty_answer h d y w M i).verdict ≡ (value_answer h d y w M i).verdict
    pub states_nothing : (i k at : ℕ) → (uncertainty_answer h d y w M i).verdict ≡ refused k at → (uncertainty_answer h d y w M i).uncertainty ≡ None

-- ---- for an accepted job: in a file, and in a direct call

abbrev pub StandardUncertaintyOf : List ℕ → Type 0
StandardUncertaintyOf s = read_verdict s ≡ accepted → StandardUncertainty (job_in s)

abbrev pub StandardUncertaintyCalls : Job → Type 0
StandardUncertaintyCalls j = (verdict_of j ≡ accepted → StandardUncertainty j) × UncertaintyRefused j

-- ---- the certificate of any byte string, read as a file of the first edition or of the second

-- the certificate of a job, with the name of each object
abbrev text_of_job : Job → (ℕ → List ℕ) → List ℕ
text_of_job j name = certificate_text j.head j.initial j.readings j.set j.sum name

-- the line of its object i
abbrev line_of : Job → (ℕ → List ℕ) → ℕ → List ℕ
line_of j name i = weight_line i (name i) (member j.set i) (published j.head j.initial j.readings j.set j.sum i)
    (uncertainty_of j.head j.initial j.readings j.set i)

-- the figure below the standards, their published hundredths added, is the one of 100·M
abbrev AddsUp : Job → Type 0
AddsUp j = restrained (v j) j.set (published j.head j.initial j.readings j.set j.sum) ≡ pos 100 *ℤ j.sum

pub record Certificates (s : List ℕ) : Type 0 where
  -- A file that is refused has the text that its listing is
  pub refused_as_listed : (k at : ℕ) → read_verdict s ≡ refused k at → certificate_of s ≡ text_of s
  pub refused_as_listed_second : (k at : ℕ) → read_verdict2 s ≡ refused k at → certificate_of2 s ≡ text_of2 s
  -- An accepted one has the certificate of its job: in the first edition without names, in the second with those that stand in the file, if any do
  pub certified : read_verdict s ≡ accepted → certificate_of s ≡ text_of_job (job_in s) (name_from s 0)
  pub certified-second : read_verdict2 s ≡ accepted → certificate_of2 s ≡ text_of_job (job_in (four_of s)) (name_from s (names_at s))
  -- The sum over the standards' column is M exactly
  pub adds_up_lem : read_verdict s ≡ accepted → AddsUp (job_in s)
  pub adds_up_second : read_verdict2 s ≡ accepted → AddsUp (job_in (four_of s))
  -- The columns stand: whatever its name, value and uncertainty are, the line of a weight has 95 characters and its end
  pub columns_stand : read_verdict s ≡ accepted → (i : ℕ) → i < v (job_in s) → length (line_of (job_in s) (name_from s 0) i) ≡ 96
  pub columns_stand_second : read_verdict2 s ≡ accepted → (i : ℕ) → i < v (job_in (four_of s)) →
      length (line_of (job_in (four_of s)) (name_from s (names_at s)) i) ≡ 96
  -- No certificate is longer than 8,192 bytes
  pub certificate_is_short : length (certificate_of s) ≤ 8192
  pub certificate_is_short_second : length (certificate_of2 s) ≤ 8192
