-- DEMAND 2. A well-formed design within the sizes is accepted exactly if, developed, it is balanced as the paper defines it. Parameters, values and
-- deviations are the paper's whole-number fractions, the spread its standard deviation cut to hundredths, each f64 the one rounded quotient.
-- It speaks of jobs with at least two standards: what is well-formed has them (02, P5).
-- Here stand the files; direct calls stand in Answers, and what the words mean in Papers. Assumes nothing.
use Rattle.std.specs.Prelude.{List, [], ◌∷◌, ◌↔◌, ◌≡◌, ℕ, ◌+◌, ◌-◌, ◌*◌, ℤ}
use Rattle.meaning.specs.Design.{parameters_of}
use Rattle.meaning.specs.Analysis.{numerator_of, denominator_of, deviation_of, qOf}
use Rattle.meaning.specs.Refusals.{accepted, refused}
use Rattle.meaning.specs.Calls.{word_at, spreading_of, solved_under}
use Rattle.meaning.specs.File.{fields, blocks_at, readings_at, read_verdict, read_answer, solve_verdict}
use Rattle.meaning.specs.Text.{digits, wide_text, job_text, text_of}
use Rattle.demands.specs.Job.{job_in, v, b, verdict_of, IsBalanced}
use Rattle.demands.specs.Outcomes.{OnAcceptance, WritesOnly, solving, words_after, values_after, deviations_after}
use Rattle.demands.specs.Papers.{WellFormed, PapersFractions}

-- the number that n and decimal digits after it make, in ASCII
abbrev pub decimal_from : ℕ → List ℕ → ℕ
decimal_from n [] = n
decimal_from n (x ∷ xs) = decimal_from (10 * n + (x - 48)) xs

module _ (s : List ℕ) where
  open job_in s use {head as h, initial as d, readings as y, set as w, sum as M}

  pub record Demand2 : Type 0 where
    -- A well-formed design within the sizes is accepted exactly if, developed, it is balanced as the paper defines it
    pub accepted_exactly : WellFormed (fields s) (job_in s) → (read_verdict s ≡ accepted) ↔ IsBalanced (job_in s)
    -- (if it is not, it is refused by 6 at 0; and nothing that is not well-formed is accepted)
    pub unbalanced-refused : WellFormed (fields s) (job_in s) → (IsBalanced (job_in s) → ⊥) → read_verdict s ≡ refused 6 0
    pub accepted_well_formed : read_verdict s ≡ accepted → WellFormed (fields s) (job_in s)
    -- (a file is accepted exactly if its fields are in order and a direct call accepts the job that they hold)
    pub holds_a_job : (read_verdict s ≡ accepted) ↔ ((fields s ≡ accepted) × (verdict_of (job_in s) ≡ accepted))
    -- Parameters, values and deviations are the paper's whole-number fractions, the spread its standard deviation cut to hundredths, each f64 the one
    -- rounded quotient
    pub papers_fractions : read_verdict s ≡ accepted → PapersFractions (job_in s)
    -- They are what solving hands out: the words of the sides and the numerators of values and deviations in front of three rooms, the rest in its answer;
    pub solving_writes : (words : List ℕ) (values deviations : List ℤ) → solving s words values deviations ≡ accepted →
        WritesOnly words (words_after s words values deviations) 0 (2 * b (job_in s)) (word_at h d)
        × WritesOnly values (values_after s words values deviations) 0 (v (job_in s)) (numerator_of h d y w M)
        × WritesOnly deviations (deviations_after s words values deviations) 0 (b (job_in s)) (deviation_of h d y)
    pub solving_hands_back : (words values deviations : ℕ) → let verdict = solve_verdict s words values deviations in
        OnAcceptance verdict (solved_under verdict h d y w)
        (record { verdict = accepted; parameters = parameters_of h d; denominator = denominator_of h d w; spreading = spreading_of h d y })
    -- what reading hands out,
    pub reading_hands_back : OnAcceptance (read_verdict s) (read_answer s)
        (record { verdict = accepted; head = h; blocks_at = blocks_at; readings_at = readings_at s; set = w; sum = M })
    -- and what the program prints
    pub printed : read_verdict s ≡ accepted → text_of s ≡ job_text h d y w M
    -- (Q in full decimal: its digits, after a space, read back as Q)
    pub Q_in_full : read_verdict s ≡ accepted →
        (wide_text (spreading_of h d y).q ≡ 32 ∷ digits 39 (qOf h d y)) × (decimal_from 0 (digits 39 (qOf h d y)) ≡ qOf h d y)
