-- What the customer signs: the three demands, each for every byte string and for every direct call, and the requests on writing jobs, on fields, on the
-- second edition, on uncertainty, on sums of days, on grouped sets, on sheets of other laboratories, on practice readings, on the pooled spread, on cards and
-- on the faster balance check. Each is a record of specs/, with a field for each clause of the customer's sentence; here stand the proofs, by the laws of
-- the definitions.
--     demand_1, demand_1_calls       specs/Demand1, specs/Calls      refused by number, place and order, and nothing lent is changed
--     demand_2, demand_2_calls       specs/Demand2, specs/Answers    accepted exactly if balanced, and the paper's fractions
--     demand_3, demand_3_calls       specs/Demand3                   the exact values are best, and the published ones near
--     uncertainty_per_object         specs/Uncertainty               a variance factor is the sum of squared coefficients (02, P8)
--     standard_uncertainty, -calls   specs/Certificate               what a certificate states of a weight: never understated, and the least
--     certificates                   specs/Certificate               the certificate of every file, and that its standards add to M
--     writing_jobs, writing_files    specs/Writing                   each accepted job has exactly one file (02, P1)
--     designs_over_fields, the_fields    specs/Fields                what the addition of a field is, and what is refused (02, P4)
--     files_of_the_first_edition, files_of_the_second_edition    specs/Edition2    moved from one edition to the other (02, P7)
--     calls_on_the_second_edition, writing_the_second_edition    specs/SecondCalls    what the calls on such files hand back and leave (02, P7)
--     sums_of_days, sums_of_files    specs/Days                      the figures of two days add to those of their sum (02, P12)
--     sums_of_deviations, -in-files  specs/Days                      what the deviations of an accepted job add to (02, P12)
--     blocks_in_groups, grouped_sets    specs/Groups                  partial balance with respect to groups, and theorem 5.1 (02, P9)
--     sheets_of_parts, -of-files, -of-second-files    specs/Sheet    a sheet agrees exactly if every claim is right, and then keeps demand 3 (02, P10)
--     the_generator, practice_readings_lem    specs/Practice             readings from true values, and what they give back (02, P11)
--     pooled_spread, one_job_pooled, no_freedom_adds_nothing    specs/Pooled    one spread of up to 64 jobs, in any order (02, P13)
--     pooled_cut, pooled_refused, pooled_odd                    specs/Pooled    its refusals, with the index of a job (02, P13)
--     faster_balance_check           specs/Differences               the judgement by differences is the full pair table's (02, P14)
--     words_of_cards, comments_and_spacing                      specs/Cards     comments and spacing change nothing
--     cards_of_files, cards_of_second_files                     specs/Cards     the card that is printed for a file reads as that file
-- Assumes nothing.
use Rattle.std.proofs.Common.{Option}
use mathlib.Core.List.{List}
use mathlib.Core.Path.{refl, ap}
use Prim.Native.Nat.{ℕ}
use lib.IntN.{ℤ}
use lib.ListN.{length, drop}
use lib.Seq.{take_at, drop_at}
use Rattle.records.specs.declared.Head.{Head}
use Rattle.records.specs.declared.Spread.{Spread}
use Rattle.meaning.specs.File.{head_of, blocks_of, readings_of, set_of, sum_of, read_verdict, solve_verdict}
use Rattle.meaning.specs.Text.{text_under, text_of}
use Rattle.laws.proofs.Chains.{job}
use Rattle.laws.proofs.Files.{file-job, job-file}
use Rattle.laws.proofs.Cut.{longest_file, bench_text_lem}
use Rattle.laws.proofs.Enough.{text-length}
use Rattle.demands.specs.Job.{Job, job_in}
use Rattle.demands.specs.Demand1.{Demand1}
use Rattle.demands.specs.Calls.{Demand1Calls}
use Rattle.demands.specs.Demand2.{Demand2}
use Rattle.demands.specs.Answers.{Demand2Calls}
use Rattle.demands.specs.Demand3.{Demand3, Demand3Calls}
use Rattle.demands.specs.Fields.{OverFields, TheFields}
use Rattle.demands.specs.Uncertainty.{UncertaintyPerObject, UncertaintyPerObjectCalls}
use Rattle.demands.specs.Certificate.{StandardUncertaintyOf, StandardUncertaintyCalls, Certificates}
use Rattle.demands.specs.Writing.{WritingJobs, WritingFiles}
use Rattle.demands.specs.Edition2.{FirstEdition, SecondEdition}
use Rattle.demands.specs.SecondCalls.{SecondCalls, WritingSecond}
use Rattle.demands.specs.Sheet.{SheetOfParts, SheetOfFile, SheetOfSecond}
use Rattle.demands.specs.Days.{SumsOfDays, SumsOfFiles, SumsOfDeviations, SumsOfDeviationsIn}
use Rattle.demands.specs.Practice.{Generator, Practice, PracticeReadings}
use Rattle.demands.specs.Pooled.{PooledSpread, OneJobPooled, NothingAdded, PooledCut, PooledRefused, PooledOdd}
use Rattle.demands.specs.Cards.{WordsOfCards, CommentsAndSpacing, CardsOfFiles, CardsOfSecondFiles}
use Rattle.demands.proofs.Order.{file-order, rooms-last, reading-ends, solving-ends, keeps_position, fields-led}
use Rattle.demands.proofs.Calls.{refusing}
use Rattle.demands.proofs.Balance.{file_exactly, file-unbalanced, file_well_formed}
use Rattle.demands.proofs.Papers.{papers_fractions}
use Rattle.demands.proofs.Answers.{answering, three-written}
use Rattle.demands.proofs.Whole.{q_in_full}
use Rattle.demands.proofs.Published.{least-squares}
use Rattle.demands.proofs.Fields.{over-fields, listed-fields}
use Rattle.demands.proofs.Uncertainty.{uncertainty}
use Rattle.demands.proofs.Certificate as certifying
use Rattle.demands.proofs.Writing.{jobs_written, files_written}
use Rattle.demands.proofs.Edition2.{first-edition, second-edition}
use Rattle.demands.proofs.SecondCalls.{second_calls, second-written}
use Rattle.demands.specs.Groups.{AnyBlocks, FromBase}
use Rattle.demands.proofs.Groups.{any_blocks, from_base}
use Rattle.demands.proofs.Days.{days_added, files_added, deviations-added}
use Rattle.demands.proofs.Sheet.{sheet_of_parts, sheet_of_file, sheet_of_second}
use Rattle.demands.proofs.Practice.{generator, practice_read}
use Rattle.demands.proofs.Cards.{card-words, card_spacing, card_of_file, card_of_second}
use Rattle.demands.proofs.Pooled as pooling
use Rattle.demands.specs.Differences.{FasterCheck}
use Rattle.demands.proofs.Differences.{faster_check}
use Rattle.meaning.specs.Refusals.{Verdict}

pub demand_1 : (s : List ℕ) → Demand1 s
unfolding text_of
demand_1 s = record {
  reading-ends = reading-ends s;
  solving-ends = solving-ends s;
  reading-order = file-order s;
  solving-order = rooms-last s;
  listing_order = λ len. refl;
  solving-leaves = λ words values deviations. (
    λ k at e. rw e,
    λ k at e. rw e,
    λ k at e. rw e,
  );
  listing_leaves = λ out k at e. rw e;
  reading_hands_back = λ k at e. rw e;
  solving_hands_back = λ words values deviations k at e. rw e;
  listing_hands_back = λ len k at e. rw e;
  reader = keeps_position s;
  reader-led = fields-led s;
  refusal-printed = λ k at e. ap (λ (v : Verdict). text_under v s) e;
  no_job_is_longer = longest_file s;
  printed_of_the_first = bench_text_lem s;
  text_is_short = text-length s;
  listing_writes = λ out e. let rest = drop (length (text_of s)) out in
      rw e (take_at (text_of s) rest (length (text_of s)) refl, drop_at (text_of s) rest (length (text_of s)) refl);
  listing_hands_back_its_length = λ len e. rw e;
}

pub demand_1_calls : (j : Job) → Demand1Calls j
demand_1_calls = refusing

pub demand_2 : (s : List ℕ) → Demand2 s
unfolding text_of solve_verdict
demand_2 s = record {
  accepted_exactly = file_exactly s;
  unbalanced-refused = file-unbalanced s;
  accepted_well_formed = file_well_formed s;
  holds_a_job = (file-job s, λ (e, held). job-file s e held);
  papers_fractions = λ e. papers_fractions (job_in s) (file-job s e).1;
  solving_writes = three-written (read_verdict s) (job_in s);
  solving_hands_back = λ words values deviations e. rw e;
  reading_hands_back = λ e. rw e;
  printed = λ e. ap (λ (v : Verdict). text_under v s) e;
  Q_in_full = λ e. let h = head_of s in let d = blocks_of s in let y = readings_of s in
      q_in_full h d y (job h d y (set_of s) (sum_of s) (file-job s e).1).measures;
}

pub demand_2_calls : (j : Job) → Demand2Calls j
demand_2_calls = answering

pub demand_3 : (s : List ℕ) → Demand3 s
demand_3 s e = least-squares (job_in s) (file-job s e).1

pub demand_3_calls : (j : Job) → Demand3Calls j
demand_3_calls = least-squares

pub uncertainty_per_object : (s : List ℕ) → UncertaintyPerObject s
uncertainty_per_object s e = uncertainty (job_in s) (file-job s e).1

pub uncertainty_per_object_calls : (j : Job) → UncertaintyPerObjectCalls j
uncertainty_per_object_calls = uncertainty

pub standard_uncertainty : (s : List ℕ) → StandardUncertaintyOf s
standard_uncertainty s e = certifying.standard_uncertainty (job_in s) (file-job s e).1

pub standard_uncertainty_calls : (j : Job) → StandardUncertaintyCalls j
standard_uncertainty_calls j = (certifying.standard_uncertainty j, certifying.uncertainty_refused j)

pub certificates : (s : List ℕ) → Certificates s
certificates = certifying.certificates_of

pub writing_jobs : (j : Job) → WritingJobs j
writing_jobs = jobs_written

pub writing_files : (s : List ℕ) → WritingFiles s
writing_files = files_written

pub designs_over_fields : (h : Head) → OverFields h
designs_over_fields = over-fields

pub the_fields : TheFields
the_fields = listed-fields

pub files_of_the_first_edition : (s : List ℕ) → FirstEdition s
files_of_the_first_edition = first-edition

pub files_of_the_second_edition : (s : List ℕ) → SecondEdition s
files_of_the_second_edition = second-edition

pub calls_on_the_second_edition : (s : List ℕ) → SecondCalls s
calls_on_the_second_edition = second_calls

pub writing_the_second_edition : (j : Job) (names : List ℕ) → WritingSecond j names
writing_the_second_edition = second-written

pub sums_of_days : (one two : Job) → SumsOfDays one two
sums_of_days = days_added

pub sums_of_files : (one two both : List ℕ) → SumsOfFiles one two both
sums_of_files = files_added

pub sums_of_deviations : (j : Job) → SumsOfDeviations j
sums_of_deviations = deviations-added

pub sums_of_deviations_in_files : (s : List ℕ) → SumsOfDeviationsIn s
sums_of_deviations_in_files s e = deviations-added (job_in s) (file-job s e).1

pub sheets_of_parts : (j : Job) (claims : List ℤ) (claimed : Option Spread) → SheetOfParts j claims claimed
sheets_of_parts = sheet_of_parts

pub sheets_of_files : (s : List ℕ) (claims : List ℤ) (claimed : Option Spread) → SheetOfFile s claims claimed
sheets_of_files = sheet_of_file

pub sheets_of_second_files : (s : List ℕ) (claims : List ℤ) (claimed : Option Spread) → SheetOfSecond s claims claimed
sheets_of_second_files = sheet_of_second

pub the_generator : (start : ℕ) → Generator start
the_generator = generator

pub practice_readings_lem : (x : Practice) → PracticeReadings x
practice_readings_lem = practice_read

pub pooled_spread : (first : List ℕ) (rest : List (List ℕ)) → PooledSpread first rest
pooled_spread = pooling.pooled_spread

pub one_job_pooled : (s : List ℕ) → OneJobPooled s
one_job_pooled = pooling.one_job_pooled

pub no_freedom_adds_nothing : (s : List ℕ) → NothingAdded s
no_freedom_adds_nothing = pooling.nothing-added

pub pooled_cut : (bytes lengths : List ℕ) → PooledCut bytes lengths
pooled_cut = pooling.pooled_cut

pub pooled_refused : (before : List (List ℕ)) (s : List ℕ) (after : List (List ℕ)) → PooledRefused before s after
pooled_refused = pooling.pooled_refused

pub pooled_odd : (first : List ℕ) (before : List (List ℕ)) (s : List ℕ) (after : List (List ℕ)) → PooledOdd first before s after
pooled_odd = pooling.pooled_odd

pub blocks_in_groups : (count v p : ℕ) (d groups : List ℕ) → AnyBlocks count v p d groups
blocks_in_groups = any_blocks

pub grouped_sets : (h : Head) (d : List ℕ) (g : ℕ) → FromBase h d g
grouped_sets = from_base

pub words_of_cards : (s : List ℕ) → WordsOfCards s
words_of_cards = card-words

pub comments_and_spacing : (s t : List ℕ) → CommentsAndSpacing s t
comments_and_spacing = card_spacing

pub cards_of_files : (s : List ℕ) → CardsOfFiles s
cards_of_files = card_of_file

pub cards_of_second_files : (s : List ℕ) → CardsOfSecondFiles s
cards_of_second_files = card_of_second

pub faster_balance_check : (h : Head) (d : List ℕ) → FasterCheck h d
faster_balance_check = faster_check
