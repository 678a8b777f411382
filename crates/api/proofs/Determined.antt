-- Any two outcomes that keep the promise of a public function are identical: the answer and what each lent buffer holds at the end. `Post` is the
-- contract itself, as the check reads it from the source: where a clause of it is dropped or weakened, the theorem fails. Assumes nothing.
-- (tools/determined.py writes this file.)
use mathlib.Core.Path.{◌≡◌, sym, ◌∙◌}
use contract.Lifetimes.{Lfts}
use borrow.Fn.World.{ArgsD, ResD}
use borrow.Fn.Kinds.{ended_of}
use denote.Triple.Clauses.{AtExit}
use Rattle.api.specs.contracts.card_texts.bench_card as bench-card
use Rattle.api.proofs.card_texts.bench_card.Kinds as bench-card-kinds
use Rattle.api.proofs.card_texts.bench_card.Reads as bench-card-reads
use Rattle.api.specs.contracts.card_texts.bench_card_second as bench-card-second
use Rattle.api.proofs.card_texts.bench_card_second.Kinds as bench-card-second-kinds
use Rattle.api.proofs.card_texts.bench_card_second.Reads as bench-card-second-reads
use Rattle.api.specs.contracts.certificates.bench_certificate as bench-certificate
use Rattle.api.proofs.certificates.bench_certificate.Kinds as bench-certificate-kinds
use Rattle.api.proofs.certificates.bench_certificate.Reads as bench-certificate-reads
use Rattle.api.specs.contracts.certificates.bench_certificate_second as bench-certificate-second
use Rattle.api.proofs.certificates.bench_certificate_second.Kinds as bench-certificate-second-kinds
use Rattle.api.proofs.certificates.bench_certificate_second.Reads as bench-certificate-second-reads
use Rattle.api.specs.contracts.checked_sheets.bench_check_parts as bench-check-parts
use Rattle.api.proofs.checked_sheets.bench_check_parts.Kinds as bench-check-parts-kinds
use Rattle.api.proofs.checked_sheets.bench_check_parts.Reads as bench-check-parts-reads
use Rattle.api.specs.contracts.checked_sheets.bench_check_file as bench-check-file
use Rattle.api.proofs.checked_sheets.bench_check_file.Kinds as bench-check-file-kinds
use Rattle.api.proofs.checked_sheets.bench_check_file.Reads as bench-check-file-reads
use Rattle.api.specs.contracts.checked_sheets.bench_check_second as bench-check-second
use Rattle.api.proofs.checked_sheets.bench_check_second.Kinds as bench-check-second-kinds
use Rattle.api.proofs.checked_sheets.bench_check_second.Reads as bench-check-second-reads
use Rattle.api.specs.contracts.designs.bench_pairs_refusal as bench-pairs-refusal
use Rattle.api.proofs.designs.bench_pairs_refusal.Kinds as bench-pairs-refusal-kinds
use Rattle.api.proofs.designs.bench_pairs_refusal.Reads as bench-pairs-refusal-reads
use Rattle.api.specs.contracts.designs.bench_develop as bench-develop
use Rattle.api.proofs.designs.bench_develop.Kinds as bench-develop-kinds
use Rattle.api.proofs.designs.bench_develop.Reads as bench-develop-reads
use Rattle.api.specs.contracts.designs.bench_develop_initial as bench-develop-initial
use Rattle.api.proofs.designs.bench_develop_initial.Kinds as bench-develop-initial-kinds
use Rattle.api.proofs.designs.bench_develop_initial.Reads as bench-develop-initial-reads
use Rattle.api.specs.contracts.designs.bench_company as bench-company
use Rattle.api.proofs.designs.bench_company.Kinds as bench-company-kinds
use Rattle.api.proofs.designs.bench_company.Reads as bench-company-reads
use Rattle.api.specs.contracts.designs.bench_opposition as bench-opposition
use Rattle.api.proofs.designs.bench_opposition.Kinds as bench-opposition-kinds
use Rattle.api.proofs.designs.bench_opposition.Reads as bench-opposition-reads
use Rattle.api.specs.contracts.designs.bench_judge as bench-judge
use Rattle.api.proofs.designs.bench_judge.Kinds as bench-judge-kinds
use Rattle.api.proofs.designs.bench_judge.Reads as bench-judge-reads
use Rattle.api.specs.contracts.designs.bench_judge_by_differences as bench-judge-by-differences
use Rattle.api.proofs.designs.bench_judge_by_differences.Kinds as bench-judge-by-differences-kinds
use Rattle.api.proofs.designs.bench_judge_by_differences.Reads as bench-judge-by-differences-reads
use Rattle.api.specs.contracts.deviations.bench_deviations as bench-deviations
use Rattle.api.proofs.deviations.bench_deviations.Kinds as bench-deviations-kinds
use Rattle.api.proofs.deviations.bench_deviations.Reads as bench-deviations-reads
use Rattle.api.specs.contracts.deviations.bench_deviation_of as bench-deviation-of
use Rattle.api.proofs.deviations.bench_deviation_of.Kinds as bench-deviation-of-kinds
use Rattle.api.proofs.deviations.bench_deviation_of.Reads as bench-deviation-of-reads
use Rattle.api.specs.contracts.deviations.bench_q as bench-q
use Rattle.api.proofs.deviations.bench_q.Kinds as bench-q-kinds
use Rattle.api.proofs.deviations.bench_q.Reads as bench-q-reads
use Rattle.api.specs.contracts.deviations.bench_spread as bench-spread
use Rattle.api.proofs.deviations.bench_spread.Kinds as bench-spread-kinds
use Rattle.api.proofs.deviations.bench_spread.Reads as bench-spread-reads
use Rattle.api.specs.contracts.files.bench_field_at as bench-field-at
use Rattle.api.proofs.files.bench_field_at.Kinds as bench-field-at-kinds
use Rattle.api.proofs.files.bench_field_at.Reads as bench-field-at-reads
use Rattle.api.specs.contracts.files.bench_read as bench-read
use Rattle.api.proofs.files.bench_read.Kinds as bench-read-kinds
use Rattle.api.proofs.files.bench_read.Reads as bench-read-reads
use Rattle.api.specs.contracts.files.bench_solve as bench-solve
use Rattle.api.proofs.files.bench_solve.Kinds as bench-solve-kinds
use Rattle.api.proofs.files.bench_solve.Reads as bench-solve-reads
use Rattle.api.specs.contracts.files.bench_write as bench-write
use Rattle.api.proofs.files.bench_write.Kinds as bench-write-kinds
use Rattle.api.proofs.files.bench_write.Reads as bench-write-reads
use Rattle.api.specs.contracts.files.bench_listing as bench-listing
use Rattle.api.proofs.files.bench_listing.Kinds as bench-listing-kinds
use Rattle.api.proofs.files.bench_listing.Reads as bench-listing-reads
use Rattle.api.specs.contracts.grouped_sets.bench_grouped as bench-grouped
use Rattle.api.proofs.grouped_sets.bench_grouped.Kinds as bench-grouped-kinds
use Rattle.api.proofs.grouped_sets.bench_grouped.Reads as bench-grouped-reads
use Rattle.api.specs.contracts.grouped_sets.bench_group_base as bench-group-base
use Rattle.api.proofs.grouped_sets.bench_group_base.Kinds as bench-group-base-kinds
use Rattle.api.proofs.grouped_sets.bench_group_base.Reads as bench-group-base-reads
use Rattle.api.specs.contracts.jobs.bench_refusal as bench-refusal
use Rattle.api.proofs.jobs.bench_refusal.Kinds as bench-refusal-kinds
use Rattle.api.proofs.jobs.bench_refusal.Reads as bench-refusal-reads
use Rattle.api.specs.contracts.jobs.bench_values as bench-values
use Rattle.api.proofs.jobs.bench_values.Kinds as bench-values-kinds
use Rattle.api.proofs.jobs.bench_values.Reads as bench-values-reads
use Rattle.api.specs.contracts.jobs.bench_value_of as bench-value-of
use Rattle.api.proofs.jobs.bench_value_of.Kinds as bench-value-of-kinds
use Rattle.api.proofs.jobs.bench_value_of.Reads as bench-value-of-reads
use Rattle.api.specs.contracts.jobs.bench_uncertainty_of as bench-uncertainty-of
use Rattle.api.proofs.jobs.bench_uncertainty_of.Kinds as bench-uncertainty-of-kinds
use Rattle.api.proofs.jobs.bench_uncertainty_of.Reads as bench-uncertainty-of-reads
use Rattle.api.specs.contracts.jobs.bench_published as bench-published
use Rattle.api.proofs.jobs.bench_published.Kinds as bench-published-kinds
use Rattle.api.proofs.jobs.bench_published.Reads as bench-published-reads
use Rattle.api.specs.contracts.jobs.bench_analyse as bench-analyse
use Rattle.api.proofs.jobs.bench_analyse.Kinds as bench-analyse-kinds
use Rattle.api.proofs.jobs.bench_analyse.Reads as bench-analyse-reads
use Rattle.api.specs.contracts.pools.bench_pool as bench-pool
use Rattle.api.proofs.pools.bench_pool.Kinds as bench-pool-kinds
use Rattle.api.proofs.pools.bench_pool.Reads as bench-pool-reads
use Rattle.api.specs.contracts.practising.bench_practice as bench-practice
use Rattle.api.proofs.practising.bench_practice.Kinds as bench-practice-kinds
use Rattle.api.proofs.practising.bench_practice.Reads as bench-practice-reads
use Rattle.api.specs.contracts.practising.bench_practice_file as bench-practice-file
use Rattle.api.proofs.practising.bench_practice_file.Kinds as bench-practice-file-kinds
use Rattle.api.proofs.practising.bench_practice_file.Reads as bench-practice-file-reads
use Rattle.api.specs.contracts.second.bench_read_second as bench-read-second
use Rattle.api.proofs.second.bench_read_second.Kinds as bench-read-second-kinds
use Rattle.api.proofs.second.bench_read_second.Reads as bench-read-second-reads
use Rattle.api.specs.contracts.second.bench_solve_second as bench-solve-second
use Rattle.api.proofs.second.bench_solve_second.Kinds as bench-solve-second-kinds
use Rattle.api.proofs.second.bench_solve_second.Reads as bench-solve-second-reads
use Rattle.api.specs.contracts.second.bench_write_second as bench-write-second
use Rattle.api.proofs.second.bench_write_second.Kinds as bench-write-second-kinds
use Rattle.api.proofs.second.bench_write_second.Reads as bench-write-second-reads
use Rattle.api.specs.contracts.second.bench_to_second as bench-to-second
use Rattle.api.proofs.second.bench_to_second.Kinds as bench-to-second-kinds
use Rattle.api.proofs.second.bench_to_second.Reads as bench-to-second-reads
use Rattle.api.specs.contracts.second.bench_to_first as bench-to-first
use Rattle.api.proofs.second.bench_to_first.Kinds as bench-to-first-kinds
use Rattle.api.proofs.second.bench_to_first.Reads as bench-to-first-reads
use Rattle.api.specs.contracts.second.bench_listing_second as bench-listing-second
use Rattle.api.proofs.second.bench_listing_second.Kinds as bench-listing-second-kinds
use Rattle.api.proofs.second.bench_listing_second.Reads as bench-listing-second-reads
use Rattle.api.specs.contracts.totals.bench_total as bench-total
use Rattle.api.proofs.totals.bench_total.Kinds as bench-total-kinds
use Rattle.api.proofs.totals.bench_total.Reads as bench-total-reads
use Rattle.api.specs.contracts.totals.bench_sum_of_squares as bench-sum-of-squares
use Rattle.api.proofs.totals.bench_sum_of_squares.Kinds as bench-sum-of-squares-kinds
use Rattle.api.proofs.totals.bench_sum_of_squares.Reads as bench-sum-of-squares-reads
use Rattle.api.specs.contracts.totals.bench_sum_of_squared_totals as bench-sum-of-squared-totals
use Rattle.api.proofs.totals.bench_sum_of_squared_totals.Kinds as bench-sum-of-squared-totals-kinds
use Rattle.api.proofs.totals.bench_sum_of_squared_totals.Reads as bench-sum-of-squared-totals-reads

-- `bench_card`: the answer, `out`, `answer`
module _ (κs : Lfts 3) (a : ArgsD bench-card.signature κs) (r q : ResD bench-card.signature κs)
    (s t : AtExit (ended_of 3 bench-card-kinds.ps bench-card-kinds.r) κs) where
  pub bench_card_determined : bench-card-reads.Post κs a r s → bench-card-reads.Post κs a q t →
      (r ≡ q)
      × (s.1.0.now ≡ t.1.0.now)
      × (s.1.1.0.now ≡ t.1.1.0.now)
  bench_card_determined p e = (p.0 ∙ sym e.0, p.1.0 ∙ sym e.1.0, p.1.1 ∙ sym e.1.1)

-- `bench_card_second`: the answer, `out`, `answer`
module _ (κs : Lfts 3) (a : ArgsD bench-card-second.signature κs) (r q : ResD bench-card-second.signature κs)
    (s t : AtExit (ended_of 3 bench-card-second-kinds.ps bench-card-second-kinds.r) κs) where
  pub bench_card_second_determined : bench-card-second-reads.Post κs a r s → bench-card-second-reads.Post κs a q t →
      (r ≡ q)
      × (s.1.0.now ≡ t.1.0.now)
      × (s.1.1.0.now ≡ t.1.1.0.now)
  bench_card_second_determined p e = (p.0 ∙ sym e.0, p.1.0 ∙ sym e.1.0, p.1.1 ∙ sym e.1.1)

-- `bench_certificate`: the answer, `out`, `answer`
module _ (κs : Lfts 3) (a : ArgsD bench-certificate.signature κs) (r q : ResD bench-certificate.signature κs)
    (s t : AtExit (ended_of 3 bench-certificate-kinds.ps bench-certificate-kinds.r) κs) where
  pub bench_certificate_determined : bench-certificate-reads.Post κs a r s → bench-certificate-reads.Post κs a q t →
      (r ≡ q)
      × (s.1.0.now ≡ t.1.0.now)
      × (s.1.1.0.now ≡ t.1.1.0.now)
  bench_certificate_determined p e = (p.0 ∙ sym e.0, p.1.0 ∙ sym e.1.0, p.1.1 ∙ sym e.1.1)

-- `bench_certificate_second`: the answer, `out`, `answer`
module _ (κs : Lfts 3) (a : ArgsD bench-certificate-second.signature κs) (r q : ResD bench-certificate-second.signature κs)
    (s t : AtExit (ended_of 3 bench-certificate-second-kinds.ps bench-certificate-second-kinds.r) κs) where
  pub bench_certificate_second_determined : bench-certificate-second-reads.Post κs a r s → bench-certificate-second-reads.Post κs a q t →
      (r ≡ q)
      × (s.1.0.now ≡ t.1.0.now)
      × (s.1.1.0.now ≡ t.1.1.0.now)
  bench_certificate_second_determined p e = (p.0 ∙ sym e.0, p.1.0 ∙ sym e.1.0, p.1.1 ∙ sym e.1.1)

-- `bench_check_parts`: the answer, `answer`
module _ (κs : Lfts 4) (a : ArgsD bench-check-parts.signature κs) (r q : ResD bench-check-parts.signature κs)
    (s t : AtExit (ended_of 4 bench-check-parts-kinds.ps bench-check-parts-kinds.r) κs) where
  pub bench_check_parts_determined : bench-check-parts-reads.Post κs a r s → bench-check-parts-reads.Post κs a q t →
      (r ≡ q)
      × (s.1.1.1.1.1.1.1.1.1.1.1.1.0.now ≡ t.1.1.1.1.1.1.1.1.1.1.1.1.0.now)
  bench_check_parts_determined p e = (p.0 ∙ sym e.0, p.1 ∙ sym e.1)

-- `bench_check_file`: the answer, `answer`
module _ (κs : Lfts 3) (a : ArgsD bench-check-file.signature κs) (r q : ResD bench-check-file.signature κs)
    (s t : AtExit (ended_of 3 bench-check-file-kinds.ps bench-check-file-kinds.r) κs) where
  pub bench_check_file_determined : bench-check-file-reads.Post κs a r s → bench-check-file-reads.Post κs a q t →
      (r ≡ q)
      × (s.1.1.1.1.1.0.now ≡ t.1.1.1.1.1.0.now)
  bench_check_file_determined p e = (p.0 ∙ sym e.0, p.1 ∙ sym e.1)

-- `bench_check_second`: the answer, `answer`
module _ (κs : Lfts 3) (a : ArgsD bench-check-second.signature κs) (r q : ResD bench-check-second.signature κs)
    (s t : AtExit (ended_of 3 bench-check-second-kinds.ps bench-check-second-kinds.r) κs) where
  pub bench_check_second_determined : bench-check-second-reads.Post κs a r s → bench-check-second-reads.Post κs a q t →
      (r ≡ q)
      × (s.1.1.1.1.1.0.now ≡ t.1.1.1.1.1.0.now)
  bench_check_second_determined p e = (p.0 ∙ sym e.0, p.1 ∙ sym e.1)

-- `bench_pairs_refusal`: the answer
module _ (κs : Lfts 1) (a : ArgsD bench-pairs-refusal.signature κs) (r q : ResD bench-pairs-refusal.signature κs)
    (s t : AtExit (ended_of 1 bench-pairs-refusal-kinds.ps bench-pairs-refusal-kinds.r) κs) where
  pub bench_pairs_refusal_determined : bench-pairs-refusal-reads.Post κs a r s → bench-pairs-refusal-reads.Post κs a q t →
      r ≡ q
  bench_pairs_refusal_determined p e = p ∙ sym e

-- `bench_develop`: the answer, `words`
module _ (κs : Lfts 2) (a : ArgsD bench-develop.signature κs) (r q : ResD bench-develop.signature κs)
    (s t : AtExit (ended_of 2 bench-develop-kinds.ps bench-develop-kinds.r) κs) where
  pub bench_develop_determined : bench-develop-reads.Post κs a r s → bench-develop-reads.Post κs a q t →
      (r ≡ q)
      × (s.1.1.1.1.1.0.now ≡ t.1.1.1.1.1.0.now)
  bench_develop_determined p e = (p.0 ∙ sym e.0, p.1 ∙ sym e.1)

-- `bench_develop_initial`: the answer, `words`
module _ (κs : Lfts 2) (a : ArgsD bench-develop-initial.signature κs) (r q : ResD bench-develop-initial.signature κs)
    (s t : AtExit (ended_of 2 bench-develop-initial-kinds.ps bench-develop-initial-kinds.r) κs) where
  pub bench_develop_initial_determined : bench-develop-initial-reads.Post κs a r s → bench-develop-initial-reads.Post κs a q t →
      (r ≡ q)
      × (s.1.1.1.1.1.1.0.now ≡ t.1.1.1.1.1.1.0.now)
  bench_develop_initial_determined p e = (p.0 ∙ sym e.0, p.1 ∙ sym e.1)

-- `bench_company`: the answer, `table`
module _ (κs : Lfts 2) (a : ArgsD bench-company.signature κs) (r q : ResD bench-company.signature κs)
    (s t : AtExit (ended_of 2 bench-company-kinds.ps bench-company-kinds.r) κs) where
  pub bench_company_determined : bench-company-reads.Post κs a r s → bench-company-reads.Post κs a q t →
      (r ≡ q)
      × (s.1.1.1.1.1.0.now ≡ t.1.1.1.1.1.0.now)
  bench_company_determined p e = (p.0 ∙ sym e.0, p.1 ∙ sym e.1)

-- `bench_opposition`: the answer, `table`
module _ (κs : Lfts 2) (a : ArgsD bench-opposition.signature κs) (r q : ResD bench-opposition.signature κs)
    (s t : AtExit (ended_of 2 bench-opposition-kinds.ps bench-opposition-kinds.r) κs) where
  pub bench_opposition_determined : bench-opposition-reads.Post κs a r s → bench-opposition-reads.Post κs a q t →
      (r ≡ q)
      × (s.1.1.1.1.1.0.now ≡ t.1.1.1.1.1.0.now)
  bench_opposition_determined p e = (p.0 ∙ sym e.0, p.1 ∙ sym e.1)

-- `bench_judge`: the answer, `answer`
module _ (κs : Lfts 2) (a : ArgsD bench-judge.signature κs) (r q : ResD bench-judge.signature κs)
    (s t : AtExit (ended_of 2 bench-judge-kinds.ps bench-judge-kinds.r) κs) where
  pub bench_judge_determined : bench-judge-reads.Post κs a r s → bench-judge-reads.Post κs a q t →
      (r ≡ q)
      × (s.1.1.1.1.1.0.now ≡ t.1.1.1.1.1.0.now)
  bench_judge_determined p e = (p.0 ∙ sym e.0, p.1 ∙ sym e.1)

-- `bench_judge_by_differences`: the answer, `answer`
module _ (κs : Lfts 2) (a : ArgsD bench-judge-by-differences.signature κs) (r q : ResD bench-judge-by-differences.signature κs)
    (s t : AtExit (ended_of 2 bench-judge-by-differences-kinds.ps bench-judge-by-differences-kinds.r) κs) where
  pub bench_judge_by_differences_determined : bench-judge-by-differences-reads.Post κs a r s → bench-judge-by-differences-reads.Post κs a q t →
      (r ≡ q)
      × (s.1.1.1.1.1.0.now ≡ t.1.1.1.1.1.0.now)
  bench_judge_by_differences_determined p e = (p.0 ∙ sym e.0, p.1 ∙ sym e.1)

-- `bench_deviations`: the answer, `deviations`
module _ (κs : Lfts 3) (a : ArgsD bench-deviations.signature κs) (r q : ResD bench-deviations.signature κs)
    (s t : AtExit (ended_of 3 bench-deviations-kinds.ps bench-deviations-kinds.r) κs) where
  pub bench_deviations_determined : bench-deviations-reads.Post κs a r s → bench-deviations-reads.Post κs a q t →
      (r ≡ q)
      × (s.1.1.1.1.1.1.0.now ≡ t.1.1.1.1.1.1.0.now)
  bench_deviations_determined p e = (p.0 ∙ sym e.0, p.1 ∙ sym e.1)

-- `bench_deviation_of`: the answer, `signed`, `answer`
module _ (κs : Lfts 4) (a : ArgsD bench-deviation-of.signature κs) (r q : ResD bench-deviation-of.signature κs)
    (s t : AtExit (ended_of 4 bench-deviation-of-kinds.ps bench-deviation-of-kinds.r) κs) where
  pub bench_deviation_of_determined : bench-deviation-of-reads.Post κs a r s → bench-deviation-of-reads.Post κs a q t →
      (r ≡ q)
      × (s.1.1.1.1.1.1.1.0.now ≡ t.1.1.1.1.1.1.1.0.now)
      × (s.1.1.1.1.1.1.1.1.0.now ≡ t.1.1.1.1.1.1.1.1.0.now)
  bench_deviation_of_determined p e = (p.0 ∙ sym e.0, p.1.0 ∙ sym e.1.0, p.1.1 ∙ sym e.1.1)

-- `bench_q`: the answer, `answer`
module _ (κs : Lfts 3) (a : ArgsD bench-q.signature κs) (r q : ResD bench-q.signature κs)
    (s t : AtExit (ended_of 3 bench-q-kinds.ps bench-q-kinds.r) κs) where
  pub bench_q_determined : bench-q-reads.Post κs a r s → bench-q-reads.Post κs a q t →
      (r ≡ q)
      × (s.1.1.1.1.1.1.0.now ≡ t.1.1.1.1.1.1.0.now)
  bench_q_determined p e = (p.0 ∙ sym e.0, p.1 ∙ sym e.1)

-- `bench_spread`: the answer, `answer`, `real`
module _ (κs : Lfts 4) (a : ArgsD bench-spread.signature κs) (r q : ResD bench-spread.signature κs)
    (s t : AtExit (ended_of 4 bench-spread-kinds.ps bench-spread-kinds.r) κs) where
  pub bench_spread_determined : bench-spread-reads.Post κs a r s → bench-spread-reads.Post κs a q t →
      (r ≡ q)
      × (s.1.1.1.1.1.1.0.now ≡ t.1.1.1.1.1.1.0.now)
      × (s.1.1.1.1.1.1.1.0.now ≡ t.1.1.1.1.1.1.1.0.now)
  bench_spread_determined p e = (p.0 ∙ sym e.0, p.1.0 ∙ sym e.1.0, p.1.1 ∙ sym e.1.1)

-- `bench_field_at`: the answer, `answer`
module _ (κs : Lfts 2) (a : ArgsD bench-field-at.signature κs) (r q : ResD bench-field-at.signature κs)
    (s t : AtExit (ended_of 2 bench-field-at-kinds.ps bench-field-at-kinds.r) κs) where
  pub bench_field_at_determined : bench-field-at-reads.Post κs a r s → bench-field-at-reads.Post κs a q t →
      (r ≡ q)
      × (s.1.1.1.1.0.now ≡ t.1.1.1.1.0.now)
  bench_field_at_determined p e = (p.0 ∙ sym e.0, p.1 ∙ sym e.1)

-- `bench_read`: the answer, `signed`, `answer`
module _ (κs : Lfts 3) (a : ArgsD bench-read.signature κs) (r q : ResD bench-read.signature κs)
    (s t : AtExit (ended_of 3 bench-read-kinds.ps bench-read-kinds.r) κs) where
  pub bench_read_determined : bench-read-reads.Post κs a r s → bench-read-reads.Post κs a q t →
      (r ≡ q)
      × (s.1.0.now ≡ t.1.0.now)
      × (s.1.1.0.now ≡ t.1.1.0.now)
  bench_read_determined p e = (p.0 ∙ sym e.0, p.1.0 ∙ sym e.1.0, p.1.1 ∙ sym e.1.1)

-- `bench_solve`: the answer, `words`, `values`, `deviations`, `answer`, `real`
module _ (κs : Lfts 6) (a : ArgsD bench-solve.signature κs) (r q : ResD bench-solve.signature κs)
    (s t : AtExit (ended_of 6 bench-solve-kinds.ps bench-solve-kinds.r) κs) where
  pub bench_solve_determined : bench-solve-reads.Post κs a r s → bench-solve-reads.Post κs a q t →
      (r ≡ q)
      × (s.1.0.now ≡ t.1.0.now)
      × (s.1.1.0.now ≡ t.1.1.0.now)
      × (s.1.1.1.0.now ≡ t.1.1.1.0.now)
      × (s.1.1.1.1.0.now ≡ t.1.1.1.1.0.now)
      × (s.1.1.1.1.1.0.now ≡ t.1.1.1.1.1.0.now)
  bench_solve_determined p e = (
    p.0 ∙ sym e.0,
    p.1.0 ∙ sym e.1.0,
    p.1.1.0 ∙ sym e.1.1.0,
    p.1.1.1.0 ∙ sym e.1.1.1.0,
    p.1.1.1.1.0 ∙ sym e.1.1.1.1.0,
    p.1.1.1.1.1 ∙ sym e.1.1.1.1.1,
  )

-- `bench_write`: the answer, `out`, `answer`
module _ (κs : Lfts 4) (a : ArgsD bench-write.signature κs) (r q : ResD bench-write.signature κs)
    (s t : AtExit (ended_of 4 bench-write-kinds.ps bench-write-kinds.r) κs) where
  pub bench_write_determined : bench-write-reads.Post κs a r s → bench-write-reads.Post κs a q t →
      (r ≡ q)
      × (s.1.1.1.1.1.1.1.1.0.now ≡ t.1.1.1.1.1.1.1.1.0.now)
      × (s.1.1.1.1.1.1.1.1.1.0.now ≡ t.1.1.1.1.1.1.1.1.1.0.now)
  bench_write_determined p e = (p.0 ∙ sym e.0, p.1.0 ∙ sym e.1.0, p.1.1 ∙ sym e.1.1)

-- `bench_listing`: the answer, `out`, `answer`
module _ (κs : Lfts 3) (a : ArgsD bench-listing.signature κs) (r q : ResD bench-listing.signature κs)
    (s t : AtExit (ended_of 3 bench-listing-kinds.ps bench-listing-kinds.r) κs) where
  pub bench_listing_determined : bench-listing-reads.Post κs a r s → bench-listing-reads.Post κs a q t →
      (r ≡ q)
      × (s.1.0.now ≡ t.1.0.now)
      × (s.1.1.0.now ≡ t.1.1.0.now)
  bench_listing_determined p e = (p.0 ∙ sym e.0, p.1.0 ∙ sym e.1.0, p.1.1 ∙ sym e.1.1)

-- `bench_grouped`: the answer, `answer`
module _ (κs : Lfts 3) (a : ArgsD bench-grouped.signature κs) (r q : ResD bench-grouped.signature κs)
    (s t : AtExit (ended_of 3 bench-grouped-kinds.ps bench-grouped-kinds.r) κs) where
  pub bench_grouped_determined : bench-grouped-reads.Post κs a r s → bench-grouped-reads.Post κs a q t →
      (r ≡ q)
      × (s.1.1.1.1.1.0.now ≡ t.1.1.1.1.1.0.now)
  bench_grouped_determined p e = (p.0 ∙ sym e.0, p.1 ∙ sym e.1)

-- `bench_group_base`: the answer, `words`, `answer`
module _ (κs : Lfts 3) (a : ArgsD bench-group-base.signature κs) (r q : ResD bench-group-base.signature κs)
    (s t : AtExit (ended_of 3 bench-group-base-kinds.ps bench-group-base-kinds.r) κs) where
  pub bench_group_base_determined : bench-group-base-reads.Post κs a r s → bench-group-base-reads.Post κs a q t →
      (r ≡ q)
      × (s.1.1.1.1.1.1.0.now ≡ t.1.1.1.1.1.1.0.now)
      × (s.1.1.1.1.1.1.1.0.now ≡ t.1.1.1.1.1.1.1.0.now)
  bench_group_base_determined p e = (p.0 ∙ sym e.0, p.1.0 ∙ sym e.1.0, p.1.1 ∙ sym e.1.1)

-- `bench_refusal`: the answer
module _ (κs : Lfts 2) (a : ArgsD bench-refusal.signature κs) (r q : ResD bench-refusal.signature κs)
    (s t : AtExit (ended_of 2 bench-refusal-kinds.ps bench-refusal-kinds.r) κs) where
  pub bench_refusal_determined : bench-refusal-reads.Post κs a r s → bench-refusal-reads.Post κs a q t →
      r ≡ q
  bench_refusal_determined p e = p ∙ sym e

-- `bench_values`: the answer, `values`
module _ (κs : Lfts 3) (a : ArgsD bench-values.signature κs) (r q : ResD bench-values.signature κs)
    (s t : AtExit (ended_of 3 bench-values-kinds.ps bench-values-kinds.r) κs) where
  pub bench_values_determined : bench-values-reads.Post κs a r s → bench-values-reads.Post κs a q t →
      (r ≡ q)
      × (s.1.1.1.1.1.1.1.1.0.now ≡ t.1.1.1.1.1.1.1.1.0.now)
  bench_values_determined p e = (p.0 ∙ sym e.0, p.1 ∙ sym e.1)

-- `bench_value_of`: the answer, `signed`, `answer`, `real`
module _ (κs : Lfts 5) (a : ArgsD bench-value-of.signature κs) (r q : ResD bench-value-of.signature κs)
    (s t : AtExit (ended_of 5 bench-value-of-kinds.ps bench-value-of-kinds.r) κs) where
  pub bench_value_of_determined : bench-value-of-reads.Post κs a r s → bench-value-of-reads.Post κs a q t →
      (r ≡ q)
      × (s.1.1.1.1.1.1.1.1.1.0.now ≡ t.1.1.1.1.1.1.1.1.1.0.now)
      × (s.1.1.1.1.1.1.1.1.1.1.0.now ≡ t.1.1.1.1.1.1.1.1.1.1.0.now)
      × (s.1.1.1.1.1.1.1.1.1.1.1.0.now ≡ t.1.1.1.1.1.1.1.1.1.1.1.0.now)
  bench_value_of_determined p e = (p.0 ∙ sym e.0, p.1.0 ∙ sym e.1.0, p.1.1.0 ∙ sym e.1.1.0, p.1.1.1 ∙ sym e.1.1.1)

-- `bench_uncertainty_of`: the answer, `answer`, `real`
module _ (κs : Lfts 4) (a : ArgsD bench-uncertainty-of.signature κs) (r q : ResD bench-uncertainty-of.signature κs)
    (s t : AtExit (ended_of 4 bench-uncertainty-of-kinds.ps bench-uncertainty-of-kinds.r) κs) where
  pub bench_uncertainty_of_determined : bench-uncertainty-of-reads.Post κs a r s → bench-uncertainty-of-reads.Post κs a q t →
      (r ≡ q)
      × (s.1.1.1.1.1.1.1.1.1.0.now ≡ t.1.1.1.1.1.1.1.1.1.0.now)
      × (s.1.1.1.1.1.1.1.1.1.1.0.now ≡ t.1.1.1.1.1.1.1.1.1.1.0.now)
  bench_uncertainty_of_determined p e = (p.0 ∙ sym e.0, p.1.0 ∙ sym e.1.0, p.1.1 ∙ sym e.1.1)

-- `bench_published`: the answer, `hundredths`
module _ (κs : Lfts 3) (a : ArgsD bench-published.signature κs) (r q : ResD bench-published.signature κs)
    (s t : AtExit (ended_of 3 bench-published-kinds.ps bench-published-kinds.r) κs) where
  pub bench_published_determined : bench-published-reads.Post κs a r s → bench-published-reads.Post κs a q t →
      (r ≡ q)
      × (s.1.1.1.1.1.1.1.1.0.now ≡ t.1.1.1.1.1.1.1.1.0.now)
  bench_published_determined p e = (p.0 ∙ sym e.0, p.1 ∙ sym e.1)

-- `bench_analyse`: the answer, `words`, `values`, `deviations`, `answer`, `real`
module _ (κs : Lfts 7) (a : ArgsD bench-analyse.signature κs) (r q : ResD bench-analyse.signature κs)
    (s t : AtExit (ended_of 7 bench-analyse-kinds.ps bench-analyse-kinds.r) κs) where
  pub bench_analyse_determined : bench-analyse-reads.Post κs a r s → bench-analyse-reads.Post κs a q t →
      (r ≡ q)
      × (s.1.1.1.1.1.1.1.1.0.now ≡ t.1.1.1.1.1.1.1.1.0.now)
      × (s.1.1.1.1.1.1.1.1.1.0.now ≡ t.1.1.1.1.1.1.1.1.1.0.now)
      × (s.1.1.1.1.1.1.1.1.1.1.0.now ≡ t.1.1.1.1.1.1.1.1.1.1.0.now)
      × (s.1.1.1.1.1.1.1.1.1.1.1.0.now ≡ t.1.1.1.1.1.1.1.1.1.1.1.0.now)
      × (s.1.1.1.1.1.1.1.1.1.1.1.1.0.now ≡ t.1.1.1.1.1.1.1.1.1.1.1.1.0.now)
  bench_analyse_determined p e = (
    p.0 ∙ sym e.0,
    p.1.0 ∙ sym e.1.0,
    p.1.1.0 ∙ sym e.1.1.0,
    p.1.1.1.0 ∙ sym e.1.1.1.0,
    p.1.1.1.1.0 ∙ sym e.1.1.1.1.0,
    p.1.1.1.1.1 ∙ sym e.1.1.1.1.1,
  )

-- `bench_pool`: the answer, `answer`, `real`
module _ (κs : Lfts 4) (a : ArgsD bench-pool.signature κs) (r q : ResD bench-pool.signature κs)
    (s t : AtExit (ended_of 4 bench-pool-kinds.ps bench-pool-kinds.r) κs) where
  pub bench_pool_determined : bench-pool-reads.Post κs a r s → bench-pool-reads.Post κs a q t →
      (r ≡ q)
      × (s.1.1.0.now ≡ t.1.1.0.now)
      × (s.1.1.1.0.now ≡ t.1.1.1.0.now)
  bench_pool_determined p e = (p.0 ∙ sym e.0, p.1.0 ∙ sym e.1.0, p.1.1 ∙ sym e.1.1)

-- `bench_practice`: the answer, `readings`
module _ (κs : Lfts 3) (a : ArgsD bench-practice.signature κs) (r q : ResD bench-practice.signature κs)
    (s t : AtExit (ended_of 3 bench-practice-kinds.ps bench-practice-kinds.r) κs) where
  pub bench_practice_determined : bench-practice-reads.Post κs a r s → bench-practice-reads.Post κs a q t →
      (r ≡ q)
      × (s.1.1.1.1.1.1.1.1.0.now ≡ t.1.1.1.1.1.1.1.1.0.now)
  bench_practice_determined p e = (p.0 ∙ sym e.0, p.1 ∙ sym e.1)

-- `bench_practice_file`: the answer, `out`, `answer`
module _ (κs : Lfts 4) (a : ArgsD bench-practice-file.signature κs) (r q : ResD bench-practice-file.signature κs)
    (s t : AtExit (ended_of 4 bench-practice-file-kinds.ps bench-practice-file-kinds.r) κs) where
  pub bench_practice_file_determined : bench-practice-file-reads.Post κs a r s → bench-practice-file-reads.Post κs a q t →
      (r ≡ q)
      × (s.1.1.1.1.1.1.1.1.1.0.now ≡ t.1.1.1.1.1.1.1.1.1.0.now)
      × (s.1.1.1.1.1.1.1.1.1.1.0.now ≡ t.1.1.1.1.1.1.1.1.1.1.0.now)
  bench_practice_file_determined p e = (p.0 ∙ sym e.0, p.1.0 ∙ sym e.1.0, p.1.1 ∙ sym e.1.1)

-- `bench_read_second`: the answer, `signed`, `answer`
module _ (κs : Lfts 3) (a : ArgsD bench-read-second.signature κs) (r q : ResD bench-read-second.signature κs)
    (s t : AtExit (ended_of 3 bench-read-second-kinds.ps bench-read-second-kinds.r) κs) where
  pub bench_read_second_determined : bench-read-second-reads.Post κs a r s → bench-read-second-reads.Post κs a q t →
      (r ≡ q)
      × (s.1.0.now ≡ t.1.0.now)
      × (s.1.1.0.now ≡ t.1.1.0.now)
  bench_read_second_determined p e = (p.0 ∙ sym e.0, p.1.0 ∙ sym e.1.0, p.1.1 ∙ sym e.1.1)

-- `bench_solve_second`: the answer, `words`, `values`, `deviations`, `answer`, `real`
module _ (κs : Lfts 6) (a : ArgsD bench-solve-second.signature κs) (r q : ResD bench-solve-second.signature κs)
    (s t : AtExit (ended_of 6 bench-solve-second-kinds.ps bench-solve-second-kinds.r) κs) where
  pub bench_solve_second_determined : bench-solve-second-reads.Post κs a r s → bench-solve-second-reads.Post κs a q t →
      (r ≡ q)
      × (s.1.0.now ≡ t.1.0.now)
      × (s.1.1.0.now ≡ t.1.1.0.now)
      × (s.1.1.1.0.now ≡ t.1.1.1.0.now)
      × (s.1.1.1.1.0.now ≡ t.1.1.1.1.0.now)
      × (s.1.1.1.1.1.0.now ≡ t.1.1.1.1.1.0.now)
  bench_solve_second_determined p e = (
    p.0 ∙ sym e.0,
    p.1.0 ∙ sym e.1.0,
    p.1.1.0 ∙ sym e.1.1.0,
    p.1.1.1.0 ∙ sym e.1.1.1.0,
    p.1.1.1.1.0 ∙ sym e.1.1.1.1.0,
    p.1.1.1.1.1 ∙ sym e.1.1.1.1.1,
  )

-- `bench_write_second`: the answer, `out`, `answer`
module _ (κs : Lfts 5) (a : ArgsD bench-write-second.signature κs) (r q : ResD bench-write-second.signature κs)
    (s t : AtExit (ended_of 5 bench-write-second-kinds.ps bench-write-second-kinds.r) κs) where
  pub bench_write_second_determined : bench-write-second-reads.Post κs a r s → bench-write-second-reads.Post κs a q t →
      (r ≡ q)
      × (s.1.1.1.1.1.1.1.1.1.0.now ≡ t.1.1.1.1.1.1.1.1.1.0.now)
      × (s.1.1.1.1.1.1.1.1.1.1.0.now ≡ t.1.1.1.1.1.1.1.1.1.1.0.now)
  bench_write_second_determined p e = (p.0 ∙ sym e.0, p.1.0 ∙ sym e.1.0, p.1.1 ∙ sym e.1.1)

-- `bench_to_second`: the answer, `out`, `answer`
module _ (κs : Lfts 3) (a : ArgsD bench-to-second.signature κs) (r q : ResD bench-to-second.signature κs)
    (s t : AtExit (ended_of 3 bench-to-second-kinds.ps bench-to-second-kinds.r) κs) where
  pub bench_to_second_determined : bench-to-second-reads.Post κs a r s → bench-to-second-reads.Post κs a q t →
      (r ≡ q)
      × (s.1.0.now ≡ t.1.0.now)
      × (s.1.1.0.now ≡ t.1.1.0.now)
  bench_to_second_determined p e = (p.0 ∙ sym e.0, p.1.0 ∙ sym e.1.0, p.1.1 ∙ sym e.1.1)

-- `bench_to_first`: the answer, `out`, `answer`
module _ (κs : Lfts 3) (a : ArgsD bench-to-first.signature κs) (r q : ResD bench-to-first.signature κs)
    (s t : AtExit (ended_of 3 bench-to-first-kinds.ps bench-to-first-kinds.r) κs) where
  pub bench_to_first_determined : bench-to-first-reads.Post κs a r s → bench-to-first-reads.Post κs a q t →
      (r ≡ q)
      × (s.1.0.now ≡ t.1.0.now)
      × (s.1.1.0.now ≡ t.1.1.0.now)
  bench_to_first_determined p e = (p.0 ∙ sym e.0, p.1.0 ∙ sym e.1.0, p.1.1 ∙ sym e.1.1)

-- `bench_listing_second`: the answer, `out`, `answer`
module _ (κs : Lfts 3) (a : ArgsD bench-listing-second.signature κs) (r q : ResD bench-listing-second.signature κs)
    (s t : AtExit (ended_of 3 bench-listing-second-kinds.ps bench-listing-second-kinds.r) κs) where
  pub bench_listing_second_determined : bench-listing-second-reads.Post κs a r s → bench-listing-second-reads.Post κs a q t →
      (r ≡ q)
      × (s.1.0.now ≡ t.1.0.now)
      × (s.1.1.0.now ≡ t.1.1.0.now)
  bench_listing_second_determined p e = (p.0 ∙ sym e.0, p.1.0 ∙ sym e.1.0, p.1.1 ∙ sym e.1.1)

-- `bench_total`: the answer, `signed`
module _ (κs : Lfts 3) (a : ArgsD bench-total.signature κs) (r q : ResD bench-total.signature κs)
    (s t : AtExit (ended_of 3 bench-total-kinds.ps bench-total-kinds.r) κs) where
  pub bench_total_determined : bench-total-reads.Post κs a r s → bench-total-reads.Post κs a q t →
      (r ≡ q)
      × (s.1.1.1.1.1.1.1.0.now ≡ t.1.1.1.1.1.1.1.0.now)
  bench_total_determined p e = (p.0 ∙ sym e.0, p.1 ∙ sym e.1)

-- `bench_sum_of_squares`: the answer, `answer`
module _ (κs : Lfts 2) (a : ArgsD bench-sum-of-squares.signature κs) (r q : ResD bench-sum-of-squares.signature κs)
    (s t : AtExit (ended_of 2 bench-sum-of-squares-kinds.ps bench-sum-of-squares-kinds.r) κs) where
  pub bench_sum_of_squares_determined : bench-sum-of-squares-reads.Post κs a r s → bench-sum-of-squares-reads.Post κs a q t →
      (r ≡ q)
      × (s.1.1.1.1.1.0.now ≡ t.1.1.1.1.1.0.now)
  bench_sum_of_squares_determined p e = (p.0 ∙ sym e.0, p.1 ∙ sym e.1)

-- `bench_sum_of_squared_totals`: the answer, `answer`
module _ (κs : Lfts 3) (a : ArgsD bench-sum-of-squared-totals.signature κs) (r q : ResD bench-sum-of-squared-totals.signature κs)
    (s t : AtExit (ended_of 3 bench-sum-of-squared-totals-kinds.ps bench-sum-of-squared-totals-kinds.r) κs) where
  pub bench_sum_of_squared_totals_determined : bench-sum-of-squared-totals-reads.Post κs a r s → bench-sum-of-squared-totals-reads.Post κs a q t →
      (r ≡ q)
      × (s.1.1.1.1.1.1.0.now ≡ t.1.1.1.1.1.1.0.now)
  bench_sum_of_squared_totals_determined p e = (p.0 ∙ sym e.0, p.1 ∙ sym e.1)
