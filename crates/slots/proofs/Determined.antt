-- Any two outcomes that keep the promise of a public function are identical: the answer and what each lent buffer holds at the end. `Post` is the
-- contract itself, as the check reads it from the source: where a clause of it is dropped or weakened, the theorem fails. Assumes nothing.
-- (tools/determined.py writes this file.)
use mathlib.Core.Path.{◌≡◌, sym, ◌∙◌}
use contract.Lifetimes.{Lfts}
use borrow.Fn.World.{ArgsD, ResD}
use borrow.Fn.Kinds.{ended_of}
use denote.Triple.Clauses.{AtExit}
use Rattle.slots.specs.contracts.designs.lay_judged as lay-judged
use Rattle.slots.proofs.designs.lay_judged.Kinds as lay-judged-kinds
use Rattle.slots.proofs.designs.lay_judged.Reads as lay-judged-reads
use Rattle.slots.specs.contracts.designs.lay_table as lay-table
use Rattle.slots.proofs.designs.lay_table.Kinds as lay-table-kinds
use Rattle.slots.proofs.designs.lay_table.Reads as lay-table-reads
use Rattle.slots.specs.contracts.files.lay_field as lay-field
use Rattle.slots.proofs.files.lay_field.Kinds as lay-field-kinds
use Rattle.slots.proofs.files.lay_field.Reads as lay-field-reads
use Rattle.slots.specs.contracts.files.lay_read as lay-read
use Rattle.slots.proofs.files.lay_read.Kinds as lay-read-kinds
use Rattle.slots.proofs.files.lay_read.Reads as lay-read-reads
use Rattle.slots.specs.contracts.files.lay_second as lay-second
use Rattle.slots.proofs.files.lay_second.Kinds as lay-second-kinds
use Rattle.slots.proofs.files.lay_second.Reads as lay-second-reads
use Rattle.slots.specs.contracts.files.lay_written as lay-written
use Rattle.slots.proofs.files.lay_written.Kinds as lay-written-kinds
use Rattle.slots.proofs.files.lay_written.Reads as lay-written-reads
use Rattle.slots.specs.contracts.files.lay_listed as lay-listed
use Rattle.slots.proofs.files.lay_listed.Kinds as lay-listed-kinds
use Rattle.slots.proofs.files.lay_listed.Reads as lay-listed-reads
use Rattle.slots.specs.contracts.groups.lay_grouped as lay-grouped
use Rattle.slots.proofs.groups.lay_grouped.Kinds as lay-grouped-kinds
use Rattle.slots.proofs.groups.lay_grouped.Reads as lay-grouped-reads
use Rattle.slots.specs.contracts.groups.lay_group_set as lay-group-set
use Rattle.slots.proofs.groups.lay_group_set.Kinds as lay-group-set-kinds
use Rattle.slots.proofs.groups.lay_group_set.Reads as lay-group-set-reads
use Rattle.slots.specs.contracts.jobs.lay_total as lay-total
use Rattle.slots.proofs.jobs.lay_total.Kinds as lay-total-kinds
use Rattle.slots.proofs.jobs.lay_total.Reads as lay-total-reads
use Rattle.slots.specs.contracts.jobs.lay_sum as lay-sum
use Rattle.slots.proofs.jobs.lay_sum.Kinds as lay-sum-kinds
use Rattle.slots.proofs.jobs.lay_sum.Reads as lay-sum-reads
use Rattle.slots.specs.contracts.jobs.lay_value as lay-value
use Rattle.slots.proofs.jobs.lay_value.Kinds as lay-value-kinds
use Rattle.slots.proofs.jobs.lay_value.Reads as lay-value-reads
use Rattle.slots.specs.contracts.jobs.lay_uncertainty as lay-uncertainty
use Rattle.slots.proofs.jobs.lay_uncertainty.Kinds as lay-uncertainty-kinds
use Rattle.slots.proofs.jobs.lay_uncertainty.Reads as lay-uncertainty-reads
use Rattle.slots.specs.contracts.jobs.lay_deviation as lay-deviation
use Rattle.slots.proofs.jobs.lay_deviation.Kinds as lay-deviation-kinds
use Rattle.slots.proofs.jobs.lay_deviation.Reads as lay-deviation-reads
use Rattle.slots.specs.contracts.jobs.lay_spread as lay-spread
use Rattle.slots.proofs.jobs.lay_spread.Kinds as lay-spread-kinds
use Rattle.slots.proofs.jobs.lay_spread.Reads as lay-spread-reads
use Rattle.slots.specs.contracts.jobs.lay_solved as lay-solved
use Rattle.slots.proofs.jobs.lay_solved.Kinds as lay-solved-kinds
use Rattle.slots.proofs.jobs.lay_solved.Reads as lay-solved-reads
use Rattle.slots.specs.contracts.pools.told_at as told-at
use Rattle.slots.proofs.pools.told_at.Kinds as told-at-kinds
use Rattle.slots.proofs.pools.told_at.Reads as told-at-reads
use Rattle.slots.specs.contracts.pools.lay_pooled as lay-pooled
use Rattle.slots.proofs.pools.lay_pooled.Kinds as lay-pooled-kinds
use Rattle.slots.proofs.pools.lay_pooled.Reads as lay-pooled-reads
use Rattle.slots.specs.contracts.rooms.with_room as with-room
use Rattle.slots.proofs.rooms.with_room.Kinds as with-room-kinds
use Rattle.slots.proofs.rooms.with_room.Reads as with-room-reads
use Rattle.slots.specs.contracts.rooms.solved_room as solved-room
use Rattle.slots.proofs.rooms.solved_room.Kinds as solved-room-kinds
use Rattle.slots.proofs.rooms.solved_room.Reads as solved-room-reads
use Rattle.slots.specs.contracts.sheets.lay_checked as lay-checked
use Rattle.slots.proofs.sheets.lay_checked.Kinds as lay-checked-kinds
use Rattle.slots.proofs.sheets.lay_checked.Reads as lay-checked-reads
use Rattle.slots.specs.contracts.telling.told as told
use Rattle.slots.proofs.telling.told.Kinds as told-kinds
use Rattle.slots.proofs.telling.told.Reads as told-reads

-- `lay_judged`: the answer, `answer`
module _ (κs : Lfts 1) (a : ArgsD lay-judged.signature κs) (r q : ResD lay-judged.signature κs)
    (s t : AtExit (ended_of 1 lay-judged-kinds.ps lay-judged-kinds.r) κs) where
  pub lay_judged_determined : lay-judged-reads.Post κs a r s → lay-judged-reads.Post κs a q t →
      (r ≡ q)
      × (s.1.0.now ≡ t.1.0.now)
  lay_judged_determined p e = (p.0 ∙ sym e.0, p.1 ∙ sym e.1)

-- `lay_table`: the answer, `lent`
module _ (κs : Lfts 2) (a : ArgsD lay-table.signature κs) (r q : ResD lay-table.signature κs)
    (s t : AtExit (ended_of 2 lay-table-kinds.ps lay-table-kinds.r) κs) where
  pub lay_table_determined : lay-table-reads.Post κs a r s → lay-table-reads.Post κs a q t →
      (r ≡ q)
      × (s.1.1.0.now ≡ t.1.1.0.now)
  lay_table_determined p e = (p.0 ∙ sym e.0, p.1 ∙ sym e.1)

-- `lay_field`: the answer, `answer`
module _ (κs : Lfts 1) (a : ArgsD lay-field.signature κs) (r q : ResD lay-field.signature κs)
    (s t : AtExit (ended_of 1 lay-field-kinds.ps lay-field-kinds.r) κs) where
  pub lay_field_determined : lay-field-reads.Post κs a r s → lay-field-reads.Post κs a q t →
      (r ≡ q)
      × (s.1.1.0.now ≡ t.1.1.0.now)
  lay_field_determined p e = (p.0 ∙ sym e.0, p.1 ∙ sym e.1)

-- `lay_read`: the answer, `signed`, `answer`
module _ (κs : Lfts 2) (a : ArgsD lay-read.signature κs) (r q : ResD lay-read.signature κs)
    (s t : AtExit (ended_of 2 lay-read-kinds.ps lay-read-kinds.r) κs) where
  pub lay_read_determined : lay-read-reads.Post κs a r s → lay-read-reads.Post κs a q t →
      (r ≡ q)
      × (s.1.0.now ≡ t.1.0.now)
      × (s.1.1.0.now ≡ t.1.1.0.now)
  lay_read_determined p e = (p.0 ∙ sym e.0, p.1.0 ∙ sym e.1.0, p.1.1 ∙ sym e.1.1)

-- `lay_second`: the answer, `signed`, `answer`
module _ (κs : Lfts 2) (a : ArgsD lay-second.signature κs) (r q : ResD lay-second.signature κs)
    (s t : AtExit (ended_of 2 lay-second-kinds.ps lay-second-kinds.r) κs) where
  pub lay_second_determined : lay-second-reads.Post κs a r s → lay-second-reads.Post κs a q t →
      (r ≡ q)
      × (s.1.0.now ≡ t.1.0.now)
      × (s.1.1.0.now ≡ t.1.1.0.now)
  lay_second_determined p e = (p.0 ∙ sym e.0, p.1.0 ∙ sym e.1.0, p.1.1 ∙ sym e.1.1)

-- `lay_written`: the answer, `answer`
module _ (κs : Lfts 1) (a : ArgsD lay-written.signature κs) (r q : ResD lay-written.signature κs)
    (s t : AtExit (ended_of 1 lay-written-kinds.ps lay-written-kinds.r) κs) where
  pub lay_written_determined : lay-written-reads.Post κs a r s → lay-written-reads.Post κs a q t →
      (r ≡ q)
      × (s.1.0.now ≡ t.1.0.now)
  lay_written_determined p e = (p.0 ∙ sym e.0, p.1 ∙ sym e.1)

-- `lay_listed`: the answer, `answer`
module _ (κs : Lfts 1) (a : ArgsD lay-listed.signature κs) (r q : ResD lay-listed.signature κs)
    (s t : AtExit (ended_of 1 lay-listed-kinds.ps lay-listed-kinds.r) κs) where
  pub lay_listed_determined : lay-listed-reads.Post κs a r s → lay-listed-reads.Post κs a q t →
      (r ≡ q)
      × (s.1.0.now ≡ t.1.0.now)
  lay_listed_determined p e = (p.0 ∙ sym e.0, p.1 ∙ sym e.1)

-- `lay_grouped`: the answer, `answer`
module _ (κs : Lfts 1) (a : ArgsD lay-grouped.signature κs) (r q : ResD lay-grouped.signature κs)
    (s t : AtExit (ended_of 1 lay-grouped-kinds.ps lay-grouped-kinds.r) κs) where
  pub lay_grouped_determined : lay-grouped-reads.Post κs a r s → lay-grouped-reads.Post κs a q t →
      (r ≡ q)
      × (s.1.0.now ≡ t.1.0.now)
  lay_grouped_determined p e = (p.0 ∙ sym e.0, p.1 ∙ sym e.1)

-- `lay_group_set`: the answer, `answer`
module _ (κs : Lfts 1) (a : ArgsD lay-group-set.signature κs) (r q : ResD lay-group-set.signature κs)
    (s t : AtExit (ended_of 1 lay-group-set-kinds.ps lay-group-set-kinds.r) κs) where
  pub lay_group_set_determined : lay-group-set-reads.Post κs a r s → lay-group-set-reads.Post κs a q t →
      (r ≡ q)
      × (s.1.0.now ≡ t.1.0.now)
  lay_group_set_determined p e = (p.0 ∙ sym e.0, p.1 ∙ sym e.1)

-- `lay_total`: the answer, `signed`
module _ (κs : Lfts 1) (a : ArgsD lay-total.signature κs) (r q : ResD lay-total.signature κs)
    (s t : AtExit (ended_of 1 lay-total-kinds.ps lay-total-kinds.r) κs) where
  pub lay_total_determined : lay-total-reads.Post κs a r s → lay-total-reads.Post κs a q t →
      (r ≡ q)
      × (s.1.0.now ≡ t.1.0.now)
  lay_total_determined p e = (p.0 ∙ sym e.0, p.1 ∙ sym e.1)

-- `lay_sum`: the answer, `answer`
module _ (κs : Lfts 1) (a : ArgsD lay-sum.signature κs) (r q : ResD lay-sum.signature κs)
    (s t : AtExit (ended_of 1 lay-sum-kinds.ps lay-sum-kinds.r) κs) where
  pub lay_sum_determined : lay-sum-reads.Post κs a r s → lay-sum-reads.Post κs a q t →
      (r ≡ q)
      × (s.1.0.now ≡ t.1.0.now)
  lay_sum_determined p e = (p.0 ∙ sym e.0, p.1 ∙ sym e.1)

-- `lay_value`: the answer, `signed`, `answer`, `real`
module _ (κs : Lfts 3) (a : ArgsD lay-value.signature κs) (r q : ResD lay-value.signature κs)
    (s t : AtExit (ended_of 3 lay-value-kinds.ps lay-value-kinds.r) κs) where
  pub lay_value_determined : lay-value-reads.Post κs a r s → lay-value-reads.Post κs a q t →
      (r ≡ q)
      × (s.1.0.now ≡ t.1.0.now)
      × (s.1.1.0.now ≡ t.1.1.0.now)
      × (s.1.1.1.0.now ≡ t.1.1.1.0.now)
  lay_value_determined p e = (p.0 ∙ sym e.0, p.1.0 ∙ sym e.1.0, p.1.1.0 ∙ sym e.1.1.0, p.1.1.1 ∙ sym e.1.1.1)

-- `lay_uncertainty`: the answer, `answer`, `real`
module _ (κs : Lfts 2) (a : ArgsD lay-uncertainty.signature κs) (r q : ResD lay-uncertainty.signature κs)
    (s t : AtExit (ended_of 2 lay-uncertainty-kinds.ps lay-uncertainty-kinds.r) κs) where
  pub lay_uncertainty_determined : lay-uncertainty-reads.Post κs a r s → lay-uncertainty-reads.Post κs a q t →
      (r ≡ q)
      × (s.1.0.now ≡ t.1.0.now)
      × (s.1.1.0.now ≡ t.1.1.0.now)
  lay_uncertainty_determined p e = (p.0 ∙ sym e.0, p.1.0 ∙ sym e.1.0, p.1.1 ∙ sym e.1.1)

-- `lay_deviation`: the answer, `signed`, `answer`
module _ (κs : Lfts 2) (a : ArgsD lay-deviation.signature κs) (r q : ResD lay-deviation.signature κs)
    (s t : AtExit (ended_of 2 lay-deviation-kinds.ps lay-deviation-kinds.r) κs) where
  pub lay_deviation_determined : lay-deviation-reads.Post κs a r s → lay-deviation-reads.Post κs a q t →
      (r ≡ q)
      × (s.1.0.now ≡ t.1.0.now)
      × (s.1.1.0.now ≡ t.1.1.0.now)
  lay_deviation_determined p e = (p.0 ∙ sym e.0, p.1.0 ∙ sym e.1.0, p.1.1 ∙ sym e.1.1)

-- `lay_spread`: the answer, `answer`, `real`
module _ (κs : Lfts 2) (a : ArgsD lay-spread.signature κs) (r q : ResD lay-spread.signature κs)
    (s t : AtExit (ended_of 2 lay-spread-kinds.ps lay-spread-kinds.r) κs) where
  pub lay_spread_determined : lay-spread-reads.Post κs a r s → lay-spread-reads.Post κs a q t →
      (r ≡ q)
      × (s.1.0.now ≡ t.1.0.now)
      × (s.1.1.0.now ≡ t.1.1.0.now)
  lay_spread_determined p e = (p.0 ∙ sym e.0, p.1.0 ∙ sym e.1.0, p.1.1 ∙ sym e.1.1)

-- `lay_solved`: the answer, `answer`, `real`
module _ (κs : Lfts 2) (a : ArgsD lay-solved.signature κs) (r q : ResD lay-solved.signature κs)
    (s t : AtExit (ended_of 2 lay-solved-kinds.ps lay-solved-kinds.r) κs) where
  pub lay_solved_determined : lay-solved-reads.Post κs a r s → lay-solved-reads.Post κs a q t →
      (r ≡ q)
      × (s.1.0.now ≡ t.1.0.now)
      × (s.1.1.0.now ≡ t.1.1.0.now)
  lay_solved_determined p e = (p.0 ∙ sym e.0, p.1.0 ∙ sym e.1.0, p.1.1 ∙ sym e.1.1)

-- `told_at`: the answer
module _ (κs : Lfts 0) (a : ArgsD told-at.signature κs) (r q : ResD told-at.signature κs)
    (s t : AtExit (ended_of 0 told-at-kinds.ps told-at-kinds.r) κs) where
  pub told_at_determined : told-at-reads.Post κs a r s → told-at-reads.Post κs a q t →
      r ≡ q
  told_at_determined p e = p ∙ sym e

-- `lay_pooled`: the answer, `answer`, `real`
module _ (κs : Lfts 2) (a : ArgsD lay-pooled.signature κs) (r q : ResD lay-pooled.signature κs)
    (s t : AtExit (ended_of 2 lay-pooled-kinds.ps lay-pooled-kinds.r) κs) where
  pub lay_pooled_determined : lay-pooled-reads.Post κs a r s → lay-pooled-reads.Post κs a q t →
      (r ≡ q)
      × (s.1.0.now ≡ t.1.0.now)
      × (s.1.1.0.now ≡ t.1.1.0.now)
  lay_pooled_determined p e = (p.0 ∙ sym e.0, p.1.0 ∙ sym e.1.0, p.1.1 ∙ sym e.1.1)

-- `with_room`: the answer
module _ (κs : Lfts 0) (a : ArgsD with-room.signature κs) (r q : ResD with-room.signature κs)
    (s t : AtExit (ended_of 0 with-room-kinds.ps with-room-kinds.r) κs) where
  pub with_room_determined : with-room-reads.Post κs a r s → with-room-reads.Post κs a q t →
      r ≡ q
  with_room_determined p e = p ∙ sym e

-- `solved_room`: the answer
module _ (κs : Lfts 0) (a : ArgsD solved-room.signature κs) (r q : ResD solved-room.signature κs)
    (s t : AtExit (ended_of 0 solved-room-kinds.ps solved-room-kinds.r) κs) where
  pub solved_room_determined : solved-room-reads.Post κs a r s → solved-room-reads.Post κs a q t →
      r ≡ q
  solved_room_determined p e = p ∙ sym e

-- `lay_checked`: the answer, `answer`
module _ (κs : Lfts 1) (a : ArgsD lay-checked.signature κs) (r q : ResD lay-checked.signature κs)
    (s t : AtExit (ended_of 1 lay-checked-kinds.ps lay-checked-kinds.r) κs) where
  pub lay_checked_determined : lay-checked-reads.Post κs a r s → lay-checked-reads.Post κs a q t →
      (r ≡ q)
      × (s.1.0.now ≡ t.1.0.now)
  lay_checked_determined p e = (p.0 ∙ sym e.0, p.1 ∙ sym e.1)

-- `told`: the answer
module _ (κs : Lfts 0) (a : ArgsD told.signature κs) (r q : ResD told.signature κs)
    (s t : AtExit (ended_of 0 told-kinds.ps told-kinds.r) κs) where
  pub told_determined : told-reads.Post κs a r s → told-reads.Post κs a q t →
      r ≡ q
  told_determined p e = p ∙ sym e
