-- `printed::put_four`: what is handed on is what the four fields hold. Assumes nothing.
use Rattle.std.proofs.Common.{◌≡◌, ℕ, ◌≤◌, List, sym, ◌∙◌, rules, arith}
use lib.Seq.{length-take-le}
use Rattle.algebra.proofs.Signs.{read_back}
use Rattle.algebra.proofs.Filling.{over-long}
use Rattle.algebra.proofs.Writing.{named}
use Rattle.meaning.specs.Design.{blocks}
use Rattle.meaning.specs.Refusals.{accepted}
use Rattle.meaning.specs.File.{head_of, third_at, fields}
use Rattle.laws.proofs.Chains.{fits}
use Rattle.laws.proofs.Files.{filed}
use Rattle.job.proofs.Holding.{held-blocks, held-readings}
use Rattle.cards.proofs.printed.Whole.{four-parts, four-text}
use Rattle.cards.proofs.printed.put_four.Goals as goal

-- at most 1,300 readings
most : (four : List ℕ) → fields four ≡ accepted → blocks (head_of four) ≤ 1300
most four f = (fits (head_of four) (filed four f).size).blocks-most

pub slice_bounds-put_job-end : goal.slice_bounds-put_job-end
slice_bounds-put_job-end c =
    let ends : c.held-held.result.restraint_at ≡ third_at c.args.four.now = λ j. (c.held-held.ensures j).restraint_at in
    omega (arith, ends, (filed _ c.requires).ends)

pub slice_bounds-decoded-end : goal.slice_bounds-decoded-end
slice_bounds-decoded-end c =
    let count : c.held-held.result.count ≡ blocks (head_of c.args.four.now) = λ j. (c.held-held.ensures j).count in
    omega (arith, count, most c.args.four.now c.requires, over-long _ _ _ _ c.readings.ensures)

pub slice_bounds-put_job-end-2 : goal.slice_bounds-put_job-end-2
slice_bounds-put_job-end-2 c =
    let count : c.held-held.result.count ≡ blocks (head_of c.args.four.now) = λ j. (c.held-held.ensures j).count in
    sym (length-take-le _ _ (omega (arith, count, most c.args.four.now c.requires, over-long _ _ _ _ c.readings.ensures)))

pub put_job-requires : goal.put_job-requires
put_job-requires c =
    let e = c.held-held.ensures in
    four-parts c.args.four.now c.held-held.result e _ _ (held-blocks _ _ e)
    (held-readings _ _ e _ _ (most c.args.four.now c.requires) c.readings.ensures) c.requires

pub returns : goal.returns
returns c =
    let e = c.held-held.ensures in
    named c.put_job.ensures
    (four-text c.args.four.now c.held-held.result e _ _ (held-blocks _ _ e) (held-readings _ _ e _ _ (most c.args.four.now c.requires) c.readings.ensures) _
    (read_back _ (search rules) ∙ (λ j. (e j).sum)))
