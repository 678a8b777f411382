-- The job of a turn ends within the bytes; refused, it ends the pool, and else it is taken in.
use Rattle.std.proofs.Common.{arith, ap, sym, ◌∙◌, ◌≡◌, length}
use Rattle.job.specs.Taking.{finished}
use Rattle.job.proofs.pooling.Steps.{walk_fits, walk-bad, walk-takes, walk-goes, walk_ends}
use Rattle.job.proofs.pooling.pool_jobs.Goals as goal

pub overflow_add-end : goal.overflow_add-end
overflow_add-end c =
    let l = c.loop-i in
    omega (arith, walk_fits c.args.bytes.now c.args.lengths.now l.sums l.start l.i l.invariant c.loop-i-test.true)

pub slice_bounds-work_out-end : goal.slice_bounds-work_out-end
slice_bounds-work_out-end c =
    let l = c.loop-i in
    omega (arith, walk_fits c.args.bytes.now c.args.lengths.now l.sums l.start l.i l.invariant c.loop-i-test.true)

pub returns-then-is_refused : goal.returns-then-is_refused
returns-then-is_refused c =
    let l = c.loop-i in
    c.no_pool.ensures
    ∙ walk-bad c.args.bytes.now c.args.lengths.now l.sums l.start l.i l.invariant c.loop-i-test.true
    c.work_out-solved.result c.work_out-solved.ensures (sym c.is_refused.ensures ∙ c.if-is_refused.true)

pub with_job-sums-requires : goal.with_job-sums-requires
with_job-sums-requires c =
    let l = c.loop-i in
    walk-takes c.args.bytes.now c.args.lengths.now l.sums l.start l.i l.invariant c.loop-i-test.true
    c.work_out-solved.result c.work_out-solved.ensures (sym c.is_refused.ensures ∙ c.if-is_refused.false) (omega arith)

pub loop-i-preserved : goal.loop-i-preserved
loop-i-preserved c =
    let l = c.loop-i in
    walk-goes c.args.bytes.now c.args.lengths.now l.sums l.start l.i l.invariant c.loop-i-test.true
    c.work_out-solved.result c.work_out-solved.ensures (sym c.is_refused.ensures ∙ c.if-is_refused.false) c.with_job-sums.result c.with_job-sums.ensures

pub returns : goal.returns
returns c =
    let l = c.loop-i in
    let end : l.i ≡ length c.args.lengths.now = omega arith in
    c.finish.ensures ∙ ap (finished l.sums) (sym end)
    ∙ walk_ends c.args.bytes.now c.args.lengths.now l.sums l.start l.i l.invariant (omega arith)
