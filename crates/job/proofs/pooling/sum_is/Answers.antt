-- A length that is longer than what is left makes the sum too large; after the last length nothing is asked for.
use Rattle.std.proofs.Common.{arith, sym, ◌≡◌, ◌+◌, length}
use Rattle.std.proofs.lemmas.Bool.Decides.{nat_tests}
use borrow.Author.Tests.{ne_eqb}
use Rattle.meaning.specs.Pooled.{lengths_sum}
use Rattle.job.proofs.pooling.Cutting.{sum-next, sum-end}
use Rattle.job.proofs.pooling.sum_is.Goals as goal

pub returns-then-left-length : goal.returns-then-left-length
returns-then-left-length c =
    let next = sum-next c.args.lengths.now c.loop-length.length-index c.loop-length-test.true in
    sym (ne_eqb _ _ (λ e. omega (arith, next, e)))

pub loop-length-preserved : goal.loop-length-preserved
loop-length-preserved c = omega (arith, sum-next c.args.lengths.now c.loop-length.length-index c.loop-length-test.true)

pub returns : goal.returns
returns c =
    let lengths = c.args.lengths.now in
    let end : c.loop-length.length-index ≡ length lengths = omega arith in
    let left : c.args.total ≡ c.loop-length.left + lengths_sum lengths = omega (arith, sum-end lengths c.loop-length.length-index end) in
    grind (arith, nat_tests)
