-- `far_reading`: every reading before the one that is found is in range. Assumes nothing.
use Rattle.std.proofs.Common.{◌≡◌, true, false, ltb, nat_abs, get_or, pos, length, sym, ◌∙◌, arith, rules, below_more}
use Rattle.meaning.specs.Refusals.{reading_limit, far_reading}
use Rattle.algebra.proofs.Tests.{first-is, first_from_none}
use Rattle.weighing.proofs.readings.far_reading.Goals as goal

pub returns-then-is_far : goal.returns-then-is_far
unfolding far_reading
returns-then-is_far c =
    let far : ltb reading_limit (nat_abs (get_or c.args.readings.now c.loop-k.k (pos 0))) ≡ true = search rules in
    sym (first-is (λ j. ltb reading_limit (nat_abs (get_or c.args.readings.now j (pos 0)))) 0 _ c.loop-k.k (omega arith) (omega arith)
    (λ j _. c.loop-k.invariant j) far)

pub loop-k-preserved : goal.loop-k-preserved
loop-k-preserved c =
    let near : ltb reading_limit (nat_abs (get_or c.args.readings.now c.loop-k.k (pos 0))) ≡ false = search rules in
    below_more _ _ c.loop-k.invariant near

pub returns : goal.returns
unfolding far_reading
returns c =
    let a = c.args in
    omega (
      arith,
      first_from_none (λ j. ltb reading_limit (nat_abs (get_or a.readings.now j (pos 0)))) 0 (length a.readings.now) (λ j _ h. c.loop-k.invariant j (omega arith)),
    )
