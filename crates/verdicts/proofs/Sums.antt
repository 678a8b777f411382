-- The answer of a sum of squares by its verdict. Assumes nothing.
use Rattle.std.proofs.Common.{Ok, Err}
use mathlib.Core.Path.{◌≡◌, refl, sym, ap, ◌∙◌}
use mathlib.Core.Bool.{true, false, false≢true}
use Prim.Native.Nat.{ℕ}
use Rattle.records.specs.declared.SquareSum.{SquareSum}
use Rattle.records.specs.declared.Wide.{Wide}
use Rattle.meaning.specs.Wide.{wide, wide_zero}
use Rattle.meaning.specs.Refusals.{Verdict, accepted}
use Rattle.meaning.specs.Calls.{given, square_sum}

-- a sum of 0, whatever the verdict
pub square_none : (v : Verdict) → ◌≡◌ {A = SquareSum} (record { verdict = v; sum = wide_zero }) (square_sum v 0)
unfolding wide
square_none (Ok done) = refl
square_none (Err why) = refl

-- a refusal holds 0
pub square_refused : (verdict : Verdict) (x : ℕ) (v : Verdict) → given v false true ≡ true → verdict ≡ v → square_sum v 0 ≡ square_sum verdict x
square_refused verdict x (Ok done) r e = absurd (false≢true r)
square_refused verdict x (Err why) r e = sym (ap (λ (v : Verdict). square_sum v x) e)

-- an acceptance holds the sum
pub square_accepted : (verdict : Verdict) (x : ℕ) (y : Wide) → verdict ≡ accepted → y ≡ wide x →
    ◌≡◌ {A = SquareSum} (record { verdict = accepted; sum = y }) (square_sum verdict x)
square_accepted verdict x y e f = ap (λ (z : Wide). record { verdict = accepted; sum = z }) f ∙ sym (ap (λ (v : Verdict). square_sum v x) e)
