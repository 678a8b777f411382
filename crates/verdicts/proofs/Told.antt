-- A verdict told by its test. Assumes nothing.
use Rattle.std.proofs.Common.{Ok, Err}
use mathlib.Core.Path.{◌≡◌, refl, sym}
use mathlib.Core.Bool.{true, false, false≢true}
use Rattle.meaning.specs.Refusals.{Verdict, ◌⨾◌, accepted, refused, number, place}
use Rattle.meaning.specs.Calls.{given}

-- a verdict that refuses is the refusal with its number at its place
pub refusing : (v : Verdict) → given v false true ≡ true → v ≡ refused (number v) (place v)
refusing (Ok done) e = absurd (false≢true e)
refusing (Err why) e = refl

-- one that does not refuse accepts
pub accepting : (v : Verdict) → given v false true ≡ false → v ≡ accepted
accepting (Ok done) e = refl
accepting (Err why) e = absurd (false≢true (sym e))

-- of two verdicts the first counts where it refuses
pub refusing_first : (v w : Verdict) → given v false true ≡ true → v ≡ v ⨾ w
refusing_first (Ok done) w e = absurd (false≢true e)
refusing_first (Err why) w e = refl
