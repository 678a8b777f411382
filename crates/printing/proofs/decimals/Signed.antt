-- A signed number's text by the test `x < 0`. Assumes nothing.
use mathlib.Core.Path.{◌≡◌, refl}
use mathlib.Core.Bool.{true}
use mathlib.Core.List.{◌∷◌}
use native.Mathlib.Omega.{arith}
use borrow.Author.Tests.{ltb-true}
use lib.IntN.{ℤ, pos, negsuc, nat_abs}
use lib.Signed.{lt_z}
use Rattle.meaning.specs.Text.{digits, signed_text}

-- below 0: a space, a minus, the digits of its size
pub signed_below : (z : ℤ) → lt_z z (pos 0) ≡ true → signed_text z ≡ 32 ∷ 45 ∷ digits 20 (nat_abs z)
signed_below (pos n) e = absurd (omega (arith, ltb-true n 0 e))
signed_below (negsuc n) e = refl
