-- The text of hundredths with a sign by the test `x < 0`. Assumes nothing.
use mathlib.Core.Path.{◌≡◌, refl}
use mathlib.Core.Bool.{true}
use mathlib.Core.List.{◌∷◌}
use native.Mathlib.Omega.{arith}
use borrow.Author.Tests.{ltb-true}
use lib.IntN.{ℤ, pos, negsuc, nat_abs}
use lib.Signed.{lt_z}
use Rattle.meaning.specs.Certificate.{two_decimals, counts_text}

-- below 0: a minus, and the text of its size
pub counts-below : (z : ℤ) → lt_z z (pos 0) ≡ true → counts_text z ≡ 45 ∷ two_decimals (nat_abs z)
counts-below (pos n) e = absurd (omega (arith, ltb-true n 0 e))
counts-below (negsuc n) e = refl
