-- What a text leaves of its column, found by a dry run; and the eight bytes of a name. Assumes nothing.
use mathlib.Core.Path.{◌≡◌, refl}
use mathlib.Core.List.{List}
use Prim.Native.Nat.{ℕ, zero, suc, ◌+◌, ◌-◌, ◌*◌, ◌≤◌, ◌<◌}
use native.Mathlib.Nat.{lt_of_not-le}
use native.Mathlib.Decide.{dec_le}
use native.Mathlib.Omega.{arith}
use lib.ListN.{length, take, drop}
use Rattle.algebra.specs.Buffers.{Wrote}
use Rattle.algebra.proofs.Writing.{counts, measured}
use Rattle.meaning.specs.Text.{name_text}
use Rattle.meaning.specs.Certificate.{name_from}

-- a dry run counts the text, or more than any column has
pub left_is : (width : ℕ) {one one' text : List ℕ} {n : ℕ} → width < 18446744073709551615 → Wrote one 0 text one' n → width - n ≡ width - length text
left_is width {one} {one'} {text} {n} small dry = by (dec_le (length text) width) (dec_le n width)
  where
    by : Dec (length text ≤ width) → Dec (n ≤ width) → width - n ≡ width - length text
    by (yes l) k = omega (arith, counts dry (omega arith))
    by (no f) (yes k) = absurd (omega (arith, lt_of_not-le f, measured dry (omega arith)))
    by (no f) (no k) = omega (arith, lt_of_not-le f, lt_of_not-le k)

-- the name of an object, where there are names
pub name_there : (s : List ℕ) (names i : ℕ) → 0 < names → name_from s names i ≡ name_text (take 8 (drop (names + 8 * i) s))
name_there s zero i l = absurd (omega arith)
name_there s (suc at) i l = refl
