-- The f64 of a claimed spread. Assumes nothing.
use Prim.Native.Nat.{ℕ, ◌<◌, ◌≤◌, ◌^◌}
use mathlib.Core.Path.{◌≡◌}
use native.Mathlib.Omega.{arith}
use native.Mathlib.Decide.{dec_le}
use native.Mathlib.Nat.{lt_of_not-le}
use borrow.Author.Tests.{lt-ltb, le-ltb}
use lib.IntN.{ℤ, pos, nat_abs}
use Rattle.std.specs.Prelude.{Option, Some, None}
use Rattle.records.specs.declared.Value.{Value}
use Rattle.meaning.specs.SheetText.{spread_claimed}
use Rattle.meaning.specs.Publishing.{float}
use Rattle.arithmetic.specs.Quotient.{value_from}
use Rattle.arithmetic.proofs.Exact.{Exact, quotient_is}

-- the claimed hundredths are an f64 exactly
small_for : (claimed : Option ℕ) → nat_abs (spread_claimed claimed) < 2 ^ 53
small_for None = omega arith
small_for (Some k) = by (dec_le 9007199254740992 k)
  where
    by : Dec (9007199254740992 ≤ k) → nat_abs (spread_claimed (Some k)) < 2 ^ 53
    by (yes h) = rw (le-ltb k 9007199254740992 h) (omega arith)
    by (no f) = let less : k < 9007199254740992 = lt_of_not-le f in rw (lt-ltb k 9007199254740992 less) (omega arith)

pub float_of_claimed : (claimed : Option ℕ) (h : ℤ) → h ≡ spread_claimed claimed → (v : Value) → v ≡ value_from h 100 (pos 0) 0 → v.value ≡ float (spread_claimed claimed) 100
float_of_claimed claimed h p v e =
    let exactly : Exact (spread_claimed claimed) 100 = record { top = small_for claimed; above = omega arith; bottom = omega arith } in
    rw (e, p, quotient_is (spread_claimed claimed) 100 exactly)
