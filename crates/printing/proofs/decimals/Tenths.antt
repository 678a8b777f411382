-- A number of two words and its tenth: what the test of one digit says, the digits, and that a tenth is less. Assumes nothing.
use mathlib.Core.Path.{◌≡◌, sym, ◌∙◌}
use mathlib.Core.Bool.{Bool, true, false}
use mathlib.Core.List.{[], ◌∷◌, ◌++◌}
use Prim.Native.Nat.{ℕ, ◌+◌, ◌/◌, ◌%◌, ◌^◌, ◌≤◌, ◌<◌}
use native.Mathlib.Nat.{div-lt_iff_lt-mul, lt_trans}
use native.Mathlib.Omega.{arith}
use lib.Dec.{leb, lit<}
use borrow.Author.Tests.{leb-true, leb-false}
use Rattle.records.specs.declared.Wide.{Wide}
use Rattle.meaning.specs.Text.{digits}
use Rattle.meaning.specs.Wide.{value}
use Rattle.printing.proofs.decimals.Digits.{digits_more}

-- from 10 on, the digits of the tenth and then the last one; 2 ^ 128 is below 10 ^ 39
pub wide-more : (n q r : ℕ) → 10 ≤ n → n < 2 ^ 128 → q ≡ n / 10 → r ≡ n % 10 → digits 39 n ≡ digits 39 q ++ ((48 + r) ∷ [])
wide-more n q r h l e f = rw (e, f, digits_more 37 n h ((div-lt_iff_lt-mul (lit< tt)).1 (lt_trans l (lit< tt))))

-- ---- what the test says

module _ (x : Wide) {b : Bool} (e : b ≡ leb (value x) 9) where
  -- one digit, which the low word is
  pub one-digit : b ≡ true → (value x < 10) × (x.low ≡ value x)
  one-digit t = let l : value x ≤ 9 = leb-true _ _ (sym e ∙ t) in (omega arith, omega arith)

  -- more
  pub more-digits : b ≡ false → 10 ≤ value x
  more-digits t = leb-false _ _ (sym e ∙ t)

-- ---- the measure

-- the number, shut: omega is not to open it beside the words' own ranges
unfoldable pub size : Wide → ℕ
size x = value x

-- a tenth is less
pub tenth_less : (x y : Wide) → 10 ≤ value x → value y ≡ value x / 10 → size y < size x
unfolding size
tenth_less x y h e = less (value x) (value y) h e
  where
    less : (n m : ℕ) → 10 ≤ n → m ≡ n / 10 → m < n
    less n m h e = omega arith
