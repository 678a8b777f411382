-- Signed arithmetic at 64 bits, an operation a line. A `Num` is a local's bits, the number that they are read as, and a bound on its size.
-- Each operation has two laws: `-fits` answers its need, and the other is the `Num` of its result, whose bits, number and bound compute.
-- Assumes nothing.
use mathlib.Core.Path.{◌≡◌, refl, sym, subst, ◌∙◌}
use Prim.Native.Nat.{ℕ, ◌+◌, ◌*◌, ◌^◌, ◌≤◌, ◌<◌}
use native.Mathlib.Nat.{le_trans, le_of_eq, lt_of_le_of_lt, add-le-add, mul-le-mul}
use native.Mathlib.Omega.{arith}
use lib.Dec.{T}
use lib.IntN.{ℤ, pos, nat_abs, ◌+ℤ◌, ◌-ℤ◌, ◌*ℤ◌}
use lib.Signed.{non_neg, ◌≤ℤ◌, yes_non_neg}
use mir.Syntax.{w32, w64}
use mir.Val.{Fits, SFits, to_z, of_z}
use mir.Facts.{to_z-of_z, to_z_pos, sfits_widen}
use Rattle.algebra.proofs.Bounds.{mag_abs, abs-+, abs_sub, abs-*}

-- a number below 2 ^ 63 in size is an i64
pub small_fits : (z : ℤ) {B : ℕ} → nat_abs z ≤ B → B < 2 ^ 63 → SFits w64 z
small_fits z h l = record { sfits = lt_of_le_of_lt (le_trans (mag_abs z) h) l }

-- ---- a local of 64 bits, the number that it is read as, and a bound on that number's size

pub record Num : Type 0 where
  pub bits : ℕ
  pub num : ℤ
  pub size : ℕ
  pub reads : to_z w64 bits ≡ num
  pub small : nat_abs num ≤ size

-- a loop's variable, of which the invariant says what its bits are read as
abbrev pub local : (n : ℕ) {z : ℤ} (B : ℕ) → to_z w64 n ≡ z → nat_abs z ≤ B → Num
local n {z} B e h = record { bits = n; num = z; size = B; reads = e; small = h }

-- a number in hand: a parameter, an element of a slice, a call's result, a literal
abbrev pub number : (z : ℤ) (B : ℕ) → nat_abs z ≤ B → B < 2 ^ 63 → Num
number z B h l = record { bits = of_z w64 z; num = z; size = B; reads = to_z-of_z (small_fits z h l); small = h }

-- a call's result z, which its contract says is y
abbrev pub called : (z : ℤ) {y : ℤ} (B : ℕ) → z ≡ y → nat_abs y ≤ B → B < 2 ^ 63 → Num
called z {y} B e h l = record { bits = of_z w64 z; num = y; size = B; reads = to_z-of_z (subst (SFits w64) (sym e) (small_fits y h l)) ∙ e; small = h }

-- a parameter, as a loop's invariant has it, which is handed its bits
abbrev pub param : (z : ℤ) (B : ℕ) → nat_abs z ≤ B → B < 2 ^ 63 → Num
param z B h l = record { bits = of_z w64 z; num = to_z w64 (of_z w64 z); size = B; reads = refl; small = rw (to_z-of_z (small_fits z h l)) h }

-- an unsigned number, cast
abbrev pub unsigned : (n B : ℕ) → n ≤ B → B < 2 ^ 63 → Num
unsigned n B h l = record { bits = n; num = pos n; size = B; reads = to_z_pos w64 (lt_of_le_of_lt h l); small = h }

-- an i32 fits, cast
pub widened_fits : (z : ℤ) → SFits w32 z → SFits w64 (to_z w32 (of_z w32 z))
widened_fits z f = subst (SFits w64) (sym (to_z-of_z f)) (sfits_widen tt f)

-- an i32, cast
abbrev pub widened : (z : ℤ) (B : ℕ) → SFits w32 z → nat_abs z ≤ B → Num
widened z B f h = record { bits = of_z w64 (to_z w32 (of_z w32 z)); num = z; size = B; reads = to_z-of_z (widened_fits z f) ∙ to_z-of_z f; small = h }

-- ---- the operations: `-fits` answers the need, and the other is the result

module _ (x y : Num) where
  plus-at : nat_abs (to_z w64 x.bits +ℤ to_z w64 y.bits) ≤ x.size + y.size
  plus-at = rw (x.reads, y.reads) (le_trans (abs-+ x.num y.num) (add-le-add x.small y.small))

  minus-at : nat_abs (to_z w64 x.bits -ℤ to_z w64 y.bits) ≤ x.size + y.size
  minus-at = rw (x.reads, y.reads) (le_trans (abs_sub x.num y.num) (add-le-add x.small y.small))

  times-at : nat_abs (to_z w64 x.bits *ℤ to_z w64 y.bits) ≤ x.size * y.size
  times-at = rw (x.reads, y.reads) (le_trans (le_of_eq (abs-* x.num y.num)) (mul-le-mul x.small y.small))

  -- the need of x + y
  pub plus_fits : x.size + y.size < 2 ^ 63 → SFits w64 (to_z w64 x.bits +ℤ to_z w64 y.bits)
  plus_fits l = small_fits _ plus-at l

  -- the need of x - y
  pub minus_fits : x.size + y.size < 2 ^ 63 → SFits w64 (to_z w64 x.bits -ℤ to_z w64 y.bits)
  minus_fits l = small_fits _ minus-at l

  -- the need of x * y
  pub times_fits : x.size * y.size < 2 ^ 63 → SFits w64 (to_z w64 x.bits *ℤ to_z w64 y.bits)
  times_fits l = small_fits _ times-at l

  -- x + y
  abbrev pub plus : x.size + y.size < 2 ^ 63 → Num
  plus l =
      record {
        bits = of_z w64 (to_z w64 x.bits +ℤ to_z w64 y.bits);
        num = x.num +ℤ y.num;
        size = x.size + y.size;
        reads = to_z-of_z (plus_fits l) ∙ (λ i. (x.reads i) +ℤ (y.reads i));
        small = le_trans (abs-+ x.num y.num) (add-le-add x.small y.small);
      }

  -- x - y
  abbrev pub minus : x.size + y.size < 2 ^ 63 → Num
  minus l =
      record {
        bits = of_z w64 (to_z w64 x.bits -ℤ to_z w64 y.bits);
        num = x.num -ℤ y.num;
        size = x.size + y.size;
        reads = to_z-of_z (minus_fits l) ∙ (λ i. (x.reads i) -ℤ (y.reads i));
        small = le_trans (abs_sub x.num y.num) (add-le-add x.small y.small);
      }

  -- x * y
  abbrev pub times : x.size * y.size < 2 ^ 63 → Num
  times l =
      record {
        bits = of_z w64 (to_z w64 x.bits *ℤ to_z w64 y.bits);
        num = x.num *ℤ y.num;
        size = x.size * y.size;
        reads = to_z-of_z (times_fits l) ∙ (λ i. (x.reads i) *ℤ (y.reads i));
        small = le_trans (le_of_eq (abs-* x.num y.num)) (mul-le-mul x.small y.small);
      }

-- ---- a number that is not negative, cast to a u64

module _ (x : Num) (n : pos 0 ≤ℤ x.num) where
  not_negative : T (non_neg (to_z w64 x.bits))
  not_negative = rw x.reads (yes_non_neg n)

  -- the need of the cast
  pub cast_fits : x.size < 2 ^ 63 → T (non_neg (to_z w64 x.bits)) × Fits w64 (nat_abs (to_z w64 x.bits))
  cast_fits l = (not_negative, rw x.reads (record { fits = omega (arith, x.small) }))
