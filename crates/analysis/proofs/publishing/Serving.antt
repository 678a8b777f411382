-- The hundredths of a member: those at or below its value and what it gains, which is at most one.
use Rattle.std.proofs.Common.{◌≡◌, ℕ, ◌≤◌, Bool, true, false, ℤ, pos, nat_abs, ◌+ℤ◌, cond, ltb, refl, sym, ap, ◌∙◌, arith, lit<, eq-eqb, w64, SFits, to_z, of_z}
use mir.Val.{bool_byte}
use mir.Facts.{to_z-of_z}
use Prim.Native.Nat.{◌^◌}
use Rattle.algebra.proofs.Numbers.{Num, called, plus}
use Rattle.arithmetic.specs.Quotient.{hundredths_of, below_of}
use Rattle.arithmetic.proofs.Exact.{below-small}
use Rattle.analysis.specs.Column.{hundredths_by}

pub gain : (t : Bool) → nat_abs (pos (bool_byte t)) ≤ 1
gain true = omega arith
gain false = omega arith

byte_is : (t : Bool) → bool_byte t ≡ cond t 1 0
byte_is true = refl
byte_is false = refl

-- those at or below, and what is gained
module _ (a : ℤ) (d own shared : ℕ) (below gained : ℤ) (e : below ≡ below_of a d) (g : gained ≡ pos (bool_byte (ltb own shared))) where
  abbrev pub floored : Num
  floored = called below (2 ^ 60) e (omega (arith, below-small a d)) (lit< tt)

  abbrev pub more : Num
  more = called gained 1 g (gain (ltb own shared)) (lit< tt)

-- a member is served so
pub served : (a : ℤ) (d m own shared : ℕ) (below gained : ℤ) → m ≡ 1 → below ≡ below_of (to_z w64 (of_z w64 a)) d →
    gained ≡ pos (bool_byte (ltb own shared)) → SFits w64 a →
    to_z w64 (of_z w64 (to_z w64 (of_z w64 below) +ℤ to_z w64 (of_z w64 gained))) ≡ hundredths_by a d m own shared
served a d m own shared below gained one e g ranged =
    let f = rw (to_z-of_z ranged) at e in
    (plus (floored a d own shared below gained f g) (more a d own shared below gained f g) (lit< tt)).reads
    ∙ ap (λ (b : ℕ). below_of a d +ℤ pos b) (byte_is (ltb own shared))
    ∙ sym (ap (λ (t : Bool). cond t (below_of a d +ℤ pos (cond (ltb own shared) 1 0)) (hundredths_of a d)) (eq-eqb m 1 one))
