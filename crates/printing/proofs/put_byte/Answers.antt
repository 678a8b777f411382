-- The byte is stored, or dropped past the end, and the place moves on but at the last one.
use Rattle.std.proofs.Common.{arith, ℕ, ◌+◌, ◌<◌, ◌≡◌, List, [], ◌∷◌, sym, ◌∙◌}
use Prim.Native.Nat.{◌≤◌, min}
use mathlib.Core.Path.{ap₂}
use native.Mathlib.Decide.{dec_le}
use lib.ListN.{set}
use lib.Seq.{set_out}
use Rattle.algebra.specs.Buffers.{Wrote, write, bump}
use Rattle.algebra.proofs.Writing.{bump-low, bump_high}
use Rattle.printing.proofs.put_byte.Goals.{then-at-out, else-at-out}
use Rattle.printing.proofs.put_byte.Goals as goal

-- the place after one more byte
moved : (at : ℕ) → at < 18446744073709551616 → min (at + 1) 18446744073709551615 ≡ bump at
moved at l = by (dec_le 18446744073709551615 at)
  where
    by : Dec (18446744073709551615 ≤ at) → min (at + 1) 18446744073709551615 ≡ bump at
    by (yes h) = rw (bump_high at h) (omega arith)
    by (no h) = rw (bump-low at (omega (arith, h))) (omega (arith, h))

one : (o : List ℕ) (at b : ℕ) → at < 18446744073709551616 → {o' : List ℕ} {r : ℕ} → o' ≡ set o at b → r ≡ min (at + 1) 18446744073709551615 → Wrote o at (b ∷ []) o' r
unfolding write
one o at b l e f = record { is = ap₂ (λ (x : List ℕ) (y : ℕ). (x, y)) e (f ∙ moved at l) }

pub returns : goal.returns
returns c = one c.args.out.now c.args.at c.args.byte (omega arith) stored c.saturating_add.ensures
  where
    stored : c.if-at-out.out ≡ set c.args.out.now c.args.at c.args.byte
    stored = elim c.if-at-out.branch [ then-at-out w ↦ w.out-is | else-at-out w ↦ w.out-is ∙ sym (set_out c.args.out.now c.args.at c.args.byte (omega arith)) ]
