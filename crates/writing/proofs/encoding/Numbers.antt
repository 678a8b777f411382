-- Readings one after the other. Assumes nothing.
use mathlib.Core.Path.{◌≡◌, refl, sym, ap, ◌∙◌}
use mathlib.Core.List.{List, [], ◌∷◌, ◌++◌, append_assoc, append-nil}
use Prim.Native.Nat.{ℕ, ◌+◌, ◌<◌}
use native.Mathlib.Numerals.{add-one}
use lib.IntN.{ℤ, pos}
use lib.ListN.{length, get_or, take}
use lib.Seq.{take-suc}
use Rattle.algebra.specs.Buffers.{Wrote}
use Rattle.algebra.proofs.Writing.{nothing, ◌then◌, named}
use Rattle.meaning.specs.Writing.{bytes_of, wrapped, readings_body}

-- ---- readings

-- some readings and then others
body-append : (a b : List ℤ) → readings_body (a ++ b) ≡ readings_body a ++ readings_body b
unfolding readings_body
body-append [] b = refl
body-append (z ∷ a) b = ap (λ (l : List ℕ). bytes_of 4 (wrapped 32 z) ++ l) (body-append a b)
    ∙ sym (append_assoc (bytes_of 4 (wrapped 32 z)) (readings_body a) (readings_body b))

-- one reading more
body_more : (y : List ℤ) (i : ℕ) → i < length y → readings_body (take (i + 1) y) ≡ readings_body (take i y) ++ bytes_of 4 (wrapped 32 (get_or y i (pos 0)))
unfolding readings_body
body_more y i l = rw (add-one, take-suc y i (pos 0))
    (body-append (take i y) (get_or y i (pos 0) ∷ [])
    ∙ ap (λ (t : List ℕ). readings_body (take i y) ++ t) (append-nil (bytes_of 4 (wrapped 32 (get_or y i (pos 0))))))

-- before the first turn of the loop nothing is written
pub no_readings : (o : List ℕ) (at : ℕ) (y : List ℤ) → Wrote o at (readings_body (take 0 y)) o at
unfolding readings_body
no_readings o at y = nothing o at

-- a turn of it
pub more-readings : {o o' o'' : List ℕ} {at r r' : ℕ} (y : List ℤ) (i : ℕ) → i < length y → Wrote o at (readings_body (take i y)) o' r →
    Wrote o' r (bytes_of 4 (wrapped 32 (get_or y i (pos 0)))) o'' r' → Wrote o at (readings_body (take (i + 1) y)) o'' r'
more-readings y i l p q = named (p then q) (sym (body_more y i l))
