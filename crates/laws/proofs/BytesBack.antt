-- What was written in bytes, read back at a place.
--     read_bytes_at   a number of c bytes
--     read-numbers    signed numbers of four bytes, one after another
-- Assumes nothing.
use mathlib.Core.Path.{◌≡◌, refl, sym, ap, ap₂, ◌∙◌}
use mathlib.Core.List.{List, [], ◌∷◌, ◌++◌, append_assoc}
use Prim.Native.Nat.{ℕ, suc, ◌+◌, ◌^◌, ◌≤◌, ◌<◌}
use native.Mathlib.Nat.{add-zero}
use native.Mathlib.Omega.{arith}
use lib.IntN.{ℤ, nat_abs}
use lib.ListN.{length, drop}
use lib.Seq.{drop-drop, drop_at}
use Rattle.meaning.specs.Analysis.{reading}
use Rattle.meaning.specs.File.{big, twos, numbers_at}
use Rattle.meaning.specs.Refusals.{reading_limit}
use Rattle.meaning.specs.Writing.{bytes_of, wrapped, readings_body}
use Rattle.laws.proofs.Bytes.{big-drop, bytes-long, read-bytes, wrapped-below, twos-wrapped}

-- what was written is read back
pub read_bytes_at : (s : List ℕ) (at c x : ℕ) (rest : List ℕ) → drop at s ≡ bytes_of c x ++ rest → x < 256 ^ c → big s at c ≡ x
read_bytes_at s at c x rest e h = ap (λ (i : ℕ). big s i c) (sym (add-zero at)) ∙ big-drop s at 0 c ∙ ap (λ (l : List ℕ). big l 0 c) e ∙ read-bytes c x rest h

-- so are signed numbers
pub read-numbers : (y : List ℤ) (s : List ℕ) (at : ℕ) (rest : List ℕ) → drop at s ≡ readings_body y ++ rest →
    ((k : ℕ) → k < length y → nat_abs (reading y k) ≤ reading_limit) → numbers_at s at (length y) ≡ y
unfolding numbers_at readings_body
read-numbers [] s at rest e near = refl
read-numbers (z ∷ y) s at rest e near =
    let small : nat_abs z < 2 ^ 31 = omega (arith, near 0 (omega arith)) in
    let here : drop at s ≡ bytes_of 4 (wrapped 32 z) ++ (readings_body y ++ rest) = e ∙ append_assoc (bytes_of 4 (wrapped 32 z)) (readings_body y) rest in
    let next : drop (at + 4) s ≡ readings_body y ++ rest = sym (drop-drop 4 at s) ∙ ap (drop 4) here
    ∙ drop_at (bytes_of 4 (wrapped 32 z)) (readings_body y ++ rest) 4 (bytes-long 4 (wrapped 32 z)) in
    ap₂ (λ (x : ℤ) (xs : List ℤ). x ∷ xs)
    (ap (twos 32) (read_bytes_at s at 4 (wrapped 32 z) (readings_body y ++ rest) here (wrapped-below 32 refl z small)) ∙ twos-wrapped 32 refl z small)
    (read-numbers y s (at + 4) rest next (λ k l. near (suc k) (omega arith)))
