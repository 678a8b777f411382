-- A reading's 32 bits out of 64. Assumes nothing.
use mathlib.Core.Path.{◌≡◌, refl, ap, ap₂, ◌∙◌}
use mathlib.Core.List.{List, [], ◌∷◌, ◌++◌}
use Prim.Native.Nat.{ℕ, zero, suc, ◌+◌, ◌-◌, ◌*◌, ◌/◌, ◌%◌, ◌^◌, ◌<◌}
use native.Mathlib.Nat.{pow-suc}
use native.Mathlib.Omega.{arith}
use lib.IntN.{ℤ, pos, negsuc}
use lib.Signed.{mag}
use mir.Syntax.{w32, w64}
use mir.Val.{to_z, of_z, SFits}
use mir.Facts.{to_z-of_z}
use Rattle.algebra.proofs.Numbers.{widened_fits}
use Rattle.meaning.specs.Writing.{bytes_of, wrapped}

-- what is above c bytes is lost
bytes_low : (c x k : ℕ) → bytes_of c (x + k * 256 ^ c) ≡ bytes_of c x
unfolding bytes_of
bytes_low zero x k = refl
bytes_low (suc c) x k =
    let high : (x + k * 256 ^ suc c) / 256 ≡ x / 256 + k * 256 ^ c = rw pow-suc (omega arith) in
    let low : (x + k * 256 ^ suc c) % 256 ≡ x % 256 = rw pow-suc (omega arith) in
    ap₂ (λ (n b : ℕ). bytes_of c n ++ (b ∷ [])) high low ∙ ap (λ (l : List ℕ). l ++ (x % 256 ∷ [])) (bytes_low c (x / 256) k)

-- the low four bytes of 64 bits are those of 32
pub bits_short : (z : ℤ) → mag z < 2 ^ 31 → bytes_of 4 (wrapped 64 z) ≡ bytes_of 4 (wrapped 32 z)
bits_short (pos n) l = refl
bits_short (negsuc n) l =
    let split : 2 ^ 64 - suc n ≡ 2 ^ 32 - suc n + 4294967295 * 256 ^ 4 = omega arith in
    ap (bytes_of 4) split ∙ bytes_low 4 (2 ^ 32 - suc n) 4294967295

-- a reading that is widened to 64 bits keeps its own four bytes
pub widened_short : (z : ℤ) → mag z < 2 ^ 31 → bytes_of 4 (wrapped 64 (to_z w64 (of_z w64 (to_z w32 (of_z w32 z))))) ≡ bytes_of 4 (wrapped 32 z)
widened_short z l =
    let fits : SFits w32 z = record { sfits = l } in
    rw (to_z-of_z (widened_fits z fits), to_z-of_z fits) (bits_short z l)
