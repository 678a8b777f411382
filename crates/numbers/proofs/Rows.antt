-- The numbers that stand one after another in the bytes, and what stands at the start of a room that is written with them. Assumes nothing.
use Prim.Native.Nat.{ℕ, zero, suc, ◌+◌, ◌*◌, ◌≤◌, min}
use mathlib.Core.Path.{◌≡◌, refl, ap, ap₂, ◌∙◌}
use mathlib.Core.List.{List, [], ◌∷◌, ◌++◌}
use native.Mathlib.Omega.{arith}
use native.Mathlib.Nat.{not-suc-le-zero, le_of_suc-le-suc}
use lib.ListN.{take, drop, length}
use lib.IntN.{ℤ}
use Rattle.algebra.specs.Buffers.{over}
use Rattle.algebra.proofs.Filling.{over_ext}
use Rattle.meaning.specs.File.{big, twos, numbers_at}

-- number k of those from `at` on
abbrev pub number_of : List ℕ → ℕ → ℕ → ℤ
number_of s at k = twos 32 (big s (at + 4 * k) 4)

-- the first of them
first : (s : List ℕ) (at : ℕ) → number_of s at 0 ≡ twos 32 (big s at 4)
first s at = ap (λ (place : ℕ). twos 32 (big s place 4)) (omega arith)

-- the next of them is that of the rest
next : (s : List ℕ) (at k : ℕ) → number_of s at (suc k) ≡ number_of s (at + 4) k
next s at k = ap (λ (place : ℕ). twos 32 (big s place 4)) (omega arith)

-- a room that holds c of them holds them at its start
pub take-numbers : (s : List ℕ) (at c : ℕ) (l : List ℤ) → c ≤ length l → take c (over c (number_of s at) l) ≡ numbers_at s at c
unfolding numbers_at over
take-numbers s at zero l h = refl
take-numbers s at (suc c) [] h = absurd (not-suc-le-zero h)
take-numbers s at (suc c) (x ∷ l) h =
    ap₂ (λ (y : ℤ) (ys : List ℤ). y ∷ ys) (first s at)
    (ap (take c) (over_ext c (λ (k : ℕ). number_of s at (suc k)) (number_of s (at + 4)) l (λ k hk. next s at k))
    ∙ take-numbers s (at + 4) c l (le_of_suc-le-suc h))

-- a room whose front, as far as c entries go, is lent and written over
pub over-front : {A : Type 0} (c k : ℕ) (f : ℕ → A) (l : List A) → k ≡ min c (length l) → over k f (take k l) ++ drop k l ≡ over c f l
unfolding over
over-front zero zero f l e = refl
over-front (suc c) zero f [] e = refl
over-front (suc c) zero f (x ∷ l) e = absurd (omega arith)
over-front zero (suc k) f l e = absurd (omega arith)
over-front (suc c) (suc k) f [] e = absurd (omega arith)
over-front {A = A} (suc c) (suc k) f (x ∷ l) e = ap (λ (t : List A). f 0 ∷ t) (over-front c k (λ (i : ℕ). f (suc i)) l (omega arith))
