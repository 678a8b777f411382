-- The entries of a pair table: those of two objects, and zeros elsewhere. Assumes nothing.
use mathlib.Core.Path.{◌≡◌, refl, ap, ◌∙◌}
use mathlib.Core.Logic.{◌⊎◌, inl, inr}
use mathlib.Core.List.{List, [], replicate}
use mathlib.Core.Nat.{ℕ as Count, zero as none, suc as more}
use Prim.Native.Nat.{ℕ, zero, suc, ◌≤◌, ◌<◌}
use native.Mathlib.Decide.{dec_lt}
use native.Mathlib.Omega.{arith}
use lib.ListN.{get_or}
use Rattle.algebra.specs.Buffers.{over}
use Rattle.algebra.specs.Tables.{entry}
use Rattle.algebra.proofs.Filling.{get_d_over, get_d_past}
use Rattle.meaning.specs.Calls.{no_table, table_of}

-- an entry of a table of f
pub entry_of : (v : ℕ) (f : ℕ → ℕ → ℕ) (i j : ℕ) → v ≤ 50 → i < v → j < v → entry (table_of v f) i j ≡ f i j
unfolding table_of
entry_of v f i j h hi hj =
    ap (λ (row : List ℕ). get_or row j 0) (get_d_over v (λ i. over v (f i) (replicate 50 0)) (replicate 50 (replicate 50 0)) [] i hi h)
    ∙ get_d_over v (f i) (replicate 50 0) 0 j hj h

-- zeros, at any place
zeros : (n : Count) (j : ℕ) → ◌≡◌ {A = ℕ} (get_or (replicate n 0) j 0) 0
zeros none j = refl
zeros (more n) zero = refl
zeros (more n) (suc j) = zeros n j

-- and rows of them
no_rows : (n : Count) (i j : ℕ) → entry (replicate n (replicate 50 0)) i j ≡ 0
no_rows none i j = refl
no_rows (more n) zero j = zeros 50 j
no_rows (more n) (suc i) j = no_rows n i j

-- a row or a column past the table's objects has zeros
pub entry_elsewhere : (v : ℕ) (f : ℕ → ℕ → ℕ) (i j : ℕ) → v ≤ 50 → (v ≤ i) ⊎ (v ≤ j) → entry (table_of v f) i j ≡ 0
unfolding table_of
entry_elsewhere v f i j h o = by (dec_lt i v) o
  where
    by : Dec (i < v) → (v ≤ i) ⊎ (v ≤ j) → entry (over v (λ i. over v (f i) (replicate 50 0)) no_table) i j ≡ 0
    by (yes l) (inl a) = absurd (omega arith)
    by (yes l) (inr a) =
        ap (λ (row : List ℕ). get_or row j 0) (get_d_over v (λ i. over v (f i) (replicate 50 0)) no_table [] i l h)
        ∙ get_d_past v (f i) (replicate 50 0) 0 j a ∙ zeros 50 j
    by (no n) a = ap (λ (row : List ℕ). get_or row j 0) (get_d_past v (λ i. over v (f i) (replicate 50 0)) no_table [] i (omega (arith, n))) ∙ no_rows 50 i j
