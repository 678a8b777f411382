-- A list with every entry changed. Assumes nothing.
use Rattle.std.specs.Prelude.{ℕ, suc, List, [], ◌∷◌}

-- a list with f k x in the place of each entry x, k its place
unfoldable pub each_at : {A : Type 0} → (ℕ → A → A) → List A → List A
each_at f [] = []
each_at f (x ∷ l) = f 0 x ∷ each_at (λ (k : ℕ). f (suc k)) l
