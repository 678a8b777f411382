-- Tables of numbers, a list of rows. Assumes nothing.
use Rattle.std.specs.Prelude.{ℕ, List, [], get_or}

-- row i and column j of a table
abbrev pub entry : List (List ℕ) → ℕ → ℕ → ℕ
entry t i j = get_or (get_or t i []) j 0
