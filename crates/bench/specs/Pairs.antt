-- By which pair of objects an unbalanced design is told, from the rows of object 0 in its two pair tables. Assumes nothing.
use Rattle.std.specs.Prelude.{ℕ, Bool, not, ◌&&◌, List, eqb, get_or}
use Rattle.algebra.specs.Ranges.{first_from}

-- object j shares a side with object 0, or opposes it, more or less often than object 1 does
unfoldable pub odd : List ℕ → List ℕ → ℕ → Bool
odd c o j = not (eqb (get_or c j 0) (get_or c 1 0) && eqb (get_or o j 0) (get_or o 1 0))

-- the first of the objects from 2 on that does, 50 where there is none
unfoldable pub first_odd : List ℕ → List ℕ → ℕ
first_odd c o = first_from (odd c o) 2 48
