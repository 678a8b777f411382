-- A word by which a person gives a number: decimal digits, with a minus before them below 0, however large the number is. Assumes nothing.
use Rattle.std.specs.Prelude.{ℕ, Bool, cond, not, ◌&&◌, List, drop, get_or, length, eqb}
use Rattle.meaning.specs.SheetText.{digital}

-- whether a word is decimal digits, one at least
unfoldable pub in_digits : List ℕ → Bool
in_digits w = not (eqb (length w) 0) && digital w

-- the same behind a minus
unfoldable pub in_decimal : List ℕ → Bool
in_decimal w = cond (eqb (get_or w 0 0) 45) (in_digits (drop 1 w)) (in_digits w)
