-- A byte of a name as it stands in a word. Assumes nothing.
use Rattle.std.specs.Prelude.{ℕ, ◌+◌, cond, List, get_or, drop, length, eqb, ltb, leb}
use Rattle.meaning.specs.Card.{is_escape, hex_byte}

-- where the byte that is written at a place ends; that place itself where no byte of a name stands there
unfoldable pub byte_end : List ℕ → ℕ → ℕ
byte_end s at = cond (ltb at (length s))
    (cond (eqb (get_or s at 0) 92) (cond (is_escape (drop (at + 1) s)) (at + 4) at) (cond (leb (get_or s at 0) 126) (at + 1) at))
    at

-- the byte itself; behind the end a space
unfoldable pub byte_at : List ℕ → ℕ → ℕ
byte_at s at = cond (ltb at (length s)) (cond (eqb (get_or s at 0) 92) (hex_byte (drop (at + 2) s)) (get_or s at 0)) 32
