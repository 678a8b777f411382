-- What is put into lent room where it is wanted, and how far the place goes in any case. Assumes nothing.
use Rattle.std.specs.Prelude.{ℕ, ◌+◌, ◌≡◌, Bool, true, List, length}
use Rattle.algebra.specs.Buffers.{Wrote}

-- s is put from `at` on, where it is good; the place moves on by its length, and the room keeps its own
pub record Puts (good : Bool) (out : List ℕ) (at : ℕ) (s : List ℕ) (after : List ℕ) (next : ℕ) : Type 0 where
  pub place : next ≡ at + length s
  pub long : length after ≡ length out
  pub bytes : good ≡ true → Wrote out at s after next
