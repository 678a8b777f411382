-- What neighbours take of the counting: the words of any blocks, and the tables that are counted in them. Assumes nothing.
use Prim.Native.Nat.{ℕ, ◌*◌, ◌≤◌}
use mathlib.Core.Path.{◌≡◌}
use mathlib.Core.Bool.{true, false}
use mathlib.Core.List.{List}
use lib.ListN.{length}
use Rattle.meaning.specs.Design.{company_in, opposition_in}
use Rattle.meaning.specs.Calls.{table_of}
use Rattle.balance.specs.Meetings.{counted}
use Rattle.balance.proofs.counting.Counted.{Blocks, company-counted, opposition-counted}

-- b blocks of such left and such right objects stand in words
abbrev pub InWords : ℕ → ℕ → (ℕ → List ℕ) → (ℕ → List ℕ) → List ℕ → Type 0
InWords = Blocks

module _ (b v : ℕ) (lefts rights : ℕ → List ℕ) (ws : List ℕ) (w : Blocks b v lefts rights ws) (few : b ≤ 1300) (long : 2 * b ≤ length ws) where
  -- the table of company is theirs
  pub company_of_blocks : counted false ws b ≡ table_of v (company_in b lefts rights)
  company_of_blocks = company-counted b v lefts rights ws w few long

  -- and so is that of opposition
  pub opposition_of_blocks : counted true ws b ≡ table_of v (opposition_in b lefts rights)
  opposition_of_blocks = opposition-counted b v lefts rights ws w few long
