-- The meetings of two objects, counted in developed words, and tables that they are added to. Block k has the left word 2k and the right word 2k + 1.
-- Assumes nothing.
use Rattle.std.specs.Prelude.{ℕ, ◌+◌, ◌*◌, ◌^◌, Bool, true, false, cond, ◌&&◌, List, get_or, length, ltb, leb}
use Rattle.algebra.specs.Ranges.{sum_ℕ, all}
use Rattle.meaning.specs.Calls.{no_table}
use Rattle.words.specs.Bits.{company_of, opposition_of}
use Rattle.words.specs.Changing.{each_at}

-- a row with f j more in each column j
abbrev pub row_more : (ℕ → ℕ) → List ℕ → List ℕ
row_more f = each_at (λ j x. x + f j)

-- a table with f i j more in each row i and column j
abbrev pub table_more : (ℕ → ℕ → ℕ) → List (List ℕ) → List (List ℕ)
table_more f = each_at (λ i. row_more (f i))

-- how often i and j meet in a block of the words l and r: on different sides, or on the same
abbrev pub meetings : Bool → ℕ → ℕ → ℕ → ℕ → ℕ
meetings true l r i j = opposition_of l r i j + opposition_of r l i j
meetings false l r i j = company_of l i j + company_of r i j

-- how often they meet in the first b blocks
unfoldable pub tally : Bool → List ℕ → ℕ → ℕ → ℕ → ℕ
tally opposite ws b i j = sum_ℕ b (λ k. meetings opposite (get_or ws (2 * k) 0) (get_or ws (2 * k + 1) 0) i j)

-- the words of b blocks can be counted into a table of 50 objects: there are so many, for at most 1,300 blocks, and none names an object from 50 on
unfoldable pub countable : List ℕ → ℕ → Bool
countable ws b = leb b 1300 && leb (2 * b) (length ws) && all (2 * b) (λ c. ltb (get_or ws c 0) (2 ^ 50))

-- the table of how often two objects meet in the first b blocks; zeros where they cannot be counted
unfoldable pub counted : Bool → List ℕ → ℕ → List (List ℕ)
counted opposite ws b = cond (countable ws b) (table_more (tally opposite ws b) no_table) no_table
