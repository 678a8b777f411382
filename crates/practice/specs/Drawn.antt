-- A practice reading as it is drawn from the words of its block, and the number that the generator has before it. Assumes nothing.
use Rattle.std.specs.Prelude.{ℕ, zero, suc, ◌+◌, ◌*◌, ◌<◌, ◌≤◌, List, length, ℤ, pos, ◌+ℤ◌, ◌-ℤ◌, ◌*ℤ◌, slice_index, unsigned_abs}
use Rattle.algebra.specs.Ranges.{sum}
use Rattle.meaning.specs.Analysis.{member}
use Rattle.meaning.specs.Practice.{truth, truth_limit, state, noise}

-- true values of at most 50 objects, each in its range
pub record Known (u : List ℤ) : Type 0 where
  pub few : length u ≤ 50
  pub most : (i : ℕ) → i < length u → unsigned_abs (truth u i) ≤ truth_limit

-- the true values over the objects of the word a, less those over the objects of the word b
unfoldable pub between : List ℤ → ℕ → ℕ → ℤ
between u a b = sum (length u) (λ i. (pos (member a i) -ℤ pos (member b i)) *ℤ truth u i)

-- the reading of block k with the noise of width w in x
unfoldable pub reading_in : List ℕ → List ℤ → ℕ → ℕ → ℕ → ℤ
reading_in words u w x k = between u (slice_index words (2 * k)) (slice_index words (2 * k + 1)) +ℤ noise w x

-- the number that the generator has before block k
unfoldable pub before : ℕ → ℕ → ℕ
before start zero = start
before start (suc k) = state start k
