-- Signs and totals as they stand in the words of a developed design. Assumes nothing.
use Rattle.std.specs.Prelude.{ℕ, ◌+◌, ◌*◌, ◌^◌, ◌≤◌, ◌<◌, ◌≡◌, List, get_or, length, ℤ, pos, ◌+ℤ◌, ◌-ℤ◌, ◌*ℤ◌, nat_abs}
use Rattle.algebra.specs.Ranges.{sum, sum_ℕ}
use Rattle.meaning.specs.Analysis.{reading, member}
use Rattle.meaning.specs.Refusals.{reading_limit}
use Rattle.words.specs.Changing.{each_at}

-- 1 where object i stands in the left word of block k, -1 where it stands in the right one, 0 elsewhere
abbrev pub sign_in : List ℕ → ℕ → ℕ → ℤ
sign_in words k i = pos (member (get_or words (2 * k) 0) i) -ℤ pos (member (get_or words (2 * k + 1) 0) i)

-- T(i) over the words of b blocks
unfoldable pub total_in : List ℕ → List ℤ → ℕ → ℕ → ℤ
total_in words y b i = sum b (λ k. sign_in words k i *ℤ reading y k)

-- the sum of the squares of T(0) .. T(v - 1)
abbrev pub squared_totals_in : List ℕ → List ℤ → ℕ → ℕ → ℕ
squared_totals_in words y b v = sum_ℕ v (λ i. nat_abs (total_in words y b i) * nat_abs (total_in words y b i))

-- words and readings for b blocks, with every reading in its range
pub record Weighed (words : List ℕ) (y : List ℤ) (b : ℕ) : Type 0 where
  pub blocks-most : b ≤ 1300
  pub words_long : 2 * b ≤ length words
  pub readings-long : b ≤ length y
  pub readings-most : (k : ℕ) → k < b → nat_abs (reading y k) ≤ reading_limit

-- every word of b blocks has its objects below v
pub record Within (words : List ℕ) (b v : ℕ) : Type 0 where
  pub below : (c : ℕ) → c < 2 * b → get_or words c 0 < 2 ^ v

-- every object of the word w has its place in a room of totals, and at most B stands there
pub record Room (totals : List ℤ) (w B : ℕ) : Type 0 where
  pub held : (i : ℕ) → member w i ≡ 1 → (i < length totals) × (nat_abs (get_or totals i (pos 0)) ≤ B)

-- the total of object i after y was added where the object is in the word w
unfoldable pub more : ℕ → ℤ → ℕ → ℤ → ℤ
more w y i total = total +ℤ pos (member w i) *ℤ y

-- a room of totals after y was added for every object of the word w
abbrev pub added : ℕ → ℤ → List ℤ → List ℤ
added w y = each_at (more w y)

-- and after the reading of block k was added for its left word and taken away for its right one
abbrev pub block_added : List ℕ → List ℤ → ℕ → List ℤ → List ℤ
block_added words y k totals = added (get_or words (2 * k + 1) 0) (pos 0 -ℤ reading y k) (added (get_or words (2 * k) 0) (reading y k) totals)
