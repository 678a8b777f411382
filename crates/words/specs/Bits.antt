-- What the bits of a word say: one bit an object. Assumes nothing.
use Rattle.std.specs.Prelude.{ℕ, ◌-◌, ◌*◌, ◌/◌, ◌%◌, ◌^◌, eqb}
use Rattle.algebra.specs.Ranges.{first_from}
use Rattle.meaning.specs.Analysis.{member}

-- 1 where both i and j stand in w, and 0 otherwise; with i twice, where i stands
abbrev pub company_of : ℕ → ℕ → ℕ → ℕ
company_of w i j = member w i * member w j

-- 1 where i stands in w and j in u, and 0 otherwise
abbrev pub opposition_of : ℕ → ℕ → ℕ → ℕ → ℕ
opposition_of w u i j = member w i * member u j

-- the lowest place of w with a 1, and 64 where there is none
unfoldable pub lowest_of : ℕ → ℕ
lowest_of w = first_from (λ i. eqb (member w i) 1) 0 64

-- w without its lowest 1; none is taken from 0, since 0 less 2 ^ 64 is 0
unfoldable pub without_lowest : ℕ → ℕ
without_lowest w = w - 2 ^ lowest_of w
