-- The words of a list of blocks, and a word with every object replaced by its members. Assumes nothing.
use Rattle.std.specs.Prelude.{ℕ, ◌-◌, ◌*◌, ◌/◌, ◌%◌, ◌^◌, cond, List, eqb}
use Rattle.algebra.specs.Ranges.{sum_ℕ}
use Rattle.meaning.specs.Analysis.{member}
use Rattle.meaning.specs.Calls.{word}
use Rattle.meaning.specs.Groups.{left_of, right_of}

-- word c of a list of blocks: left word, right word, next block
unfoldable pub list_word_at : ℕ → List ℕ → ℕ → ℕ
list_word_at p d c = cond (eqb (c % 2) 0) (word (left_of p d (c / 2))) (word (right_of p d (c / 2)))

-- the bits of the g members of object i
abbrev pub members_at : ℕ → ℕ → ℕ
members_at g i = (2 ^ g - 1) * 2 ^ (g * i)

-- the word w of objects below v, with every object replaced by its members
unfoldable pub word_in_members : ℕ → ℕ → ℕ → ℕ
word_in_members g v w = sum_ℕ v (λ i. member w i * members_at g i)
