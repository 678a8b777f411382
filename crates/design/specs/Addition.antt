-- What a lent card gives, and the shift that takes an element to 0. Assumes nothing.
use Rattle.std.specs.Prelude.{ℕ, ◌+◌, ◌*◌, ◌<◌, true, ◌≡◌, eqb, length, get_or}
use mathlib.Core.List.{List, replicate}
use Rattle.algebra.specs.Buffers.{over}
use Rattle.algebra.specs.Ranges.{first_from}
use Rattle.records.specs.declared.Head.{Head}
use Rattle.meaning.specs.Design.{by_field, plus}

-- room for the largest card
abbrev pub no_card : List ℕ
no_card = replicate 2401 0

-- a card at the front of the room
pub record Laid (card room : List ℕ) : Type 0 where
  pub is : room ≡ over (length card) (λ i. get_or card i 0) no_card

-- where a head asks for a field, the card's entry x n + s is x + s
abbrev pub Sums : Head → List ℕ → Type 0
Sums h card = by_field h ≡ true → (x s : ℕ) → x < h.n → s < h.n → get_or card (x * h.n + s) 0 ≡ plus h x s

-- the shift that takes x to 0
unfoldable pub back : Head → ℕ → ℕ
back h x = first_from (λ s. eqb (plus h x s) 0) 0 h.n
