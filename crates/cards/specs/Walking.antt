-- A card walked byte by byte: what is left of it stays the same card, the same bytes and the same place. Assumes nothing.
use Rattle.std.specs.Prelude.{ℕ, ◌+◌, ◌-◌, ◌≤◌, ◌≡◌, List, [], false, not, length, take, drop}
use Rattle.algebra.specs.Buffers.{write}
use Rattle.meaning.specs.Card.{Word, ending, words_from, card_by, bytes_by, word_by}
use Rattle.cards.specs.declared.reading.Walk.{Walk}
use Rattle.cards.specs.Sizes.{Kept}
use Rattle.cards.specs.Putting.{Puts}

-- the bytes of the present word before place k
abbrev pub begun : List ℕ → ℕ → Walk → List ℕ
begun s k walk = take (k - walk.start) (drop walk.start s)

-- the words that are left at place k
abbrev pub left : List ℕ → ℕ → Walk → List Word
left s k walk = words_from walk.comment k (begun s k walk) (drop k s)

-- the present word ended before place k
pub record Ended (s : List ℕ) (k wants len : ℕ) (walk : Walk) (body : List ℕ) (r : Walk) (after : List ℕ) : Type 0 where
  pub card : r.card ≡ card_by walk.card (ending k (begun s k walk) [])
  pub at : r.at ≡ word_by wants len walk.card walk.at (ending k (begun s k walk) [])
  pub bytes : Puts (not r.card.bad) body walk.card.length (bytes_by walk.card (ending k (begun s k walk) [])) after r.card.length
  pub kept : Kept k r.card

-- the byte at place k was passed: what is left after it makes the same card, the same place, the same bytes
pub record Turned (s : List ℕ) (k wants len : ℕ) (walk : Walk) (body : List ℕ) (r : Walk) (after : List ℕ) : Type 0 where
  pub card : card_by r.card (left s (k + 1) r) ≡ card_by walk.card (left s k walk)
  pub at : word_by wants len r.card r.at (left s (k + 1) r) ≡ word_by wants len walk.card walk.at (left s k walk)
  pub bytes : (card_by r.card (left s (k + 1) r)).bad ≡ false →
      write after r.card.length (bytes_by r.card (left s (k + 1) r)) ≡ write body walk.card.length (bytes_by walk.card (left s k walk))
  pub long : length after ≡ length body
  pub kept : Kept r.start r.card
  pub start : r.start ≤ k + 1
