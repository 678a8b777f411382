-- A card that can be read, and its file. Assumes nothing.
use Rattle.std.specs.Prelude.{ℕ, ◌≤◌, ◌≡◌, List, length}
use Rattle.records.specs.declared.Card.{Card}
use Rattle.records.specs.declared.CardRead.{CardRead}
use Rattle.meaning.specs.Refusals.{Verdict, refused, ◌⨾◌, room}
use Rattle.meaning.specs.Calls.{given}
use Rattle.meaning.specs.Edition2.{put_after}
use Rattle.meaning.specs.Card.{card_of, bytes_in, card_file, file_verdict}

-- the answer where the card cannot be read, at this place
abbrev pub unreadable : ℕ → ℕ → CardRead
unreadable place wants = record { verdict = refused 19 place; wants = wants; length = 0 }

-- what was seen of a card that is short enough, and the bytes that its words gave, which a file holds
pub record Readable (s : List ℕ) (seen : Card) (body : List ℕ) : Type 0 where
  pub short : length s ≤ 65536
  pub is : seen ≡ card_of s
  pub bytes : body ≡ bytes_in s
  pub few : length (bytes_in s) ≤ 16348

-- the same, with the file
pub record Filed (s : List ℕ) (seen : Card) (file : List ℕ) : Type 0 where
  pub short : length s ≤ 65536
  pub is : seen ≡ card_of s
  pub whole : file ≡ card_file s

-- the answer where the card can be read, and the room after
abbrev pub filing : List ℕ → ℕ → Verdict
filing s len = file_verdict s ⨾ room len (length (card_file s))

abbrev pub file_answer : List ℕ → ℕ → CardRead
file_answer s len = record { verdict = filing s len; wants = 0; length = given (filing s len) (length (card_file s)) 0 }

abbrev pub file_after : List ℕ → List ℕ → List ℕ
file_after s out = put_after (filing s (length out)) (card_file s) out
