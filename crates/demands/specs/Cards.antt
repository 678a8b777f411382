-- CARDS. A job as a text that a person types and reads, a line for each thing; # starts a comment, blanks and empty lines are free. The card that is printed
-- for an accepted file reads as the same head, blocks, set, sum, readings, names and other fields, for either edition; comments and spacing change nothing.
-- `words s` are the words of a text with their places; `card_verdict s` is what is said of a card, `card_wants s` what was wanted where it cannot be read,
-- `card_file s` the file that it makes; `card_text_of s` and `card_text_of2 s` are the cards that are printed for a file of the first and of the second
-- edition; `four_of s` are the four fields of a file of the second edition, and `optional_at s` is where its optional fields start; `Bytes s` says that every
-- entry of s is below 256, as the entries of any lent bytes are. Assumes nothing.
use Rattle.std.specs.Prelude.{List, [], ◌∷◌, ◌++◌, map, ◌≡◌, ℕ, ◌≤◌, ◌<◌, length, get_or}
use Rattle.meaning.specs.Refusals.{accepted, refused, number}
use Rattle.meaning.specs.File.{read_verdict}
use Rattle.meaning.specs.Writing.{Bytes}
use Rattle.meaning.specs.Text.{refused_line}
use Rattle.meaning.specs.Edition2.{four_of, optional_at, read_verdict2}
use Rattle.meaning.specs.Card.{Word, words, card_file, card_verdict, card_wants}
use Rattle.meaning.specs.CardText.{card_text_of, card_text_of2}
use Rattle.demands.specs.Job.{job_in}

-- ---- words, and what may stand between them

-- the words of a text, whatever their places
abbrev pub words_of : List ℕ → List (List ℕ)
words_of s = map (λ (w : Word). w.bytes) (words s)

-- every byte of a text
abbrev pub Every : (ℕ → Type 0) → List ℕ → Type 0
Every P s = (i : ℕ) → i < length s → P (get_or s i 0)

-- a byte of a word is above the space and not #, and a comment is ended by the first newline
abbrev pub InWord : ℕ → Type 0
InWord x = (32 < x) × (x ≡ 35 → ⊥)

abbrev pub InComment : ℕ → Type 0
InComment x = x ≡ 10 → ⊥

-- what stands behind a word: nothing more, a blank, or a comment
pub data Behind : List ℕ → Type 0 where
  nothing : Behind []
  a_blank : {x : ℕ} {s : List ℕ} → x ≤ 32 → Behind (x ∷ s)
  a_comment : {s : List ℕ} → Behind (35 ∷ s)

-- words laid out in a text, with any blanks and comments before, between and behind them; the last comment may lack its newline
pub data LaidOut : List (List ℕ) → List ℕ → Type 0 where
  end : LaidOut [] []
  blank : {ws : List (List ℕ)} {s : List ℕ} (x : ℕ) → x ≤ 32 → LaidOut ws s → LaidOut ws (x ∷ s)
  comment : {ws : List (List ℕ)} {s : List ℕ} (text : List ℕ) → Every InComment text → LaidOut ws s → LaidOut ws (35 ∷ text ++ 10 ∷ s)
  last-comment : (text : List ℕ) → Every InComment text → LaidOut [] (35 ∷ text)
  word : {ws : List (List ℕ)} {s : List ℕ} (w : List ℕ) → 0 < length w → Every InWord w → Behind s → LaidOut ws s → LaidOut (w ∷ ws) (w ++ s)

-- ---- comments and spacing

module _ (s : List ℕ) where
  pub record WordsOfCards : Type 0 where
    -- Every text lays out words, and they are those that are read: it lays out no others
    pub are_laid_out : LaidOut (words_of s) s
    pub no_others : (ws : List (List ℕ)) → LaidOut ws s → words_of s ≡ ws

module _ (s t : List ℕ) where
  pub record CommentsAndSpacing : Type 0 where
    -- Two texts of the same words make the same file, ..
    pub same-file : words_of s ≡ words_of t → card_file s ≡ card_file t
    -- .. are refused with the same number or accepted both, and the same is wanted where they cannot be read; a card has at most 65,536 bytes
    pub same_number : words_of s ≡ words_of t → length s ≤ 65536 → length t ≤ 65536 → number (card_verdict s) ≡ number (card_verdict t)
    pub same_wanted : words_of s ≡ words_of t → length s ≤ 65536 → length t ≤ 65536 → card_wants s ≡ card_wants t
    -- So comments and spacing change nothing: words laid out in two ways
    pub laid_out_twice : (ws : List (List ℕ)) → LaidOut ws s → LaidOut ws t → length s ≤ 65536 → length t ≤ 65536 →
        (card_file s ≡ card_file t) × (number (card_verdict s) ≡ number (card_verdict t)) × (card_wants s ≡ card_wants t)

-- ---- the card that is printed

module _ (s : List ℕ) where
  pub record CardsOfFiles : Type 0 where
    -- The card of an accepted file of the first edition is accepted and makes that file, byte for byte, ..
    pub card_is_read : Bytes s → read_verdict s ≡ accepted → card_verdict (card_text_of s) ≡ accepted
    pub same_bytes : Bytes s → read_verdict s ≡ accepted → card_file (card_text_of s) ≡ s
    -- .. so the same head, blocks, readings, set and sum
    pub same-job : Bytes s → read_verdict s ≡ accepted → job_in (card_file (card_text_of s)) ≡ job_in s
    -- For a refused file the refusal alone is printed
    pub refusal-printed : (k place : ℕ) → read_verdict s ≡ refused k place → card_text_of s ≡ refused_line k place
    -- No text is longer than a card may be
    pub card_is_short : length (card_text_of s) ≤ 65536

  pub record CardsOfSecondFiles : Type 0 where
    -- The card of an accepted file of the second edition is accepted; ..
    pub card_is_read : Bytes s → read_verdict2 s ≡ accepted → card_verdict (card_text_of2 s) ≡ accepted
    -- .. with names or other optional fields it makes that file, byte for byte, so that nothing is dropped, ..
    pub same_bytes : Bytes s → read_verdict2 s ≡ accepted → optional_at s < length s → card_file (card_text_of2 s) ≡ s
    -- .. and without any it makes its four fields, a file of the first edition: the same head, blocks, readings, set and sum
    pub same-four : Bytes s → read_verdict2 s ≡ accepted → length s ≤ optional_at s → card_file (card_text_of2 s) ≡ four_of s
    pub refusal-printed : (k place : ℕ) → read_verdict2 s ≡ refused k place → card_text_of2 s ≡ refused_line k place
    pub card_is_short : Bytes s → length (card_text_of2 s) ≤ 65536
