-- The words of a card without their places: all that a card says goes by them.
--     words-plain                 the words of a text, their places left out
--     word_first, blank-first     a word, a blank and a comment at the front of a text
--     comment-first, comment-last
--     card-plain, bytes-plain     the card after some words, and the bytes that they add, go by the words' bytes alone
--     same-words                  two cards of the same words: the same file, the same number, and the same is wanted
-- Assumes nothing.
use Rattle.std.proofs.Common.{Ok, Err}
use mathlib.Core.Path.{◌≡◌, refl, sym, ap, ap₂, ◌∙◌}
use mathlib.Core.Bool.{Bool, true, false, cond, not, ◌&&◌, ◌||◌}
use mathlib.Core.List.{List, [], ◌∷◌, ◌++◌, map, append_assoc, append-nil}
use Prim.Native.Nat.{ℕ, ◌+◌, ◌≤◌, ◌<◌}
use native.Mathlib.Omega.{arith}
use lib.Dec.{eqb, ltb}
use lib.ListN.{length}
use borrow.Author.Tests.{lt-ltb, le-ltb, ne_eqb}
use Rattle.algebra.proofs.Tests.{and_left, and_right}
use Rattle.records.specs.declared.Card.{Card}
use Rattle.meaning.specs.Refusals.{Verdict, refused, number}
use Rattle.meaning.specs.File.{read_verdict}
use Rattle.meaning.specs.Edition2.{start_at, read_verdict2}
use Rattle.meaning.specs.Card.{
  Word,
  ending,
  words_from,
  words,
  step,
  adds,
  card_by,
  bytes_by,
  card_of,
  bytes_in,
  no_card,
  is_second,
  is_whole,
  card_limit,
  bytes_limit,
  file_from,
  card_file,
  moved_to,
  file_verdict,
  card_verdict,
  card_wants,
}

-- ---- words

-- the bytes of words
abbrev pub bytes_each : List Word → List (List ℕ)
bytes_each ws = map (λ (w : Word). w.bytes) ws

-- a word that has begun, where it has bytes, and those after it
abbrev pub closing : List ℕ → List (List ℕ) → List (List ℕ)
closing [] more = more
closing (x ∷ w) more = (x ∷ w) ∷ more

-- the words of a text by their bytes, in a comment or not, where w stands before it of a word that has begun
unfoldable pub plain : Bool → List ℕ → List ℕ → List (List ℕ)
plain comment w [] = closing w []
plain true w (x ∷ s) = plain (not (eqb x 10)) [] s
plain false w (x ∷ s) = cond (ltb x 33 || eqb x 35) (closing w (plain (eqb x 35) [] s)) (plain false (w ++ (x ∷ [])) s)

abbrev pub texts : List ℕ → List (List ℕ)
texts s = plain false [] s

ending-plain : (k : ℕ) (w : List ℕ) (more : List Word) → bytes_each (ending k w more) ≡ closing w (bytes_each more)
ending-plain k [] more = refl
ending-plain k (x ∷ w) more = refl

-- the words of a text, their places left out
pub words-plain : (comment : Bool) (k : ℕ) (w s : List ℕ) → bytes_each (words_from comment k w s) ≡ plain comment w s
unfolding words_from plain
words-plain comment k w [] = ending-plain k w []
words-plain true k w (x ∷ s) = words-plain (not (eqb x 10)) (k + 1) [] s
words-plain false k w (x ∷ s) =
    by (ltb x 33 || eqb x 35) (ending k w (words_from (eqb x 35) (k + 1) [] s)) (words_from false (k + 1) (w ++ (x ∷ [])) s)
    (ending-plain k w (words_from (eqb x 35) (k + 1) [] s) ∙ ap (closing w) (words-plain (eqb x 35) (k + 1) [] s))
    (words-plain false (k + 1) (w ++ (x ∷ [])) s)
  where
    by : (b : Bool) (u v : List Word) {a c : List (List ℕ)} → bytes_each u ≡ a → bytes_each v ≡ c → bytes_each (cond b u v) ≡ cond b a c
    by true u v e f = e
    by false u v e f = f

-- ---- what stands at the front of a text

-- a byte that stands in no word
abbrev pub parts : ℕ → Bool
parts x = ltb x 33 || eqb x 35

-- every byte is one of a word
unfoldable pub wordly : List ℕ → Bool
wordly [] = true
wordly (x ∷ w) = not (parts x) && wordly w

-- a word ends before this text
unfoldable pub apart : List ℕ → Bool
apart [] = true
apart (x ∷ s) = parts x

abbrev pub Apart : List ℕ → Type 0
Apart s = apart s ≡ true

not-parts : (x : ℕ) (b : Bool) → not (parts x) && b ≡ true → parts x ≡ false
not-parts x b e = no (parts x) (and_left (not (parts x)) b e)
  where
    no : (t : Bool) → not t ≡ true → t ≡ false
    no true e = sym e
    no false e = refl

word_on : (w v s : List ℕ) → wordly v ≡ true → plain false w (v ++ s) ≡ plain false (w ++ v) s
unfolding plain wordly
word_on w [] s e = ap (λ (u : List ℕ). plain false u s) (sym (append-nil w))
word_on w (x ∷ v) s e =
    ap (λ (b : Bool). cond b (closing w (plain (eqb x 35) [] (v ++ s))) (plain false (w ++ (x ∷ [])) (v ++ s))) (not-parts x (wordly v) e)
    ∙ word_on (w ++ (x ∷ [])) v s (and_right (not (parts x)) (wordly v) e)
    ∙ ap (λ (u : List ℕ). plain false u s) (append_assoc w (x ∷ []) v)

word-ends : (w s : List ℕ) → Apart s → plain false w s ≡ closing w (texts s)
unfolding plain apart
word-ends w [] e = refl
word-ends w (x ∷ s) e = rw e refl

-- a word at the front
pub word_first : (w s : List ℕ) → 0 < length w → wordly w ≡ true → Apart s → texts (w ++ s) ≡ w ∷ texts s
word_first [] s l e a = absurd (omega arith)
word_first (x ∷ w) s l e a = word_on [] (x ∷ w) s e ∙ word-ends (x ∷ w) s a

-- a blank
pub blank-first : (x : ℕ) (s : List ℕ) → x ≤ 32 → texts (x ∷ s) ≡ texts s
unfolding plain
blank-first x s l =
    let low : ltb x 33 ≡ true = lt-ltb x 33 (omega arith) in
    let other : eqb x 35 ≡ false = ne_eqb x 35 (λ q. absurd (omega (arith, q))) in
    rw (low, other)

-- a comment, up to its newline or to the end of the text
unfoldable pub one_line : List ℕ → Bool
one_line [] = true
one_line (x ∷ s) = not (eqb x 10) && one_line s

comment_on : (w s : List ℕ) → one_line w ≡ true → plain true [] (w ++ 10 ∷ s) ≡ texts s
unfolding plain one_line
comment_on [] s e = refl
comment_on (x ∷ w) s e =
    ap (λ (b : Bool). plain b [] (w ++ 10 ∷ s)) (and_left (not (eqb x 10)) (one_line w) e) ∙ comment_on w s (and_right (not (eqb x 10)) (one_line w) e)

comment-over : (w : List ℕ) → one_line w ≡ true → plain true [] w ≡ []
unfolding plain one_line
comment-over [] e = refl
comment-over (x ∷ w) e =
    ap (λ (b : Bool). plain b [] w) (and_left (not (eqb x 10)) (one_line w) e) ∙ comment-over w (and_right (not (eqb x 10)) (one_line w) e)

pub comment-first : (w s : List ℕ) → one_line w ≡ true → texts (35 ∷ w ++ 10 ∷ s) ≡ texts s
unfolding plain
comment-first w s e = comment_on w s e

pub comment-last : (w : List ℕ) → one_line w ≡ true → texts (35 ∷ w) ≡ []
unfolding plain
comment-last w e = comment-over w e

-- ---- a card goes by its words

-- the card after these words, and the bytes that they add
unfoldable pub card_on : Card → List (List ℕ) → Card
card_on c [] = c
card_on c (w ∷ ws) = card_on (step c w) ws

unfoldable pub bytes_on : Card → List (List ℕ) → List ℕ
bytes_on c [] = []
bytes_on c (w ∷ ws) = adds c w ++ bytes_on (step c w) ws

card_by_lem : (c : Card) (ws : List Word) → card_by c ws ≡ card_on c (bytes_each ws)
unfolding card_by card_on
card_by_lem c [] = refl
card_by_lem c (w ∷ ws) = card_by_lem (step c w.bytes) ws

bytes_by_lem : (c : Card) (ws : List Word) → bytes_by c ws ≡ bytes_on c (bytes_each ws)
unfolding bytes_by bytes_on
bytes_by_lem c [] = refl
bytes_by_lem c (w ∷ ws) = ap (λ (b : List ℕ). adds c w.bytes ++ b) (bytes_by_lem (step c w.bytes) ws)

pub card-plain : (s : List ℕ) → card_of s ≡ card_on no_card (texts s)
card-plain s = card_by_lem no_card (words s) ∙ ap (card_on no_card) (words-plain false 0 [] s)

pub bytes-plain : (s : List ℕ) → bytes_in s ≡ bytes_on no_card (texts s)
bytes-plain s = bytes_by_lem no_card (words s) ∙ ap (bytes_on no_card) (words-plain false 0 [] s)

-- ---- two cards of the same words

-- a refusal keeps its number where it is moved
moved-number : (s : List ℕ) (start : ℕ) (v : Verdict) → number (moved_to s start v) ≡ number v
moved-number s start (Ok done) = refl
moved-number s start (Err why) = refl

-- the number by the card, and that of its file
abbrev number_by : Card → ℕ → ℕ
number_by c k = cond c.bad 19 (cond (not (is_whole c)) 19 (cond (ltb bytes_limit c.length) 19 k))

card-number : (s : List ℕ) → length s ≤ card_limit → number (card_verdict s) ≡ number_by (card_of s) (number (file_verdict s))
unfolding card_verdict
card-number s short = let c = card_of s in rw (le-ltb card_limit (length s) short) (by c.bad (not (is_whole c)) (ltb bytes_limit c.length) _ _ _ (file_verdict s))
  where
    by : (a b d : Bool) (i j k : ℕ) (v : Verdict) →
        number (cond a (refused 19 i) (cond b (refused 19 j) (cond d (refused 19 k) v))) ≡ cond a 19 (cond b 19 (cond d 19 (number v)))
    by true b d i j k v = refl
    by false true d i j k v = refl
    by false false true i j k v = refl
    by false false false i j k v = refl

module _ (s t : List ℕ) (same : bytes_each (words s) ≡ bytes_each (words t)) where
  same-card : card_of s ≡ card_of t
  same-card = card_by_lem no_card (words s) ∙ ap (card_on no_card) same ∙ sym (card_by_lem no_card (words t))

  same_bytes : bytes_in s ≡ bytes_in t
  same_bytes = bytes_by_lem no_card (words s) ∙ ap (bytes_on no_card) same ∙ sym (bytes_by_lem no_card (words t))

  -- make the same file
  pub same-file : card_file s ≡ card_file t
  unfolding card_file
  same-file = ap₂ file_from same-card same_bytes

  -- the tests of the file have the same number
  file-number : number (file_verdict s) ≡ number (file_verdict t)
  unfolding file_verdict
  file-number = by s (is_second (card_of s)) ∙ ap₂ numbered (ap (λ (c : Card). is_second c) same-card) same-file ∙ sym (by t (is_second (card_of t)))
    where
      numbered : Bool → List ℕ → ℕ
      numbered b file = cond b (number (read_verdict2 file)) (number (read_verdict file))

      by : (s : List ℕ) (b : Bool) → number (cond b (moved_to s start_at (read_verdict2 (card_file s))) (moved_to s 0 (read_verdict (card_file s)))) ≡ numbered b (card_file s)
      by s true = moved-number s start_at (read_verdict2 (card_file s))
      by s false = moved-number s 0 (read_verdict (card_file s))

  module _ (short : length s ≤ card_limit) (short-too : length t ≤ card_limit) where
    -- are refused with the same number, or accepted both
    pub same_number : number (card_verdict s) ≡ number (card_verdict t)
    same_number = card-number s short ∙ ap₂ number_by same-card file-number ∙ sym (card-number t short-too)

    -- and want the same
    pub same_wants : card_wants s ≡ card_wants t
    unfolding card_wants
    same_wants = rw (le-ltb card_limit (length s) short, le-ltb card_limit (length t) short-too) (ap wanted same-card)
      where
        wanted : Card → ℕ
        wanted c = cond (c.bad || not (is_whole c)) c.wants (cond (ltb bytes_limit c.length) 22 0)
