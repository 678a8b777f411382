-- Parts of a card, one after another: what each makes of the card before it, and the bytes that it adds.
--     Says                       a part of a text takes a card to another one and adds these bytes
--     then, says-each            parts, one after the other
--     says_last                  the same, where the last of them ends what they are parts of
--     adding_word, quiet_word    a space and a word that adds bytes, or none
--     adding_line, quiet_line    a line that begins with such a word
--     says_newline               a newline
-- Assumes nothing.
use mathlib.Core.Path.{◌≡◌, refl, sym, ap, ap₂, ◌∙◌, subst, subst₂}
use mathlib.Core.Bool.{Bool, true, false, cond}
use mathlib.Core.List.{List, [], ◌∷◌, ◌++◌, append_assoc}
use Prim.Native.Nat.{ℕ, zero, suc, ◌<◌}
use native.Mathlib.Nat.{add-zero}
use native.Mathlib.Omega.{arith}
use lib.Dec.{eqb}
use lib.IntN.{ℤ}
use lib.ListN.{length}
use borrow.Author.Tests.{eq-eqb, ne_eqb}
use Rattle.records.specs.declared.Head.{Head}
use Rattle.records.specs.declared.Card.{Card}
use Rattle.meaning.specs.Text.{each}
use Rattle.meaning.specs.Card.{longer, taken, given_bytes, adds, step}
use Rattle.laws.proofs.CardsWords.{texts, wordly, apart, Apart, word_first, blank-first, card_on, bytes_on}

-- ---- a part of a text

-- before any text that has P, the part t takes the card c to c' and adds the bytes b
pub record Says (P : List ℕ → Type 0) (c : Card) (t : List ℕ) (c' : Card) (b : List ℕ) : Type 0 where
  pub keeps : (rest : List ℕ) → P rest → P (t ++ rest)
  pub card : (rest : List ℕ) → P rest → card_on c (texts (t ++ rest)) ≡ card_on c' (texts rest)
  pub bytes : (rest : List ℕ) → P rest → bytes_on c (texts (t ++ rest)) ≡ b ++ bytes_on c' (texts rest)

-- before any text
abbrev pub Any : List ℕ → Type 0
Any s = Unit {0}

module _ {P : List ℕ → Type 0} where
  -- nothing
  pub says_none : (c : Card) → Says P c [] c []
  says_none c = record { keeps = λ rest p. p; card = λ rest p. refl; bytes = λ rest p. refl }

  -- two parts
  pub then : {c d e : Card} {t u a b : List ℕ} → Says P c t d a → Says P d u e b → Says P c (t ++ u) e (a ++ b)
  then {c} {d} {e} {t} {u} {a} {b} x y = record {
    keeps = λ rest p. subst P (sym (append_assoc t u rest)) (x.keeps (u ++ rest) (y.keeps rest p));
    card = λ rest p. ap (λ (s : List ℕ). card_on c (texts s)) (append_assoc t u rest) ∙ x.card (u ++ rest) (y.keeps rest p) ∙ y.card rest p;
    bytes = λ rest p. ap (λ (s : List ℕ). bytes_on c (texts s)) (append_assoc t u rest) ∙ x.bytes (u ++ rest) (y.keeps rest p)
        ∙ ap (λ (s : List ℕ). a ++ s) (y.bytes rest p) ∙ sym (append_assoc a b (bytes_on e (texts rest)));
  }

  -- the same card, the same bytes, in other words
  pub says_as : {c d e : Card} {t a b : List ℕ} → d ≡ e → a ≡ b → Says P c t d a → Says P c t e b
  says_as {c} {t = t} p q x = subst₂ (λ (d : Card) (a : List ℕ). Says P c t d a) p q x

  -- parts, one after the other
  pub says-each : (n : ℕ) (f : ℕ → List ℕ) (C : ℕ → Card) (B : ℕ → List ℕ) → ((i : ℕ) → i < n → Says P (C i) (f i) (C (suc i)) (B i)) →
      Says P (C 0) (each n f) (C n) (each n B)
  unfolding each
  says-each zero f C B h = says_none (C 0)
  says-each (suc n) f C B h = then (says-each n f C B (λ i l. h i (omega arith))) (h n (omega arith))

  -- the same, where the last takes the card elsewhere
  pub says_last : (n : ℕ) (f : ℕ → List ℕ) (C : ℕ → Card) (A : Card) (B : ℕ → List ℕ) → 0 < n →
      ((i : ℕ) → i < n → Says P (C i) (f i) (cond (eqb (suc i) n) A (C (suc i))) (B i)) → Says P (C 0) (each n f) A (each n B)
  says_last n f C A B some h =
      subst₂ (λ (x y : Card). Says P x (each n f) y (each n B)) (ap (λ (b : Bool). cond b A (C 0)) (ne_eqb 0 n (λ q. absurd (omega (arith, q)))))
      (ap (λ (b : Bool). cond b A (C n)) (eq-eqb n n refl))
      (says-each n f (λ i. cond (eqb i n) A (C i)) B (λ i l. subst (λ (x : Card). Says P x (f i) (cond (eqb (suc i) n) A (C (suc i))) (B i))
      (sym (ap (λ (b : Bool). cond b A (C i)) (ne_eqb i n (λ q. absurd (omega (arith, q)))))) (h i l)))

-- ---- words

module _ (c : Card) (w : List ℕ) {d : Card} {b : List ℕ} (some : 0 < length w) (is : wordly w ≡ true) (goes : step c w ≡ d) (gives : adds c w ≡ b) where
  word-card : (s : List ℕ) → Apart s → card_on c (texts (w ++ s)) ≡ card_on d (texts s)
  unfolding card_on
  word-card s p = ap (card_on c) (word_first w s some is p) ∙ ap (λ (x : Card). card_on x (texts s)) goes

  word_bytes : (s : List ℕ) → Apart s → bytes_on c (texts (w ++ s)) ≡ b ++ bytes_on d (texts s)
  unfolding bytes_on
  word_bytes s p = ap (bytes_on c) (word_first w s some is p) ∙ ap₂ (λ (x : List ℕ) (y : Card). x ++ bytes_on y (texts s)) gives goes

  -- a space and a word
  says-word : Says Apart c (32 ∷ w) d b
  unfolding apart
  says-word = record {
    keeps = λ rest p. refl;
    card = λ rest p. ap (card_on c) (blank-first 32 (w ++ rest) (omega arith)) ∙ word-card rest p;
    bytes = λ rest p. ap (bytes_on c) (blank-first 32 (w ++ rest) (omega arith)) ∙ word_bytes rest p;
  }

  -- a line that begins with the word
  says-line : {e : Card} (t : List ℕ) {a : List ℕ} → Says Apart d t e a → Says Any c (w ++ t ++ (10 ∷ [])) e (b ++ a)
  unfolding apart
  says-line {e} t {a} x = record {
    keeps = λ rest p. p;
    card = λ rest p. ap (λ (s : List ℕ). card_on c (texts s)) (regroup rest) ∙ word-card (t ++ (10 ∷ rest)) (x.keeps (10 ∷ rest) refl)
        ∙ x.card (10 ∷ rest) refl ∙ ap (card_on e) (blank-first 10 rest (omega arith));
    bytes = λ rest p. ap (λ (s : List ℕ). bytes_on c (texts s)) (regroup rest) ∙ word_bytes (t ++ (10 ∷ rest)) (x.keeps (10 ∷ rest) refl)
        ∙ ap (λ (s : List ℕ). b ++ s) (x.bytes (10 ∷ rest) refl) ∙ sym (append_assoc b a (bytes_on e (texts (10 ∷ rest))))
        ∙ ap (λ (s : List (List ℕ)). b ++ a ++ bytes_on e s) (blank-first 10 rest (omega arith));
  }
    where
      regroup : (rest : List ℕ) → w ++ t ++ (10 ∷ []) ++ rest ≡ w ++ (t ++ (10 ∷ rest))
      regroup rest = append_assoc (w ++ t) (10 ∷ []) rest ∙ append_assoc w t (10 ∷ rest)

-- a newline
pub says_newline : (c : Card) → Says Apart c (10 ∷ []) c []
unfolding apart
says_newline c = record {
  keeps = λ rest p. refl;
  card = λ rest p. ap (card_on c) (blank-first 10 rest (omega arith));
  bytes = λ rest p. ap (bytes_on c) (blank-first 10 rest (omega arith));
}

-- ---- a card that is not bad

abbrev pub state : ℕ → Head → ℕ → ℕ → ℤ → ℕ → ℕ → Card
state k h i w M y len = record { wants = k; bad = false; head = h; count = i; set = w; sum = M; readings = y; length = len }

longer-none : (c : Card) → longer 0 c ≡ c
longer-none c = λ i. record {
  wants = c.wants;
  bad = c.bad;
  head = c.head;
  count = c.count;
  set = c.set;
  sum = c.sum;
  readings = c.readings;
  length = add-zero c.length i;
}

module _ (c : Card) (good : c.bad ≡ false) (w : List ℕ) (some : 0 < length w) (is : wordly w ≡ true) {d : Card} {b : List ℕ} (goes : taken c w ≡ d)
    (adding : given_bytes c w ≡ b) where
  steps : step c w ≡ longer (length b) d
  unfolding step
  steps = ap (λ (t : Bool). cond t c (longer (length (given_bytes c w)) (taken c w))) good
      ∙ ap₂ (λ (x : List ℕ) (y : Card). longer (length x) y) adding goes

  gives : adds c w ≡ b
  unfolding adds
  gives = ap (λ (t : Bool). cond t [] (given_bytes c w)) good ∙ adding

  -- a word that adds bytes, and a line that begins with one
  pub adding_word : Says Apart c (32 ∷ w) (longer (length b) d) b
  adding_word = says-word c w some is steps gives

  pub adding_line : {e : Card} (t : List ℕ) {a : List ℕ} → Says Apart (longer (length b) d) t e a → Says Any c (w ++ t ++ (10 ∷ [])) e (b ++ a)
  adding_line t x = says-line c w some is steps gives t x

module _ (c : Card) (good : c.bad ≡ false) (w : List ℕ) (some : 0 < length w) (is : wordly w ≡ true) {d : Card} (goes : taken c w ≡ d)
    (none : given_bytes c w ≡ []) where
  -- a word that adds none, and a line that begins with one
  pub quiet_word : Says Apart c (32 ∷ w) d []
  quiet_word = says_as (longer-none d) refl (adding_word c good w some is goes none)

  pub quiet_line : {e : Card} (t : List ℕ) {a : List ℕ} → Says Apart d t e a → Says Any c (w ++ t ++ (10 ∷ [])) e a
  quiet_line {e} t {a} x = adding_line c good w some is goes none t (subst (λ (y : Card). Says Apart y t e a) (sym (longer-none d)) x)
