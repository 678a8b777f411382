-- A card walked byte by byte: each byte goes on in a comment, ends a word, or goes on in one. Assumes nothing.
use Prim.Native.Nat.{ℕ, suc, ◌+◌, ◌-◌, ◌<◌, ◌≤◌}
use mathlib.Core.Path.{◌≡◌, refl, sym, ap, ap₂, ◌∙◌}
use mathlib.Core.List.{List, [], ◌∷◌, ◌++◌, append-nil}
use mathlib.Core.Bool.{Bool, true, false, cond, not, ◌||◌, true≢false}
use native.Mathlib.Omega.{arith}
use native.Mathlib.Numerals.{add-one}
use lib.Dec.{eqb, ltb}
use lib.ListN.{length, get_or, take, drop, length-take, length-drop}
use lib.Seq.{drop-cons, drop-length, take-suc, get_or-drop}
use Rattle.records.specs.declared.Card.{Card}
use Rattle.algebra.specs.Buffers.{write}
use Rattle.meaning.specs.Card.{Word, ending, words_from, step, adds, within, card_by, bytes_by, word_by}
use Rattle.cards.specs.declared.reading.Walk.{Walk}
use Rattle.cards.specs.Sizes.{Kept}
use Rattle.cards.specs.Putting.{Puts}
use Rattle.cards.specs.Walking.{begun, left, Ended, Turned}
use Rattle.cards.proofs.Giving.{bad-step, puts_none, puts_named}
use Rattle.cards.proofs.Keeping.{kept-later, kept_word}

-- ---- a word that ends, and the words after it

module _ (k : ℕ) (w : List ℕ) (more : List Word) where
  pub card-ending : (c : Card) → card_by c (ending k w more) ≡ card_by (card_by c (ending k w [])) more
  unfolding card_by
  card-ending c = by w
    where
      by : (w : List ℕ) → card_by c (ending k w more) ≡ card_by (card_by c (ending k w [])) more
      by [] = refl
      by (x ∷ w) = refl

  pub place-ending : (wants len : ℕ) (c : Card) (at : ℕ) →
      word_by wants len c at (ending k w more) ≡ word_by wants len (card_by c (ending k w [])) (word_by wants len c at (ending k w [])) more
  unfolding card_by word_by
  place-ending wants len c at = by w
    where
      by : (w : List ℕ) → word_by wants len c at (ending k w more) ≡ word_by wants len (card_by c (ending k w [])) (word_by wants len c at (ending k w [])) more
      by [] = refl
      by (x ∷ w) = refl

  pub bytes-ending : (c : Card) → bytes_by c (ending k w more) ≡ bytes_by c (ending k w []) ++ bytes_by (card_by c (ending k w [])) more
  unfolding card_by bytes_by
  bytes-ending c = by w
    where
      by : (w : List ℕ) → bytes_by c (ending k w more) ≡ bytes_by c (ending k w []) ++ bytes_by (card_by c (ending k w [])) more
      by [] = refl
      by (x ∷ w) = ap (λ (t : List ℕ). t ++ bytes_by (step c (x ∷ w)) more) (sym (append-nil (adds c (x ∷ w))))

-- no word, and one
module _ (c : Card) (wants len at k : ℕ) where
  pub no_word : (w : List ℕ) → length w ≡ 0 →
      (c ≡ card_by c (ending k w [])) × (at ≡ word_by wants len c at (ending k w [])) × ([] ≡ bytes_by c (ending k w []))
  unfolding card_by word_by bytes_by
  no_word [] e = (refl, refl, refl)
  no_word (x ∷ w) e = absurd (omega arith)

  pub one_word : (w : List ℕ) → 1 ≤ length w →
      (step c w ≡ card_by c (ending k w [])) × (cond (within wants len c) (k - length w) at ≡ word_by wants len c at (ending k w [])) × (adds c w ≡ bytes_by c (ending k w []))
  unfolding card_by word_by bytes_by
  one_word [] e = absurd (omega arith)
  one_word (x ∷ w) e = (refl, refl, sym (append-nil (adds c (x ∷ w))))

-- ---- the byte at place k

module _ (s : List ℕ) (k : ℕ) (more : k < length s) (w : List ℕ) where
  -- in a comment
  pub left-comment : words_from true k w (drop k s) ≡ words_from (not (eqb (get_or s k 0) 10)) (k + 1) [] (drop (k + 1) s)
  unfolding words_from
  left-comment = ap (words_from true k w) (drop-cons s k 0 more)
      ∙ ap (λ (i : ℕ). words_from (not (eqb (get_or s k 0) 10)) (k + 1) [] (drop i s)) (sym (add-one k))

  -- where a word ends
  pub left-blank : (ltb (get_or s k 0) 33 || eqb (get_or s k 0) 35) ≡ true →
      words_from false k w (drop k s) ≡ ending k w (words_from (eqb (get_or s k 0) 35) (k + 1) [] (drop (k + 1) s))
  unfolding words_from
  left-blank e = rw (drop-cons s k 0 more, e, add-one k)

  -- in a word
  pub left_word : (ltb (get_or s k 0) 33 || eqb (get_or s k 0) 35) ≡ false →
      words_from false k w (drop k s) ≡ words_from false (k + 1) (w ++ (get_or s k 0 ∷ [])) (drop (k + 1) s)
  unfolding words_from
  left_word e = rw (drop-cons s k 0 more, e, add-one k)

-- at the end
pub left_end : (s : List ℕ) (k : ℕ) (comment : Bool) (w : List ℕ) → k ≡ length s → words_from comment k w (drop k s) ≡ ending k w []
unfolding words_from
left_end s k comment w e = rw (e, drop-length s) (by comment)
  where
    by : (b : Bool) → words_from b (length s) w [] ≡ ending (length s) w []
    by true = refl
    by false = refl

-- the present word with one byte more
pub begun_more : (s : List ℕ) (start k : ℕ) → start ≤ k → k < length s →
    take (k + 1 - start) (drop start s) ≡ take (k - start) (drop start s) ++ (get_or s k 0 ∷ [])
begun_more s start k l h =
    let one : k + 1 - start ≡ suc (k - start) = omega arith in
    let at : start + (k - start) ≡ k = omega arith in
    rw one (take-suc (drop start s) (k - start) 0 (omega (arith, length-drop start s))
    ∙ ap (λ (x : ℕ). take (k - start) (drop start s) ++ (x ∷ [])) (get_or-drop start s (k - start) 0 ∙ ap (λ (i : ℕ). get_or s i 0) at))

-- none of it yet
pub none-begun : (s : List ℕ) (k start : ℕ) → k ≡ start → take (k - start) (drop start s) ≡ []
none-begun s k start e = let none : k - start ≡ 0 = omega arith in rw none

-- how long it is
pub begun-long : (s : List ℕ) (start k : ℕ) → start ≤ k → k ≤ length s → length (take (k - start) (drop start s)) ≡ k - start
begun-long s start k l h = simp (length-take, length-drop) (omega arith)

-- ---- a card that cannot be read stays so

pub bad_stays : (c : Card) (ws : List Word) → c.bad ≡ true → card_by c ws ≡ c
unfolding card_by
bad_stays c [] e = refl
bad_stays c (w ∷ ws) e = ap (λ (d : Card). card_by d ws) (sym (bad-step c w.bytes e)) ∙ bad_stays c ws e

pub good-before : (c : Card) (ws : List Word) → (card_by c ws).bad ≡ false → c.bad ≡ false
good-before c ws e = by c.bad refl
  where
    by : (b : Bool) → c.bad ≡ b → c.bad ≡ false
    by true t = absurd (true≢false (sym t ∙ sym (ap (λ (d : Card). d.bad) (bad_stays c ws t)) ∙ e))
    by false t = t

-- ---- what a turn does

module _ (s : List ℕ) (k wants len : ℕ) (walk : Walk) (body : List ℕ) where
  -- no word ends here
  pub ended-none : walk.start ≡ k → k ≤ length s → Kept walk.start walk.card → Ended s k wants len walk body walk body
  ended-none e h kept =
      let c = walk.card in
      let none = no_word c wants len walk.at k (begun s k walk) (begun-long s walk.start k (omega arith) h ∙ omega arith) in
      record {
        card = none.0;
        at = none.1;
        bytes = puts_named (puts_none _ body c.length) none.2;
        kept = kept-later kept (omega arith);
      }

  -- one does
  pub ended-one : walk.start < k → k ≤ length s → Kept walk.start walk.card → (r : Walk) {after : List ℕ} →
      r.card ≡ step walk.card (begun s k walk) → r.at ≡ cond (within wants len walk.card) walk.start walk.at →
      Puts (not r.card.bad) body walk.card.length (adds walk.card (begun s k walk)) after r.card.length →
      Ended s k wants len walk body r after
  ended-one l h kept r is at put =
      let c = walk.card in
      let w = begun s k walk in
      let long = begun-long s walk.start k (omega arith) h in
      let one = one_word c wants len walk.at k w (omega arith) in
      let start : walk.start ≡ k - length w = omega arith in
      record {
        card = is ∙ one.0;
        at = at ∙ ap (λ (i : ℕ). cond (within wants len c) i walk.at) start ∙ one.1;
        bytes = puts_named put one.2;
        kept = rw is (kept_word walk.start k c w kept (omega arith) (omega arith));
      }

  module _ (more : k < length s) (inside : walk.start ≤ k) where
    -- the words that are left start anew behind this byte
    anew : (r : Walk) (b : Bool) → r.comment ≡ b → r.start ≡ k + 1 → left s (k + 1) r ≡ words_from b (k + 1) [] (drop (k + 1) s)
    anew r b comment start =
        ap₂ (λ (x : Bool) (u : List ℕ). words_from x (k + 1) u (drop (k + 1) s)) comment (none-begun s (k + 1) r.start (sym start))

    -- the byte goes on in a comment
    pub turned_comment : walk.comment ≡ true → Kept walk.start walk.card → (r : Walk) → r.card ≡ walk.card → r.at ≡ walk.at →
        r.comment ≡ not (eqb (get_or s k 0) 10) → r.start ≡ k + 1 → Turned s k wants len walk body r body
    turned_comment in-it kept r is at comment start =
        let same : left s (k + 1) r ≡ left s k walk = anew r (not (eqb (get_or s k 0) 10)) comment start ∙ sym (left-comment s k more (begun s k walk))
        ∙ ap (λ (b : Bool). words_from b k (begun s k walk) (drop k s)) (sym in-it) in
        record {
          card = λ j. card_by (is j) (same j);
          at = λ j. word_by wants len (is j) (at j) (same j);
          bytes = λ good j. write body (is j).length (bytes_by (is j) (same j));
          long = refl;
          kept = rw is (kept-later kept (omega arith));
          start = omega arith;
        }

-- ---- the first turn, and the end
