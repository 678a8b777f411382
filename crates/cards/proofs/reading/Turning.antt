-- A card read on by a word and by a byte: what is left of it stays the same card, the same place and the same bytes. Assumes nothing.
use Prim.Native.Nat.{ℕ, ◌+◌, ◌-◌, ◌<◌, ◌≤◌}
use mathlib.Core.Path.{◌≡◌, refl, sym, ap, ap₂, subst, ◌∙◌}
use mathlib.Core.List.{List, []}
use mathlib.Core.Bool.{Bool, true, false, cond, not, ◌||◌}
use native.Mathlib.Omega.{arith}
use lib.Dec.{eqb, ltb}
use lib.ListN.{length, get_or, drop}
use Rattle.algebra.specs.Buffers.{write, Wrote}
use Rattle.algebra.proofs.Writing.{named, nothing}
use Rattle.records.specs.declared.Card.{Card}
use Rattle.meaning.specs.Card.{Word, ending, words_from, card_of, bytes_in, word_in, longer, taken, given_bytes, adds, step, within, card_by, bytes_by, word_by}
use Rattle.cards.specs.declared.reading.Walk.{Walk}
use Rattle.cards.specs.Putting.{Puts}
use Rattle.cards.specs.Sizes.{Kept}
use Rattle.cards.specs.Walking.{begun, left, Ended, Turned}
use Rattle.cards.proofs.Going.{onward}
use Rattle.cards.proofs.Keeping.{kept-later, kept_word, taken-length}
use Rattle.cards.proofs.Walking.{card-ending, place-ending, bytes-ending, no_word, one_word, left-comment, left-blank, left_word, left_end, begun_more, none-begun, begun-long, good-before}

-- ---- a word taken

module _ (c : Card) (w : List ℕ) where
  -- behind a word that was not what it was to be nothing changes
  pub stays : c.bad ≡ true → (o : List ℕ) → (c ≡ step c w) × Puts (not c.bad) o c.length (adds c w) o c.length
  unfolding step adds
  stays b o =
      let none : adds c w ≡ [] = rw b refl in
      (rw b refl, record { place = omega (arith, ap length none); long = refl; bytes = λ g. named (nothing o c.length) (sym none) })

  module _ (k : ℕ) (h : Kept k c) (good : c.bad ≡ false) where
    step_is : step c w ≡ longer (length (given_bytes c w)) (taken c w)
    unfolding step
    step_is = rw good refl

    adds-is : adds c w ≡ given_bytes c w
    unfolding adds
    adds-is = rw good refl

    pub took : {o o' : List ℕ} {next : ℕ} → Puts (not (taken c w).bad) o c.length (given_bytes c w) o' next → (r : Card) →
        r ≡ longer (next - c.length) (taken c w) → (r ≡ step c w) × Puts (not r.bad) o c.length (adds c w) o' r.length
    took {o} {o'} {next} p r e =
        let gone : next - c.length ≡ length (given_bytes c w) = omega (arith, p.place) in
        let is : r ≡ longer (length (given_bytes c w)) (taken c w) = e ∙ ap (λ (n : ℕ). longer n (taken c w)) gone in
        let long : r.length ≡ (taken c w).length + length (given_bytes c w) = ap (λ (d : Card). d.length) is in
        let at : next ≡ r.length = omega (arith, p.place, long, taken-length k c w h good) in
        let bad : not (taken c w).bad ≡ not r.bad = ap (λ (d : Card). not d.bad) (sym is) in
        let more : length (adds c w) ≡ length (given_bytes c w) = ap length adds-is in (
          is ∙ sym step_is,
          record {
            place = omega (arith, p.place, at, more);
            long = p.long;
            bytes = λ g. subst (λ (m : ℕ). Wrote o c.length (adds c w) o' m) at (named (p.bytes (bad ∙ g)) (sym adds-is));
          },
        )

-- ---- the word that ends before a place

module _ (s : List ℕ) (k wants len : ℕ) (walk : Walk) (body : List ℕ) (inside : walk.start ≤ k) (end : k ≤ length s)
    (kept : Kept walk.start walk.card) where
  -- none
  pub ended-none : walk.start ≡ k → Ended s k wants len walk body walk body
  ended-none e =
      let no = no_word walk.card wants len walk.at k (begun s k walk) (omega (arith, begun-long s walk.start k inside end)) in
      record {
        card = no.0;
        at = no.1;
        bytes = record {
          place = omega (arith, ap length no.2);
          long = refl;
          bytes = λ g. named (nothing body walk.card.length) no.2;
        };
        kept = kept-later kept (omega arith);
      }

  -- one
  pub ended-one : (walk.start ≡ k → ⊥) → {after : List ℕ} (d : Card) (place : ℕ) (r : Walk) → r.card ≡ d → r.at ≡ place →
      d ≡ step walk.card (begun s k walk) →
      Puts (not d.bad) body walk.card.length (adds walk.card (begun s k walk)) after d.length →
      place ≡ cond (within wants len walk.card) walk.start walk.at → Ended s k wants len walk body r after
  ended-one n {after} d place r rc ra is p at =
      let long = begun-long s walk.start k inside end in
      let some : 1 ≤ length (begun s k walk) = omega (arith, long, n) in
      let one = one_word walk.card wants len walk.at k (begun s k walk) some in
      let from : walk.start ≡ k - length (begun s k walk) = omega (arith, long) in
      record {
        card = rc ∙ is ∙ one.0;
        at = ra ∙ at ∙ ap (λ (i : ℕ). cond (within wants len walk.card) i walk.at) from ∙ one.1;
        bytes = record {
          place = ap (λ (x : Card). x.length) rc ∙ p.place ∙ ap (λ (l : List ℕ). walk.card.length + length l) one.2;
          long = p.long;
          bytes = λ g. subst (λ (x : Card). Wrote body walk.card.length (bytes_by walk.card (ending k (begun s k walk) [])) after x.length) (sym rc)
              (named (p.bytes (ap (λ (x : Card). not x.bad) (sym rc) ∙ g)) one.2);
        };
        kept = subst (Kept k) (sym (rc ∙ is)) (kept_word walk.start k walk.card (begun s k walk) kept some (omega (arith, long)));
      }

-- ---- the byte at a place

module _ (s : List ℕ) (k wants len : ℕ) (walk : Walk) (body : List ℕ) (inside : walk.start ≤ k) (more : k < length s)
    (kept : Kept walk.start walk.card) where
  -- no word ends with it
  same_left : (r : Walk) → r.card ≡ walk.card → r.at ≡ walk.at → left s (k + 1) r ≡ left s k walk → walk.start ≤ r.start → r.start ≤ k + 1 →
      Turned s k wants len walk body r body
  same_left r c a l low high = record {
    card = λ j. card_by (c j) (l j);
    at = λ j. word_by wants len (c j) (a j) (l j);
    bytes = λ g j. write body (c j).length (bytes_by (c j) (l j));
    long = refl;
    kept = subst (Kept r.start) (sym c) (kept-later kept low);
    start = high;
  }

  -- what is left where a new word may start
  fresh : (r : Walk) → r.start ≡ k + 1 → left s (k + 1) r ≡ words_from r.comment (k + 1) [] (drop (k + 1) s)
  fresh r e = ap (λ (w : List ℕ). words_from r.comment (k + 1) w (drop (k + 1) s)) (none-begun s (k + 1) r.start (sym e))

  -- in a comment
  pub turned_comment : walk.comment ≡ true → (r : Walk) → r.card ≡ walk.card → r.at ≡ walk.at → r.comment ≡ not (eqb (get_or s k 0) 10) →
      r.start ≡ k + 1 → Turned s k wants len walk body r body
  turned_comment t r c a b e =
      same_left r c a
      (fresh r e ∙ ap (λ (x : Bool). words_from x (k + 1) [] (drop (k + 1) s)) b ∙ sym (left-comment s k more (begun s k walk))
      ∙ ap (λ (x : Bool). words_from x k (begun s k walk) (drop k s)) (sym t))
      (omega arith) (omega arith)

  module _ (t : walk.comment ≡ false) where
    -- in a word
    pub turned_word : (ltb (get_or s k 0) 33 || eqb (get_or s k 0) 35) ≡ false → Turned s k wants len walk body walk body
    turned_word f =
        same_left walk refl refl
        (ap₂ (λ (x : Bool) (w : List ℕ). words_from x (k + 1) w (drop (k + 1) s)) t (begun_more s walk.start k inside more)
        ∙ sym (left_word s k more (begun s k walk) f) ∙ ap (λ (x : Bool). words_from x k (begun s k walk) (drop k s)) (sym t))
        (omega arith) (omega arith)

    -- behind a word
    pub turned_blank : (ltb (get_or s k 0) 33 || eqb (get_or s k 0) 35) ≡ true → {after : List ℕ} (ended r : Walk) → Ended s k wants len walk body ended after →
        r.card ≡ ended.card → r.at ≡ ended.at → r.comment ≡ eqb (get_or s k 0) 35 → r.start ≡ k + 1 → Turned s k wants len walk body r after
    turned_blank f {after} ended r d c a b e =
        let w = begun s k walk in
        let rest = words_from (eqb (get_or s k 0) 35) (k + 1) [] (drop (k + 1) s) in
        let now : left s (k + 1) r ≡ rest = fresh r e ∙ ap (λ (x : Bool). words_from x (k + 1) [] (drop (k + 1) s)) b in
        let was : left s k walk ≡ ending k w rest = ap (λ (x : Bool). words_from x k w (drop k s)) t ∙ left-blank s k more w f in
        let same = c ∙ d.card in
        record {
          card = (λ j. card_by (same j) (now j)) ∙ sym (card-ending k w rest walk.card) ∙ ap (card_by walk.card) (sym was);
          at = (λ j. word_by wants len (same j) ((a ∙ d.at) j) (now j)) ∙ sym (place-ending k w rest wants len walk.card walk.at)
              ∙ ap (word_by wants len walk.card walk.at) (sym was);
          bytes = λ g.
              let fine : r.card.bad ≡ false = good-before r.card (left s (k + 1) r) g in
              let wrote = d.bytes.bytes (ap (λ (x : Card). not x.bad) (sym c) ∙ ap not fine) in
              (λ j. write after (c j).length (bytes_by (same j) (now j))) ∙ onward (bytes_by (card_by walk.card (ending k w [])) rest) wrote
              ∙ ap (write body walk.card.length) (sym (bytes-ending k w rest walk.card) ∙ ap (bytes_by walk.card) (sym was));
          long = d.bytes.long;
          kept = subst (λ (x : Card). Kept r.start x) (sym c) (kept-later d.kept (omega arith));
          start = omega arith;
        }

-- ---- all bytes, one after another

-- what is left at place k makes the card of the whole text
pub record Walked (s : List ℕ) (wants len : ℕ) (first body : List ℕ) (walk : Walk) (k : ℕ) : Type 0 where
  pub inside : k ≤ length s
  pub start : walk.start ≤ k
  pub card : card_by walk.card (left s k walk) ≡ card_of s
  pub at : word_by wants len walk.card walk.at (left s k walk) ≡ word_in wants len s
  pub bytes : (card_of s).bad ≡ false → write body walk.card.length (bytes_by walk.card (left s k walk)) ≡ write first 0 (bytes_in s)
  pub long : length body ≡ length first
  pub kept : Kept walk.start walk.card

module _ (s : List ℕ) (wants len : ℕ) (first : List ℕ) where
  -- behind the last
  module _ {body after : List ℕ} {walk : Walk} {k : ℕ} (r : Walk) (w : Walked s wants len first body walk k) (at-end : k ≡ length s)
      (ended : Ended s (length s) wants len walk body r after) where
    d : Ended s k wants len walk body r after
    d = subst (λ (i : ℕ). Ended s i wants len walk body r after) (sym at-end) ended

    last-left : ending k (begun s k walk) [] ≡ left s k walk
    last-left = sym (left_end s k walk.comment (begun s k walk) at-end)

    pub whole-card : r.card ≡ card_of s
    whole-card = d.card ∙ ap (card_by walk.card) last-left ∙ w.card

    pub whole-place : r.at ≡ word_in wants len s
    whole-place = d.at ∙ ap (word_by wants len walk.card walk.at) last-left ∙ w.at

    pub whole-bytes : r.card.bad ≡ false → Wrote first 0 (bytes_in s) after r.card.length
    whole-bytes g = record {
      is = (d.bytes.bytes (ap not g)).is ∙ ap (λ (l : List Word). write body walk.card.length (bytes_by walk.card l)) last-left
          ∙ w.bytes (sym (ap (λ (x : Card). x.bad) whole-card) ∙ g);
    }
