-- The blocks of a card: a line for each, and the bytes of the block list. Assumes nothing.
use Rattle.std.proofs.Common.{Some}
use mathlib.Core.Path.{◌≡◌, refl, sym, ap, ap₂, ◌∙◌, subst}
use mathlib.Core.Bool.{Bool, true, false, cond}
use mathlib.Core.List.{List, [], ◌∷◌, ◌++◌, append-nil}
use Prim.Native.Nat.{ℕ, zero, suc, ◌+◌, ◌-◌, ◌*◌, ◌≤◌, ◌<◌}
use native.Mathlib.Nat.{add-zero, mul-suc, mul-le-mul_left}
use native.Mathlib.Numerals.{add-one}
use native.Mathlib.Omega.{arith}
use lib.Dec.{eqb}
use lib.IntN.{pos}
use lib.ListN.{length, get_or, take, drop, length-drop}
use lib.Seq.{take-suc, take-add, take_all, get_or-drop, drop-drop}
use borrow.Author.Tests.{lt-ltb, eqb-true, eqb-false}
use Rattle.records.specs.declared.Head.{Head}
use Rattle.records.specs.declared.Card.{Card}
use Rattle.meaning.specs.Design.{list_length}
use Rattle.meaning.specs.Writing.{Bytes}
use Rattle.meaning.specs.Text.{ascii, digits, spaced, each}
use Rattle.meaning.specs.SheetText.{same, digital, is_number, number_of}
use Rattle.meaning.specs.Card.{
  object_of,
  longer,
  take_first,
  take_more,
  take_object,
  take_block,
  taken,
  object_bytes,
  given_bytes,
}
use Rattle.meaning.specs.CardText.{object_text, block_line}
use Rattle.laws.proofs.Bytes.{byte_below}
use Rattle.laws.proofs.CardsWords.{wordly, Apart}
use Rattle.laws.proofs.CardsNumbers.{digits_long, digits-word, digits-read, not-digits}
use Rattle.laws.proofs.CardsSteps.{Says, Any, then, says_as, says-each, says_last, adding_word, quiet_word, quiet_line, state}
use Rattle.laws.proofs.CardsHead.{start, sizes_of}

-- ---- an object

abbrev object_word : ℕ → List ℕ
object_word x = cond (eqb x 255) (ascii "inf") (digits 20 x)

-- what a word is to be that stands for the byte x
record Object (w : List ℕ) (x : ℕ) : Type 0 where
  long : 0 < length w
  word : wordly w ≡ true
  read : object_of w ≡ Some x
  no_bar : same w (ascii "|") ≡ false

object-text : (x : ℕ) → object_text x ≡ 32 ∷ object_word x
unfolding ascii
object-text x = by (eqb x 255)
  where
    by : (b : Bool) → cond b (ascii " inf") (spaced x) ≡ 32 ∷ cond b (ascii "inf") (digits 20 x)
    by true = refl
    by false = refl

object : (x : ℕ) → x < 256 → Object (object_word x) x
unfolding ascii wordly same object_of
object x l = by (eqb x 255) refl
  where
    by : (b : Bool) → eqb x 255 ≡ b → Object (cond b (ascii "inf") (digits 20 x)) x
    by true e = record { long = omega arith; word = refl; read = ap (λ (y : ℕ). Some y) (sym (eqb-true x 255 e)); no_bar = refl }
    by false e =
        let small : x ≤ 254 = below x l (eqb-false x 255 e) in
        record {
          long = digits_long x;
          word = digits-word x;
          read = rw (not-digits x 105 (110 ∷ 102 ∷ []) (omega arith)) (digits-read x 254 small (omega arith));
          no_bar = not-digits x 124 [] (omega arith);
        }
      where
        below : (x : ℕ) → x < 256 → (x ≡ 255 → ⊥) → x ≤ 254
        below x l n = omega (arith, n)

-- ---- a side

module _ (n flag : ℕ) where
  -- blocks alone: p objects a side and m blocks so far, i objects of a side and so many bytes
  abbrev pub at : ℕ → ℕ → ℕ → ℕ → ℕ → Card
  at k p m i len = state k (record { n = n; flag = flag; p = p; m = m }) i 0 (pos 0) 0 len

  -- the first left side says how many there are
  abbrev first-left : ℕ → Card
  first-left zero = at 6 0 0 0 0
  first-left (suc i) = at 7 (suc i) 0 0 (suc i)

  first_taken : (i x : ℕ) (w : List ℕ) → Object w x → i < 255 → Says Apart (first-left i) (32 ∷ w) (first-left (suc i)) (x ∷ [])
  unfolding taken take_first take_more given_bytes object_bytes
  first_taken zero x w o l = adding_word (first-left 0) refl w o.long o.word {d = at 7 1 0 0 0} (rw o.read) (rw o.read)
  first_taken (suc i) x w o l =
      says_as (ap (λ (j : ℕ). at 7 j 0 0 j) (add-one (suc i))) refl
      (adding_word (first-left (suc i)) refl w o.long o.word {d = at 7 (suc i + 1) 0 0 (suc i)} (rw (o.no_bar, o.read, lt-ltb (suc i) 255 l)) (rw o.read))

  -- a side of p objects: k is wanted before each, and `after` follows the last
  counted : (after : ℕ → ℕ → Card) (k p m i len : ℕ) (b : Bool) → eqb (suc i) p ≡ b →
      cond b (after i (len + i + 1)) (at k p m (i + 1) (len + i + 1)) ≡ cond b (after (p - 1) (len + p)) (at k p m (suc i) (len + suc i))
  counted after k p m i len true e = let q : suc i ≡ p = eqb-true (suc i) p e in ap₂ after (omega arith) (omega arith)
  counted after k p m i len false e = ap₂ (at k p m) (omega arith) (omega arith)

  module _ (p m len : ℕ) where
    left-taken : (i x : ℕ) (w : List ℕ) → Object w x →
        Says Apart (at 8 p m i (len + i)) (32 ∷ w) (cond (eqb (suc i) p) (at 9 p m (p - 1) (len + p)) (at 8 p m (suc i) (len + suc i))) (x ∷ [])
    unfolding taken take_object given_bytes object_bytes
    left-taken i x w o =
        says_as (by (eqb (i + 1) p) ∙ ap (λ (j : ℕ). cond (eqb j p) (at 9 p m i (len + i + 1)) (at 8 p m (i + 1) (len + i + 1))) (add-one i)
        ∙ counted (at 9 p m) 8 p m i len (eqb (suc i) p) refl) refl
        (adding_word (at 8 p m i (len + i)) refl w o.long o.word {d = cond (eqb (i + 1) p) (at 9 p m i (len + i)) (at 8 p m (i + 1) (len + i))} (rw o.read) (rw o.read))
      where
        by : (b : Bool) → longer 1 (cond b (at 9 p m i (len + i)) (at 8 p m (i + 1) (len + i))) ≡ cond b (at 9 p m i (len + i + 1)) (at 8 p m (i + 1) (len + i + 1))
        by true = refl
        by false = refl

    right-taken : (i x : ℕ) (w : List ℕ) → Object w x →
        Says Apart (at 10 p m i (len + i)) (32 ∷ w) (cond (eqb (suc i) p) (at 11 p (m + 1) (p - 1) (len + p)) (at 10 p m (suc i) (len + suc i))) (x ∷ [])
    unfolding taken take_object given_bytes object_bytes
    right-taken i x w o =
        says_as (by (eqb (i + 1) p) ∙ ap (λ (j : ℕ). cond (eqb j p) (at 11 p (m + 1) i (len + i + 1)) (at 10 p m (i + 1) (len + i + 1))) (add-one i)
        ∙ counted (at 11 p (m + 1)) 10 p m i len (eqb (suc i) p) refl) refl
        (adding_word (at 10 p m i (len + i)) refl w o.long o.word {d = cond (eqb (i + 1) p) (at 11 p (m + 1) i (len + i)) (at 10 p m (i + 1) (len + i))} (rw o.read) (rw o.read))
      where
        by : (b : Bool) → longer 1 (cond b (at 11 p (m + 1) i (len + i)) (at 10 p m (i + 1) (len + i)))
            ≡ cond b (at 11 p (m + 1) i (len + i + 1)) (at 10 p m (i + 1) (len + i + 1))
        by true = refl
        by false = refl

  -- ---- the objects of a side that starts at a place of the list

  abbrev entry : List ℕ → ℕ → ℕ → List ℕ
  entry d a i = get_or d (a + i) 0 ∷ []

  module _ (p : ℕ) (some : 0 < p) (few : p ≤ 255) (d : List ℕ) (b : Bytes d) where
    abbrev side : ℕ → List ℕ
    side a = each p (λ i. object_text (get_or d (a + i) 0))

    placed : (a i : ℕ) → Object (object_word (get_or d (a + i) 0)) (get_or d (a + i) 0)
    placed a i = object (get_or d (a + i) 0) (byte_below d b (a + i))

    first-side : (a : ℕ) → Says Apart (first-left 0) (side a) (first-left p) (each p (entry d a))
    first-side a = says-each p (λ i. object_text (get_or d (a + i) 0)) first-left (entry d a)
        (λ i l. subst (λ (t : List ℕ). Says Apart (first-left i) t (first-left (suc i)) (entry d a i)) (sym (object-text (get_or d (a + i) 0)))
        (first_taken i (get_or d (a + i) 0) (object_word (get_or d (a + i) 0)) (placed a i) (omega arith)))

    left-side : (m len a : ℕ) → Says Apart (at 8 p m 0 (len + 0)) (side a) (at 9 p m (p - 1) (len + p)) (each p (entry d a))
    left-side m len a = says_last p (λ i. object_text (get_or d (a + i) 0)) (λ i. at 8 p m i (len + i)) (at 9 p m (p - 1) (len + p)) (entry d a) some
        (λ i l. subst (λ (t : List ℕ). Says Apart (at 8 p m i (len + i)) t (cond (eqb (suc i) p) (at 9 p m (p - 1) (len + p)) (at 8 p m (suc i) (len + suc i))) (entry d a i))
        (sym (object-text (get_or d (a + i) 0))) (left-taken p m len i (get_or d (a + i) 0) (object_word (get_or d (a + i) 0)) (placed a i)))

    right_side : (m len a : ℕ) → Says Apart (at 10 p m 0 (len + 0)) (side a) (at 11 p (m + 1) (p - 1) (len + p)) (each p (entry d a))
    right_side m len a = says_last p (λ i. object_text (get_or d (a + i) 0)) (λ i. at 10 p m i (len + i)) (at 11 p (m + 1) (p - 1) (len + p)) (entry d a) some
        (λ i l. subst (λ (t : List ℕ). Says Apart (at 10 p m i (len + i)) t (cond (eqb (suc i) p) (at 11 p (m + 1) (p - 1) (len + p)) (at 10 p m (suc i) (len + suc i))) (entry d a i))
        (sym (object-text (get_or d (a + i) 0))) (right-taken p m len i (get_or d (a + i) 0) (object_word (get_or d (a + i) 0)) (placed a i)))

  -- ---- what stands between two sides

  first_bar : (p : ℕ) → 0 < p → Says Apart (first-left p) (ascii " |") (at 10 p 0 0 (p + 0)) []
  unfolding ascii wordly same digital is_number number_of object_of object_bytes taken take_more given_bytes
  first_bar zero l = absurd (omega arith)
  first_bar (suc i) l = quiet_word (first-left (suc i)) refl (ascii "|") (omega arith) refl (ap (at 10 (suc i) 0 0) (sym (add-zero (suc i)))) refl

  later_bar : (p m i len : ℕ) → Says Apart (at 9 p m i len) (ascii " |") (at 10 p m 0 (len + 0)) []
  unfolding ascii wordly same digital is_number number_of object_of object_bytes taken given_bytes
  later_bar p m i len = quiet_word (at 9 p m i len) refl (ascii "|") (omega arith) refl (ap (at 10 p m 0) (sym (add-zero len))) refl

-- ---- the bytes of the lines

-- as many entries of a list as lie in it
pub part-again : (d : List ℕ) (a n : ℕ) → a + n ≤ length d → each n (λ i. get_or d (a + i) 0 ∷ []) ≡ take n (drop a d)
unfolding each
part-again d a zero l = refl
part-again d a (suc n) l =
    ap₂ (λ (x y : List ℕ). x ++ y) (part-again d a n (omega arith)) (ap (λ (x : ℕ). x ∷ []) (sym (get_or-drop a d n 0)))
    ∙ sym (take-suc (drop a d) n 0 (omega (arith, length-drop a d)))

-- parts of one length, one after the other
pub parts_again : (d : List ℕ) (q m : ℕ) → each m (λ k. take q (drop (q * k) d)) ≡ take (q * m) d
unfolding each
parts_again d q zero = ap (λ (n : ℕ). take n d) (zero-times q)
  where
    zero-times : (q : ℕ) → 0 ≡ q * 0
    zero-times q = omega arith
parts_again d q (suc m) =
    ap (λ (x : List ℕ). x ++ take q (drop (q * m) d)) (parts_again d q m) ∙ sym (take-add (q * m) q d) ∙ ap (λ (n : ℕ). take n d) (sym (mul-suc q m))

-- both sides of a block
two-sides : (d : List ℕ) (a p : ℕ) → a + 2 * p ≤ length d →
    each p (λ i. get_or d (a + i) 0 ∷ []) ++ [] ++ each p (λ i. get_or d (a + p + i) 0 ∷ []) ≡ take (2 * p) (drop a d)
two-sides d a p l =
    let both : 2 * p ≡ p + p = omega arith in
    ap₂ (λ (x y : List ℕ). x ++ y) (append-nil (each p (λ i. get_or d (a + i) 0 ∷ [])) ∙ part-again d a p (omega arith))
    (part-again d (a + p) p (omega arith) ∙ ap (take p) (sym (drop-drop p a d)))
    ∙ sym (take-add p p (drop a d)) ∙ ap (λ (n : ℕ). take n (drop a d)) (sym both)

-- ---- the lines

module _ (n flag p : ℕ) (some : 0 < p) (few : p ≤ 255) (d : List ℕ) (b : Bytes d) where
  -- before line k
  abbrev pub before : ℕ → Card
  before zero = at n flag 5 0 0 0 0
  before (suc k) = at n flag 11 p (suc k) (p - 1) (2 * p * suc k)

  abbrev both_sides : ℕ → List ℕ
  both_sides a = side n flag p some few d b a ++ ascii " |" ++ side n flag p some few d b (a + p)

  abbrev pub block_of : ℕ → List ℕ
  block_of k = take (2 * p) (drop (2 * p * k) d)

  first-line : (a : ℕ) → a + 2 * p ≤ length d → Says Any (before 0) (ascii "initial" ++ both_sides a ++ (10 ∷ [])) (before 1) (take (2 * p) (drop a d))
  unfolding ascii wordly same taken given_bytes
  first-line a l =
      says_as (ap (at n flag 11 p 1 (p - 1)) (omega arith)) (two-sides d a p l)
      (quiet_line (before 0) refl (ascii "initial") (omega arith) refl refl refl (both_sides a)
      (then (then (first-side n flag p some few d b a) (first_bar n flag p some)) (right_side n flag p some few d b 0 p (a + p))))

  later-line : (k a : ℕ) → suc k < 255 → a + 2 * p ≤ length d →
      Says Any (before (suc k)) (ascii "initial" ++ both_sides a ++ (10 ∷ [])) (before (suc (suc k))) (take (2 * p) (drop a d))
  unfolding ascii wordly same taken take_block given_bytes
  later-line k a few-lines l =
      let len = 2 * p * suc k in
      let m = suc k in
      let more : taken (before m) (ascii "initial") ≡ at n flag 8 p m 0 (len + 0) = rw (lt-ltb m 255 few-lines) (ap (at n flag 8 p m 0) (sym (add-zero len))) in
      says_as (ap₂ (λ (x y : ℕ). at n flag 11 p x (p - 1) y) (add-one m) (omega (arith, mul-suc (2 * p) m))) (two-sides d a p l)
      (quiet_line (before m) refl (ascii "initial") (omega arith) refl more refl (both_sides a)
      (then (then (left-side n flag p some few d b m len a) (later_bar n flag p m (p - 1) (len + p))) (right_side n flag p some few d b m (len + p) (a + p))))

  -- line k
  line-says : (k : ℕ) → k < 255 → 2 * p * k + 2 * p ≤ length d →
      Says Any (before k) (ascii "initial" ++ both_sides (2 * p * k) ++ (10 ∷ [])) (before (suc k)) (block_of k)
  line-says zero f l = first-line (2 * p * 0) l
  line-says (suc k) f l = later-line k (2 * p * suc k) f l

-- the blocks of a head whose list is as long as its sizes say
pub blocks_say : (h : Head) (d : List ℕ) → 0 < h.p → h.p ≤ 255 → 0 < h.m → h.m ≤ 255 → Bytes d → length d ≡ list_length h →
    Says Any (start 5 (sizes_of h.n h.flag)) (each h.m (block_line h d)) (state 11 h (h.p - 1) 0 (pos 0) 0 (list_length h)) d
blocks_say h d sp fp sm fm b l =
    says_as (after h.m sm) (parts_again d (2 * h.p) h.m ∙ take_all (list_length h) d (omega (arith, l)))
    (says-each h.m (block_line h d) (before h.n h.flag h.p sp fp d b) (block_of h.n h.flag h.p sp fp d b)
    (λ k m. line-says h.n h.flag h.p sp fp d b k (omega arith) (omega (arith, l, mul-suc (2 * h.p) k, mul-le-mul_left (2 * h.p) m))))
  where
    after : (m : ℕ) → 0 < m → before h.n h.flag h.p sp fp d b m
        ≡ state 11 (record { n = h.n; flag = h.flag; p = h.p; m = m }) (h.p - 1) 0 (pos 0) 0 (2 * h.p * m)
    after zero s = absurd (omega arith)
    after (suc m) s = refl
