-- The optional fields of a card: the names of its objects, and the others.
--     optional-says                  their lines add them, byte for byte
--     optional-length                how long their lines are at most
-- Assumes nothing.
use mathlib.Core.Path.{◌≡◌, refl, sym, ap, ap₂, ◌∙◌, subst, subst₂}
use mathlib.Core.Bool.{Bool, true, false, cond, ◌||◌}
use mathlib.Core.List.{List, [], ◌∷◌, ◌++◌}
use Prim.Native.Nat.{ℕ, zero, suc, ◌+◌, ◌-◌, ◌*◌, ◌≤◌, ◌<◌}
use native.Mathlib.Nat.{add-zero}
use native.Mathlib.Numerals.{add-one}
use native.Mathlib.Omega.{arith}
use lib.Dec.{eqb, leb}
use lib.IntN.{ℤ}
use lib.ListN.{length, get_or, take, drop, length-append, length-take, length-drop, drop_of_length-le, take-append-drop, get_or-eq_default}
use lib.Seq.{take-add, drop-drop, get_or-take, get_or-drop}
use borrow.Author.Tests.{ne_eqb, eqb-true, eqb-false, leb-true, leb-false, le-leb, lt-leb}
use Rattle.records.specs.declared.Head.{Head}
use Rattle.records.specs.declared.Card.{Card}
use Rattle.meaning.specs.Design.{objects}
use Rattle.meaning.specs.File.{big, head_of}
use Rattle.meaning.specs.Writing.{Bytes, bytes_of}
use Rattle.meaning.specs.Text.{ascii, each, line, hex_text, name_text}
use Rattle.meaning.specs.Edition2.{four_of, names_tag, names_length, optional_at, names_at}
use Rattle.meaning.specs.SheetText.{same, digital, is_number, number_of, signed_of}
use Rattle.meaning.specs.Card.{is_name, name_of, is_reading, longer, take_after, take_name, take_tag, take_bytes, taken, reading_bytes, after_bytes, field_bytes, given_bytes}
use Rattle.meaning.specs.CardText.{name_at, names_line, body_text, other_line, other_lines, others_at}
use Rattle.laws.proofs.Bytes.{byte_below, bytes-long}
use Rattle.laws.proofs.Clean.{part_length}
use Rattle.laws.proofs.Writing.{field-again}
use Rattle.laws.proofs.Edition2.{Optionals}
use Rattle.laws.proofs.Edition2.Optionals.{over, one}
use Rattle.laws.proofs.Lengths.{each-length}
use Rattle.laws.proofs.CardsWords.{wordly, Apart}
use Rattle.laws.proofs.CardsNames.{name-most, name-long, name-word, name-is, name-read, tag_word, tag_byte, tag_read, body-most, body-long, body-word, body_is, body-read}
use Rattle.laws.proofs.CardsSteps.{Says, Any, then, says_none, says_as, says_last, adding_word, adding_line, quiet_word, quiet_line, state}

-- ---- bytes of a part

pub bytes-part : (s : List ℕ) → Bytes s → (a n : ℕ) → Bytes (take n (drop a s))
bytes-part s b a n i l = by (leb (suc i) n) refl
  where
    by : (t : Bool) → leb (suc i) n ≡ t → get_or (take n (drop a s)) i 0 < 256
    by true e = rw (get_or-take n (drop a s) i 0 (leb-true (suc i) n e), get_or-drop a s i 0) (byte_below s b (a + i))
    by false e = absurd (omega (arith, l, leb-false (suc i) n e, length-take n (drop a s)))

-- a field and what follows it
field-rest : (s : List ℕ) (a n : ℕ) → take (3 + n) (drop a s) ++ drop (a + 3 + n) s ≡ drop a s
field-rest s a n =
    let next : a + (3 + n) ≡ a + 3 + n = omega arith in
    ap (λ (r : List ℕ). take (3 + n) (drop a s) ++ r) (ap (λ (j : ℕ). drop j s) (sym next) ∙ sym (drop-drop (3 + n) a s))
    ∙ take-append-drop (3 + n) (drop a s)

-- ---- a line for another field

no_others : (k : ℕ) (s : List ℕ) (a : ℕ) → length s ≤ a → other_lines k s a ≡ []
unfolding other_lines
no_others zero s a l = refl
no_others (suc k) s a l = rw (le-leb (length s) a l)

more-others : (k : ℕ) (s : List ℕ) (a : ℕ) → a < length s → other_lines (suc k) s a ≡ other_line s a ++ other_lines k s (a + 3 + big s (a + 1) 2)
unfolding other_lines
more-others k s a l = rw (lt-leb (length s) a l)

module _ (h : Head) (w : ℕ) (M : ℤ) (y : ℕ) where
  abbrev at : ℕ → ℕ → ℕ → Card
  at k i len = state k h i w M y len

  -- where another field may begin, above a tag
  record Opens (c : Card) (tag len : ℕ) : Type 0 where
    good : c.bad ≡ false
    goes : taken c (ascii "other") ≡ at 20 tag len
    none : given_bytes c (ascii "other") ≡ []

  opens_readings : (i len : ℕ) → Opens (at 17 i len) names_tag len
  unfolding ascii same taken take_after given_bytes after_bytes reading_bytes is_reading signed_of number_of is_number digital
  opens_readings i len = record { good = refl; goes = refl; none = refl }

  opens_field : (i len : ℕ) → Opens (at 19 i len) i len
  unfolding ascii same taken given_bytes
  opens_field i len = record { good = refl; goes = refl; none = refl }

  -- its tag, its bytes
  tag_says : (i len x : ℕ) → x < 256 → i < x → Says Apart (at 20 i len) (32 ∷ hex_text x) (at 21 x len) []
  unfolding taken take_tag given_bytes
  tag_says i len x l m =
      quiet_word (at 20 i len) refl (hex_text x) (omega arith) (tag_word x l) {d = at 21 x len} (rw (tag_read x l i m, tag_byte x l)) refl

  body-says : (x len : ℕ) (body : List ℕ) → Bytes body →
      Says Apart (at 21 x len) (32 ∷ body_text body) (at 19 x (len + (3 + length body))) (x ∷ bytes_of 2 (length body) ++ body)
  unfolding taken take_bytes given_bytes field_bytes
  body-says x len body b =
      let long : length (x ∷ bytes_of 2 (length body) ++ body) ≡ 3 + length body =
      omega (arith, length-append (bytes_of 2 (length body)) body, bytes-long 2 (length body)) in
      says_as (ap (λ (n : ℕ). at 19 x (len + n)) long) refl
      (adding_word (at 21 x len) refl (body_text body) (body-long body) (body-word body b) {d = at 19 x len} {b = x ∷ bytes_of 2 (length body) ++ body}
      (rw (body_is body b)) (rw (body_is body b, body-read body b)))

  module _ (s : List ℕ) (b : Bytes s) (names : ℕ) where
    -- the whole line
    other-says : (c : Card) (i len a : ℕ) → Opens c i len → i < get_or s a 0 → a + 3 + big s (a + 1) 2 ≤ length s →
        Says Any c (other_line s a) (at 19 (get_or s a 0) (len + (3 + big s (a + 1) 2))) (take (3 + big s (a + 1) 2) (drop a s))
    unfolding ascii wordly
    other-says c i len a o m l =
        let x = get_or s a 0 in
        let n = big s (a + 1) 2 in
        let body = take n (drop (a + 3) s) in
        let long : length body ≡ n = part_length s (a + 3) n l in
        let again : x ∷ bytes_of 2 (length body) ++ body ≡ take (3 + n) (drop a s) =
        ap (λ (k : ℕ). x ∷ bytes_of 2 k ++ body) long ∙ field-again s b a x n (record { tagged = refl; told = refl; inside = l }) in
        quiet_line c o.good (ascii "other") (omega arith) refl o.goes o.none (32 ∷ hex_text x ++ (32 ∷ body_text body))
        (then (tag_says i len x (byte_below s b a) m)
        (says_as (ap (λ (k : ℕ). at 19 x (len + (3 + k))) long) again (body-says x len body (bytes-part s b (a + 3) n))))

    -- where the lines of the fields from a place on end
    pub record Ends (c : Card) (t : List ℕ) (len : ℕ) (bytes : List ℕ) : Type 0 where
      pub wants : ℕ
      pub whole : eqb wants 17 || eqb wants 19 ≡ true
      pub count : ℕ
      pub says : Says Any c t (at wants count (len + length bytes)) bytes

    -- all of them
    others_say : {least a : ℕ} → Optionals s names least a → (k : ℕ) → length s ≤ a + k → (q i tag len : ℕ) → eqb q 17 || eqb q 19 ≡ true →
        Opens (at q i len) tag len → tag < least → Ends (at q i len) (other_lines k s a) len (drop a s)
    others_say (over {at = a} l) k f q i tag len whole o m =
        let c = at q i len in
        subst₂ (λ (t bytes : List ℕ). Ends c t len bytes) (sym (no_others k s a l)) (sym (drop_of_length-le s l)) (record {
          wants = q;
          whole = whole;
          count = i;
          says = says_as (ap (at q i) (sym (add-zero len))) refl (says_none c);
        })
    others_say (one {at = a} here least-is fits l rest) zero f q i tag len whole o m = absurd (omega arith)
    others_say (one {at = a} here least-is fits l rest) (suc k) f q i tag len whole o m =
        let x = get_or s a 0 in
        let n = big s (a + 1) 2 in
        let more = others_say rest k (omega arith) 19 x x (len + (3 + n)) refl (opens_field x (len + (3 + n))) (omega arith) in
        let long : len + (3 + n) + length (drop (a + 3 + n) s) ≡ len + length (drop a s) =
        omega (arith, length-drop (a + 3 + n) s, length-drop a s) in
        subst (λ (t : List ℕ). Ends (at q i len) t len (drop a s)) (sym (more-others k s a here)) (record {
          wants = more.wants;
          whole = more.whole;
          count = more.count;
          says = says_as (ap (at more.wants more.count) long) (field-rest s a n) (then (other-says (at q i len) tag len a o (omega arith) l) more.says);
        })

-- ---- the names

-- a name of eight bytes
record Name (name : List ℕ) : Type 0 where
  long : 0 < length (name_text name)
  word : wordly (name_text name) ≡ true
  is : is_name 8 (name_text name) ≡ true
  read : name_of 8 (name_text name) ≡ name

a_name : (name : List ℕ) → length name ≡ 8 → Bytes name → Name name
a_name [] e b = absurd (omega arith)
a_name (x ∷ s) e b = record {
  long = name-long x s b;
  word = name-word x s b;
  is = ap (λ (k : ℕ). is_name k (name_text (x ∷ s))) (sym e) ∙ name-is x s b;
  read = ap (λ (k : ℕ). name_of k (name_text (x ∷ s))) (sym e) ∙ name-read x s b;
}

-- names, one after the other, are a part of the file
names-again : (s : List ℕ) (a v : ℕ) → each v (name_at s a) ≡ take (8 * v) (drop a s)
unfolding each
names-again s a zero = refl
names-again s a (suc v) =
    let more : 8 * suc v ≡ 8 * v + 8 = omega arith in
    ap₂ (λ (x y : List ℕ). x ++ y) (names-again s a v) (ap (take 8) (sym (drop-drop (8 * v) a s)))
    ∙ sym (take-add (8 * v) 8 (drop a s)) ∙ ap (λ (n : ℕ). take n (drop a s)) (sym more)

module _ (h : Head) (w : ℕ) (M : ℤ) (y : ℕ) where
  abbrev v : ℕ
  v = objects h

  abbrev to : ℕ → ℕ → ℕ → Card
  to k i len = state k h i w M y len

  name-says : (i len : ℕ) (name : List ℕ) → length name ≡ 8 → Name name →
      Says Apart (to 18 i (len + 8 * i)) (32 ∷ name_text name) (cond (eqb (suc i) v) (to 19 names_tag (len + 8 * v)) (to 18 (suc i) (len + 8 * suc i))) name
  unfolding taken take_name given_bytes
  name-says i len name e n =
      says_as (ap₂ (λ (j k : ℕ). longer j (cond (eqb k v) (to 19 names_tag (len + 8 * i)) (to 18 (i + 1) (len + 8 * i)))) e (add-one i) ∙ by (eqb (suc i) v) refl) refl
      (adding_word (to 18 i (len + 8 * i)) refl (name_text name) n.long n.word
      {d = cond (eqb (i + 1) v) (to 19 names_tag (len + 8 * i)) (to 18 (i + 1) (len + 8 * i))} (rw n.is) n.read)
    where
      by : (b : Bool) → eqb (suc i) v ≡ b → longer 8 (cond b (to 19 names_tag (len + 8 * i)) (to 18 (i + 1) (len + 8 * i)))
          ≡ cond b (to 19 names_tag (len + 8 * v)) (to 18 (suc i) (len + 8 * suc i))
      by true q = let last : suc i ≡ v = eqb-true (suc i) v q in ap (to 19 names_tag) (omega arith)
      by false q = ap₂ (to 18) (add-one i) (omega arith)

  module _ (s : List ℕ) (b : Bytes s) where
    names_say : (i len a : ℕ) → 0 < v → a + 8 * v ≤ length s →
        Says Any (to 17 i len) (line "names" (each v (λ i. 32 ∷ name_text (name_at s a i)))) (to 19 names_tag (len + 3 + 8 * v))
        (names_tag ∷ bytes_of 2 (8 * v) ++ take (8 * v) (drop a s))
    unfolding ascii wordly same taken take_after given_bytes after_bytes bytes_of
    names_say i len a some l =
        let none : eqb v 0 ≡ false = ne_eqb v 0 (λ q. absurd (omega (arith, q))) in
        let zero_more : len + 3 + 8 * 0 ≡ len + 3 = omega arith in
        let inner = says_last v (λ i. 32 ∷ name_text (name_at s a i)) (λ i. to 18 i (len + 3 + 8 * i)) (to 19 names_tag (len + 3 + 8 * v)) (name_at s a) some
        (λ i m. let long : length (name_at s a i) ≡ 8 = part_length s (a + 8 * i) 8 (omega arith) in
        name-says i (len + 3) (name_at s a i) long (a_name (name_at s a i) long (bytes-part s b (a + 8 * i) 8))) in
        says_as refl (ap (λ (r : List ℕ). names_tag ∷ bytes_of 2 (8 * v) ++ r) (names-again s a v))
        (adding_line (to 17 i len) refl (ascii "names") (omega arith) refl {d = to 18 0 len} {b = names_tag ∷ bytes_of 2 (8 * v)} (rw none) refl
        (each v (λ i. 32 ∷ name_text (name_at s a i)))
        (subst (λ (k : ℕ). Says Apart (to 18 0 k) (each v (λ i. 32 ∷ name_text (name_at s a i))) (to 19 names_tag (len + 3 + 8 * v)) (each v (name_at s a))) zero_more inner))

-- ---- all optional fields

-- without names the first tag is above theirs
no_names : (s : List ℕ) (names a : ℕ) → Optionals s names names_tag a → eqb (get_or s a 0) names_tag ≡ false → Optionals s names (names_tag + 1) a
no_names s names a (over l) e = over l
no_names s names a (one here least-is fits l rest) e = one here (above (get_or s a 0) least-is (eqb-false _ _ e)) fits l rest
  where
    above : (x : ℕ) → names_tag ≤ x → (x ≡ names_tag → ⊥) → names_tag + 1 ≤ x
    above x l n = omega (arith, n)

module _ (s : List ℕ) (b : Bytes s) (w : ℕ) (M : ℤ) (y : ℕ) where
  abbrev head : Head
  head = head_of (four_of s)

  -- the names' line and the others', where there are names or not
  lines_by : Bool → List ℕ
  lines_by t = let names = cond t (optional_at s + 3) 0 in
      cond (eqb names 0) [] (line "names" (each (objects head) (λ i. 32 ∷ name_text (name_at s names i))))
      ++ other_lines (length s) s (cond (eqb names 0) (optional_at s) (names + names_length head))

  pub optional-says : (i len : ℕ) → 0 < objects head → Optionals s (names_length head) names_tag (optional_at s) →
      Ends head w M y s b (names_length head) (state 17 head i w M y len) (names_line s ++ other_lines (length s) s (others_at s)) len (drop (optional_at s) s)
  unfolding lines_by
  optional-says i len some p = by (eqb (get_or s (optional_at s) 0) names_tag) refl p
    where
      c : Card
      c = state 17 head i w M y len

      by : (t : Bool) → eqb (get_or s (optional_at s) 0) names_tag ≡ t → Optionals s (names_length head) names_tag (optional_at s) →
          Ends head w M y s b (names_length head) c (lines_by t) len (drop (optional_at s) s)
      by false q p = others_say head w M y s b (names_length head) (no_names s (names_length head) (optional_at s) p q) (length s) (omega arith) 17 i names_tag len refl
          (opens_readings head w M y i len) (omega arith)
      by true q (over l) = absurd (omega (arith, eqb-true (get_or s (optional_at s) 0) names_tag q, get_or-eq_default s 0 {n = optional_at s} l))
      by true q (one here least-is fits l rest) =
          let o = optional_at s in
          let k = names_length head in
          let tag : get_or s o 0 ≡ names_tag = eqb-true (get_or s o 0) names_tag q in
          let n : big s (o + 1) 2 ≡ k = fits tag in
          let inside : o + 3 + k ≤ length s = omega arith in
          let more = others_say head w M y s b k (subst (λ (j : ℕ). Optionals s k (get_or s o 0 + 1) (o + 3 + j)) n rest) (length s) (omega arith) 19 names_tag
          names_tag (len + 3 + k) refl (opens_field head w M y names_tag (len + 3 + k)) (omega arith) in
          let again : names_tag ∷ bytes_of 2 k ++ take k (drop (o + 3) s) ++ drop (o + 3 + k) s ≡ drop o s =
          ap (λ (r : List ℕ). r ++ drop (o + 3 + k) s) (field-again s b o names_tag k (record { tagged = tag; told = n; inside = inside })) ∙ field-rest s o k in
          let long : len + 3 + k + length (drop (o + 3 + k) s) ≡ len + length (drop o s) = omega (arith, length-drop (o + 3 + k) s, length-drop o s) in
          let there : eqb (o + 3) 0 ≡ false = ne_eqb (o + 3) 0 (λ z. absurd (omega (arith, z))) in
          subst (λ (u : Bool). Ends head w M y s b k c (cond u [] (line "names" (each (objects head) (λ i. 32 ∷ name_text (name_at s (o + 3) i))))
          ++ other_lines (length s) s (cond u o (o + 3 + k))) len (drop o s)) (sym there) (record {
            wants = more.wants;
            whole = more.whole;
            count = more.count;
            says = says_as (ap (λ (j : ℕ). state more.wants head more.count w M y j) long) again
                (then (names_say head w M y s b i len (o + 3) some inside) more.says);
          })

-- ---- how long their lines are

-- a field of n bytes after its start has a line of at most 2n + 11
line-most : (s : List ℕ) (a : ℕ) → a + 3 + big s (a + 1) 2 ≤ length s → length (other_line s a) ≤ 2 * big s (a + 1) 2 + 11
unfolding ascii
line-most s a l =
    let n = big s (a + 1) 2 in
    simp length-append (omega (arith, body-most (take n (drop (a + 3) s)), part_length s (a + 3) n l))

-- each has a tag of its own
others-most : (s : List ℕ) → Bytes s → (names : ℕ) {least a : ℕ} → Optionals s names least a → least ≤ 256 → (k : ℕ) →
    length (other_lines k s a) ≤ 2 * (length s - a) + 5 * (256 - least)
unfolding other_lines
others-most s b names (over {at = a} l) m k = rw (no_others k s a l) (omega arith)
others-most s b names (one {at = a} here least-is fits l rest) m zero = omega arith
others-most s b names (one {least = least} {at = a} here least-is fits l rest) m (suc k) =
    let n = big s (a + 1) 2 in
    let x = get_or s a 0 in
    let small : x < 256 = byte_below s b a in
    let more = others-most s b names rest (omega arith) k in
    rw (lt-leb (length s) a here, length-append) (omega (arith, line-most s a l, more))

module _ (s : List ℕ) (b : Bytes s) where
  abbrev sizes : Head
  sizes = head_of (four_of s)

  names-most : objects sizes ≤ 50 → length (names_line s) ≤ 1856
  unfolding ascii
  names-most m = by (eqb (names_at s) 0)
    where
      all : length (each (objects sizes) (λ i. 32 ∷ name_text (name_at s (names_at s) i))) ≤ objects sizes * 37
      all = each-length (objects sizes) 37 (λ i. 32 ∷ name_text (name_at s (names_at s) i))
          (λ i l. omega (arith, name-most (name_at s (names_at s) i), length-take 8 (drop (names_at s + 8 * i) s)))

      by : (t : Bool) → length (cond t [] (line "names" (each (objects sizes) (λ i. 32 ∷ name_text (name_at s (names_at s) i))))) ≤ 1856
      by true = omega arith
      by false = simp length-append (omega (arith, all))

  pub optional-length : objects sizes ≤ 50 → Optionals s (names_length sizes) names_tag (optional_at s) →
      length (names_line s ++ other_lines (length s) s (others_at s)) ≤ 2 * length s + 2496
  optional-length m p = rw length-append (omega (arith, names-most m, by (eqb (get_or s (optional_at s) 0) names_tag) refl p))
    where
      by : (t : Bool) → eqb (get_or s (optional_at s) 0) names_tag ≡ t → Optionals s (names_length sizes) names_tag (optional_at s) →
          length (other_lines (length s) s (cond (eqb (cond t (optional_at s + 3) 0) 0) (optional_at s) (cond t (optional_at s + 3) 0 + names_length sizes)))
          ≤ 2 * length s + 640
      by false q p = omega (arith, others-most s b (names_length sizes) p (omega arith) (length s))
      by true q (over l) = absurd (omega (arith, eqb-true (get_or s (optional_at s) 0) names_tag q, get_or-eq_default s 0 {n = optional_at s} l))
      by true q (one here least-is fits l rest) =
          let o = optional_at s in
          let tag : get_or s o 0 ≡ names_tag = eqb-true (get_or s o 0) names_tag q in
          let there : eqb (o + 3) 0 ≡ false = ne_eqb (o + 3) 0 (λ z. absurd (omega (arith, z))) in
          let after = subst (λ (j : ℕ). Optionals s (names_length sizes) (get_or s o 0 + 1) (o + 3 + j)) (fits tag) rest in
          rw there (omega (arith, others-most s b (names_length sizes) after (omega arith) (length s)))
