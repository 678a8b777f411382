-- What a word does to the numbers of a card: they stay as small as `Kept` says, and the bytes that the words give are counted. Assumes nothing.
use Prim.Native.Nat.{ℕ, zero, suc, ◌+◌, ◌/◌, ◌%◌, ◌≤◌}
use mathlib.Core.Path.{◌≡◌, refl, sym, ap, subst}
use mathlib.Core.List.{List, [], ◌∷◌}
use mathlib.Core.Bool.{Bool, true, false, cond, not, ◌&&◌}
use native.Mathlib.Omega.{arith}
use borrow.Author.Tests.{ltb-true, ltb-false, eqb-true, eqb-false, not-true}
use lib.Dec.{eqb, ltb, leb}
use lib.ListN.{length, drop, length-append}
use Rattle.records.specs.declared.Card.{Card}
use Rattle.records.specs.declared.Head.{Head}
use Rattle.meaning.specs.Design.{objects}
use Rattle.meaning.specs.Analysis.{member}
use Rattle.meaning.specs.Text.{ascii}
use Rattle.meaning.specs.Writing.{bytes_of, wrapped}
use Rattle.meaning.specs.Edition2.{names_length}
use Rattle.meaning.specs.SheetText.{same, digital, decimal, is_number, number_of, signed_of}
use Rattle.meaning.specs.Card.{object_of, member_of, hex_byte, hex_bytes, is_body, body_of, is_tag, is_name, name_of, is_reading, next, fail, sizing, counting, longer, expect, with_m, take_kind, take_size, take_fixed, take_first, take_more, take_object, take_block, take_member, take_standard, take_sum, take_reading, take_after, take_name, take_tag, take_bytes, taken, object_bytes, reading_bytes, after_bytes, field_bytes, given_bytes, step}
use Rattle.laws.proofs.Bytes.{bytes-long}
use borrow.Author.Rules.{rules}
use Rattle.std.specs.Prelude.{Option, Some, is_some, unwrap_or, pos}
use Rattle.cards.specs.Sizes.{Measured, Kept}
use Rattle.cards.proofs.Choices.{either, and_second}
use Rattle.cards.proofs.hexadecimal.Digits.{tag_most, hex_long}

-- a number that is read is within its limit
pub within : (limit : ℕ) (w : List ℕ) → unwrap_or (number_of limit w) 0 ≤ limit
unfolding number_of is_number
within limit w = either (λ (n : Option ℕ). unwrap_or n 0 ≤ limit) (not (eqb (length w) 0) && (digital w && not (ltb limit (decimal 0 w))))
    (λ t. ltb-false limit (decimal 0 w) (not-true (ltb limit (decimal 0 w))
    (and_second (digital w) (not (ltb limit (decimal 0 w))) (and_second (not (eqb (length w) 0)) (digital w && not (ltb limit (decimal 0 w))) t))))
    (λ t. omega arith)

-- an object of the restraint is below 64
pub member-small : (h : Head) (w : List ℕ) → unwrap_or (member_of h w) 0 ≤ 63
unfolding member_of
member-small h w = either (λ (n : Option ℕ). unwrap_or n 0 ≤ 63) (same w (ascii "inf") && (eqb (h.flag % 2) 1 && ltb h.n 64))
    (λ t. omega (
      arith,
      ltb-true h.n 64 (and_second (eqb (h.flag % 2) 1) (ltb h.n 64)
          (and_second (same w (ascii "inf")) (eqb (h.flag % 2) 1 && ltb h.n 64) t)),
    ))
    (λ t. within 63 w)

pub member-most : (h : Head) (w : List ℕ) (x : ℕ) → Some x ≡ member_of h w → x ≤ 63
member-most h w x e = subst (λ (n : Option ℕ). unwrap_or n 0 ≤ 63) (sym e) (member-small h w)

-- an object of a block is a byte
pub object-small : (w : List ℕ) → unwrap_or (object_of w) 0 ≤ 255
unfolding object_of
object-small w = either (λ (n : Option ℕ). unwrap_or n 0 ≤ 255) (same w (ascii "inf")) (λ t. omega arith) (λ t. omega (arith, within 254 w))

pub object-most : (w : List ℕ) (x : ℕ) → Some x ≡ object_of w → x ≤ 255
object-most w x e = subst (λ (n : Option ℕ). unwrap_or n 0 ≤ 255) (sym e) (object-small w)

-- a number that is at least j and not j
pub above : (x j : ℕ) → j ≤ x → (x ≡ j → ⊥) → j + 1 ≤ x
above x j h f = omega arith

-- ---- how many bytes a word gives

pub name-long : (k : ℕ) (w : List ℕ) → length (name_of k w) ≡ k
unfolding name_of
name-long zero w = refl
name-long (suc k) [] = ap suc (name-long k [])
name-long (suc k) (x ∷ s) =
    by (eqb x 92) (name-long k (drop 3 s)) (name-long k s)
  where
    by : (b : Bool) → length (name_of k (drop 3 s)) ≡ k → length (name_of k s) ≡ k →
        length (cond b (hex_byte (drop 1 s) ∷ name_of k (drop 3 s)) (x ∷ name_of k s)) ≡ suc k
    by true e f = ap suc e
    by false e f = ap suc f

body-long : (w : List ℕ) → length (body_of w) ≤ length w
unfolding body_of
body-long w = by (same w (ascii "-"))
  where
    by : (b : Bool) → length (cond b [] (hex_bytes (length w / 2) w)) ≤ length w
    by true = omega arith
    by false = omega (arith, hex_long (length w / 2) w)

module _ (c : Card) (w : List ℕ) where
  abbrev Short : List ℕ → Type 0
  Short l = length l ≤ 8 + length w

  object-short : Short (object_bytes c w)
  unfolding object_bytes
  object-short = either Short (is_some (object_of w)) (λ t. omega arith) (λ t. omega arith)

  reading-short : Short (reading_bytes c w)
  unfolding reading_bytes
  reading-short = either Short (is_reading w) (λ t. omega (arith, bytes-long 4 (wrapped 32 (unwrap_or (signed_of w) (pos 0))))) (λ t. omega arith)

  after-short : Short (after_bytes c w)
  unfolding after_bytes
  after-short = either Short (same w (ascii "names")) (λ t. omega (arith, bytes-long 2 (names_length c.head))) (λ t. reading-short)

  name-short : Short (name_of 8 w)
  name-short = omega (arith, name-long 8 w)

  field-short : Short (field_bytes c w)
  unfolding field_bytes
  field-short = either Short (is_body w)
      (λ t. omega (arith, length-append (bytes_of 2 (length (body_of w))) (body_of w), bytes-long 2 (length (body_of w)), body-long w))
      (λ t. omega arith)

  -- a word gives at most eight bytes and one for each of its own
  pub given-short : Short (given_bytes c w)
  unfolding given_bytes
  given-short = either Short (leb 6 c.wants && leb c.wants 10) (λ t. object-short)
      (λ t. either Short (eqb c.wants 16) (λ u. reading-short)
      (λ u. either Short (eqb c.wants 17) (λ v. after-short)
      (λ v. either Short (eqb c.wants 18) (λ x. name-short)
      (λ x. either Short (eqb c.wants 21) (λ y. field-short) (λ y. omega arith)))))

-- ---- the card with the word

-- what is known of a card by what is wanted
pub record Known (k j : ℕ) (c : Card) : Type 0 where
  pub n : c.head.n ≤ 255
  pub flag : c.head.flag + cond (leb j 4) 1 0 ≤ 3
  pub p : c.head.p ≤ 255
  pub m : c.head.m + cond (leb j 10) 1 0 ≤ 255
  pub count : c.count ≤ 255 + cond (eqb j 21) 0 k
  pub readings : c.readings ≤ k

known : (k j : ℕ) (c : Card) → Measured k c → c.wants ≡ j → Known k j c
known k j c s e = subst (λ (i : ℕ). Known k i c) e
    (record { n = s.n; flag = s.flag; p = s.p; m = s.m; count = s.count; readings = s.readings })

module _ (k : ℕ) (c : Card) (w : List ℕ) (s : Measured k c) where
  -- a card that keeps to the sizes one word later, with as many bytes
  abbrev After : Card → Type 0
  After d = Measured (k + 1) d × (d.length ≡ c.length)

  more-count : (b : Bool) → c.count ≤ 255 + cond b 0 k → c.count ≤ 255 + cond b 0 (k + 1)
  more-count true h = h
  more-count false h = omega arith

  most_wants : (b : Bool) → c.wants ≤ cond b 22 21 → c.wants ≤ 22
  most_wants true h = h
  most_wants false h = omega arith

  failed : After (fail c)
  failed = (record { some = s.some; last = most_wants c.bad s.last; n = s.n; flag = s.flag; p = s.p; m = s.m; count = more-count (eqb c.wants 21) s.count; readings = omega (arith, s.readings) }, refl)

  keep_kind : c.wants ≡ 1 → After (take_kind c w)
  unfolding take_kind
  keep_kind e = let h = known k 1 c s e in
      either After (same w (ascii "residues")) (λ t. (search rules, refl)) (λ t. either After (same w (ascii "field")) (λ u. (search rules, refl)) (λ u. failed))

  keep-size : c.wants ≡ 2 → After (take_size c w)
  unfolding take_size
  keep-size e = let h = known k 2 c s e in
      either After (is_some (number_of 255 w)) (λ t. let most = within 255 w in (search rules, refl)) (λ t. failed)

  -- a certain word, at 3, 5, 15 and 19
  keep_fixed_word : c.wants ≡ 3 → After (expect c w (ascii "fixed") (next 4 c))
  keep_fixed_word e = let h = known k 3 c s e in either After (same w (ascii "fixed")) (λ t. (search rules, refl)) (λ t. failed)

  keep_initial_word : c.wants ≡ 5 → After (expect c w (ascii "initial") (next 6 c))
  keep_initial_word e = let h = known k 5 c s e in either After (same w (ascii "initial")) (λ t. (search rules, refl)) (λ t. failed)

  keep_bar : c.wants ≡ 9 → After (expect c w (ascii "|") (counting 10 0 c))
  keep_bar e = let h = known k 9 c s e in either After (same w (ascii "|")) (λ t. (search rules, refl)) (λ t. failed)

  keep_readings_word : c.wants ≡ 15 → After (expect c w (ascii "readings") (next 16 c))
  keep_readings_word e = let h = known k 15 c s e in either After (same w (ascii "readings")) (λ t. (search rules, refl)) (λ t. failed)

  keep_other_word : c.wants ≡ 19 → After (expect c w (ascii "other") (next 20 c))
  keep_other_word e = let h = known k 19 c s e in either After (same w (ascii "other")) (λ t. (search rules, refl)) (λ t. failed)

  keep_fixed : c.wants ≡ 4 → After (take_fixed c w)
  unfolding take_fixed
  keep_fixed e = let h = known k 4 c s e in
      either After (same w (ascii "no")) (λ t. (search rules, refl)) (λ t. either After (same w (ascii "yes")) (λ u. (search rules, refl)) (λ u. failed))

  -- an object of the first left side, at 6 and at 7
  keep-object : c.head.m ≤ 254 → c.head.flag ≤ 3 → c.count ≤ 255 + k → After (take_first c w)
  unfolding take_first
  keep-object m f i = let n = s.n in let p = s.p in let y = s.readings in
      either After (is_some (object_of w))
      (λ t. either After (ltb c.head.p 255) (λ u. let room = ltb-true c.head.p 255 u in (search rules, refl)) (λ u. (search rules, refl)))
      (λ t. failed)

  keep-first : c.wants ≡ 6 → After (take_first c w)
  keep-first e = let h = known k 6 c s e in keep-object (omega arith) (omega arith) (omega arith)

  keep-more : c.wants ≡ 7 → After (take_more c w)
  unfolding take_more
  keep-more e = let h = known k 7 c s e in
      either After (same w (ascii "|")) (λ t. (search rules, refl)) (λ t. keep-object (omega arith) (omega arith) (omega arith))

  keep_left : c.wants ≡ 8 → After (take_object c w 8 (next 9 c))
  unfolding take_object
  keep_left e = let h = known k 8 c s e in
      either After (is_some (object_of w)) (λ t. either After (eqb (c.count + 1) c.head.p) (λ u. (search rules, refl)) (λ u. (search rules, refl))) (λ t. failed)

  keep-right : c.wants ≡ 10 → After (take_object c w 10 (sizing 11 (with_m (c.head.m + 1) c.head) c))
  unfolding take_object
  keep-right e = let h = known k 10 c s e in
      either After (is_some (object_of w)) (λ t. either After (eqb (c.count + 1) c.head.p) (λ u. (search rules, refl)) (λ u. (search rules, refl))) (λ t. failed)

  keep-block : c.wants ≡ 11 → After (take_block c w)
  unfolding take_block
  keep-block e = let h = known k 11 c s e in
      either After (same w (ascii "initial"))
      (λ t. either After (ltb c.head.m 255) (λ u. let room = ltb-true c.head.m 255 u in (search rules, refl)) (λ u. (search rules, refl)))
      (λ t. either After (same w (ascii "restraint")) (λ u. (search rules, refl)) (λ u. failed))

  -- an object of the restraint, at 12 and at 13
  keep-standing : c.head.m ≤ 255 → c.head.flag ≤ 3 → c.count ≤ 255 + k → After (take_member c w)
  unfolding take_member
  keep-standing m f i = let n = s.n in let p = s.p in let y = s.readings in
      either After (is_some (member_of c.head w) && eqb (member c.set (unwrap_or (member_of c.head w) 0)) 0) (λ t. (search rules, refl)) (λ t. failed)

  keep-member : c.wants ≡ 12 → After (take_member c w)
  keep-member e = let h = known k 12 c s e in keep-standing (omega arith) (omega arith) (omega arith)

  keep_standard : c.wants ≡ 13 → After (take_standard c w)
  unfolding take_standard
  keep_standard e = let h = known k 13 c s e in
      either After (same w (ascii "=")) (λ t. (search rules, refl)) (λ t. keep-standing (omega arith) (omega arith) (omega arith))

  keep-sum : c.wants ≡ 14 → After (take_sum c w)
  unfolding take_sum
  keep-sum e = let h = known k 14 c s e in
      either After (is_some (signed_of w)) (λ t. (search rules, refl)) (λ t. failed)

  -- a reading, at 16 and at 17
  keep-weighed : c.head.m ≤ 255 → c.head.flag ≤ 3 → c.count ≤ 255 + k → After (take_reading c w)
  unfolding take_reading
  keep-weighed m f i = let n = s.n in let p = s.p in let y = s.readings in
      either After (is_reading w) (λ t. (search rules, refl)) (λ t. failed)

  keep-reading : c.wants ≡ 16 → After (take_reading c w)
  keep-reading e = let h = known k 16 c s e in keep-weighed (omega arith) (omega arith) (omega arith)

  keep-after : c.wants ≡ 17 → After (take_after c w)
  unfolding take_after
  keep-after e = let h = known k 17 c s e in
      either After (same w (ascii "names"))
      (λ t. either After (eqb (objects c.head) 0) (λ u. (search rules, refl)) (λ u. (search rules, refl)))
      (λ t. either After (same w (ascii "other")) (λ u. (search rules, refl)) (λ u. keep-weighed (omega arith) (omega arith) (omega arith)))

  keep-name : c.wants ≡ 18 → After (take_name c w)
  unfolding take_name
  keep-name e = let h = known k 18 c s e in
      either After (is_name 8 w)
      (λ t. either After (eqb (c.count + 1) (objects c.head)) (λ u. (search rules, refl)) (λ u. (search rules, refl)))
      (λ t. failed)

  keep_tag : c.wants ≡ 20 → After (take_tag c w)
  unfolding take_tag
  keep_tag e = let h = known k 20 c s e in
      either After (is_tag c.count w) (λ t. let byte = tag_most c.count w t in (search rules, refl)) (λ t. failed)

  keep-bytes : c.wants ≡ 21 → After (take_bytes c w)
  unfolding take_bytes
  keep-bytes e = let h = known k 21 c s e in
      either After (is_body w) (λ t. (search rules, refl)) (λ t. failed)

  -- whatever was wanted
  keep_taken : c.wants ≤ 21 → After (taken c w)
  unfolding taken
  keep_taken most =
      either After (eqb c.wants 1) (λ t. keep_kind (eqb-true c.wants 1 t))
      (λ n1. either After (eqb c.wants 2) (λ t. keep-size (eqb-true c.wants 2 t))
      (λ n2. either After (eqb c.wants 3) (λ t. keep_fixed_word (eqb-true c.wants 3 t))
      (λ n3. either After (eqb c.wants 4) (λ t. keep_fixed (eqb-true c.wants 4 t))
      (λ n4. either After (eqb c.wants 5) (λ t. keep_initial_word (eqb-true c.wants 5 t))
      (λ n5. either After (eqb c.wants 6) (λ t. keep-first (eqb-true c.wants 6 t))
      (λ n6. either After (eqb c.wants 7) (λ t. keep-more (eqb-true c.wants 7 t))
      (λ n7. either After (eqb c.wants 8) (λ t. keep_left (eqb-true c.wants 8 t))
      (λ n8. either After (eqb c.wants 9) (λ t. keep_bar (eqb-true c.wants 9 t))
      (λ n9. either After (eqb c.wants 10) (λ t. keep-right (eqb-true c.wants 10 t))
      (λ n10. either After (eqb c.wants 11) (λ t. keep-block (eqb-true c.wants 11 t))
      (λ n11. either After (eqb c.wants 12) (λ t. keep-member (eqb-true c.wants 12 t))
      (λ n12. either After (eqb c.wants 13) (λ t. keep_standard (eqb-true c.wants 13 t))
      (λ n13. either After (eqb c.wants 14) (λ t. keep-sum (eqb-true c.wants 14 t))
      (λ n14. either After (eqb c.wants 15) (λ t. keep_readings_word (eqb-true c.wants 15 t))
      (λ n15. either After (eqb c.wants 16) (λ t. keep-reading (eqb-true c.wants 16 t))
      (λ n16. either After (eqb c.wants 17) (λ t. keep-after (eqb-true c.wants 17 t))
      (λ n17. either After (eqb c.wants 18) (λ t. keep-name (eqb-true c.wants 18 t))
      (λ n18. either After (eqb c.wants 19) (λ t. keep_other_word (eqb-true c.wants 19 t))
      (λ n19. either After (eqb c.wants 20) (λ t. keep_tag (eqb-true c.wants 20 t))
      (λ n20. keep-bytes (last_wants n1 n2 n3 n4 n5 n6 n7 n8 n9 n10 n11 n12 n13 n14 n15 n16 n17 n18 n19 n20)))))))))))))))))))))
    where
      above : (j : ℕ) → j ≤ c.wants → eqb c.wants j ≡ false → j + 1 ≤ c.wants
      above j h f = let other : c.wants ≡ j → ⊥ = eqb-false c.wants j f in omega arith

      last_wants : eqb c.wants 1 ≡ false → eqb c.wants 2 ≡ false → eqb c.wants 3 ≡ false → eqb c.wants 4 ≡ false → eqb c.wants 5 ≡ false → eqb c.wants 6 ≡ false → eqb c.wants 7 ≡ false → eqb c.wants 8 ≡ false → eqb c.wants 9 ≡ false → eqb c.wants 10 ≡ false → eqb c.wants 11 ≡ false → eqb c.wants 12 ≡ false → eqb c.wants 13 ≡ false → eqb c.wants 14 ≡ false → eqb c.wants 15 ≡ false → eqb c.wants 16 ≡ false → eqb c.wants 17 ≡ false → eqb c.wants 18 ≡ false → eqb c.wants 19 ≡ false → eqb c.wants 20 ≡ false → c.wants ≡ 21
      last_wants n1 n2 n3 n4 n5 n6 n7 n8 n9 n10 n11 n12 n13 n14 n15 n16 n17 n18 n19 n20 = let end : 21 ≤ c.wants = above 20 (above 19 (above 18 (above 17 (above 16 (above 15 (above 14 (above 13 (above 12 (above 11 (above 10 (above 9 (above 8 (above 7 (above 6 (above 5 (above 4 (above 3 (above 2 (above 1 s.some n1) n2) n3) n4) n5) n6) n7) n8) n9) n10) n11) n12) n13) n14) n15) n16) n17) n18) n19) n20 in omega arith

-- ---- a word more

more-words : {k j : ℕ} {c : Card} → Measured k c → k ≤ j → Measured j c
more-words {k} {j} {c} s h = record {
  some = s.some;
  last = s.last;
  n = s.n;
  flag = s.flag;
  p = s.p;
  m = s.m;
  count = by (eqb c.wants 21) s.count;
  readings = omega (arith, s.readings);
}
  where
    by : (b : Bool) → c.count ≤ 255 + cond b 0 k → c.count ≤ 255 + cond b 0 j
    by true l = l
    by false l = omega arith

-- at a later place
pub kept-later : {k j : ℕ} {c : Card} → Kept k c → k ≤ j → Kept j c
kept-later h l = record { sizes = more-words h.sizes l; length = omega (arith, h.length) }

-- with more bytes
pub longer-sizes : {k : ℕ} {d : Card} (n : ℕ) → Measured k d → Measured k (longer n d)
longer-sizes n s = record { some = s.some; last = s.last; n = s.n; flag = s.flag; p = s.p; m = s.m; count = s.count; readings = s.readings }

module _ (k : ℕ) (c : Card) (w : List ℕ) (h : Kept k c) (good : c.bad ≡ false) where
  pub good_wants : c.wants ≤ 21
  good_wants = rw good at h.sizes.last

  -- the word leaves the bytes before it as many as they were
  pub taken-length : (taken c w).length ≡ c.length
  taken-length = (keep_taken k c w h.sizes good_wants).1

-- after a word: as many bytes more as it gives
pub kept_word : (k j : ℕ) (c : Card) (w : List ℕ) → Kept k c → 1 ≤ length w → k + length w ≡ j → Kept j (step c w)
unfolding step
kept_word k j c w h some e = either (Kept j) c.bad (λ t. kept-later h (omega arith)) (λ t.
    let s = keep_taken k c w h.sizes (good_wants k c w h t) in
    record {
      sizes = longer-sizes (length (given_bytes c w)) (more-words s.0 (omega arith));
      length = omega (arith, s.1, h.length, given-short c w);
    })
