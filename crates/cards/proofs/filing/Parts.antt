-- The parts of what a card's words give, cut where it ends at the latest; the fields of the file, and how many bytes it has. Assumes nothing.
use Prim.Native.Nat.{ℕ, ◌+◌, ◌-◌, ◌*◌, ◌≤◌, ◌<◌, min}
use mathlib.Core.Path.{◌≡◌, refl, sym, ap, ◌∙◌}
use mathlib.Core.Bool.{true}
use mathlib.Core.List.{List, ◌∷◌, ◌++◌}
use native.Mathlib.Omega.{arith}
use lib.IntN.{ℤ}
use lib.ListN.{length, take, drop, length-append, length-drop, take-append-drop}
use lib.Seq.{take_all, drop-drop, take-append_seam}
use Rattle.algebra.specs.Buffers.{Wrote}
use Rattle.algebra.proofs.Writing.{named, kept, counts, in_front}
use Rattle.records.specs.declared.Card.{Card}
use Rattle.meaning.specs.Design.{list_length}
use Rattle.meaning.specs.Writing.{bytes_of, wrapped, sizes_body, restraint_body}
use Rattle.meaning.specs.Edition2.{edition_field}
use Rattle.meaning.specs.Card.{field, block_bytes, readings_bytes, other_bytes, four_fields, is_second, file_from}
use Rattle.laws.proofs.Bytes.{bytes-long}
use Rattle.std.proofs.lemmas.List.{take_min, drop_min}
use Rattle.cards.proofs.Choices.{either}
use Rattle.cards.proofs.optional.Parts.{part-within}

-- ---- cut at a place, or at the end where that comes first

-- what stands behind the cut
last-part : (s : List ℕ) (k : ℕ) → take (length s - min k (length s)) (drop (min k (length s)) s) ≡ drop k s
last-part s k =
    take_all (length s - min k (length s)) (drop (min k (length s)) s) (omega (arith, length-drop (min k (length s)) s)) ∙ drop_min k s

-- the two parts and the rest are all
pub parts-long : (s : List ℕ) (a b : ℕ) → length (take a s) + length (take b (drop a s)) + length (drop (a + b) s) ≡ length s
parts-long s a b =
    let one = sym (length-append (take a s) (drop a s)) ∙ ap length (take-append-drop a s) in
    let two = sym (length-append (take b (drop a s)) (drop b (drop a s))) ∙ ap length (take-append-drop b (drop a s)) in
    let three = ap length (drop-drop b a s) in
    omega (arith, one, two, three)

-- ---- the fields

pub field-long : (tag : ℕ) (body : List ℕ) → length (field tag body) ≡ 3 + length body
field-long tag body = omega (arith, length-append (bytes_of 2 (length body)) body, bytes-long 2 (length body))

pub restraint-long : (w : ℕ) (M : ℤ) → length (restraint_body w M) ≡ 16
restraint-long w M = omega (arith, length-append (bytes_of 8 w) (bytes_of 8 (wrapped 64 M)), bytes-long 8 w, bytes-long 8 (wrapped 64 M))

module _ (c : Card) (s : List ℕ) where
  -- the four fields, from what is put
  pub fields_are : (middle end : ℕ) (sum : ℤ) → sum ≡ c.sum → middle ≡ min (list_length c.head) (length s) →
      end ≡ min (list_length c.head + 4 * c.readings) (length s) →
      field 1 (sizes_body c.head) ++ field 2 (take middle s) ++ (3 ∷ bytes_of 2 16 ++ restraint_body c.set sum)
      ++ field 4 (take (end - middle) (drop middle s)) ≡ four_fields c s
  unfolding four_fields
  fields_are middle end sum t m e =
      let a : take middle s ≡ block_bytes c s = ap (λ (i : ℕ). take i s) m ∙ take_min (list_length c.head) s in
      let b : take (end - middle) (drop middle s) ≡ readings_bytes c s =
      (λ j. take (e j - m j) (drop (m j) s)) ∙ part-within s (list_length c.head) (4 * c.readings) in
      let r : bytes_of 2 16 ≡ bytes_of 2 (length (restraint_body c.set c.sum)) = ap (bytes_of 2) (sym (restraint-long c.set c.sum)) in
      λ j. field 1 (sizes_body c.head) ++ field 2 (a j) ++ (3 ∷ r j ++ restraint_body c.set (t j)) ++ field 4 (b j)

  -- the other fields
  pub others_are : (from : ℕ) → from ≡ min (list_length c.head + 4 * c.readings) (length s) → take (length s - from) (drop from s) ≡ other_bytes c s
  others_are from e = (λ j. take (length s - e j) (drop (e j) s)) ∙ last-part s (list_length c.head + 4 * c.readings)

  -- the file of the second edition
  pub second_is : is_second c ≡ true → edition_field ++ four_fields c s ++ other_bytes c s ≡ file_from c s
  unfolding file_from
  second_is e = rw e refl

  -- how long it is
  four-long : length (four_fields c s) ≡ 32 + (length (block_bytes c s) + length (readings_bytes c s))
  unfolding four_fields
  four-long =
      let one = field 1 (sizes_body c.head) in
      let two = field 2 (block_bytes c s) in
      let three = field 3 (restraint_body c.set c.sum) in
      let four = field 4 (readings_bytes c s) in
      omega (
        arith,
        length-append (one ++ two ++ three) four,
        length-append (one ++ two) three,
        length-append one two,
        field-long 1 (sizes_body c.head),
        field-long 2 (block_bytes c s),
        field-long 3 (restraint_body c.set c.sum),
        field-long 4 (readings_bytes c s),
        restraint-long c.set c.sum,
      )

  pub file-most : length (file_from c s) ≤ 36 + length s
  unfolding file_from
  file-most = either (λ (l : List ℕ). length l ≤ 36 + length s) (is_second c)
      (λ t. omega (
        arith,
        length-append (edition_field ++ four_fields c s) (other_bytes c s),
        length-append edition_field (four_fields c s),
        four-long,
        parts-long s (list_length c.head) (4 * c.readings),
      ))
      (λ t. omega (arith, four-long, parts-long s (list_length c.head) (4 * c.readings)))

-- ---- what stands in front of lent room

front : {o o' f : List ℕ} {r : ℕ} → Wrote o 0 f o' r → length f ≤ length o → length o < 18446744073709551615 → take r o' ≡ f
front {o} {o'} {f} {r} p l h = (λ j. take (counts p (omega arith) j) (in_front p l h j)) ∙ take-append_seam f (drop (length f) o)

-- the same in the room of a file, under another name
pub stands : {o o' f g : List ℕ} {r : ℕ} → Wrote o 0 f o' r → f ≡ g → length o' ≡ 16384 → length g ≤ 16384 → (take r o' ≡ g) × (r ≤ 16384)
stands p e n l =
    let q = named p e in
    let same = kept q in
    (front q (omega arith) (omega arith), omega (arith, counts q (omega arith)))
