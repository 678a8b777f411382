-- Laws of `write` and `Wrote`: a text and then another, the length, and a text that has room. Assumes nothing.
use mathlib.Core.Path.{◌≡◌, refl, sym, ap, subst, ◌∙◌}
use mathlib.Core.List.{List, [], ◌∷◌, ◌++◌}
use Prim.Native.Nat.{ℕ, suc, ◌+◌, ◌≤◌, ◌<◌}
use native.Mathlib.Numerals.{add-one}
use native.Mathlib.Omega.{arith}
use borrow.Author.Tests.{lt-ltb, le-ltb}
use native.Mathlib.Decide.{dec_le}
use native.Mathlib.Nat.{lt_of_not-le, add-zero, zero-add}
use lib.ListN.{length, take, drop, set, get_or, length-set}
use lib.Seq.{sets, sets-eq, set_out, take-suc}
use Rattle.algebra.specs.Buffers.{bump, write, Wrote}

-- a text and then another, of `write`
pub write-append : (o : List ℕ) (at : ℕ) (s t : List ℕ) → write o at (s ++ t) ≡ write (write o at s).0 (write o at s).1 t
unfolding write
write-append o at [] t = refl
write-append o at (b ∷ s) t = write-append (set o at b) (bump at) s t

infixl 30 ◌then◌
-- a text and then another
pub ◌then◌ : {o o' o'' : List ℕ} {at r r' : ℕ} {s t : List ℕ} → Wrote o at s o' r → Wrote o' r t o'' r' → Wrote o at (s ++ t) o'' r'
◌then◌ {o} {o'} {o''} {at} {r} {r'} {s} {t} p q =
    record { is = q.is ∙ (λ j. write (p.is j).0 (p.is j).1 t) ∙ sym (write-append o at s t) }

-- no text
pub nothing : (o : List ℕ) (at : ℕ) → Wrote o at [] o at
unfolding write
nothing o at = record { is = refl }

-- the same text under another name
pub named : {o o' : List ℕ} {at r : ℕ} {s t : List ℕ} → Wrote o at s o' r → s ≡ t → Wrote o at t o' r
named {o} {o'} {at} {r} p e = subst (λ (x : List ℕ). Wrote o at x o' r) e p

-- the length stays, of `write`
pub write-length : (o : List ℕ) (at : ℕ) (s : List ℕ) → length (write o at s).0 ≡ length o
unfolding write
write-length o at [] = refl
write-length o at (b ∷ s) = write-length (set o at b) (bump at) s ∙ length-set o at b

-- the length stays
pub kept : {o o' : List ℕ} {at r : ℕ} {s : List ℕ} → Wrote o at s o' r → length o' ≡ length o
kept {o} {o'} {at} {r} {s} p = ap (λ (x : List ℕ × ℕ). length x.0) p.is ∙ write-length o at s

-- a turn of a loop over the bytes of a text
pub more_bytes : {o o' o'' : List ℕ} {at r r' : ℕ} (s : List ℕ) (i : ℕ) → i < length s → Wrote o at (take i s) o' r →
    Wrote o' r (get_or s i 0 ∷ []) o'' r' → Wrote o at (take (i + 1) s) o'' r'
more_bytes s i h p q = rw (add-one, take-suc s i 0) (p then q)

-- ---- the place

-- below the last number the place moves on
pub bump-low : (at : ℕ) → at < 18446744073709551615 → bump at ≡ at + 1
bump-low at h = rw (lt-ltb at 18446744073709551615 h)

-- at the last number it stays
pub bump_high : (at : ℕ) → 18446744073709551615 ≤ at → bump at ≡ at
bump_high at h = rw (le-ltb at 18446744073709551615 h)

-- one byte that is stored
pub stored : (o : List ℕ) (at b : ℕ) → at < 18446744073709551615 → Wrote o at (b ∷ []) (set o at b) (at + 1)
unfolding write
stored o at b h = record { is = λ j. (set o at b, sym (bump-low at h) j) }

-- one byte past the end, dropped
pub dropped : (o : List ℕ) (at b : ℕ) → length o ≤ at → at < 18446744073709551615 → Wrote o at (b ∷ []) o (at + 1)
unfolding write
dropped o at b l h = record { is = λ j. (sym (set_out o at b l) j, sym (bump-low at h) j) }

-- one byte past the end at the last number, dropped
pub lost : (o : List ℕ) (at b : ℕ) → length o ≤ at → 18446744073709551615 ≤ at → Wrote o at (b ∷ []) o at
unfolding write
lost o at b l h = record { is = λ j. (sym (set_out o at b l) j, sym (bump_high at h) j) }

-- from the last number on the place stays
pub place_high : (o : List ℕ) (at : ℕ) (s : List ℕ) → 18446744073709551615 ≤ at → (write o at s).1 ≡ at
unfolding write
place_high o at [] h = refl
place_high o at (b ∷ s) h = (λ j. (write (set o at b) (bump_high at h j) s).1) ∙ place_high (set o at b) at s h

-- one byte and then n, counted
counted : (at n w : ℕ) → w ≡ bump at + n → (18446744073709551615 ≤ at → w ≡ at) → w < 18446744073709551615 → w ≡ at + suc n
counted at n w e high l = by (dec_le 18446744073709551615 at)
  where
    by : Dec (18446744073709551615 ≤ at) → w ≡ at + suc n
    by (yes m) = absurd (omega (arith, high m))
    by (no f) = omega (arith, e, bump-low at (lt_of_not-le f))

-- a place below the last number is the place counted
pub place-low : (o : List ℕ) (at : ℕ) (s : List ℕ) → (write o at s).1 < 18446744073709551615 → (write o at s).1 ≡ at + length s
unfolding write
place-low o at [] h = omega arith
place-low o at (b ∷ s) h = counted at (length s) _ (place-low (set o at b) (bump at) s h) (place_high o at (b ∷ s)) h

-- where the count is below the last number, the bytes are stored one after the other
pub plainly : (o : List ℕ) (at : ℕ) (s : List ℕ) → at + length s < 18446744073709551615 → write o at s ≡ (sets o at s, at + length s)
unfolding write
plainly o at [] h = λ j. (o, sym (add-zero at) j)
plainly o at (b ∷ s) h =
    let e : bump at ≡ suc at = bump-low at (omega arith) ∙ add-one at in
    let n : suc at + length s ≡ at + suc (length s) = omega arith in
    (λ j. write (set o at b) (e j) s) ∙ plainly (set o at b) (suc at) s (omega arith) ∙ (λ j. (sets (set o at b) (suc at) s, n j))

-- ---- a text from place 0 on

-- a dry run finds the text's length, where that is below the last number
pub measured : {o o' : List ℕ} {r : ℕ} {s : List ℕ} → Wrote o 0 s o' r → r < 18446744073709551615 → r ≡ length s
measured {o} {o'} {r} {s} p h =
    let e : r ≡ (write o 0 s).1 = λ j. (p.is j).1 in
    omega (arith, e, place-low o 0 s (omega (arith, e)))

-- a text shorter than the last number is counted
pub counts : {o o' : List ℕ} {r : ℕ} {s : List ℕ} → Wrote o 0 s o' r → length s < 18446744073709551615 → r ≡ length s
counts {o} {o'} {r} {s} p h =
    let e : r ≡ (write o 0 s).1 = λ j. (p.is j).1 in
    let f : (write o 0 s).1 ≡ 0 + length s = λ j. (plainly o 0 s (omega arith) j).1 in
    omega (arith, e, f)

-- with room, the text stands in front and the rest is as it was
pub in_front : {o o' : List ℕ} {r : ℕ} {s : List ℕ} → Wrote o 0 s o' r → length s ≤ length o → length o < 18446744073709551615 → o' ≡ s ++ drop (length s) o
in_front {o} {o'} {r} {s} p h l =
    (λ j. (p.is j).0) ∙ (λ j. (plainly o 0 s (omega arith) j).0) ∙ sets-eq s o 0 (omega arith) ∙ (λ j. s ++ drop (zero-add (length s) j) o)

-- a dry run that counts more than m says that the text is longer than m
pub longer : {o o' s : List ℕ} {n : ℕ} (m : ℕ) → Wrote o 0 s o' n → m < 18446744073709551615 → m < n → m < length s
longer {o} {o'} {s} {n} m w l h = by (dec_le (length s) m)
  where
    by : Dec (length s ≤ m) → m < length s
    by (yes k) = absurd (omega (arith, counts w (omega arith)))
    by (no f) = lt_of_not-le f

-- two outcomes of writing the same text are the same
pub wrote_determines : {o o' o'' s : List ℕ} {at r r' : ℕ} → Wrote o at s o' r → Wrote o at s o'' r' → (o' ≡ o'') × (r ≡ r')
wrote_determines p q = ((λ j. ((p.is ∙ sym q.is) j).0), (λ j. ((p.is ∙ sym q.is) j).1))
