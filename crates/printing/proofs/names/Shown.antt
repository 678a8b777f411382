-- Laws of names as they are shown: byte after byte, and without the spaces that fill them up. Assumes nothing.
use mathlib.Core.Path.{◌≡◌, refl}
use mathlib.Core.Bool.{and-false}
use mathlib.Core.List.{List, [], ◌∷◌, ◌++◌, append_assoc, append-nil}
use Prim.Native.Nat.{ℕ, ◌+◌, ◌≤◌, ◌<◌}
use native.Mathlib.Numerals.{add-one}
use native.Mathlib.Omega.{arith}
use borrow.Author.Tests.{ne_eqb}
use lib.ListN.{length, take, get_or, length-append}
use lib.Seq.{take-suc, length-take-le}
use Rattle.algebra.specs.Buffers.{Wrote}
use Rattle.algebra.proofs.Writing.{◌then◌}
use Rattle.meaning.specs.Text.{escaped_byte, escaped, trimmed, name_text}

-- a name and then another
escaped-append : (s t : List ℕ) → escaped (s ++ t) ≡ escaped s ++ escaped t
unfolding escaped
escaped-append [] t = refl
escaped-append (x ∷ s) t = rw (escaped-append s t, append_assoc (escaped_byte x) (escaped s) (escaped t))

-- one byte
escaped-one : (x : ℕ) → escaped (x ∷ []) ≡ escaped_byte x
unfolding escaped
escaped-one x = append-nil (escaped_byte x)

-- none
pub escaped-none : [] ≡ escaped []
unfolding escaped
escaped-none = refl

-- a turn of a loop over the bytes of a name
pub more-escaped : {o o' o'' : List ℕ} {at r r' : ℕ} (s : List ℕ) (i : ℕ) → i < length s → Wrote o at (escaped (take i s)) o' r →
    Wrote o' r (escaped_byte (get_or s i 0)) o'' r' → Wrote o at (escaped (take (i + 1) s)) o'' r'
more-escaped s i h p q = rw (add-one, take-suc s i 0, escaped-append, escaped-one) (p then q)

-- a space at the end is dropped
trimmed_space : (s : List ℕ) → trimmed (s ++ (32 ∷ [])) ≡ trimmed s
unfolding trimmed
trimmed_space [] = refl
trimmed_space (x ∷ s) = rw (trimmed_space s)

-- nothing is, where another byte stands at the end
trimmed-last : (s : List ℕ) (x : ℕ) → (x ≡ 32 → ⊥) → trimmed (s ++ (x ∷ [])) ≡ s ++ (x ∷ [])
unfolding trimmed
trimmed-last [] x h = rw (ne_eqb x 32 h)
trimmed-last (y ∷ s) x h =
    rw (trimmed-last s x h, ne_eqb (length (s ++ (x ∷ []))) 0 (λ e. omega (arith, length-append s (x ∷ []))), and-false)

-- none
pub trimmed-none : [] ≡ trimmed []
unfolding trimmed
trimmed-none = refl

-- a turn of a loop over the bytes of a name: at a space, and at another byte
module _ (s : List ℕ) (i : ℕ) (h : i < length s) where
  pub trimmed_on : (k : ℕ) → get_or s i 0 ≡ 32 → take k s ≡ trimmed (take i s) → take k s ≡ trimmed (take (i + 1) s)
  trimmed_on k e p = rw (add-one, take-suc s i 0, e, trimmed_space) p

  pub trimmed_up_to : (get_or s i 0 ≡ 32 → ⊥) → take (i + 1) s ≡ trimmed (take (i + 1) s)
  trimmed_up_to e = rw (add-one, take-suc s i 0, trimmed-last (take i s) (get_or s i 0) e)

-- a name of which k bytes are left: its first space where there are none, else these
module _ (s : List ℕ) (k : ℕ) (p : take k s ≡ trimmed s) where
  pub name-blank : k ≡ 0 → name_text s ≡ escaped (32 ∷ [])
  unfolding name_text
  name-blank e = rw (← p, e)

  pub name-left : k ≤ length s → (k ≡ 0 → ⊥) → name_text s ≡ escaped (take k s)
  unfolding name_text
  name-left h n = rw (← p, length-take-le k s h, ne_eqb k 0 n)
