-- Laws of optional fields as they are printed: a part of the file up to its end, bytes in base 16 one after the other, and the fields one after the
-- other. Assumes nothing.
use mathlib.Core.Bool.{cond}
use mathlib.Core.List.{List, [], ◌∷◌, ◌++◌, append_assoc, append-nil}
use mathlib.Core.Path.{◌≡◌, refl, sym, ap, ◌∙◌}
use Prim.Native.Nat.{ℕ, zero, suc, ◌+◌, ◌-◌, ◌≤◌, ◌<◌, min}
use native.Mathlib.Decide.{dec_le}
use native.Mathlib.Nat.{lt_of_not-le, le_of_lt, min-eq_left, min-eq_right}
use native.Mathlib.Numerals.{add-one}
use native.Mathlib.Omega.{arith}
use borrow.Author.Tests.{le-leb, lt-leb}
use lib.Dec.{leb}
use lib.ListN.{length, take, drop, get_or, length-drop, drop_of_length-le}
use lib.Seq.{take-suc, take_all, take-nil}
use Rattle.algebra.specs.Buffers.{Wrote}
use Rattle.algebra.proofs.Writing.{nothing, named, ◌then◌}
use Rattle.meaning.specs.File.{big}
use Rattle.meaning.specs.Text.{hex_text}
use Rattle.meaning.specs.CardText.{hex_texts, other_line, other_lines}

-- ---- a part of the file, up to its end

least-low : (a e : ℕ) → a ≤ e → min a e ≡ a
least-low a e h = min-eq_left h

least_high : (a e : ℕ) → e < a → min a e ≡ e
least_high a e h = min-eq_right (le_of_lt h)

-- it is what stands there
pub part-within : (s : List ℕ) (a n : ℕ) → take (min (a + n) (length s) - min a (length s)) (drop (min a (length s)) s) ≡ take n (drop a s)
part-within s a n = by (dec_le a (length s))
  where
    inside : a ≤ length s → Dec (a + n ≤ length s) → take (min (a + n) (length s) - min a (length s)) (drop (min a (length s)) s) ≡ take n (drop a s)
    inside h (yes k) =
        let e : a + n - a ≡ n = omega arith in
        rw (least-low a (length s) h, least-low (a + n) (length s) k, e)
    inside h (no k) =
        rw (least-low a (length s) h, least_high (a + n) (length s) (lt_of_not-le k))
        (take_all (length s - a) (drop a s) (omega (arith, length-drop a s))
        ∙ sym (take_all n (drop a s) (omega (arith, length-drop a s, lt_of_not-le k))))

    by : Dec (a ≤ length s) → take (min (a + n) (length s) - min a (length s)) (drop (min a (length s)) s) ≡ take n (drop a s)
    by (yes h) = inside h (dec_le (a + n) (length s))
    by (no f) =
        let h = lt_of_not-le f in
        let past : length s ≤ a = omega arith in
        let end : length s ≤ length s = omega arith in
        rw (
          least_high a (length s) h,
          least_high (a + n) (length s) (omega arith),
          drop_of_length-le s end,
          drop_of_length-le s past,
          take-nil n,
          take-nil (length s - length s),
        )

-- the same of a part whose start and end were found
pub part-found : (s : List ℕ) (a n low high end : ℕ) → low ≡ min a (length s) → high ≡ min end (length s) → end ≡ a + n →
    take (high - low) (drop low s) ≡ take n (drop a s)
part-found s a n low high end l h e = rw (l, h, e) (part-within s a n)

-- ---- bytes in base 16

hex_append : (s t : List ℕ) → hex_texts (s ++ t) ≡ hex_texts s ++ hex_texts t
unfolding hex_texts
hex_append [] t = refl
hex_append (x ∷ s) t = rw (hex_append s t)

hex_one : (x : ℕ) → hex_texts (x ∷ []) ≡ hex_text x
unfolding hex_texts
hex_one x = refl

-- none
pub hex_none : [] ≡ hex_texts []
unfolding hex_texts
hex_none = refl

-- a turn of a loop over bytes
pub more_hex : {o o' o'' : List ℕ} {at r r' : ℕ} (s : List ℕ) (i : ℕ) → i < length s → Wrote o at (hex_texts (take i s)) o' r →
    Wrote o' r (hex_text (get_or s i 0)) o'' r' → Wrote o at (hex_texts (take (i + 1) s)) o'' r'
more_hex s i h p q = rw (add-one, take-suc s i 0, hex_append, hex_one) (p then q)

-- ---- the fields one after the other; as many turns as there are bytes are enough

module _ (s : List ℕ) where
  enough : (k j at : ℕ) → length s ≤ at + k → length s ≤ at + j → other_lines k s at ≡ other_lines j s at
  unfolding other_lines
  enough zero zero at h l = refl
  enough zero (suc j) at h l = rw (le-leb (length s) at (omega arith))
  enough (suc k) zero at h l = rw (le-leb (length s) at (omega arith))
  enough (suc k) (suc j) at h l = ap (λ (t : List ℕ). cond (leb (length s) at) [] (other_line s at ++ t))
      (enough k j (at + 3 + big s (at + 1) 2) (omega arith) (omega arith))

  none_left : (k at : ℕ) → length s ≤ at → other_lines k s at ≡ []
  unfolding other_lines
  none_left zero at h = refl
  none_left (suc k) at h = rw (le-leb (length s) at h)

  one_more : (k at : ℕ) → at < length s → other_lines (suc k) s at ≡ other_line s at ++ other_lines k s (at + 3 + big s (at + 1) 2)
  unfolding other_lines
  one_more k at h = rw (lt-leb (length s) at h)

  -- what stands there of the fields from `start` on when those before `at` are written
  pub record Goes (start : ℕ) (o : List ℕ) (from : ℕ) (o' : List ℕ) (to at : ℕ) : Type 0 where
    pub done : List ℕ
    pub wrote : Wrote o from done o' to
    pub rest : done ++ other_lines (length s) s at ≡ other_lines (length s) s start

  -- before the first
  pub goes_first : (start : ℕ) (o : List ℕ) (from : ℕ) → Goes start o from o from start
  goes_first start o from = record { done = []; wrote = nothing o from; rest = refl }

  -- a turn
  pub goes_on : {start from to next at : ℕ} {o o' o'' : List ℕ} → at < length s → Goes start o from o' to at → Wrote o' to (other_line s at) o'' next →
      Goes start o from o'' next (at + 3 + big s (at + 1) 2)
  goes_on {at = at} h g w =
      let next = at + 3 + big s (at + 1) 2 in
      let turn : other_lines (length s) s at ≡ other_line s at ++ other_lines (length s) s next =
      enough (length s) (suc (length s)) at (omega arith) (omega arith) ∙ one_more (length s) at h in
      record {
        done = g.done ++ other_line s at;
        wrote = g.wrote then w;
        rest = append_assoc g.done (other_line s at) (other_lines (length s) s next) ∙ ap (λ (t : List ℕ). g.done ++ t) (sym turn) ∙ g.rest;
      }

  -- after the last
  pub goes_last : {start from to at : ℕ} {o o' : List ℕ} → length s ≤ at → Goes start o from o' to at → Wrote o from (other_lines (length s) s start) o' to
  goes_last {at = at} h g =
      named g.wrote (sym (append-nil g.done) ∙ ap (λ (t : List ℕ). g.done ++ t) (sym (none_left (length s) at h)) ∙ g.rest)
