-- A name, byte by byte: one that is written at a place, and those after it. Assumes nothing.
use Prim.Native.Nat.{ℕ, zero, suc, ◌+◌, ◌<◌, ◌≤◌}
use mathlib.Core.Path.{◌≡◌, refl, sym, ap, ◌∙◌}
use mathlib.Core.List.{List, [], ◌∷◌}
use mathlib.Core.Bool.{Bool, true, false, cond, not, ◌&&◌, true≢false}
use native.Mathlib.Omega.{arith}
use native.Mathlib.Numerals.{add-one}
use native.Mathlib.Decide.{dec_le}
use native.Mathlib.Nat.{lt_of_not-le, add-zero}
use borrow.Author.Tests.{eq-eqb, ne_eqb, eqb-false, lt-ltb, le-ltb}
use lib.Dec.{eqb, leb}
use lib.ListN.{length, get_or, drop, length-drop, drop_of_length-le, get_or-eq_default}
use lib.Seq.{drop-cons, drop-drop, get_or-drop}
use Rattle.meaning.specs.Card.{is_hex, hex_byte, is_escape, is_name, name_of}
use Rattle.cards.specs.Names.{byte_end, byte_at}
use Rattle.cards.proofs.Choices.{either, and_first, and_second}

-- ---- what follows a backslash

-- a digit is no 0 behind the end
digit-inside : (s : List ℕ) (i : ℕ) → is_hex (get_or s i 0) ≡ true → i < length s
unfolding is_hex
digit-inside s i d = by (dec_le (length s) i)
  where
    by : Dec (length s ≤ i) → i < length s
    by (yes h) = absurd (true≢false (sym d ∙ ap is_hex (get_or-eq_default s 0 h)))
    by (no f) = lt_of_not-le f

-- the three bytes
pub escape_at : (s : List ℕ) (at : ℕ) → is_escape (drop at s) ≡ (eqb (get_or s at 0) 120 && (is_hex (get_or s (at + 1) 0) && is_hex (get_or s (at + 2) 0)))
escape_at s at = rw (get_or-drop at s 0 0, get_or-drop at s 1 0, get_or-drop at s 2 0, add-zero at)

module _ (s : List ℕ) (at : ℕ) (e : is_escape (drop (at + 1) s) ≡ true) where
  here : (eqb (get_or s (at + 1) 0) 120 && (is_hex (get_or s (at + 1 + 1) 0) && is_hex (get_or s (at + 1 + 2) 0))) ≡ true
  here = sym (escape_at s (at + 1)) ∙ e

  pub escape_first : is_hex (get_or s (at + 2) 0) ≡ true
  escape_first = let two : at + 2 ≡ at + 1 + 1 = omega arith in
      ap (λ (i : ℕ). is_hex (get_or s i 0)) two ∙ and_first _ _ (and_second (eqb (get_or s (at + 1) 0) 120) _ here)

  pub escape_second : is_hex (get_or s (at + 2 + 1) 0) ≡ true
  escape_second = let three : at + 2 + 1 ≡ at + 1 + 2 = omega arith in
      ap (λ (i : ℕ). is_hex (get_or s i 0)) three ∙ and_second (is_hex (get_or s (at + 1 + 1) 0)) _ (and_second (eqb (get_or s (at + 1) 0) 120) _ here)

  pub escape_inside : at + 2 + 1 < length s
  escape_inside = digit-inside s (at + 2 + 1) escape_second

-- ---- one byte

module _ (s : List ℕ) (at : ℕ) where
  pub end-over : length s ≤ at → byte_end s at ≡ at
  unfolding byte_end
  end-over h = rw (le-ltb at (length s) h)

  pub byte_over : length s ≤ at → byte_at s at ≡ 32
  unfolding byte_at
  byte_over h = rw (le-ltb at (length s) h)

  module _ (more : at < length s) where
    pub end-inside : byte_end s at ≡ cond (eqb (get_or s at 0) 92) (cond (is_escape (drop (at + 1) s)) (at + 4) at) (cond (leb (get_or s at 0) 126) (at + 1) at)
    unfolding byte_end
    end-inside = rw (lt-ltb at (length s) more)

    pub byte_inside : byte_at s at ≡ cond (eqb (get_or s at 0) 92) (hex_byte (drop (at + 2) s)) (get_or s at 0)
    unfolding byte_at
    byte_inside = rw (lt-ltb at (length s) more)

    -- it ends within the word
    pub end-most : byte_end s at ≤ length s
    end-most = rw end-inside (either (λ e. e ≤ length s) (eqb (get_or s at 0) 92)
        (λ t. either (λ e. e ≤ length s) (is_escape (drop (at + 1) s)) (λ u. omega (arith, escape_inside s at u)) (λ u. omega arith))
        (λ t. either (λ e. e ≤ length s) (leb (get_or s at 0) 126) (λ u. omega arith) (λ u. omega arith)))

    -- it ends here or later
    pub end-least : at ≤ byte_end s at
    end-least = rw end-inside (either (λ e. at ≤ e) (eqb (get_or s at 0) 92)
        (λ t. either (λ e. at ≤ e) (is_escape (drop (at + 1) s)) (λ u. omega arith) (λ u. omega arith))
        (λ t. either (λ e. at ≤ e) (leb (get_or s at 0) 126) (λ u. omega arith) (λ u. omega arith)))

    -- a backslash with no byte behind it ends nowhere
    pub escape_here : get_or s at 0 ≡ 92 → at < byte_end s at → is_escape (drop (at + 1) s) ≡ true
    escape_here e h = by (is_escape (drop (at + 1) s)) refl
      where
        by : (b : Bool) → is_escape (drop (at + 1) s) ≡ b → is_escape (drop (at + 1) s) ≡ true
        by true q = q
        by false q =
            let none : byte_end s at ≡ at = end-inside ∙ rw (eq-eqb (get_or s at 0) 92 e, q) in
            absurd (omega arith)

    -- what follows it, where it is one byte, and where it is four
    one_on : drop (suc at) s ≡ drop (at + 1) s
    one_on = ap (λ (i : ℕ). drop i s) (sym (add-one at))

    two_on : drop 1 (drop (suc at) s) ≡ drop (at + 2) s
    two_on = let e : suc at + 1 ≡ at + 2 = omega arith in drop-drop 1 (suc at) s ∙ ap (λ (i : ℕ). drop i s) e

    four_on : drop 3 (drop (suc at) s) ≡ drop (at + 4) s
    four_on = let e : suc at + 3 ≡ at + 4 = omega arith in drop-drop 3 (suc at) s ∙ ap (λ (i : ℕ). drop i s) e

    module _ (k : ℕ) where
      name-here : is_name (suc k) (drop at s) ≡ cond (eqb (get_or s at 0) 92) (is_escape (drop (at + 1) s) && is_name k (drop (at + 4) s))
          (leb (get_or s at 0) 126 && is_name k (drop (at + 1) s))
      unfolding is_name
      name-here = rw (drop-cons s at 0 more, four_on, one_on)

      -- the byte, and the name after it
      pub name-turn : is_name (suc k) (drop at s) ≡ (not (eqb (byte_end s at) at) && is_name k (drop (byte_end s at) s))
      name-turn = name-here ∙ rw end-inside (by (eqb (get_or s at 0) 92) (is_escape (drop (at + 1) s)) (leb (get_or s at 0) 126))
        where
          by : (a e l : Bool) → cond a (e && is_name k (drop (at + 4) s)) (l && is_name k (drop (at + 1) s))
              ≡ (not (eqb (cond a (cond e (at + 4) at) (cond l (at + 1) at)) at) && is_name k (drop (cond a (cond e (at + 4) at) (cond l (at + 1) at)) s))
          by true true l = rw (ne_eqb (at + 4) at (λ q. omega arith))
          by true false l = rw (eq-eqb at at refl)
          by false e true = rw (ne_eqb (at + 1) at (λ q. omega arith))
          by false e false = rw (eq-eqb at at refl)

      -- the bytes of a name
      pub bytes-turn : at < byte_end s at → name_of (suc k) (drop at s) ≡ byte_at s at ∷ name_of k (drop (byte_end s at) s)
      unfolding name_of
      bytes-turn h = rw (drop-cons s at 0 more, four_on, two_on, one_on, byte_inside, end-inside)
          (by (eqb (get_or s at 0) 92) (is_escape (drop (at + 1) s)) (leb (get_or s at 0) 126) (rw end-inside at h))
        where
          by : (a e l : Bool) → at < cond a (cond e (at + 4) at) (cond l (at + 1) at) →
              cond a (hex_byte (drop (at + 2) s) ∷ name_of k (drop (at + 4) s)) (get_or s at 0 ∷ name_of k (drop (at + 1) s))
              ≡ cond a (hex_byte (drop (at + 2) s)) (get_or s at 0) ∷ name_of k (drop (cond a (cond e (at + 4) at) (cond l (at + 1) at)) s)
          by true true l h = refl
          by true false l h = absurd (omega arith)
          by false e true h = refl
          by false e false h = absurd (omega arith)

  -- behind the end
  module _ (k : ℕ) (over : length s ≤ at) where
    pub name-over : is_name (suc k) (drop at s) ≡ true
    unfolding is_name
    name-over = rw (drop_of_length-le s over)

    pub name_stays : is_name (suc k) (drop at s) ≡ true → is_name k (drop (byte_end s at) s) ≡ true
    unfolding is_name
    name_stays e = rw (end-over over, drop_of_length-le s over) (by k)
      where
        by : (k : ℕ) → is_name k [] ≡ true
        by zero = refl
        by (suc k) = refl

    pub bytes-over : name_of (suc k) (drop at s) ≡ byte_at s at ∷ name_of k (drop (byte_end s at) s)
    unfolding name_of
    bytes-over = rw (byte_over over, end-over over, drop_of_length-le s over)

-- ---- a name, wherever it goes on

module _ (s : List ℕ) (at : ℕ) (k : ℕ) (inside : at ≤ length s) (is : is_name (suc k) (drop at s) ≡ true) where
  -- where a byte of it stands, that ends later
  pub name-later : at < length s → at < byte_end s at
  name-later more = by (eqb (byte_end s at) at) refl
    where
      by : (b : Bool) → eqb (byte_end s at) at ≡ b → at < byte_end s at
      by true e = absurd (true≢false (sym is ∙ name-turn s at more k ∙ rw e))
      by false e = let other : byte_end s at ≡ at → ⊥ = eqb-false (byte_end s at) at e in omega (arith, end-least s at more, other)

  pub name-within : byte_end s at ≤ length s
  name-within = by (dec_le (length s) at)
    where
      by : Dec (length s ≤ at) → byte_end s at ≤ length s
      by (yes over) = omega (arith, end-over s at over)
      by (no f) = end-most s at (lt_of_not-le f)

  pub name-more : is_name k (drop (byte_end s at) s) ≡ true
  name-more = by (dec_le (length s) at)
    where
      by : Dec (length s ≤ at) → is_name k (drop (byte_end s at) s) ≡ true
      by (yes over) = name_stays s at k over is
      by (no f) = and_second (not (eqb (byte_end s at) at)) (is_name k (drop (byte_end s at) s)) (sym (name-turn s at (lt_of_not-le f) k) ∙ is)

  pub bytes-more : name_of (suc k) (drop at s) ≡ byte_at s at ∷ name_of k (drop (byte_end s at) s)
  bytes-more = by (dec_le (length s) at)
    where
      by : Dec (length s ≤ at) → name_of (suc k) (drop at s) ≡ byte_at s at ∷ name_of k (drop (byte_end s at) s)
      by (yes over) = bytes-over s at k over
      by (no f) = bytes-turn s at (lt_of_not-le f) k (name-later (lt_of_not-le f))

-- eight bytes at most, and no more
pub name-end : (s : List ℕ) (at : ℕ) → at ≤ length s → is_name 0 (drop at s) ≡ eqb at (length s)
unfolding is_name
name-end s at h = by (dec_le (length s) at)
  where
    by : Dec (length s ≤ at) → eqb (length (drop at s)) 0 ≡ eqb at (length s)
    by (yes l) = let e : at ≡ length s = omega arith in rw (eq-eqb at (length s) e, eq-eqb (length (drop at s)) 0 (omega (arith, length-drop at s)))
    by (no f) = rw (ne_eqb at (length s) (λ e. f (omega arith)), ne_eqb (length (drop at s)) 0 (λ e. f (omega (arith, length-drop at s))))

pub bytes-none : (s : List ℕ) → name_of 0 s ≡ []
unfolding name_of
bytes-none s = refl
