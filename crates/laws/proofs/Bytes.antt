-- Numbers in bytes, both ways: what was written is read back, and what was read is written again.
--     read-bytes, write_bytes       a number of c bytes
--     twos-wrapped, wrapped-twos    a signed number of any width
--     write-numbers                 signed numbers of four bytes, one after another; read back in BytesBack
-- Assumes nothing.
use mathlib.Core.Path.{◌≡◌, refl, sym, ap, ap₂, ◌∙◌}
use mathlib.Core.Bool.{Bool, true, false, cond}
use mathlib.Core.List.{List, [], ◌∷◌, ◌++◌, append_assoc}
use Prim.Native.Nat.{ℕ, zero, suc, ◌+◌, ◌-◌, ◌*◌, ◌/◌, ◌%◌, ◌^◌, ◌≤◌, ◌<◌}
use native.Mathlib.Nat.{pow-suc, div-lt_iff_lt-mul, lt_of_not-le, not-suc-le-zero}
use native.Mathlib.Decide.{dec_le}
use native.Mathlib.Omega.{arith}
use borrow.Author.Tests.{lt-ltb, le-ltb}
use lib.Dec.{ltb, lit<}
use lib.IntN.{ℤ, pos, negsuc, nat_abs, ◌-ℤ◌}
use lib.ListN.{length, get_or, take, drop, length-append, length-drop, get_or-eq_default}
use lib.Seq.{take-suc, take-add, drop-drop, get_or-drop, get_or_at}
use Rattle.meaning.specs.File.{big, twos, numbers_at}
use Rattle.meaning.specs.Writing.{Bytes, bytes_of, wrapped, readings_body}

-- ---- lists of bytes

-- past the end a byte reads as 0
pub byte_below : (s : List ℕ) → Bytes s → (i : ℕ) → get_or s i 0 < 256
byte_below s b i = by (dec_le (length s) i)
  where
    by : Dec (length s ≤ i) → get_or s i 0 < 256
    by (yes l) = rw (get_or-eq_default s 0 {n = i} l) (omega arith)
    by (no n) = b i (lt_of_not-le n)

-- no bytes, one more, and some after others
pub bytes-none : Bytes []
bytes-none i l = absurd (none i l)
  where
    none : (i : ℕ) → i < 0 → ⊥
    none i l = omega arith

pub bytes-more : (x : ℕ) (s : List ℕ) → x < 256 → Bytes s → Bytes (x ∷ s)
bytes-more x s h b zero l = h
bytes-more x s h b (suc i) l = b i (omega arith)

pub bytes-append : (s t : List ℕ) → Bytes s → Bytes t → Bytes (s ++ t)
bytes-append [] t a b i l = b i l
bytes-append (x ∷ s) t a b zero l = a 0 (omega arith)
bytes-append (x ∷ s) t a b (suc i) l = bytes-append s t (λ i l. a (suc i) (omega arith)) b i (omega arith)

-- ---- a number

-- a number of c bytes has c of them
pub bytes-long : (c x : ℕ) → length (bytes_of c x) ≡ c
unfolding bytes_of
bytes-long zero x = refl
bytes-long (suc c) x = rw length-append (omega (arith, bytes-long c (x / 256)))

-- and they are bytes
pub bytes_are : (c x : ℕ) → Bytes (bytes_of c x)
unfolding bytes_of
bytes_are zero x = bytes-none
bytes_are (suc c) x = bytes-append (bytes_of c (x / 256)) (x % 256 ∷ []) (bytes_are c (x / 256)) (bytes-more (x % 256) [] (omega arith) bytes-none)

-- the number that bytes make stays below the power of how many they are
pub big-below : (s : List ℕ) → Bytes s → (at c : ℕ) → big s at c < 256 ^ c
unfolding big
big-below s b at zero = omega arith
big-below s b at (suc c) = rw pow-suc (omega (arith, big-below s b at c, byte_below s b (at + c)))

-- a number at a place of a list is that of the rest of the list
pub big-drop : (s : List ℕ) (at j c : ℕ) → big s (at + j) c ≡ big (drop at s) j c
unfolding big
big-drop s at j zero = refl
big-drop s at j (suc c) =
    let place : at + j + c ≡ at + (j + c) = omega arith in
    ap₂ (λ (a b : ℕ). a * 256 + b) (big-drop s at j c) (ap (λ (i : ℕ). get_or s i 0) place ∙ sym (get_or-drop at s (j + c) 0))

-- what was written is read back
pub read-bytes : (c x : ℕ) (rest : List ℕ) → x < 256 ^ c → big (bytes_of c x ++ rest) 0 c ≡ x
unfolding big bytes_of
read-bytes zero x rest h = omega arith
read-bytes (suc c) x rest h =
    let high = read-bytes c (x / 256) (x % 256 ∷ rest) ((div-lt_iff_lt-mul (lit< tt)).1 (rw pow-suc at h)) in
    let low = get_or_at (bytes_of c (x / 256)) (x % 256) rest 0 (0 + c) (omega (arith, bytes-long c (x / 256))) in
    let whole : bytes_of (suc c) x ++ rest ≡ bytes_of c (x / 256) ++ (x % 256 ∷ rest) = append_assoc (bytes_of c (x / 256)) (x % 256 ∷ []) rest in
    let above : big (bytes_of (suc c) x ++ rest) 0 c ≡ x / 256 = ap (λ (l : List ℕ). big l 0 c) whole ∙ high in
    let below : get_or (bytes_of (suc c) x ++ rest) (0 + c) 0 ≡ x % 256 = ap (λ (l : List ℕ). get_or l (0 + c) 0) whole ∙ low in
    omega (arith, above, below)

-- what was read is written again
pub write_bytes : (s : List ℕ) → Bytes s → (at c : ℕ) → at + c ≤ length s → bytes_of c (big s at c) ≡ take c (drop at s)
unfolding big bytes_of
write_bytes s b at zero h = refl
write_bytes s b at (suc c) h =
    let below = byte_below s b (at + c) in
    let high : (big s at c * 256 + get_or s (at + c) 0) / 256 ≡ big s at c = omega arith in
    let low : (big s at c * 256 + get_or s (at + c) 0) % 256 ≡ get_or (drop at s) c 0 = omega (arith, get_or-drop at s c 0) in
    rw (high, low, write_bytes s b at c (omega arith)) (sym (take-suc (drop at s) c 0 (omega (arith, length-drop at s))))

-- ---- a signed number

-- a difference below 0
less-pos : (x y : ℕ) → x < y → pos x -ℤ pos y ≡ negsuc (y - suc x)
less-pos x zero h = absurd (not-suc-le-zero h)
less-pos x (suc y) h = rw (lt-ltb x (suc y) h) (ap negsuc (omega arith))

-- of w bits
module _ (w : ℕ) (halves : 2 ^ w ≡ 2 ^ (w - 1) + 2 ^ (w - 1)) where
  -- its bits fit
  pub wrapped-below : (z : ℤ) → nat_abs z < 2 ^ (w - 1) → wrapped w z < 2 ^ w
  wrapped-below (pos x) h = omega arith
  wrapped-below (negsuc x) h = omega arith

  -- what was written is read back
  pub twos-wrapped : (z : ℤ) → nat_abs z < 2 ^ (w - 1) → twos w (wrapped w z) ≡ z
  twos-wrapped (pos x) h = rw (lt-ltb x (2 ^ (w - 1)) (omega arith))
  twos-wrapped (negsuc x) h =
      rw (le-ltb (2 ^ w - suc x) (2 ^ (w - 1)) (omega arith))
      (less-pos (2 ^ w - suc x) (2 ^ w) (omega arith) ∙ ap negsuc (omega arith))

  -- what was read is written again
  pub wrapped-twos : (x : ℕ) → x < 2 ^ w → wrapped w (twos w x) ≡ x
  wrapped-twos x h = by (ltb x (2 ^ (w - 1)))
    where
      by : (b : Bool) → wrapped w (cond b (pos x) (pos x -ℤ pos (2 ^ w))) ≡ x
      by true = refl
      by false = ap (wrapped w) (less-pos x (2 ^ w) h) ∙ omega arith

-- ---- signed numbers of four bytes, one after another

-- what was read is written again
pub write-numbers : (s : List ℕ) → Bytes s → (at c : ℕ) → at + 4 * c ≤ length s → readings_body (numbers_at s at c) ≡ take (4 * c) (drop at s)
unfolding numbers_at readings_body
write-numbers s b at zero h = refl
write-numbers s b at (suc c) h =
    let four : 4 * suc c ≡ 4 + 4 * c = omega arith in
    ap₂ (λ (x r : List ℕ). x ++ r)
    (ap (bytes_of 4) (wrapped-twos 32 refl (big s at 4) (big-below s b at 4)) ∙ write_bytes s b at 4 (omega arith))
    (write-numbers s b (at + 4) c (omega arith) ∙ ap (take (4 * c)) (sym (drop-drop 4 at s)))
    ∙ sym (take-add 4 (4 * c) (drop at s)) ∙ ap (λ (n : ℕ). take n (drop at s)) (sym four)

-- as many bytes as four times the numbers
pub numbers-bytes : (y : List ℤ) → length (readings_body y) ≡ 4 * length y
unfolding readings_body
numbers-bytes [] = refl
numbers-bytes (z ∷ y) = rw length-append (omega (arith, bytes-long 4 (wrapped 32 z), numbers-bytes y))

-- all of them bytes
pub numbers_are : (y : List ℤ) → Bytes (readings_body y)
unfolding readings_body
numbers_are [] = bytes-none
numbers_are (z ∷ y) = bytes-append (bytes_of 4 (wrapped 32 z)) (readings_body y) (bytes_are 4 (wrapped 32 z)) (numbers_are y)
