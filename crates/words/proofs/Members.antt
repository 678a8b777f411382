-- A side as a word agrees with it as a list: a bit is how often the object stands there, and the count of ones is the number of objects.
--     bit_word        the bit of an object is how often it stands on the side
--     word_below      it has no bit from v on, where every object is below v
--     ones_word       the ones of a side are its length
--     ones_members    the ones of a restraint set are its members
--     company-word, opposition-word   a pair's company in the word of a side and its opposition in two are those on the sides
-- Assumes nothing.
use mathlib.Core.Path.{◌≡◌, refl, sym, ap, ◌∙◌}
use mathlib.Core.List.{List, [], ◌∷◌}
use Prim.Native.Nat.{ℕ, zero, suc, ◌+◌, ◌*◌, ◌/◌, ◌%◌, ◌^◌, ◌≤◌, ◌<◌}
use native.Mathlib.Nat.{pow-suc, lt_of_lt_of_le}
use native.Mathlib.Omega.{arith}
use lib.Pow.{pow_mono}
use lib.ListN.{length}
use Rattle.algebra.specs.Ranges.{sum_ℕ}
use Rattle.algebra.proofs.Sums.{sumℕ_cong}
use Rattle.meaning.specs.Design.{occ}
use Rattle.meaning.specs.Analysis.{members, member}
use Rattle.meaning.specs.Calls.{word}
use Rattle.laws.proofs.Occurrences.{Each, occ-total, occ_absent}
use Rattle.words.specs.Bits.{company_of, opposition_of}
use Rattle.words.proofs.Bits.{bit-zero, bit-suc, bit-none, bits_below, once, once-same, once-other, once-suc, ones_sum}

-- a power that is not in w yet sets its own bit
bit_add : (x i w : ℕ) → member w x ≡ 0 → member (2 ^ x + w) i ≡ once i x + member w i
bit_add zero zero w h = omega (arith, bit-zero w, bit-zero (1 + w), h)
bit_add zero (suc i) w h =
    let even : w % 2 ≡ 0 = sym (bit-zero w) ∙ h in
    let half : (1 + w) / 2 ≡ w / 2 = omega arith in
    rw (bit-suc (1 + w) i, half, bit-suc w i) (omega (arith, once-other (suc i) 0 (λ e. omega arith)))
bit_add (suc x) zero w h =
    let low : (2 ^ suc x + w) % 2 ≡ w % 2 = omega (arith, pow-suc 2 x) in
    omega (arith, bit-zero (2 ^ suc x + w), low, bit-zero w, once-other 0 (suc x) (λ e. omega arith))
bit_add (suc x) (suc i) w h =
    let half : (2 ^ suc x + w) / 2 ≡ 2 ^ x + w / 2 = omega (arith, pow-suc 2 x) in
    rw (bit-suc (2 ^ suc x + w) i, half, bit-suc w i, once-suc i x) (bit_add x i (w / 2) (sym (bit-suc w x) ∙ h))

-- the bit of an object in the word of a side, on which none stands twice, is how often it stands there
pub bit_word : (xs : List ℕ) → ((x : ℕ) → occ x xs ≤ 1) → (i : ℕ) → member (word xs) i ≡ occ i xs
unfolding word occ
bit_word [] h i = bit-none i
bit_word (x ∷ xs) h i =
    let later = bit_word xs (λ y. omega (arith, h y)) in
    bit_add x i (word xs) (omega (arith, later x, h x, once-same x x refl)) ∙ ap (λ (k : ℕ). once i x + k) (later i)

-- the word of a side has no bit from v on, where every object is below v
pub word_below : (v : ℕ) (xs : List ℕ) → ((x : ℕ) → occ x xs ≤ 1) → Each (λ x. x < v) xs → word xs < 2 ^ v
word_below v xs h b = bits_below v (word xs) (λ i l. bit_word xs h i ∙ occ_absent i xs (λ c m e. omega (arith, b c m)))

-- the ones of a side are the number of its objects
pub ones_word : (xs : List ℕ) → ((x : ℕ) → occ x xs ≤ 1) → Each (λ x. x < 64) xs → sum_ℕ 64 (member (word xs)) ≡ length xs
ones_word xs h b = sumℕ_cong 64 (member (word xs)) (λ i. occ i xs) (λ i l. bit_word xs h i) ∙ occ-total 64 xs b

-- the ones of a restraint set with no bit at v or above are its members
pub ones_members : (v w : ℕ) → v ≤ 64 → w < 2 ^ v → sum_ℕ 64 (member w) ≡ members v w
unfolding members
ones_members v w l h = sym (ones_sum 64 w (lt_of_lt_of_le h (pow_mono {j = 64} l))) ∙ ones_sum v w h

-- a pair's company in the word of a side
pub company-word : (xs : List ℕ) → ((x : ℕ) → occ x xs ≤ 1) → (i j : ℕ) → company_of (word xs) i j ≡ occ i xs * occ j xs
company-word xs h i j = rw (bit_word xs h i, bit_word xs h j)

-- a pair's opposition in the words of two sides
pub opposition-word : (xs ys : List ℕ) → ((x : ℕ) → occ x xs ≤ 1) → ((x : ℕ) → occ x ys ≤ 1) → (i j : ℕ) →
    opposition_of (word xs) (word ys) i j ≡ occ i xs * occ j ys
opposition-word xs ys h k i j = rw (bit_word xs h i, bit_word ys k j)
