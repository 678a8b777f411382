-- How wide the cells of a certificate are: none is wider than its column, so every line of a weight has the same width; and how long the whole is. Assumes
-- nothing.
use Rattle.std.proofs.Common.{Some, Option, None}
use mathlib.Core.Path.{◌≡◌, refl}
use mathlib.Core.Bool.{Bool, true, false, cond, not, ◌&&◌}
use mathlib.Core.List.{List, [], ◌∷◌, ◌++◌}
use Prim.Native.Nat.{ℕ, zero, suc, ◌-◌, ◌*◌, ◌/◌, ◌^◌, ◌≤◌, ◌<◌}
use native.Mathlib.Omega.{arith}
use lib.Dec.{eqb, ltb}
use lib.IntN.{ℤ, pos, negsuc, nat_abs, ◌*ℤ◌}
use lib.ListN.{length, length-append, length-take}
use Rattle.records.specs.declared.Head.{Head}
use Rattle.records.specs.declared.Parameters.{Parameters}
use Rattle.records.specs.declared.Spread.{Spread}
use Rattle.records.specs.declared.Uncertainty.{Uncertainty}
use Rattle.meaning.specs.Design.{objects, parameters_of}
use Rattle.meaning.specs.Analysis.{member, restrained}
use Rattle.meaning.specs.Publishing.{published}
use Rattle.meaning.specs.Calls.{spreading_of}
use Rattle.meaning.specs.Text.{ascii, digits, hex_text, escaped, trimmed, name_text, each}
use Rattle.laws.proofs.Lengths.{spaced-length, spaced-most, each-length}
use Rattle.meaning.specs.Certificate.{
  spaces,
  at_left,
  at_right,
  two_decimals,
  counts_text,
  uncertainty_text,
  spread_text,
  standard_word,
  title_line,
  design_words,
  columns_line,
  proved_line,
  name_from,
  weight_line,
  uncertainty_of,
  certificate_text,
}

-- ---- numbers

-- a number below 10 to the power k has at most k digits
digits-few : (k n : ℕ) → n < 10 ^ suc k → length (digits 20 n) ≤ suc k
digits-few k n h = omega (arith, spaced-length k n h)

-- counts with two decimals, of hundredths that are no more than 10 to the power 18
decimals_few : (n : ℕ) → n < 10 ^ 18 → length (two_decimals n) ≤ 19
decimals_few n h = rw length-append (omega (arith, digits-few 15 (n / 100) (omega arith)))

counts-few : (z : ℤ) → nat_abs z < 10 ^ 18 → length (counts_text z) ≤ 22
counts-few (pos n) h = omega (arith, decimals_few n h)
counts-few (negsuc n) h = omega (arith, decimals_few (suc n) h)

-- ---- names

escaped-few : (s : List ℕ) → length (escaped s) ≤ 4 * length s
unfolding escaped
escaped-few [] = omega arith
escaped-few (x ∷ s) = rw length-append (omega (arith, four (ltb 32 x && (ltb x 127 && (not (eqb x 35) && not (eqb x 92)))), escaped-few s))
  where
    four : (b : Bool) → length (cond b (x ∷ []) (92 ∷ 120 ∷ hex_text x)) ≤ 4
    four true = omega arith
    four false = omega arith

trimmed-few : (s : List ℕ) → length (trimmed s) ≤ length s
unfolding trimmed
trimmed-few [] = omega arith
trimmed-few (x ∷ s) = by (trimmed-few s) (eqb x 32 && eqb (length (trimmed s)) 0)
  where
    by : length (trimmed s) ≤ length s → (b : Bool) → length (cond b [] (x ∷ trimmed s)) ≤ suc (length s)
    by l true = omega arith
    by l false = omega arith

-- eight bytes take at most four columns each
name-few : (s : List ℕ) → length s ≤ 8 → length (name_text s) ≤ 32
unfolding name_text
name-few s l = by (eqb (length (trimmed s)) 0)
  where
    by : (b : Bool) → length (cond b (escaped (32 ∷ [])) (escaped (trimmed s))) ≤ 32
    by true = omega (arith, escaped-few (32 ∷ []))
    by false = omega (arith, escaped-few (trimmed s), trimmed-few s)

pub named_few : (s : List ℕ) (at i : ℕ) → length (name_from s at i) ≤ 32
named_few s zero i = omega arith
named_few s (suc at) i = name-few _ (rw length-take (omega arith))

-- ---- cells

spaces_many : (n : ℕ) → length (spaces n) ≡ n
unfolding each
spaces_many zero = refl
spaces_many (suc n) = rw length-append (omega (arith, spaces_many n))

left-wide : (w : ℕ) (t : List ℕ) → length t ≤ w → length (at_left w t) ≡ w
left-wide w t l = rw length-append (omega (arith, spaces_many (w - length t)))

right-wide : (w : ℕ) (t : List ℕ) → length t ≤ w → length (at_right w t) ≡ w
right-wide w t l = rw length-append (omega (arith, spaces_many (w - length t)))

standard_few : (m : ℕ) → length (standard_word m) ≤ 10
unfolding ascii
standard_few m = by (eqb m 1)
  where
    by : (b : Bool) → length (cond b (ascii "yes") (ascii "no")) ≤ 10
    by true = omega arith
    by false = omega arith

-- the hundredths of a standard uncertainty, 0 where none is stated
abbrev pub hundredths_in : Option Uncertainty → ℕ
hundredths_in (Some u) = u.hundredths
hundredths_in None = 0

uncertainty_few : (u : Option Uncertainty) → hundredths_in u < 10 ^ 18 → length (uncertainty_text u) ≤ 22
unfolding ascii
uncertainty_few (Some u) h = omega (arith, decimals_few u.hundredths h)
uncertainty_few None h = omega arith

-- ---- the line of a weight

pub line-wide : (i : ℕ) (name : List ℕ) (m : ℕ) (hundredths : ℤ) (u : Option Uncertainty) → i < 50 → length name ≤ 32 → nat_abs hundredths < 10 ^ 18 →
    hundredths_in u < 10 ^ 18 → length (weight_line i name m hundredths u) ≡ 96
line-wide i name m hundredths u a b c e =
    let object = left-wide 8 (digits 20 i) (omega (arith, digits-few 1 i (omega arith))) in
    let named = left-wide 33 name (omega arith) in
    let standard = left-wide 10 (standard_word m) (standard_few m) in
    let value = right-wide 22 (counts_text hundredths) (counts-few hundredths c) in
    let last = right-wide 22 (uncertainty_text u) (uncertainty_few u e) in
    lengths (at_left 8 (digits 20 i)) (at_left 33 name) (at_left 10 (standard_word m)) (at_right 22 (counts_text hundredths)) (at_right 22 (uncertainty_text u))
    object named standard value last
  where
    lengths : (a b c d e : List ℕ) → length a ≡ 8 → length b ≡ 33 → length c ≡ 10 → length d ≡ 22 → length e ≡ 22 →
        length (a ++ b ++ c ++ d ++ e ++ (10 ∷ [])) ≡ 96
    lengths a b c d e p q r s t = simp length-append (omega arith)

-- ---- the whole text

-- counts of any size, and a spread
decimals_most : (n : ℕ) → length (two_decimals n) ≤ 23
decimals_most n = rw length-append (omega (arith, spaced-most (n / 100)))

counts-most : (z : ℤ) → length (counts_text z) ≤ 24
counts-most (pos n) = omega (arith, decimals_most n)
counts-most (negsuc n) = omega (arith, decimals_most (suc n))

spread-most : (t : Option Spread) (k : ℕ) → length (spread_text t k) ≤ 24
unfolding ascii
spread-most (Some spread) k = omega (arith, decimals_most k)
spread-most None k = omega arith

-- a figure after its words
figure_most : (words figure : List ℕ) → length words ≤ 51 → length figure ≤ 24 → length (words ++ at_right 22 figure ++ (10 ∷ [])) ≤ 98
figure_most words figure l m = simp length-append (omega (arith, spaces_many (22 - length figure)))

-- the design
design-most : (p : Parameters) → length (design_words p) ≤ 160
unfolding ascii
design-most p = simp length-append (omega (
  arith,
  spaced-most p.v,
  spaced-most p.b,
  spaced-most p.r,
  spaced-most p.p,
  spaced-most p.l1,
  spaced-most p.l2,
))

-- the certificate of at most 50 objects, where each line of a weight is so wide
pub certificate_most : (h : Head) (d : List ℕ) (y : List ℤ) (w : ℕ) (M : ℤ) (name : ℕ → List ℕ) → objects h ≤ 50 →
    ((i : ℕ) → i < objects h → length (weight_line i (name i) (member w i) (published h d y w M i) (uncertainty_of h d y w i)) ≡ 96) →
    length (certificate_text h d y w M name) ≤ 8192
unfolding ascii
certificate_most h d y w M name few wide =
    let weights = each-length (objects h) 96 (λ i. weight_line i (name i) (member w i) (published h d y w M i) (uncertainty_of h d y w i))
    (λ i l. omega (arith, wide i l)) in
    let t = spreading_of h d y in
    lengths title_line (design_words (parameters_of h d)) columns_line _ _ _ _ _ proved_line (omega arith) (design-most (parameters_of h d)) (omega arith)
    (omega arith)
    (figure_most (ascii "sum of the standards                               ") (counts_text (restrained (objects h) w (published h d y w M))) (omega arith)
    (counts-most (restrained (objects h) w (published h d y w M))))
    (figure_most (ascii "accepted sum M                                     ") (counts_text (pos 100 *ℤ M)) (omega arith) (counts-most (pos 100 *ℤ M)))
    (figure_most (ascii "spread                                             ") (spread_text t.spread t.hundredths) (omega arith)
    (spread-most t.spread t.hundredths))
    (figure_most (ascii "degrees of freedom                                 ") (digits 20 t.freedom) (omega arith) (omega (arith, spaced-most t.freedom)))
    (omega arith)
  where
    lengths : (a b c e f g i j k : List ℕ) → length a ≤ 100 → length b ≤ 160 → length c ≤ 100 → length e ≤ 4800 → length f ≤ 98 → length g ≤ 98 →
        length i ≤ 98 → length j ≤ 98 → length k ≤ 100 → length (a ++ b ++ c ++ e ++ f ++ g ++ i ++ j ++ k) ≤ 8192
    lengths a b c e f g i j k l1 l2 l3 l4 l5 l6 l7 l8 l9 = simp length-append (omega arith)
