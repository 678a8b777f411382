-- A text that is cut at each of a byte: the library's parts are the pieces, its count is how often the byte stands there, and its equality says whether
-- two texts are the same. Assumes nothing.
use Rattle.std.proofs.Common.{◌≡◌, ℕ, suc, zero, ◌+◌, ◌<◌, ◌≤◌, Bool, true, false, cond, ◌&&◌, eqb, List, [], ◌∷◌, length, get_or, Bor}
use Rattle.std.proofs.Common.{Option, Some, None, refl, sym, ap, ◌∙◌, arith}
use Rattle.std.specs.Option.{unwrap_or, option_map}
use Rattle.std.specs.List.{slice_split, onto_first, enumerate_from, count_by}
use Rattle.std.specs.Str.{bytes_eq}
use Rattle.std.proofs.lemmas.Bool.Decides.{nat_tests}
use Rattle.std.proofs.lemmas.List.Recursion.{is_count_by}
use Rattle.std.proofs.lemmas.List.Splits.{length-slice_split}
use Rattle.std.proofs.lemmas.List.FromFn.{length-enumerate_from, get_or-enumerate_from}
use Rattle.std.proofs.lemmas.List.{get_or_default}
use Rattle.meaning.specs.Design.{occ}
use Rattle.meaning.specs.SheetText.{before, after, rest, piece, same, lines_of, line_of}

-- behind the end of a text stands nothing
rest_none : (c k : ℕ) → rest c k [] ≡ []
unfolding rest after
rest_none c zero = refl
rest_none c (suc k) = ap (after c) (rest_none c k)

-- the pieces behind the first one are those of what stands behind it
rest_first : (c k : ℕ) (s : List ℕ) → rest c (suc k) s ≡ rest c k (after c s)
unfolding rest
rest_first c zero s = refl
rest_first c (suc k) s = ap (after c) (rest_first c k s)

onto_here : (x : ℕ) (parts : List (List ℕ)) → get_or (onto_first x parts) 0 [] ≡ x ∷ get_or parts 0 []
onto_here x [] = refl
onto_here x (part ∷ parts) = refl

onto_later : (x k : ℕ) (parts : List (List ℕ)) → get_or (onto_first x parts) (suc k) [] ≡ get_or parts (suc k) []
onto_later x k [] = refl
onto_later x k (part ∷ parts) = refl

-- the library's part k is piece k
pub part_is_piece : (c : ℕ) (s : List ℕ) (k : ℕ) → get_or (slice_split (λ b. eqb b c) s) k [] ≡ piece c k s
unfolding piece before rest after
part_is_piece c [] zero = refl
part_is_piece c [] (suc k) = sym (ap (before c) (rest_none c (suc k)))
part_is_piece c (x ∷ s) zero = by (eqb x c) (part_is_piece c s zero)
  where
    by : (b : Bool) → get_or (slice_split (λ b. eqb b c) s) 0 [] ≡ before c s →
        get_or (cond b ([] ∷ slice_split (λ b. eqb b c) s) (onto_first x (slice_split (λ b. eqb b c) s))) 0 [] ≡ cond b [] (x ∷ before c s)
    by true e = refl
    by false e = onto_here x (slice_split (λ b. eqb b c) s) ∙ ap (λ (t : List ℕ). x ∷ t) e
part_is_piece c (x ∷ s) (suc k) =
    by (eqb x c) (part_is_piece c s k) (part_is_piece c s (suc k)) ∙ sym (ap (before c) (rest_first c k (x ∷ s)))
  where
    by : (b : Bool) → get_or (slice_split (λ b. eqb b c) s) k [] ≡ before c (rest c k s) →
        get_or (slice_split (λ b. eqb b c) s) (suc k) [] ≡ before c (rest c (suc k) s) →
        get_or (cond b ([] ∷ slice_split (λ b. eqb b c) s) (onto_first x (slice_split (λ b. eqb b c) s))) (suc k) []
        ≡ before c (rest c k (cond b s (after c s)))
    by true e f = e
    by false e f = onto_later x k (slice_split (λ b. eqb b c) s) ∙ f ∙ ap (before c) (rest_first c k s)

-- what is read behind a reference, or of its own where there is none
pub unwrapped : (o : Option (Bor (List ℕ))) (d : Bor (List ℕ)) → (unwrap_or o d).now ≡ unwrap_or (option_map (λ (x : Bor (List ℕ)). x.now) o) d.now
unwrapped None d = refl
unwrapped (Some x) d = refl

-- how many bytes the library finds
occ_more : (c x n : ℕ) → cond (eqb c x) 1 0 + n ≡ cond (eqb x c) (1 + n) n
occ_more c x n = grind (arith, nat_tests)

pub occ_is_count : (c : ℕ) (s : List ℕ) → occ c s ≡ count_by (λ x. eqb x c) s
unfolding occ
occ_is_count c s = is_count_by (occ c) (λ x. eqb x c) refl (λ x xs. occ_more c x (occ c xs)) s

-- no more often than there are bytes
pub occ_most : (c : ℕ) (s : List ℕ) → occ c s ≤ length s
unfolding occ
occ_most c [] = omega arith
occ_most c (x ∷ s) = let m : occ c s ≤ length s = occ_most c s in grind (arith, nat_tests)

-- the library's equality
pub same_is_equal : (s t : List ℕ) → same s t ≡ bytes_eq s t
unfolding same
same_is_equal [] [] = refl
same_is_equal [] (y ∷ t) = refl
same_is_equal (x ∷ s) [] = refl
same_is_equal (x ∷ s) (y ∷ t) = ap (λ (b : Bool). eqb x y && b) (same_is_equal s t)

-- ---- the lines of a text, one after the other

pub lines_are : (s : List ℕ) → length (enumerate_from 0 (slice_split (λ b. eqb b 10) s)) ≡ lines_of s
lines_are s =
    length-enumerate_from 0 (slice_split (λ b. eqb b 10) s)
    ∙ length-slice_split (λ b. eqb b 10) s
    ∙ ap (λ (n : ℕ). n + 1) (sym (occ_is_count 10 s))

-- the item of turn n
pub line_here : (s : List ℕ) (n : ℕ) (x : ℕ × List ℕ) → n < length (enumerate_from 0 (slice_split (λ b. eqb b 10) s)) →
    x ≡ get_or (enumerate_from 0 (slice_split (λ b. eqb b 10) s)) n x → (x.0 ≡ n) × (x.1 ≡ line_of n s)
line_here s n x more e =
    let parts : List (List ℕ) = slice_split (λ b. eqb b 10) s in
    let within : n < length parts = omega (arith, length-enumerate_from 0 parts) in
    let here : x ≡ (0 + n, get_or parts n x.1) = e ∙ get_or-enumerate_from 0 parts n x within in (
      omega (arith, ap (λ (y : ℕ × List ℕ). y.0) here),
      ap (λ (y : ℕ × List ℕ). y.1) here ∙ get_or_default parts n x.1 [] within ∙ part_is_piece 10 s n,
    )
