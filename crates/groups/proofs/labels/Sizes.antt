-- One turn of the count of a group, and the test of the groups by its parts. Assumes nothing.
use Prim.Native.Nat.{ℕ, ◌+◌, ◌-◌, ◌≤◌, ◌<◌}
use mathlib.Core.Path.{◌≡◌, refl, sym, ap, ◌∙◌}
use mathlib.Core.Bool.{Bool, true, false, cond}
use mathlib.Core.List.{List, [], ◌∷◌}
use native.Mathlib.Omega.{arith}
use borrow.Author.Tests.{eq-eqb, ne_eqb, le-leb, lt-ltb}
use lib.Dec.{eqb}
use lib.ListN.{get_or, length, drop}
use native.Mathlib.Decide.{ℕ_discrete}
use Rattle.std.proofs.Common.{Option, Some, None, filter, not, length-drop}
use Rattle.std.specs.List.{AllWithin, HoldsAt}
use Rattle.std.specs.Option.{MatchOption}
use Rattle.std.specs.Bool.{MatchBool}
use Rattle.std.proofs.lemmas.List.{get_or-drop}
use Rattle.algebra.specs.Ranges.{first_from}
use Rattle.algebra.proofs.Tests.{all-each, all_fails, first-is, first_from_none}
use Rattle.meaning.specs.Design.{occ}
use Rattle.meaning.specs.Groups.{group_size, even_groups, mate, stranger}
use Rattle.laws.proofs.Groups.{EvenGroups, even-groups}
use Rattle.groups.specs.Tables.{sizes_alike}

-- as many stand there as a filter keeps
pub kept : (x : ℕ) (xs : List ℕ) → length (filter (λ y. eqb y x) xs) ≡ occ x xs
unfolding occ
kept x [] = refl
kept x (y ∷ ys) = go (ℕ_discrete x y) (kept x ys)
  where
    go : Dec (x ≡ y) → length (filter (λ y. eqb y x) ys) ≡ occ x ys → length (filter (λ y. eqb y x) (y ∷ ys)) ≡ cond (eqb x y) 1 0 + occ x ys
    go (yes e) h = rw (eq-eqb y x (sym e), eq-eqb x y e) (omega (arith, h))
    go (no n) h = rw (ne_eqb y x (λ e. n (sym e)), ne_eqb x y n) (omega (arith, h))

-- ---- the test by its parts

-- a group too small, or all in one
pub not-even : (groups : List ℕ) → (EvenGroups groups → ⊥) → false ≡ even_groups groups
not-even groups n = go (even_groups groups) refl
  where
    go : (b : Bool) → even_groups groups ≡ b → false ≡ b
    go true e = absurd (n (even-groups groups e))
    go false e = refl

-- the rest is what is left of the test
pub even-rest : (groups : List ℕ) (size : ℕ) → size ≡ group_size groups 0 → 2 ≤ size → size < length groups →
    sizes_alike groups size (length groups) ≡ even_groups groups
unfolding sizes_alike even_groups
even-rest groups size e l m = rw (e) (sym (rw (le-leb 2 (group_size groups 0) (omega arith), lt-ltb (group_size groups 0) (length groups) (omega arith))))

-- every group has the size, or one has not
pub alike-all : (groups : List ℕ) (size : ℕ) (r : Bool) →
    MatchBool r (AllWithin (λ x. occ x groups ≡ size) groups 0 (length groups)) ((k : ℕ) × (k < length groups) × HoldsAt (λ x. occ x groups ≡ size → ⊥) groups k) →
    r ≡ sizes_alike groups size (length groups)
unfolding sizes_alike
alike-all groups size true h = sym (all-each (length groups) (λ i. eqb (group_size groups i) size) (λ i l. eq-eqb _ _ (h i 0 (omega arith) l)))
alike-all groups size false h = sym (all_fails (length groups) h.0 (λ i. eqb (group_size groups i) size) h.1 (ne_eqb _ _ (h.2 0)))

-- ---- the first object after 0 of its group, or of another

-- what is looked for
abbrev pub sought : ℕ → Bool → ℕ → Bool
sought first alike x = cond alike (eqb x first) (not (eqb x first))

either : (groups : List ℕ) (alike : Bool) →
    first_from (λ j. sought (get_or groups 0 0) alike (get_or groups j 0)) 1 (length groups - 1) ≡ cond alike (mate groups) (stranger groups)
unfolding mate stranger
either groups true = refl
either groups false = refl

module _ (groups : List ℕ) (alike : Bool) (some : 1 ≤ length groups) where
  abbrev p : ℕ → Bool
  p j = sought (get_or groups 0 0) alike (get_or groups j 0)

  abbrev Known : Option ℕ → Type 0
  Known r = MatchOption r (AllWithin (λ x. sought (get_or groups 0 0) alike x ≡ false) (drop 1 groups) 0 (length (drop 1 groups)))
      (λ i. (i < length (drop 1 groups)) × HoldsAt (λ x. sought (get_or groups 0 0) alike x ≡ true) (drop 1 groups) i
      × AllWithin (λ x. sought (get_or groups 0 0) alike x ≡ false) (drop 1 groups) 0 i)

  found : first_from p 1 (length groups - 1) ≡ cond alike (mate groups) (stranger groups)
  found = either groups alike

  before : (n j : ℕ) → AllWithin (λ x. sought (get_or groups 0 0) alike x ≡ false) (drop 1 groups) 0 n → 1 ≤ j → j < n + 1 → p j ≡ false
  before n j h a b =
      let one : 1 + (j - 1) ≡ j = omega arith in
      ap (λ x. sought (get_or groups 0 0) alike x) (ap (λ k. get_or groups k 0) (sym one) ∙ sym (get_or-drop 1 groups (j - 1) 0)) ∙ h (j - 1) 0 (omega arith) (omega arith)

  long : length (drop 1 groups) + 1 ≡ length groups
  long = omega (arith, length-drop 1 groups)

  pub other_at : (r : Option ℕ) (i : ℕ) → Known r → r ≡ Some i → i + 1 ≡ cond alike (mate groups) (stranger groups)
  other_at None i h e = cc
  other_at (Some k) i h e =
      let q : k ≡ i = cc in
      let here : p (k + 1) ≡ true = ap (λ x. sought (get_or groups 0 0) alike x) (ap (λ k. get_or groups k 0) (omega arith) ∙ sym (get_or-drop 1 groups k 0)) ∙ h.1 0 in
      rw (← q) (sym (first-is p 1 (length groups - 1) (k + 1) (omega arith) (omega (arith, h.0, long)) (λ j a b. before k j h.2 a b) here) ∙ found)

  pub other_none : (r : Option ℕ) → Known r → r ≡ None → length groups ≡ cond alike (mate groups) (stranger groups)
  other_none (Some k) h e = cc
  other_none None h e =
      let end : 1 + (length groups - 1) ≡ length groups = omega arith in
      sym end ∙ sym (first_from_none p 1 (length groups - 1) (λ j a b. before (length (drop 1 groups)) j h a (omega (arith, long, b)))) ∙ found
