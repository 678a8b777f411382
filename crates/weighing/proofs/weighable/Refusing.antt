-- The first word that strays.
--     stray-none      no word does
--     stray_at, stray_nowhere    what a search by `position` finds
--     stray-within    where none is found, every word has its objects below v
-- Assumes nothing.
use mathlib.Core.Path.{◌≡◌, sym, ◌∙◌, subst}
use mathlib.Core.Bool.{true, false}
use mathlib.Core.List.{List}
use Prim.Native.Nat.{ℕ, ◌^◌, ◌<◌, ◌≤◌}
use native.Mathlib.Nat.{zero-add}
use native.Mathlib.Omega.{arith}
use borrow.Author.Tests.{eqb-true, lt-leb, leb-false}
use lib.Dec.{leb}
use lib.ListN.{get_or, length, take}
use Rattle.std.proofs.Common.{Option, Some, None}
use Rattle.std.specs.List.{AllWithin, HoldsAt}
use Rattle.std.specs.Option.{MatchOption}
use Rattle.std.proofs.lemmas.List.{get_or-take, length-take-le}
use Rattle.algebra.proofs.Tests.{first-before, first_from_none}
use Rattle.meaning.specs.Refusals.{accepted}
use Rattle.laws.proofs.Chains.{held}
use Rattle.weighing.specs.Verdicts.{stray_word, inside}
use Rattle.algebra.proofs.Searching.{found_at, found_none}

-- none of the first c words does
pub stray-none : (words : List ℕ) (c v : ℕ) → ((i : ℕ) → i < c → get_or words i 0 < 2 ^ v) → stray_word words c v ≡ c
unfolding stray_word
stray-none words c v h = first_from_none (λ i. leb (2 ^ v) (get_or words i 0)) 0 c (λ i a b. lt-leb (2 ^ v) (get_or words i 0) (h i (omega arith))) ∙ zero-add c

-- what a search by `position` finds among them, where `end` ends the words that have their objects below v
module _ (words : List ℕ) (c v end : ℕ) (l : c ≤ length words) (e : end ≡ 2 ^ v) where
  abbrev Searched : Option ℕ → Type 0
  Searched r = MatchOption r (AllWithin (λ x. leb end x ≡ false) (take c words) 0 (length (take c words)))
      (λ i. (i < length (take c words)) × HoldsAt (λ x. leb end x ≡ true) (take c words) i × AllWithin (λ x. leb end x ≡ false) (take c words) 0 i)

  long : length (take c words) ≡ c
  long = length-take-le c words l

  same : (k : ℕ) → k < length (take c words) → get_or (take c words) k 0 ≡ get_or words k 0
  same k a = get_or-take c words k 0 (omega (arith, long))

  pub stray_at : (r : Option ℕ) (i : ℕ) → Searched r → r ≡ Some i → (i < c) × (stray_word words c v ≡ i)
  unfolding stray_word
  stray_at r i h q = let a = found_at (leb end) (take c words) words 0 same r i h q in (omega (arith, a.0, long), rw (← long, ← e) a.1)

  pub stray_nowhere : (r : Option ℕ) → Searched r → r ≡ None → stray_word words c v ≡ c
  unfolding stray_word
  stray_nowhere r h q = let a = found_none (leb end) (take c words) words 0 same r h q in rw (← e) (rw long at a)

-- where none is found, every one has its objects below v
pub stray-within : (words : List ℕ) (c v : ℕ) → inside words c v ≡ accepted → (i : ℕ) → i < c → get_or words i 0 < 2 ^ v
unfolding stray_word
stray-within words c v e i l =
    leb-false _ _ (first-before (λ i. leb (2 ^ v) (get_or words i 0)) 0 c i (omega arith) (subst (λ (x : ℕ). i < x) (sym (eqb-true _ _ (held _ _ _ e))) l))
