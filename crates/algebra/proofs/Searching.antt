-- What a search by `position` finds is what `first_from` finds, where the list that is searched is the front of another.
--     found_at      the answer is a place
--     found_none    there is none
-- Assumes nothing.
use Rattle.std.proofs.Common.{◌≡◌, ℕ, ◌<◌, Bool, true, false, List, length, get_or, Option, Some, None, sym, ap, ◌∙◌, arith}
use Rattle.std.specs.List.{AllWithin, HoldsAt}
use Rattle.std.specs.Option.{MatchOption}
use Rattle.algebra.specs.Ranges.{first_from}
use Rattle.algebra.proofs.Tests.{first-is, first_from_none}

module _ {X : Type 0} (test : X → Bool) (front xs : List X) (d : X) (same : (k : ℕ) → k < length front → get_or front k d ≡ get_or xs k d) where
  -- the first place of the front at which the test holds, or its length
  abbrev first : ℕ
  first = first_from (λ k. test (get_or xs k d)) 0 (length front)

  -- what is known of the answer
  abbrev Known : Option ℕ → Type 0
  Known r = MatchOption r (AllWithin (λ x. test x ≡ false) front 0 (length front))
      (λ i. (i < length front) × HoldsAt (λ x. test x ≡ true) front i × AllWithin (λ x. test x ≡ false) front 0 i)

  found : (r : Option ℕ) → Known r → MatchOption r (first ≡ length front) (λ i. (i < length front) × (first ≡ i))
  found None h = first_from_none (λ k. test (get_or xs k d)) 0 (length front) (λ j a b. sym (ap test (same j (omega arith))) ∙ h j d a (omega arith)) ∙ omega arith
  found (Some i) h = (
    h.0,
    first-is (λ k. test (get_or xs k d)) 0 (length front) i (omega arith) (omega (arith, h.0))
        (λ j a b. sym (ap test (same j (omega (arith, h.0)))) ∙ h.2 j d a b) (sym (ap test (same i h.0)) ∙ h.1 d),
  )

  pub found_at : (r : Option ℕ) (i : ℕ) → Known r → r ≡ Some i → (i < length front) × (first ≡ i)
  found_at None i h e = cc
  found_at (Some j) i h e = let q : j ≡ i = cc in rw (← q) (found (Some j) h)

  pub found_none : (r : Option ℕ) → Known r → r ≡ None → first ≡ length front
  found_none None h e = found None h
  found_none (Some j) h e = cc
