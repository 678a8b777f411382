-- What is lent after slots are laid from the front, as many as there are and as it holds: slots of any kind, and entries by their number.
-- Assumes nothing.
use Rattle.std.proofs.Common.{Ok, Err}
use mathlib.Core.Path.{◌≡◌, refl, ap, ◌∙◌}
use mathlib.Core.List.{List, [], ◌∷◌, ◌++◌}
use mathlib.Core.Bool.{Bool, true}
use Prim.Native.Nat.{ℕ, suc, zero, min}
use native.Mathlib.Omega.{arith}
use lib.ListN.{length, take, drop}
use Rattle.std.specs.Result.{is_ok}
use Rattle.algebra.specs.Buffers.{over}
use Rattle.meaning.specs.Refusals.{Verdict}
use Rattle.meaning.specs.Calls.{written}
use Rattle.slots.specs.Laid.{onto, laid}

-- as many as there are and as it holds
front : {A : Type 0} (slots lent : List A) (k : ℕ) → k ≡ min (length slots) (length lent) → take k slots ++ drop k lent ≡ onto slots lent
unfolding onto
front [] lent zero e = refl
front [] lent (suc k) e = absurd (omega arith)
front (x ∷ slots) [] zero e = refl
front (x ∷ slots) [] (suc k) e = absurd (omega arith)
front (x ∷ slots) (y ∷ lent) zero e = absurd (omega arith)
front {A = A} (x ∷ slots) (y ∷ lent) (suc k) e = ap (λ (l : List A). x ∷ l) (front slots lent k (omega arith))

-- under a verdict that accepts
pub laid_front : {A : Type 0} (verdict : Verdict) (slots lent : List A) {k : ℕ} {part : List A} {yes : Bool} → yes ≡ is_ok verdict → yes ≡ true
    → k ≡ min (length slots) (length lent) → part ≡ take k slots → part ++ drop k lent ≡ laid verdict slots lent
laid_front (Ok done) slots lent {k} a t e p = rw p (front slots lent k e)
laid_front (Err why) slots lent a t e p = cc

-- entries by their number, as many as it holds
over_cut : {A : Type 0} (count : ℕ) (f : ℕ → A) (lent : List A) (i : ℕ) → i ≡ min (length lent) count → over i f lent ≡ over count f lent
unfolding over
over_cut zero f [] zero e = refl
over_cut (suc count) f [] zero e = refl
over_cut zero f (x ∷ lent) zero e = refl
over_cut (suc count) f (x ∷ lent) zero e = absurd (omega arith)
over_cut count f [] (suc i) e = absurd (omega arith)
over_cut zero f (x ∷ lent) (suc i) e = absurd (omega arith)
over_cut {A = A} (suc count) f (x ∷ lent) (suc i) e = ap (λ (l : List A). f 0 ∷ l) (over_cut count (λ (k : ℕ). f (suc k)) lent i (omega arith))

-- under a verdict that accepts
pub entries_written : {A : Type 0} (verdict : Verdict) (count : ℕ) (f : ℕ → A) (lent : List A) {i : ℕ} {after : List A} {yes : Bool}
    → yes ≡ is_ok verdict → yes ≡ true → after ≡ over i f lent → i ≡ min (length lent) count → after ≡ written verdict count f lent
entries_written (Ok done) count f lent a t p e = p ∙ over_cut count f lent _ e
entries_written (Err why) count f lent a t p e = cc
