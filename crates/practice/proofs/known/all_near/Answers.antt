-- `practice::known::all_near`: where `all` says yes each true value is in its range, else one is not. Assumes nothing.
use Rattle.std.proofs.Common.{◌≡◌, ℕ, ◌<◌, ◌≤◌, Bool, true, false, List, length, ℤ, nat_abs, MatchBool, sym, arith, rules, tests, le-leb}
use Rattle.std.specs.List.{HoldsAt, AllWithin}
use Rattle.std.proofs.lemmas.Iterator.{cases_from_all, YieldsList-from_slice}
use borrow.Author.Tests.{lt-leb}
use Rattle.algebra.proofs.Tests.{all-each, all_fails}
use Rattle.meaning.specs.Practice.{truth_limit, near}
use Rattle.practice.proofs.known.all_near.Goals as goal

near_is : (u : List ℤ) (r : Bool) →
    MatchBool r (AllWithin (λ z. nat_abs z ≤ truth_limit) u 0 (length u)) ((k : ℕ) × (k < length u) × HoldsAt (λ z. truth_limit < nat_abs z) u k) →
    r ≡ near u
unfolding near
near_is u true h = sym (all-each (length u) _ (λ i l. le-leb _ _ (h i _ (omega arith) l)))
near_is u false h = sym (all_fails (length u) h.0 _ h.1 (lt-leb _ _ (h.2 _)))

pub returns : goal.returns
returns c = near_is c.args.truths.now _ (cases_from_all _ _ _ (λ z. nat_abs z ≤ truth_limit) (λ z. truth_limit < nat_abs z) c.all.ensures.ran
    (YieldsList-from_slice c.args.truths.now cc) (λ x q k. search (rules, tests)) (λ x q k. search (rules, tests)))
