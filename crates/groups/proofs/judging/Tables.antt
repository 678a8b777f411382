-- The tests of two tables turn by turn, and what they say where the tables are those of an accepted list.
--     row-.., tables-..         one turn of each loop
--     grouped-refused           the list is refused
--     grouped-judged            the verdict over the tables of its words is that of the call
-- Assumes nothing.
use Prim.Native.Nat.{ℕ, ◌+◌, ◌<◌}
use mathlib.Core.Path.{◌≡◌, refl, sym, ap, ap₂, ◌∙◌}
use mathlib.Core.Bool.{true, false}
use mathlib.Core.List.{List, []}
use native.Mathlib.Omega.{arith}
use lib.ListN.{get_or}
use Rattle.algebra.specs.Ranges.{all}
use Rattle.algebra.specs.Tables.{entry}
use Rattle.algebra.proofs.Tests.{all_more, all_fails, all_cong}
use Rattle.records.specs.declared.GroupCounts.{GroupCounts}
use Rattle.records.specs.declared.Grouped.{Grouped}
use Rattle.meaning.specs.Refusals.{Verdict, accepted, test}
use Rattle.meaning.specs.Calls.{table_of, given}
use Rattle.meaning.specs.Groups.{
  shared,
  opposed,
  one_group,
  mate,
  stranger,
  counts_of,
  meets_as,
  partially_balanced,
  list_verdict,
  grouped_verdict,
  grouped_answer,
  no_counts,
}
use Rattle.laws.proofs.Chains.{goes_on}
use Rattle.laws.proofs.Tables.{entry_of}
use Rattle.laws.proofs.Groups.{Listed, listed, even-groups, mate-below, stranger-below}
use Rattle.verdicts.proofs.Told.{refusing}
use Rattle.groups.specs.Tables.{row_alike, tables_alike, table_counts, tables_grouped, no_grouped}

module _ (counts : GroupCounts) (groups : List ℕ) where
  module _ (i : ℕ) (c o : List ℕ) where
    pub row-none : row_alike counts groups i c o 0 ≡ true
    unfolding row_alike
    row-none = refl

    pub row_more_lem : (j : ℕ) → row_alike counts groups i c o j ≡ true → meets_as counts (one_group groups i j) (get_or c j 0) (get_or o j 0) ≡ true →
        row_alike counts groups i c o (j + 1) ≡ true
    unfolding row_alike
    row_more_lem j a e = all_more j (λ j. meets_as counts (one_group groups i j) (get_or c j 0) (get_or o j 0)) a e

    pub row_fails : (n j : ℕ) → j < n → meets_as counts (one_group groups i j) (get_or c j 0) (get_or o j 0) ≡ false → row_alike counts groups i c o n ≡ false
    unfolding row_alike
    row_fails n j l e = all_fails n j (λ j. meets_as counts (one_group groups i j) (get_or c j 0) (get_or o j 0)) l e

  module _ (c o : List (List ℕ)) where
    pub tables_none : tables_alike counts groups c o 0 ≡ true
    unfolding tables_alike
    tables_none = refl

    pub tables_more : (i : ℕ) → tables_alike counts groups c o i ≡ true → row_alike counts groups i (get_or c i []) (get_or o i []) i ≡ true →
        tables_alike counts groups c o (i + 1) ≡ true
    unfolding tables_alike
    tables_more i a e = all_more i (λ i. row_alike counts groups i (get_or c i []) (get_or o i []) i) a e

    pub tables_fail : (n i : ℕ) → i < n → row_alike counts groups i (get_or c i []) (get_or o i []) i ≡ false → tables_alike counts groups c o n ≡ false
    unfolding tables_alike
    tables_fail n i l e = all_fails n i (λ i. row_alike counts groups i (get_or c i []) (get_or o i []) i) l e

-- the counts of object 0 with two others
abbrev counts_at : List (List ℕ) → List (List ℕ) → ℕ → ℕ → GroupCounts
counts_at c o near far = record { l11 = entry c near 0; l21 = entry o near 0; l12 = entry c far 0; l22 = entry o far 0 }

-- the verdict over two tables, by its test
module _ (v : ℕ) (groups : List ℕ) (c o : List (List ℕ)) where
  pub tables_refused : {r : Grouped} (near far : ℕ) → near ≡ mate groups → far ≡ stranger groups →
      tables_alike (counts_at c o near far) groups c o v ≡ false → r ≡ no_grouped (test false 6 0) → r ≡ tables_grouped v groups c o
  unfolding tables_grouped
  tables_refused near far en ef e is = is ∙ sym (rw (← en, ← ef, e))

  pub tables_accepted : {r : Grouped} (near far : ℕ) → near ≡ mate groups → far ≡ stranger groups →
      tables_alike (counts_at c o near far) groups c o v ≡ true → r ≡ record { verdict = accepted; counts = counts_at c o near far } → r ≡ tables_grouped v groups c o
  unfolding tables_grouped
  tables_accepted near far en ef e is = is ∙ sym (rw (← en, ← ef, e))

-- the list is refused
pub grouped-refused : (count v p : ℕ) (d groups : List ℕ) (verdict : Verdict) → verdict ≡ list_verdict count v p d groups → given verdict false true ≡ true →
    no_grouped verdict ≡ grouped_answer count v p d groups
unfolding grouped_verdict
grouped-refused count v p d groups verdict e r = rw (sym e ∙ refusing verdict r) (ap no_grouped (refusing verdict r))

-- the tables of an accepted list
module _ (count v p : ℕ) (d groups : List ℕ) (s : Listed count v p d groups) where
  at-company : (i j : ℕ) → i < v → j < v → entry (table_of v (shared count p d)) i j ≡ shared count p d i j
  at-company i j l m = entry_of v (shared count p d) i j s.fits.v_most l m

  at-opposition : (i j : ℕ) → i < v → j < v → entry (table_of v (opposed count p d)) i j ≡ opposed count p d i j
  at-opposition i j l m = entry_of v (opposed count p d) i j s.fits.v_most l m

  first : 0 < v
  first = let f = s.fits in omega arith

  near : mate groups < v
  near = omega (arith, s.labelled, (mate-below groups (even-groups groups s.even)).1)

  far : stranger groups < v
  far = omega (arith, s.labelled, (stranger-below groups (even-groups groups s.even)).1)

  counts-read : table_counts groups (table_of v (shared count p d)) (table_of v (opposed count p d)) ≡ counts_of count p d groups
  counts-read = rw (
    at-company (mate groups) 0 near first,
    at-opposition (mate groups) 0 near first,
    at-company (stranger groups) 0 far first,
    at-opposition (stranger groups) 0 far first,
  )

  tables_tell : (c : GroupCounts) → tables_alike c groups (table_of v (shared count p d)) (table_of v (opposed count p d)) v
      ≡ all v (λ i. all i (λ j. meets_as c (one_group groups i j) (shared count p d i j) (opposed count p d i j)))
  unfolding tables_alike row_alike
  tables_tell c = all_cong v _ _ (λ i l. all_cong i _ _ (λ j m.
      ap₂ (λ (x y : ℕ). meets_as c (one_group groups i j) x y) (at-company i j l (omega arith)) (at-opposition i j l (omega arith))))

  tables_answer : tables_grouped v groups (table_of v (shared count p d)) (table_of v (opposed count p d))
      ≡ record {
        verdict = test (partially_balanced count v p d groups) 6 0;
        counts = given (test (partially_balanced count v p d groups) 6 0)
            (counts_of count p d groups) no_counts;
      }
  unfolding tables_grouped partially_balanced
  tables_answer = rw (counts-read, tables_tell (counts_of count p d groups))

-- it is accepted: the verdict is that over the tables of its words
pub grouped-judged : (count v p : ℕ) (d groups : List ℕ) (c o : List (List ℕ)) → list_verdict count v p d groups ≡ accepted → c ≡ table_of v (shared count p d) →
    o ≡ table_of v (opposed count p d) → tables_grouped v groups c o ≡ grouped_answer count v p d groups
unfolding grouped_verdict
grouped-judged count v p d groups c o e ec eo =
    ap₂ (tables_grouped v groups) ec eo ∙ tables_answer count v p d groups (listed count v p d groups e)
    ∙ sym (rw (goes_on (test (partially_balanced count v p d groups) 6 0) e))
