-- The tests of two pair tables over groups, and the verdict that follows from them. Assumes nothing.
use Rattle.std.specs.Prelude.{ℕ, Bool, List, [], get_or, eqb}
use Rattle.algebra.specs.Ranges.{all}
use Rattle.algebra.specs.Tables.{entry}
use Rattle.records.specs.declared.GroupCounts.{GroupCounts}
use Rattle.records.specs.declared.Grouped.{Grouped}
use Rattle.meaning.specs.Refusals.{Verdict, test}
use Rattle.meaning.specs.Calls.{given}
use Rattle.meaning.specs.Groups.{one_group, group_size, mate, stranger, meets_as, no_counts}

-- the groups of the first n objects have one size
unfoldable pub sizes_alike : List ℕ → ℕ → ℕ → Bool
sizes_alike groups size n = all n (λ i. eqb (group_size groups i) size)

-- object i has, in the first n columns of a row of each table, the counts of its kind
unfoldable pub row_alike : GroupCounts → List ℕ → ℕ → List ℕ → List ℕ → ℕ → Bool
row_alike counts groups i c o n = all n (λ j. meets_as counts (one_group groups i j) (get_or c j 0) (get_or o j 0))

-- so has every one of the first v
unfoldable pub tables_alike : GroupCounts → List ℕ → List (List ℕ) → List (List ℕ) → ℕ → Bool
tables_alike counts groups c o v = all v (λ i. row_alike counts groups i (get_or c i []) (get_or o i []) i)

-- the counts in two tables of object 0 with its mate, and with its stranger
abbrev pub table_counts : List ℕ → List (List ℕ) → List (List ℕ) → GroupCounts
table_counts groups c o =
    record { l11 = entry c (mate groups) 0; l21 = entry o (mate groups) 0; l12 = entry c (stranger groups) 0; l22 = entry o (stranger groups) 0 }

-- what a refused call hands back
abbrev pub no_grouped : Verdict → Grouped
no_grouped verdict = record { verdict = verdict; counts = no_counts }

-- the verdict over two tables of v objects in groups
unfoldable pub tables_grouped : ℕ → List ℕ → List (List ℕ) → List (List ℕ) → Grouped
tables_grouped v groups c o = let counts = table_counts groups c o in
    let verdict = test (tables_alike counts groups c o v) 6 0 in
    record { verdict = verdict; counts = given verdict counts no_counts }
