-- The tests of two pair tables, and the judgement that follows from them. Assumes nothing.
use Rattle.std.specs.Prelude.{ℕ, ◌+◌, ◌-◌, ◌*◌, Bool, ◌&&◌, List, [], get_or, eqb}
use Rattle.algebra.specs.Ranges.{all}
use Rattle.records.specs.declared.Judged.{Judged}
use Rattle.records.specs.declared.Parameters.{Parameters}
use Rattle.meaning.specs.Refusals.{test}
use Rattle.meaning.specs.Calls.{given, no_parameters}
use Rattle.algebra.specs.Tables.{entry}

-- column j of a row of each table is l1 and l2
abbrev pub pair_even : List ℕ → List ℕ → ℕ → ℕ → ℕ → Bool
pair_even c o l1 l2 j = eqb (get_or c j 0) l1 && eqb (get_or o j 0) l2

-- so many columns of a row of each table, from one on, are l1 and l2
abbrev pub row_even : List ℕ → List ℕ → ℕ → ℕ → ℕ → ℕ → Bool
row_even c o l1 l2 from count = all count (λ k. pair_even c o l1 l2 (k + from))

-- every pair of the first v objects has the entries l1 and l2
unfoldable pub tables_even : List (List ℕ) → List (List ℕ) → ℕ → ℕ → ℕ → Bool
tables_even c o l1 l2 v = all v (λ i. row_even (get_or c i []) (get_or o i []) l1 l2 0 i)

-- the judgement of v objects in b blocks, p objects a side, where it was found whether every two share a side l1 times and oppose l2 times
unfoldable pub judged_by : Bool → ℕ → ℕ → ℕ → ℕ → ℕ → Judged
judged_by even v b p l1 l2 = let verdict = test even 6 0 in
    let parameters : Parameters = record { v = v; b = b; r = (l2 - l1) * (v - 1); p = p; l1 = l1; l2 = l2 } in
    record { verdict = verdict; parameters = given verdict parameters no_parameters }

-- the judgement over two tables: every pair has the entries of the objects 1 and 0
abbrev pub tables_judged : ℕ → ℕ → ℕ → List (List ℕ) → List (List ℕ) → Judged
tables_judged v b p c o = judged_by (tables_even c o (entry c 1 0) (entry o 1 0) v) v b p (entry c 1 0) (entry o 1 0)

-- the judgement over the row of object 0 in each table: each other object has the entries of the object 1
abbrev pub rows_judged : ℕ → ℕ → ℕ → List ℕ → List ℕ → Judged
rows_judged v b p c o = judged_by (row_even c o (get_or c 1 0) (get_or o 1 0) 1 (v - 1)) v b p (get_or c 1 0) (get_or o 1 0)
