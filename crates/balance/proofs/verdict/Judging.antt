-- One turn of the test over two tables. Assumes nothing.
use Prim.Native.Nat.{ℕ, ◌+◌, ◌<◌}
use mathlib.Core.Path.{◌≡◌, refl}
use mathlib.Core.Bool.{true, false}
use mathlib.Core.List.{List, []}
use lib.ListN.{get_or}
use Rattle.algebra.proofs.Tests.{all_more, all_fails}
use Rattle.balance.specs.Tables.{row_even, tables_even}

module _ (c o : List (List ℕ)) (l1 l2 : ℕ) where
  -- no row, as the loop begins
  pub tables_none : tables_even c o l1 l2 0 ≡ true
  unfolding tables_even
  tables_none = refl

  -- one row more
  pub tables_more : (i : ℕ) → tables_even c o l1 l2 i ≡ true → row_even (get_or c i []) (get_or o i []) l1 l2 0 i ≡ true → tables_even c o l1 l2 (i + 1) ≡ true
  unfolding tables_even
  tables_more i before here = all_more i _ before here

  -- a row that fails
  pub tables_fail : (v i : ℕ) → i < v → row_even (get_or c i []) (get_or o i []) l1 l2 0 i ≡ false → tables_even c o l1 l2 v ≡ false
  unfolding tables_even
  tables_fail v i l here = all_fails v i _ l here
