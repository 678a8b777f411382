-- The tests of a block list past its length. Assumes nothing.
use mathlib.Core.Path.{◌≡◌, sym}
use Prim.Native.Nat.{ℕ}
use mathlib.Core.List.{List}
use lib.ListN.{length}
use lib.IntN.{ℤ}
use lib.Dec.{eqb}
use borrow.Author.Tests.{eq-eqb}
use Rattle.records.specs.declared.Head.{Head}
use Rattle.meaning.specs.Design.{sized, list_length}
use Rattle.meaning.specs.Refusals.{accepted, clean}
use Rattle.meaning.specs.Calls.{slices, design_verdict}
use Rattle.laws.proofs.Chains.{accepts, goes_on, test_yes, sized_yes, sliced}

-- past the lengths, the tests of a block list come to its bytes
pub design-clean : (h : Head) (d : List ℕ) (y : List ℤ) → slices h d y ≡ accepted → design_verdict h d ≡ clean h d
unfolding design_verdict
design-clean h d y e =
    let s = sliced h d y e in
    goes_on (clean h d) (accepts (test_yes (sized h) 4 0 (sym (sized_yes h s.sizes))) (test_yes (eqb (length d) (list_length h)) 3 0 (eq-eqb _ _ s.long)))
