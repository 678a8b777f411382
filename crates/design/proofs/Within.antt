-- What a head within the sizes counts. Assumes nothing.
use mathlib.Core.Path.{◌≡◌, sym}
use mathlib.Core.Bool.{true}
use Prim.Native.Nat.{ℕ, ◌*◌, ◌≤◌}
use borrow.Author.Tests.{le-leb}
use lib.Dec.{leb}
use Rattle.records.specs.declared.Head.{Head}
use Rattle.meaning.specs.Design.{has_addition, objects, sized}
use Rattle.design.specs.Within.{within}
use Rattle.laws.specs.Fits.{Fits}
use Rattle.laws.proofs.Chains.{sized_yes}

-- within the sizes it is the number itself
pub within-sizes : (h : Head) (x : ℕ) → Fits h → within h x ≡ x
within-sizes h x f = rw (sym (sized_yes h f))

-- where every other size fits, the number of blocks decides
pub sized-by_blocks : (h : Head) → 3 ≤ h.n → h.n ≤ 50 → h.flag ≤ 3 → has_addition h ≡ true → objects h ≤ 50 → 1 ≤ h.p → 2 * h.p ≤ objects h
    → 1 ≤ h.m → h.m ≤ 64 → leb (h.m * h.n) 1300 ≡ sized h
unfolding sized
sized-by_blocks h a b c d e f g i j =
    rw (le-leb _ _ a, le-leb _ _ b, le-leb _ _ c, d, le-leb _ _ e, le-leb _ _ f, le-leb _ _ g, le-leb _ _ i, le-leb _ _ j)
