-- The slices of an accepted job have the lengths that go with its sizes. Assumes nothing.
use mathlib.Core.Path.{◌≡◌}
use mathlib.Core.List.{List}
use Prim.Native.Nat.{ℕ}
use lib.IntN.{ℤ}
use lib.ListN.{length}
use Rattle.records.specs.declared.Head.{Head}
use Rattle.meaning.specs.Design.{blocks, list_length}
use Rattle.meaning.specs.Refusals.{accepted}
use Rattle.meaning.specs.Calls.{job_verdict}
use Rattle.laws.specs.Fits.{Fits}
use Rattle.laws.proofs.Chains.{job}

-- the sizes fit, and the slices have the lengths that go with them
abbrev pub Laid : Head → List ℕ → List ℤ → Type 0
Laid h d y = (Fits h) × (length d ≡ list_length h) × (length y ≡ blocks h)

-- so it is in an accepted job
pub laid : (h : Head) (d : List ℕ) (y : List ℤ) (w : ℕ) (M : ℤ) → job_verdict h d y w M ≡ accepted → Laid h d y
laid h d y w M e =
    let measures = (job h d y w M e).measures in
    (measures.design.sizes, measures.design.long, measures.readings.readings-long)
