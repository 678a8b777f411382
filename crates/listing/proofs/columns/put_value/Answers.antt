-- `listing::columns::put_value`: what the text leaves of its column, and the text.
use mathlib.Core.Path.{ap, ◌∙◌}
use mathlib.Core.List.{◌++◌}
use Prim.Native.Nat.{ℕ}
use native.Mathlib.Omega.{arith}
use mir.Facts.{to_z-of_z}
use Rattle.algebra.proofs.Writing.{◌then◌, named}
use Rattle.meaning.specs.Certificate.{spaces, counts_text}
use Rattle.listing.proofs.columns.Filling.{left_is}
use Rattle.listing.proofs.columns.put_value.Goals as goal

pub returns : goal.returns
returns c =
    let read = to_z-of_z c.ranges.hundredths in
    named (c.put_spaces-start.ensures then c.put_counts.ensures) (rw read (search (ap (λ (n : ℕ). spaces n ++ counts_text c.args.hundredths)
    (c.saturating_sub.ensures ∙ left_is 22 (omega arith) (rw read at c.put_counts-length.ensures)))))
