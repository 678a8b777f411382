-- `listing::columns::put_named`: the name, and what it leaves of its column.
use mathlib.Core.Path.{ap, ◌∙◌}
use mathlib.Core.List.{◌++◌}
use Prim.Native.Nat.{ℕ}
use native.Mathlib.Omega.{arith}
use Rattle.algebra.proofs.Writing.{◌then◌, named}
use Rattle.meaning.specs.Certificate.{spaces, name_from}
use Rattle.listing.proofs.columns.Filling.{left_is}
use Rattle.listing.proofs.columns.put_named.Goals as goal

pub returns : goal.returns
returns c =
    let a = c.args in
    named (c.put_name_of-end.ensures then c.put_spaces.ensures)
    (search (ap (λ (n : ℕ). name_from a.bytes.now a.names a.object ++ spaces n)
    (c.saturating_sub.ensures ∙ left_is 33 (omega arith) c.put_name_of-length.ensures)))
