-- `listing::columns::put_object`: the number, and what it leaves of its column.
use mathlib.Core.Path.{ap, ◌∙◌}
use mathlib.Core.List.{◌++◌}
use Prim.Native.Nat.{ℕ}
use native.Mathlib.Omega.{arith}
use Rattle.algebra.proofs.Writing.{◌then◌, named}
use Rattle.meaning.specs.Text.{digits}
use Rattle.meaning.specs.Certificate.{spaces}
use Rattle.listing.proofs.columns.Filling.{left_is}
use Rattle.listing.proofs.columns.put_object.Goals as goal

pub returns : goal.returns
returns c =
    let object = c.args.object in
    named (c.put_digits-end.ensures then c.put_spaces.ensures)
    (search (ap (λ (n : ℕ). digits 20 object ++ spaces n) (c.saturating_sub.ensures ∙ left_is 8 (omega arith) c.put_digits-length.ensures)))
