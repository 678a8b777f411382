-- `listing::columns::put_count`: what the text leaves of its column, and the text.
use mathlib.Core.Path.{ap, ◌∙◌}
use mathlib.Core.List.{◌++◌}
use Prim.Native.Nat.{ℕ}
use native.Mathlib.Omega.{arith}
use Rattle.algebra.proofs.Writing.{◌then◌, named}
use Rattle.meaning.specs.Text.{digits}
use Rattle.meaning.specs.Certificate.{spaces}
use Rattle.listing.proofs.columns.Filling.{left_is}
use Rattle.listing.proofs.columns.put_count.Goals as goal

pub returns : goal.returns
returns c =
    let x = c.args.n in
    named (c.put_spaces-start.ensures then c.put_digits.ensures)
    (search (ap (λ (n : ℕ). spaces n ++ digits 20 x) (c.saturating_sub.ensures ∙ left_is 22 (omega arith) c.put_digits-length.ensures)))
