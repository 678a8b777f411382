-- `columns::put_name_of`: no name, or its eight bytes as they are shown. Assumes nothing.
use mathlib.Core.Path.{◌≡◌, ap}
use Prim.Native.Nat.{ℕ}
use native.Mathlib.Omega.{arith}
use Rattle.algebra.proofs.Writing.{nothing, named}
use Rattle.meaning.specs.Certificate.{name_from}
use Rattle.listing.proofs.columns.put_name_of.Goals as goal

pub returns-then-names-eq0 : goal.returns-then-names-eq0
returns-then-names-eq0 c =
    let a = c.args in
    let none : 0 ≡ a.names = omega arith in
    named (nothing _ _) (ap (λ (n : ℕ). name_from a.bytes.now n a.object) none)
