-- Sums of squares as a loop builds them, in two words. Assumes nothing.
use mathlib.Core.Path.{◌≡◌, refl, sym, ap, ap₂, ◌∙◌}
use mathlib.Core.List.{List}
use Prim.Native.Nat.{ℕ, ◌+◌, ◌*◌}
use lib.ListN.{get_or}
use lib.IntN.{ℤ, pos, nat_abs}
use Rattle.algebra.specs.Ranges.{sum_ℕ}
use Rattle.algebra.proofs.Sums.{sumℕ-more}
use Rattle.algebra.proofs.Bounds.{sum-squares}
use Rattle.records.specs.declared.Head.{Head}
use Rattle.records.specs.declared.Wide.{Wide}
use Rattle.meaning.specs.Design.{blocks}
use Rattle.meaning.specs.Analysis.{reading, squared_readings}
use Rattle.meaning.specs.Wide.{value, wide, wide_zero}
use Rattle.arithmetic.proofs.Words.{wide_add}

-- the squares of the first n numbers of a list, added
abbrev pub squares : List ℤ → ℕ → ℕ
squares l n = sum_ℕ n (λ i. nat_abs (get_or l i (pos 0)) * nat_abs (get_or l i (pos 0)))

-- of none it is 0
pub squares-none : (l : List ℤ) → wide_zero ≡ wide (squares l 0)
unfolding sum_ℕ wide
squares-none l = refl

-- one number more, in words: whatever the sum is, what is above its words is never missed
pub squares-more : (l : List ℤ) (n : ℕ) {sum next : Wide} {size : ℕ} → sum ≡ wide (squares l n) → size ≡ nat_abs (get_or l n (pos 0))
    → next ≡ wide (value sum + size * size) → next ≡ wide (squares l (n + 1))
squares-more l n {sum} {next} {size} e s f =
    let x = nat_abs (get_or l n (pos 0)) in
    f ∙ ap₂ (λ (w : Wide) (k : ℕ). wide (value w + k * k)) e s ∙ wide_add (squares l n) (x * x) ∙ ap wide (sym (sumℕ-more n _))

-- the squared readings of the definition
pub readings-squares : (h : Head) (y : List ℤ) → nat_abs (squared_readings h y) ≡ squares y (blocks h)
unfolding squared_readings
readings-squares h y = ap nat_abs (sum-squares (blocks h) (reading y))
