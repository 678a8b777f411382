use Rattle.std.proofs.Common.{◌≡◌, ℕ, ◌<◌, eqb, false}
use Rattle.meaning.specs.Design.{plus}
use Rattle.design.proofs.addition.Addition.back.Given as goal

-- no shift before takes x to 0
abbrev pub invariant-loop-shift : goal.invariant-loop-shift
invariant-loop-shift l = (k : ℕ) → k < l.shift → eqb (plus l.self.head l.x k) 0 ≡ false
