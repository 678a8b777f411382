-- A number that a head tells, where it keeps to the sizes. Assumes nothing.
use Rattle.std.specs.Prelude.{ℕ, cond}
use Rattle.records.specs.declared.Head.{Head}
use Rattle.meaning.specs.Design.{sized}

-- x for a head within the sizes, 0 for any other
abbrev pub within : Head → ℕ → ℕ
within h x = cond (sized h) x 0
