-- A claimed spread from the three numbers that a call takes. Assumes nothing.
use Rattle.std.specs.Prelude.{Option, None, ℕ, cond, eqb, Float}
use Rattle.records.specs.declared.Spread.{Spread}
use Rattle.meaning.specs.Publishing.{spreads}

-- none where the first is 0, else the spread with its degrees of freedom
abbrev pub claimed_from : ℕ → Float → ℕ → Option Spread
claimed_from has x f = cond (eqb has 0) None (spreads x f)
