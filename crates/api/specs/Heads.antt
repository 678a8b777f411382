-- A head from the four numbers that a call takes. Assumes nothing.
use Rattle.std.specs.Prelude.{ℕ}
use Rattle.records.specs.declared.Head.{Head}

abbrev pub head_from : ℕ → ℕ → ℕ → ℕ → Head
head_from n flag p m = record { n = n; flag = flag; p = p; m = m }
