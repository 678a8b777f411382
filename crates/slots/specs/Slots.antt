-- The slots of each answer, in their order. Assumes nothing.
use Rattle.std.specs.Prelude.{Some, Option, None, ℕ, List, [], ◌∷◌, Float}
use Rattle.records.specs.declared.Parameters.{Parameters}
use Rattle.records.specs.declared.Spread.{Spread}
use Rattle.records.specs.declared.Spreading.{Spreading}
use Rattle.records.specs.declared.Uncertainty.{Uncertainty}
use Rattle.meaning.specs.Publishing.{float_zero}
use Rattle.records.specs.declared.Solved.{Solved}
use Rattle.records.specs.declared.JobRead.{JobRead}
use Rattle.records.specs.declared.SecondRead.{SecondRead}

-- the parameters of a design: v, b, r, p, L1, L2
abbrev pub parameter_slots : Parameters → List ℕ
parameter_slots p = p.v ∷ p.b ∷ p.r ∷ p.p ∷ p.l1 ∷ p.l2 ∷ []

-- 1 where there is a spread, and 0 where there is none
abbrev pub has_spread : Option Spread → ℕ
has_spread (Some spread) = 1
has_spread None = 0

-- a standard uncertainty: its hundredths, 0 where none is stated, and 1 where one is, else 0; its f64, 0.0 where none is
abbrev pub stated_slots : Option Uncertainty → List ℕ
stated_slots (Some u) = u.hundredths ∷ 1 ∷ []
stated_slots None = 0 ∷ 0 ∷ []

abbrev pub stated_value : Option Uncertainty → Float
stated_value (Some u) = u.value
stated_value None = float_zero

-- what a spread is made from: Q in two words, high first, v·beta, f, hundredths, whether there is a spread
abbrev pub spreading_slots : Spreading → List ℕ
spreading_slots t = t.q.high ∷ t.q.low ∷ t.vbeta ∷ t.freedom ∷ t.hundredths ∷ has_spread t.spread ∷ []

-- a job worked out: the parameters, the denominator of every value, what the spread is made from
abbrev pub solved_slots : Solved → List ℕ
solved_slots s = let p = s.parameters in
    p.v ∷ p.b ∷ p.r ∷ p.p ∷ p.l1 ∷ p.l2 ∷ s.denominator ∷ spreading_slots s.spreading

-- a job that was read: n, flag, p, m, where the blocks and the readings start, the restraint set
abbrev pub read_slots : JobRead → List ℕ
read_slots j = let h = j.head in
    h.n ∷ h.flag ∷ h.p ∷ h.m ∷ j.blocks_at ∷ j.readings_at ∷ j.set ∷ []

-- a file of the second edition that was read: the same of its job, and where the names stand
abbrev pub second_slots : SecondRead → List ℕ
second_slots r = let j = r.job in let h = j.head in
    h.n ∷ h.flag ∷ h.p ∷ h.m ∷ j.blocks_at ∷ j.readings_at ∷ j.set ∷ r.names_at ∷ []
