-- The standard uncertainty for every Q, t·v·beta, v·beta, f and factor: none outside a range that every accepted job keeps. Assumes nothing.
use Rattle.std.specs.Prelude.{Option, None, ℕ, Bool, cond, ◌&&◌, ltb, leb}
use Rattle.records.specs.declared.Uncertainty.{Uncertainty}
use Rattle.meaning.specs.Certificate.{uncertainty_from}
use Rattle.arithmetic.specs.Hundredths.{ranged}

-- that range: the spread's, with t·v·beta from 1 to 130,000 and the factor at most 51
unfoldable pub stated : ℕ → ℕ → ℕ → ℕ → ℕ → Bool
stated q tvb vbeta freedom factor = (ltb 0 tvb && (leb tvb 130000 && leb factor 51)) && ranged q vbeta freedom

-- the standard uncertainty; none outside the range
unfoldable pub uncertainty_in : ℕ → ℕ → ℕ → ℕ → ℕ → Option Uncertainty
uncertainty_in q tvb vbeta freedom factor = cond (stated q tvb vbeta freedom factor) (uncertainty_from q tvb vbeta freedom factor) None
