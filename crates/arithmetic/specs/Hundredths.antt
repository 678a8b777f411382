-- The spread for every Q, v·beta and f: its hundredths are 0 outside a range that every accepted job, and 64 of them pooled, keep. Assumes nothing.
use Rattle.std.specs.Prelude.{ℕ, ◌^◌, Bool, cond, ◌&&◌, ltb, leb}
use Rattle.records.specs.declared.Spreading.{Spreading}
use Rattle.records.specs.declared.Wide.{Wide}
use Rattle.meaning.specs.Analysis.{spread_hundredths}
use Rattle.meaning.specs.Publishing.{spread_of}
use Rattle.meaning.specs.Wide.{value}

-- that range: Q is below 2 ^ 83, v·beta is from 1 to 2600, and f is at most 83200, as for 64 jobs of 1300
unfoldable pub ranged : ℕ → ℕ → ℕ → Bool
ranged q vbeta freedom = ltb q (2 ^ 83) && (ltb 0 vbeta && (leb vbeta 2600 && leb freedom 83200))

-- k, from Q, v·beta and f; 0 outside the range
unfoldable pub hundredths_from : ℕ → ℕ → ℕ → ℕ
hundredths_from q vbeta freedom = cond (ranged q vbeta freedom) (spread_hundredths q vbeta freedom) 0

-- the spread, with all that it is made from
abbrev pub spreading_from : Wide → ℕ → ℕ → Spreading
spreading_from q vbeta freedom = let k = hundredths_from (value q) vbeta freedom in
    record { q = q; vbeta = vbeta; freedom = freedom; hundredths = k; spread = spread_of k freedom }
