-- A number of two words by a number of half a word. Assumes nothing.
use Rattle.std.specs.Prelude.{ℕ, ◌/◌, ◌%◌, ◌^◌, cond, ◌&&◌, ltb}
use Rattle.arithmetic.specs.declared.wide.Divided.{Divided}
use Rattle.meaning.specs.Wide.{wide, wide_zero}

-- a number by d and what is left, for d from 1 to 2 ^ 32 - 1; else 0 and 0
unfoldable pub divided : ℕ → ℕ → Divided
divided n d =
    cond (ltb 0 d && ltb d (2 ^ 32))
    (record { quotient = wide (n / d); rest = n % d })
    (record { quotient = wide_zero; rest = 0 })
