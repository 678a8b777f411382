-- What a call from C returns: its verdict in one number of 64 bits. Assumes nothing.
use Rattle.std.specs.Prelude.{ℕ, ◌+◌, ◌*◌, ◌%◌, ◌^◌}
use Rattle.meaning.specs.Refusals.{Verdict, number, place}

-- a refusal as one number: its number in the lowest 8 bits, an index in the next 8, and its place in the other 48, which a place of the caller's own may exceed
abbrev pub coded : ℕ → ℕ → ℕ → ℕ
coded number index place = number + 2 ^ 8 * index + 2 ^ 16 * (place % 2 ^ 48)

-- a verdict as one number, 0 where it accepts: the index is 0, since a verdict has none (that of a pooled job stands beside its verdict: Pools)
abbrev pub told : Verdict → ℕ
told verdict = coded (number verdict) 0 (place verdict)
