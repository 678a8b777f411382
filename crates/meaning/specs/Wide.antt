-- Numbers of two words of 64 bits, the high one first: the sums of squares and Q are handed out so. Assumes nothing.
use Rattle.std.specs.Prelude.{ℕ, ◌+◌, ◌*◌, ◌/◌, ◌%◌, ◌^◌}
use Rattle.records.specs.declared.Wide.{Wide}

-- the number that two words are
abbrev pub value : Wide → ℕ
value w = w.high * 2 ^ 64 + w.low

-- the two words of a number; what is above 128 bits is lost
unfoldable pub wide : ℕ → Wide
wide n = record { high = n / 2 ^ 64 % 2 ^ 64; low = n % 2 ^ 64 }

-- 0
abbrev pub wide_zero : Wide
wide_zero = record { high = 0; low = 0 }
