-- Sums, statements and searches over the numbers below n. Assumes nothing.
use Rattle.std.specs.Prelude.{ℕ, zero, suc, ◌+◌, Bool, true, false, cond, ◌&&◌, eqb, ℤ, pos, negsuc, ◌+ℤ◌}

-- f 0 + .. + f (n - 1), of whole numbers with a sign
unfoldable pub sum : ℕ → (ℕ → ℤ) → ℤ
sum zero f = pos 0
sum (suc n) f = sum n f +ℤ f n

-- f 0 + .. + f (n - 1), of numbers from 0 on
unfoldable pub sum_ℕ : ℕ → (ℕ → ℕ) → ℕ
sum_ℕ zero f = 0
sum_ℕ (suc n) f = sum_ℕ n f + f n

-- whether p holds at every number below n
abbrev pub all : ℕ → (ℕ → Bool) → Bool
all zero p = true
all (suc n) p = p n && all n p

-- of the c numbers from i on, the first at which p holds, or i + c where there is none
unfoldable pub first_from : (ℕ → Bool) → ℕ → ℕ → ℕ
first_from p i zero = i
first_from p i (suc c) = let later = first_from p (suc i) c in cond (p i) i later

-- whether two whole numbers are equal, for a table of examples
abbrev pub eq_z : ℤ → ℤ → Bool
eq_z (pos a) (pos b) = eqb a b
eq_z (pos a) (negsuc b) = false
eq_z (negsuc a) (pos b) = false
eq_z (negsuc a) (negsuc b) = eqb a b
