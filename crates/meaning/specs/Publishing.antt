-- What is handed out for a value: its published hundredths and its f64; and the spread as an enum. Assumes nothing.
use Rattle.std.specs.Prelude.{None, Some, Option, ℕ, zero, suc, ◌+◌, ◌-◌, ◌*◌, ◌/◌, ◌%◌, ◌^◌, ◌≤◌, Bool, true, false, cond, ◌&&◌, ◌||◌, List, ◌≡◌, ℤ, pos, negsuc, neg_ℤ, nat_abs, ◌+ℤ◌, ◌-ℤ◌, ◌*ℤ◌, eqb, ltb, Float}
use Rattle.std.specs.Float.{nan, inf, fin, binary64}
use Rattle.std.specs.Float.Ieee.{up, down, round}
use Rattle.algebra.specs.Ranges.{sum_ℕ}
use Rattle.records.specs.declared.Head.{Head}
use Rattle.records.specs.declared.Value.{Value}
use Rattle.records.specs.declared.Spread.{Spread}
use Rattle.meaning.specs.Design.{objects}
use Rattle.meaning.specs.Analysis.{member, restrained, numerator_of, denominator_of, factor}

-- whether x is below zero
abbrev pub minus : ℤ → Bool
minus (pos n) = false
minus (negsuc n) = true

-- m with a sign
abbrev pub signed : Bool → ℕ → ℤ
signed false m = pos m
signed true m = neg_ℤ (pos m)

-- the nearest whole number to a / d, an exact half to the even one
abbrev pub nearest : ℕ → ℕ → ℕ
nearest a d = cond (ltb (2 * (a % d)) d) (a / d) (cond (ltb d (2 * (a % d))) (a / d + 1) (a / d + a / d % 2))

-- the nearest whole number to 100 times the fraction a / d, below zero as above
abbrev pub nearest_hundredths : ℤ → ℕ → ℤ
nearest_hundredths a d = signed (minus a) (nearest (100 * nat_abs a) d)

-- the whole number at or below a / d, below zero too
abbrev pub floor : ℤ → ℕ → ℤ
floor (pos n) d = pos (n / d)
floor (negsuc n) d = negsuc (n / d)

-- the fractional part of a / d, how far it is above its floor, in d-ths
abbrev pub part : ℤ → ℕ → ℕ
part (pos n) d = n % d
part (negsuc n) d = d - 1 - n % d

-- 1 where object j is served before object i: its fractional part is larger, or as large and its number lower
abbrev pub before : (ℕ → ℕ) → ℕ → ℕ → ℕ
before parts j i = cond (ltb (parts i) (parts j) || eqb (parts j) (parts i) && ltb j i) 1 0

-- how many of the members of the set w are served before object i
unfoldable pub rank : ℕ → ℕ → (ℕ → ℕ) → ℕ → ℕ
rank v w parts i = sum_ℕ v (λ j. member w j * before parts j i)

-- the shortfall to 100·M: what the members' floors of 100 times their values, a i / e, leave of it. It is never negative
unfoldable pub shortfall : ℕ → ℕ → ℤ → (ℕ → ℤ) → ℕ → ℕ
shortfall v w M a e = nat_abs (pos 100 *ℤ M -ℤ restrained v w (λ i. floor (pos 100 *ℤ a i) e))

-- the hundredths of a member: its floor, and one more where those that are served before it leave some of the shortfall
abbrev pub member_hundredths : ℕ → ℕ → ℤ → (ℕ → ℤ) → ℕ → ℕ → ℤ
member_hundredths v w M a e i =
    floor (pos 100 *ℤ a i) e +ℤ pos (cond (ltb (rank v w (λ j. part (pos 100 *ℤ a j) e) i) (shortfall v w M a e)) 1 0)

-- the hundredths of object i of v, with the values a i / e: a member of the restraint set w takes part in the sum M, any other object rounds alone
abbrev pub hundredths_in : ℕ → ℕ → ℤ → (ℕ → ℤ) → ℕ → ℕ → ℤ
hundredths_in v w M a e i = cond (eqb (member w i) 1) (member_hundredths v w M a e i) (nearest_hundredths (a i) e)

-- published: the hundredths of a count of object i in a job
unfoldable pub published : Head → List ℕ → List ℤ → ℕ → ℤ → ℕ → ℤ
published h d y w M i = hundredths_in (objects h) w M (numerator_of h d y w M) (denominator_of h d w) i

-- a / d as an f64: the one quotient, rounded once
abbrev pub float : ℤ → ℕ → Float
float a d = round binary64 (minus a) (nat_abs a) d

-- 0.0
abbrev pub float_zero : Float
float_zero = fin false 0 (pos 0)

-- the distance between two whole numbers
abbrev pub gap : ℕ → ℕ → ℕ
gap a b = a - b + (b - a)

-- x has the sign of a / d and is away from it by at most the size of a / d divided by 2 to the power bits, over whole numbers; the size of x is (m *
-- up e) / down e
abbrev pub Near : ℕ → Float → ℤ → ℕ → Type 0
Near bits nan a d = ⊥
Near bits (inf s) a d = ⊥
Near bits (fin s m e) a d = (s ≡ minus a) × (gap (m * up e * d) (nat_abs a * down e) * 2 ^ bits ≤ nat_abs a * down e)

-- the result of object i in a job, its variance factor over the value's own denominator; and that of a refusal
abbrev pub value_of : Head → List ℕ → List ℤ → ℕ → ℤ → ℕ → Value
value_of h d y w M i = let a = numerator_of h d y w M i in let e = denominator_of h d w in let n = factor h w i in
    record { numerator = a; denominator = e; hundredths = published h d y w M i; value = float a e; factor = n; factor_value = float (pos n) e }

abbrev pub no_value : Value
no_value = record { numerator = pos 0; denominator = 0; hundredths = pos 0; value = float_zero; factor = 0; factor_value = float_zero }

-- a spread by its f64 and its degrees of freedom, and none
abbrev pub spreads : Float → ℕ → Option Spread
spreads value freedom = Some (record { value = value; freedom = freedom })

abbrev pub no_spread : Option Spread
no_spread = None

-- the spread: k hundredths with f degrees of freedom; none where f is 0
abbrev pub spread_of : ℕ → ℕ → Option Spread
spread_of k zero = no_spread
spread_of k (suc f) = spreads (float (pos k) 100) (suc f)

-- the f64 of a spread; 0.0 for none
abbrev pub spread_value : Option Spread → Float
spread_value (Some spread) = spread.value
spread_value None = float_zero

-- the degrees of freedom of a spread; 0 for none
abbrev pub spread_freedom : Option Spread → ℕ
spread_freedom (Some spread) = spread.freedom
spread_freedom None = 0
