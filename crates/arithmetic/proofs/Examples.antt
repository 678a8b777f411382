-- Worked cases, which compute: 2 / 3, -1 / 3 and the ends of the exact range as f64s; halves, thirds and the outside of the range in hundredths;
-- quotients of numbers of two words, and the range of a spread, at their ends. Assumes nothing.
use mathlib.Core.Path.{◌≡◌, refl}
use mathlib.Core.Bool.{Bool, true, false, not, ◌&&◌}
use mathlib.Core.List.{List, [], ◌∷◌}
use Prim.Native.Nat.{ℕ, ◌+◌, ◌*◌, ◌^◌}
use lib.Dec.{eqb}
use lib.IntN.{ℤ, pos, negsuc}
use lib.Ieee.{fin, round}
use Rattle.algebra.specs.Ranges.{eq_z}
use Rattle.meaning.specs.Wide.{wide}
use Rattle.arithmetic.specs.declared.wide.Divided.{Divided}
use Rattle.arithmetic.specs.Quotient.{exact, quotient_of, hundredths_of}
use Rattle.arithmetic.specs.Division.{divided}
use Rattle.arithmetic.specs.Hundredths.{ranged}

-- 2 / 3
two-thirds : quotient_of (pos 2) 3 ≡ fin false 6004799503160661 (negsuc 52)
unfolding quotient_of exact round
two-thirds = refl

-- -1 / 3
minus-third : quotient_of (negsuc 0) 3 ≡ fin true 6004799503160661 (negsuc 53)
unfolding quotient_of exact round
minus-third = refl

-- the largest two numbers of the range
above-one : quotient_of (pos 9007199254740991) 9007199254740990 ≡ fin false 4503599627370497 (negsuc 51)
unfolding quotient_of exact round
above-one = refl

-- numerator, denominator, hundredths
record Row : Type 0 where
  top : ℤ
  bottom : ℕ
  hundredths : ℤ

-- a row from its three numbers
abbrev row : ℤ → ℕ → ℤ → Row
row a d k = record { top = a; bottom = d; hundredths = k }

-- 0.5, 1.5, 2.5 to the even one, below zero too; a third, two thirds; outside the range 0
abbrev rows : List Row
rows =
    row (pos 1) 200 (pos 0) ∷ row (pos 3) 200 (pos 2) ∷ row (pos 5) 200 (pos 2) ∷ row (negsuc 0) 200 (pos 0) ∷ row (negsuc 2) 200 (negsuc 1)
    ∷ row (negsuc 4) 200 (negsuc 1) ∷ row (pos 1) 3 (pos 33) ∷ row (negsuc 1) 3 (negsuc 66) ∷ row (pos 1) 0 (pos 0) ∷ row (pos 9007199254740992) 1 (pos 0)
    ∷ row (pos 9007199254740991) 1 (pos 900719925474099100) ∷ row (pos 1) 9007199254740992 (pos 0) ∷ []

-- a row agrees with the definition
abbrev agrees : Row → Bool
unfolding hundredths_of exact
agrees r = eq_z (hundredths_of r.top r.bottom) r.hundredths

-- all rows do
abbrev every : List Row → Bool
every [] = true
every (r ∷ rs) = agrees r && every rs

-- they do
hundredths-rows : every rows ≡ true
unfolding hundredths_of exact
hundredths-rows = refl

-- whether a quotient has the words h and l, and the rest r
abbrev leaves : Divided → ℕ → ℕ → ℕ → Bool
leaves d h l r = eqb d.quotient.high h && eqb d.quotient.low l && eqb d.rest r

-- inside the range, by 0, and by the first number that is too large
quotients : (
    leaves (divided (2 ^ 64 * 7 + 1) 7) 1 0 1
    && leaves (divided (2 ^ 100) 10) 6871947673 11068046444225730969 6
    && leaves (divided 5 0) 0 0 0
    && leaves (divided 5 4294967296) 0 0 0
    && leaves (divided 5 4294967295) 0 0 5) ≡ true
unfolding divided wide
quotients = refl

-- the corners of the range of a spread, and one past each
ranges : (
    ranged 9671406556917033397649407 2600 83200
    && ranged 0 1 0
    && not (ranged 9671406556917033397649408 2600 83200)
    && not (ranged 0 0 0)
    && not (ranged 0 2601 0)
    && not (ranged 0 1 83201)) ≡ true
unfolding ranged
ranges = refl
