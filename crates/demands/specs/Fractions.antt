-- What the demands say of fractions, beside crates/meaning/specs/Fractions.antt. Assumes nothing.
use Rattle.std.specs.Prelude.{ℕ, ◌*◌, ◌<◌, ℤ, pos, nat_abs, ◌*ℤ◌}
use Rattle.meaning.specs.Fractions.{Fraction, ◌-ᶠ◌, ◌=ᶠ◌}

-- x and y are one fraction, and their denominators are above 0
pub record Same (x y : Fraction) : Type 0 where
  pub left-bottom : 0 < x.bottom
  pub right-bottom : 0 < y.bottom
  pub equal : x =ᶠ y

-- how far x is from y
abbrev pub distance : Fraction → Fraction → Fraction
distance x y = let z = x -ᶠ y in record { top = pos (nat_abs z.top); bottom = z.bottom }

-- x times y
infixl 40 ◌*ᶠ◌
abbrev pub ◌*ᶠ◌ : Fraction → Fraction → Fraction
x *ᶠ y = record { top = x.top *ℤ y.top; bottom = x.bottom * y.bottom }

-- x divided by n
abbrev pub divided_by : ℕ → Fraction → Fraction
divided_by n x = record { top = x.top; bottom = x.bottom * n }

-- so many hundredths of a count
abbrev pub hundredths : ℤ → Fraction
hundredths a = record { top = a; bottom = 100 }
