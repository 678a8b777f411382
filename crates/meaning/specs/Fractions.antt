-- Any set of values, in fractions each with its own denominator, and how far it is from the readings. Assumes nothing.
use Rattle.std.specs.Prelude.{ℕ, zero, suc, ◌*◌, ◌<◌, List, [], ◌∷◌, ◌≡◌, ℤ, pos, ◌+ℤ◌, ◌-ℤ◌, ◌*ℤ◌, ◌≤ℤ◌, ◌<ℤ◌}
use Rattle.records.specs.declared.Head.{Head}
use Rattle.meaning.specs.Design.{blocks, left, right}
use Rattle.meaning.specs.Analysis.{sq, reading, member, numerator_of, denominator_of}
use Rattle.meaning.specs.Publishing.{published}

-- a fraction, which is never reduced
pub record Fraction : Type 0 where
  pub top : ℤ
  pub bottom : ℕ

-- the whole number a as a fraction
abbrev pub whole : ℤ → Fraction
whole a = record { top = a; bottom = 1 }

-- x plus y, x less y, and x squared
infixl 30 ◌+ᶠ◌ ◌-ᶠ◌
infix 20 ◌=ᶠ◌ ◌≤ᶠ◌ ◌<ᶠ◌
abbrev pub ◌+ᶠ◌ : Fraction → Fraction → Fraction
x +ᶠ y = record { top = x.top *ℤ pos y.bottom +ℤ y.top *ℤ pos x.bottom; bottom = x.bottom * y.bottom }

abbrev pub ◌-ᶠ◌ : Fraction → Fraction → Fraction
x -ᶠ y = record { top = x.top *ℤ pos y.bottom -ℤ y.top *ℤ pos x.bottom; bottom = x.bottom * y.bottom }

abbrev pub squared : Fraction → Fraction
squared x = record { top = sq x.top; bottom = x.bottom * x.bottom }

-- x and y are the same fraction; x is at most y; x is below y (bottoms are above 0)
abbrev pub ◌=ᶠ◌ : Fraction → Fraction → Type 0
x =ᶠ y = x.top *ℤ pos y.bottom ≡ y.top *ℤ pos x.bottom

abbrev pub ◌≤ᶠ◌ : Fraction → Fraction → Type 0
x ≤ᶠ y = (x.top *ℤ pos y.bottom) ≤ℤ (y.top *ℤ pos x.bottom)

abbrev pub ◌<ᶠ◌ : Fraction → Fraction → Type 0
x <ᶠ y = (x.top *ℤ pos y.bottom) <ℤ (y.top *ℤ pos x.bottom)

-- f 0 plus .. plus f (n - 1)
unfoldable pub summed : ℕ → (ℕ → Fraction) → Fraction
summed zero f = whole (pos 0)
summed (suc n) f = summed n f +ᶠ f n

-- the sum of the values u over a list of objects
unfoldable pub values_along : (ℕ → Fraction) → List ℕ → Fraction
values_along u [] = whole (pos 0)
values_along u (x ∷ xs) = u x +ᶠ values_along u xs

-- the deviation of block k under the values u: the reading less (the values over the left minus the values over the right)
unfoldable pub deviation_under : Head → List ℕ → List ℤ → (ℕ → Fraction) → ℕ → Fraction
deviation_under h d y u k = whole (reading y k) -ᶠ (values_along u (left h d k) -ᶠ values_along u (right h d k))

-- the sum of the squared deviations of the values u, over all blocks
unfoldable pub squares_under : Head → List ℕ → List ℤ → (ℕ → Fraction) → Fraction
squares_under h d y u = summed (blocks h) (λ k. squared (deviation_under h d y u k))

-- the values u keep the restraint: over the set w they add to M
abbrev pub KeepsRestraint : ℕ → ℕ → ℤ → (ℕ → Fraction) → Type 0
KeepsRestraint v w M u = summed v (λ i. record { top = pos (member w i) *ℤ (u i).top; bottom = (u i).bottom }) =ᶠ whole M

-- a set of v values: every denominator is above 0
abbrev pub Proper : ℕ → (ℕ → Fraction) → Type 0
Proper v u = (i : ℕ) → i < v → 0 < (u i).bottom

-- the exact values of a job
abbrev pub exact_values : Head → List ℕ → List ℤ → ℕ → ℤ → ℕ → Fraction
exact_values h d y w M i = record { top = numerator_of h d y w M i; bottom = denominator_of h d w }

-- the published values of a job, in hundredths of a count
abbrev pub published_values : Head → List ℕ → List ℤ → ℕ → ℤ → ℕ → Fraction
published_values h d y w M i = record { top = published h d y w M i; bottom = 100 }
