-- UNCERTAINTY PER OBJECT (02, P8). The result of an object has its variance factor: numerator t-1 for restraint members and t+1 for others, over t·v·beta,
-- with its f64 by one division. The factor equals the sum of squares of the coefficients with which the readings enter that value. Assumes nothing.
use Rattle.std.specs.Prelude.{List, ◌≡◌, ℕ, ◌+◌, ◌-◌, ◌*◌, ◌^◌, ◌<◌, ℤ, pos, ◌-ℤ◌}
use Rattle.meaning.specs.Design.{beta}
use Rattle.meaning.specs.Analysis.{reading, member, members, denominator_of, coefficient, factor}
use Rattle.meaning.specs.Publishing.{float, Near, value_of}
use Rattle.meaning.specs.Fractions.{Fraction, whole, ◌+ᶠ◌, squared, summed, exact_values}
use Rattle.meaning.specs.Refusals.{accepted}
use Rattle.meaning.specs.File.{read_verdict}
use Rattle.demands.specs.Job.{Job, job_in, v, b, verdict_of}
use Rattle.demands.specs.Fractions.{Same, ◌*ᶠ◌}
use Rattle.demands.specs.Demand3.{Member}

module _ (j : Job) where
  open j use {head as h, initial as d, readings as y, set as w, sum as M}

  -- t, and t·v·beta
  abbrev t : ℕ
  t = members (v j) w

  abbrev bottom : ℕ
  bottom = denominator_of h d w

  -- the coefficient of reading k in the value of object i, and the variance factor of object i
  abbrev pub coefficient_of : ℕ → ℕ → Fraction
  coefficient_of i k = record { top = coefficient h d w i k; bottom = bottom }

  abbrev pub factor_of : ℕ → Fraction
  factor_of i = record { top = pos (factor h w i); bottom = bottom }

  -- ---- what an accepted job keeps

  pub record Uncertainty : Type 0 where
    -- The coefficients are those with which the readings enter the values: for every set of readings, and every accepted sum, the value of object i is the
    -- sum over the blocks of coefficient times reading, plus M/t
    pub coefficients_are : (readings : List ℤ) (sum : ℤ) (i : ℕ) →
        Same (exact_values h d readings w sum i) (summed (b j) (λ k. coefficient_of i k *ᶠ whole (reading readings k)) +ᶠ record { top = sum; bottom = t })
    -- The variance factor: numerator t-1 for restraint members
    pub of_members : (i : ℕ) → Member j i → factor h w i ≡ t - 1
    -- and t+1 for others,
    pub of_others : (i : ℕ) → (Member j i → ⊥) → factor h w i ≡ t + 1
    -- over t·v·beta,
    pub over : bottom ≡ t * (v j * beta h d)
    -- with its f64 by one division of two whole numbers that convert without loss, as every f64 is made
    pub handed_out : (i : ℕ) → ((value_of h d y w M i).factor ≡ factor h w i) × ((value_of h d y w M i).factor_value ≡ float (pos (factor h w i)) bottom)
    pub without_loss : (i : ℕ) → (factor h w i < 2 ^ 53) × (bottom < 2 ^ 53)
    pub near : (i : ℕ) → Near 53 (value_of h d y w M i).factor_value (pos (factor h w i)) bottom
    -- A restraint covering all v objects uses t-1 throughout
    pub of_all : t ≡ v j → (i : ℕ) → i < v j → factor h w i ≡ t - 1
    -- The factor equals the sum of squares of the coefficients with which the readings enter that value
    pub sum_of_squares : (i : ℕ) → i < v j → Same (factor_of i) (summed (b j) (λ k. squared (coefficient_of i k)))
    -- (beyond the request: between two different objects the products of the coefficients add to 1 less how many of the two are members, over t·v·beta)
    pub sum_of_products : (i o : ℕ) → i < v j → o < v j → (i ≡ o → ⊥) →
        Same (record { top = pos 1 -ℤ pos (member w i + member w o); bottom = bottom }) (summed (b j) (λ k. coefficient_of i k *ᶠ coefficient_of o k))

-- ---- for an accepted job: in a file, and in a direct call

abbrev pub UncertaintyPerObject : List ℕ → Type 0
UncertaintyPerObject s = read_verdict s ≡ accepted → Uncertainty (job_in s)

abbrev pub UncertaintyPerObjectCalls : Job → Type 0
UncertaintyPerObjectCalls j = verdict_of j ≡ accepted → Uncertainty j
