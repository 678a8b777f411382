-- DEMAND 3. For an accepted job the exact values keep the restraint, and every other set that keeps it, in fractions of any denominator, has a larger sum
-- of squared deviations. The certificate adds up: the members' published values add to M. Each published value is less than a hundredth of a count
-- away for members, at most half a hundredth for the others; the published set's excess is at most beta·v²/10,000. It speaks of jobs with at least two
-- standards, as every accepted job has (02, P5). Assumes nothing.
use Rattle.std.specs.Prelude.{cond, List, ◌≡◌, ℕ, ◌*◌, ◌%◌, ◌≤◌, ◌<◌, ltb, pos, nat_abs, ◌+ℤ◌, ◌-ℤ◌, ◌*ℤ◌}
use Rattle.algebra.specs.Ranges.{sum_ℕ}
use Rattle.meaning.specs.Design.{beta}
use Rattle.meaning.specs.Analysis.{member, members, restrained, denominator_of}
use Rattle.meaning.specs.Publishing.{floor, part, rank, shortfall}
use Rattle.meaning.specs.Fractions.{Fraction, ◌+ᶠ◌, ◌=ᶠ◌, ◌≤ᶠ◌, ◌<ᶠ◌, Proper}
use Rattle.meaning.specs.Refusals.{accepted}
use Rattle.meaning.specs.File.{read_verdict}
use Rattle.demands.specs.Job.{Job, job_in, v, verdict_of, exact, published, squares, Keeps}
use Rattle.demands.specs.Fractions.{distance}

-- ---- the numbers of the demand, which stand here alone

-- a hundredth of a count, and half of one
abbrev pub hundredth : Fraction
hundredth = record { top = pos 1; bottom = 100 }

abbrev pub half_hundredth : Fraction
half_hundredth = record { top = pos 1; bottom = 200 }

-- beta·v²/10,000
abbrev pub excess : Job → Fraction
excess j = record { top = pos (beta j.head j.initial * v j * v j); bottom = 10000 }

-- object i is a member of the restraint set
abbrev pub Member : Job → ℕ → Type 0
Member j i = member j.set i ≡ 1

-- what the members' floors leave of 100·M, how far 100 times the value of object i is above its floor, and whether member i gains a hundredth
abbrev pub shortfall_of : Job → ℕ
shortfall_of j = shortfall (v j) j.set j.sum (λ i. (exact j i).top) (denominator_of j.head j.initial j.set)

abbrev pub part_of : Job → ℕ → ℕ
part_of j i = part (pos 100 *ℤ (exact j i).top) (exact j i).bottom

abbrev pub gains : Job → ℕ → ℕ
gains j i = cond (ltb (rank (v j) j.set (part_of j) i) (shortfall_of j)) 1 0

-- ---- what an accepted job keeps

-- the sets u and x of n values differ, as fractions, in some object
abbrev pub Differ : ℕ → (ℕ → Fraction) → (ℕ → Fraction) → Type 0
Differ n u x = (i : ℕ) × (i < n) × (u i =ᶠ x i → ⊥)

pub record LeastSquares (j : Job) : Type 0 where
  -- The exact values keep the restraint,
  pub exact_keeps : Keeps j (exact j)
  -- and every other set that keeps it, in fractions of any denominator, has a larger sum of squared deviations
  pub every_other_is_larger : (u : ℕ → Fraction) → Proper (v j) u → Keeps j u → Differ (v j) u (exact j) → squares j (exact j) <ᶠ squares j u
  -- (the exact values are such a set, and every sum is a fraction with a denominator above 0)
  pub exact_proper : Proper (v j) (exact j)
  pub squares_proper : (u : ℕ → Fraction) → Proper (v j) u → 0 < (squares j u).bottom
  -- The certificate adds up, with no mass out of nowhere: the members' published values keep the restraint,
  pub published_keeps : Keeps j (published j)
  -- (their hundredths add to exactly 100·M: the shortfall is at least 0, below t, and exactly that many members gain one)
  pub column_adds_up : restrained (v j) j.set (λ i. (published j i).top) ≡ pos 100 *ℤ j.sum
  pub shortfall_at_least :
      pos 100 *ℤ j.sum -ℤ restrained (v j) j.set (λ i. floor (pos 100 *ℤ (exact j i).top) (exact j i).bottom) ≡ pos (shortfall_of j)
  pub shortfall-below : shortfall_of j < members (v j) j.set
  pub as_many_gain : sum_ℕ (v j) (λ i. member j.set i * gains j i) ≡ shortfall_of j
  -- (a member's hundredths are its floor, below zero too, and the one that it gains; the largest parts gain first, the lowest object first among equals)
  pub members_are : (i : ℕ) → Member j i → (published j i).top ≡ floor (pos 100 *ℤ (exact j i).top) (exact j i).bottom +ℤ pos (gains j i)
  pub larger_part_first : (i k : ℕ) → Member j i → Member j k → part_of j k < part_of j i → gains j k ≤ gains j i
  pub lowest_among_equals : (i k : ℕ) → Member j i → Member j k → part_of j k ≡ part_of j i → i < k → gains j k ≤ gains j i
  -- Each published value is less than a hundredth of a count away for members,
  pub members-near : (i : ℕ) → Member j i → distance (published j i) (exact j i) <ᶠ hundredth
  -- half a hundredth for the others;
  pub others-near : (i : ℕ) → (Member j i → ⊥) → distance (published j i) (exact j i) ≤ᶠ half_hundredth
  -- (where it is that far, its hundredths are even)
  pub half_to_even : (i : ℕ) → (Member j i → ⊥) → distance (published j i) (exact j i) =ᶠ half_hundredth → nat_abs (published j i).top % 2 ≡ 0
  -- the published set's excess is at most beta·v²/10,000, and never below 0
  pub excess_at_most : squares j (published j) ≤ᶠ squares j (exact j) +ᶠ excess j
  pub excess_at_least : squares j (exact j) ≤ᶠ squares j (published j)

-- ---- for an accepted job: in a file, and in a direct call

abbrev pub Demand3 : List ℕ → Type 0
Demand3 s = read_verdict s ≡ accepted → LeastSquares (job_in s)

abbrev pub Demand3Calls : Job → Type 0
Demand3Calls j = verdict_of j ≡ accepted → LeastSquares j
