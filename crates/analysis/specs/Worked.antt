-- Values and deviations as they are worked out from a room of totals and from words, and the record of a job. Assumes nothing.
use Rattle.std.specs.Prelude.{ℕ, ◌+◌, ◌-◌, ◌*◌, ◌^◌, ◌≤◌, ◌<◌, cond, ◌≡◌, List, get_or, eqb, ℤ, pos, ◌-ℤ◌, ◌*ℤ◌, nat_abs}
use Rattle.algebra.specs.Ranges.{sum_ℕ}
use Rattle.algebra.specs.Buffers.{over}
use Rattle.records.specs.declared.Head.{Head}
use Rattle.records.specs.declared.Parameters.{Parameters}
use Rattle.records.specs.declared.Solved.{Solved}
use Rattle.meaning.specs.Design.{objects, blocks}
use Rattle.meaning.specs.Analysis.{reading, members, restrained, numerator, denominator, freedom, member}
use Rattle.meaning.specs.Wide.{wide}
use Rattle.meaning.specs.Refusals.{accepted, sum_limit}
use Rattle.laws.specs.Fits.{Fits}
use Rattle.arithmetic.specs.Hundredths.{spreading_from}
use Rattle.weighing.specs.Verdicts.{weigh_verdict}
use Rattle.laws.specs.Limits.{total_limit, squares_limit}
use Rattle.weighing.specs.Developed.{total_in, squared_totals_in}

-- the total that stands at place i
abbrev pub total_at : List ℤ → ℕ → ℤ
total_at totals i = get_or totals i (pos 0)

-- the squares of the first b readings, added
abbrev pub squares_in : List ℤ → ℕ → ℕ
squares_in y b = sum_ℕ b (λ k. nat_abs (reading y k) * nat_abs (reading y k))

-- v totals, each in its range
pub record Totalled (totals : List ℤ) (v : ℕ) : Type 0 where
  pub few : v ≤ 50
  pub most : (i : ℕ) → i < v → nat_abs (total_at totals i) ≤ total_limit

-- every object of the word w has its place among 50 totals, and its total is in range
pub record Held (totals : List ℤ) (w : ℕ) : Type 0 where
  pub held : (i : ℕ) → member w i ≡ 1 → (i < 50) × (nat_abs (total_at totals i) ≤ total_limit)

-- the totals T over the objects of the word w, added
abbrev pub over_set : ℕ → (ℕ → ℤ) → ℤ
over_set w T = restrained 64 w T

-- the numerator of object i
abbrev pub numerator_in : (ℕ → ℤ) → ℕ → ℕ → ℕ → ℤ → ℕ → ℤ
numerator_in T v w vb M i = numerator (members v w) (T i) (over_set w T) vb M

-- the variance factor of object i, from the ones of the restraint set w
abbrev pub factor_in : ℕ → ℕ → ℕ
factor_in w i = let t = sum_ℕ 64 (member w) in cond (eqb (member w i) 1) (t - 1) (t + 1)

-- the totals over the left word of block k minus those over the right one
abbrev pub fitted_in : List ℕ → (ℕ → ℤ) → ℕ → ℤ
fitted_in words T k = over_set (get_or words (2 * k) 0) T -ℤ over_set (get_or words (2 * k + 1) 0) T

-- the deviation numerator of block k
abbrev pub deviation_in : List ℕ → List ℤ → (ℕ → ℤ) → ℕ → ℕ → ℤ
deviation_in words y T vb k = pos vb *ℤ reading y k -ℤ fitted_in words T k

-- v·beta, its squared readings and its squared totals: Q is not below 0, nor is f
pub record Measured (h : Head) (vb readings totals : ℕ) : Type 0 where
  pub sizes : Fits h
  pub vbeta-most : vb ≤ 2600
  pub readings-most : readings ≤ squares_limit
  pub q_some : totals ≤ vb * readings
  pub freedom-some : objects h ≤ blocks h + 1

-- v·beta, from the parameters of a design
abbrev pub scale_in : Parameters → ℕ
scale_in p = p.v * (p.l2 - p.l1)

-- a job with its parameters and its words, all in their ranges
pub record Workable (h : Head) (y : List ℤ) (w : ℕ) (M : ℤ) (p : Parameters) (words : List ℕ) : Type 0 where
  pub measured : Measured h (scale_in p) (squares_in y (blocks h)) (squared_totals_in words y (blocks h) (objects h))
  pub weighable : weigh_verdict h words y 50 ≡ accepted
  pub less : p.l1 ≤ p.l2
  pub scale-most : scale_in p ≤ 2600
  pub set-inside : w < 2 ^ objects h
  pub sum-most : nat_abs M ≤ sum_limit

-- its record
abbrev pub worked_out : Head → List ℤ → ℕ → Parameters → List ℕ → Solved
worked_out h y w p words = record {
  verdict = accepted;
  parameters = p;
  denominator = denominator (members (objects h) w) (scale_in p);
  spreading = spreading_from (wide (scale_in p * squares_in y (blocks h) - squared_totals_in words y (blocks h) (objects h))) (scale_in p) (freedom h);
}

-- the room of the values after, and that of the deviations
abbrev pub values_in : Head → List ℤ → ℕ → ℤ → Parameters → List ℕ → List ℤ → List ℤ
values_in h y w M p words values = over (objects h) (numerator_in (total_in words y (blocks h)) (objects h) w (scale_in p) M) values

abbrev pub deviations_in : Head → List ℤ → Parameters → List ℕ → List ℤ → List ℤ
deviations_in h y p words deviations = over (blocks h) (deviation_in words y (total_in words y (blocks h)) (scale_in p)) deviations
