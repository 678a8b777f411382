-- What the second demand says of a job: when it is well-formed; and that its parameters, values and deviations are the paper's whole-number fractions, its
-- spread the paper's standard deviation cut to hundredths, each f64 the one rounded quotient.
-- `float a d` is a / d rounded once to an f64, and `Near` says how near it is; on numbers from 0 on a difference is cut at 0. Assumes nothing.
use Rattle.std.specs.Prelude.{true, ◌⊎◌, ◌↔◌, ◌≡◌, ℕ, ◌+◌, ◌-◌, ◌*◌, ◌%◌, ◌^◌, ◌≤◌, ◌<◌, ℤ, pos, nat_abs, ◌+ℤ◌, ◌-ℤ◌, ◌*ℤ◌}
use Rattle.algebra.specs.Ranges.{sum, sum_ℕ}
use Rattle.algebra.specs.Tables.{entry}
use Rattle.records.specs.declared.Parameters.{Parameters}
use Rattle.meaning.specs.Design.{occ, left, right, company, opposition, Balanced, beta, parameters_of}
use Rattle.meaning.specs.Analysis.{
  reading,
  total,
  member,
  members,
  restrained,
  vbeta,
  numerator_of,
  denominator_of,
  factor,
  along,
  deviation_of,
  squared_readings,
  squared_totals,
  q,
  qOf,
  freedom,
  spread_hundredths_of,
}
use Rattle.meaning.specs.Publishing.{spreads, published, float, Near, value_of, no_spread, spread_of}
use Rattle.meaning.specs.Fractions.{Fraction, squared, ◌≤ᶠ◌, ◌<ᶠ◌, deviation_under}
use Rattle.meaning.specs.Refusals.{Verdict, accepted}
use Rattle.meaning.specs.Calls.{word_at, company_table, opposition_table}
use Rattle.demands.specs.Job.{Job, v, b, exact, squares}
use Rattle.demands.specs.Refusals.{blocks_clean, restraint_fits, two_standards, readings_fit}
use Rattle.demands.specs.Fractions.{Same, divided_by, hundredths}

-- well-formed within the sizes: what it stands in is in order (a file's fields, or the sizes and lengths of slices), its blocks are clean, its restraint
-- is in range and has two objects at least, and its readings are in range
pub record WellFormed (stands_in : Verdict) (j : Job) : Type 0 where
  pub in_order : stands_in ≡ accepted
  pub blocks-clean : blocks_clean j ≡ true
  pub restraint_fits_lem : restraint_fits j ≡ true
  pub two-standards : two_standards j ≡ true
  pub readings-fit : readings_fit j ≡ true

module _ (j : Job) where
  open j use {head as h, initial as d, readings as y, set as w, sum as M}

  -- ---- developed: of every block list that is clean, balanced or not

  pub record Developed : Type 0 where
    -- the two words of block k have a bit for each of its objects, left and right
    pub words_are_sides : (k : ℕ) → k < b j → (i : ℕ) →
        (member (word_at h d (2 * k)) i ≡ occ i (left h d k)) × (member (word_at h d (2 * k + 1)) i ≡ occ i (right h d k))
    -- the pair tables hold for every two objects how often they share a side and oppose;
    pub tables_count : (i k : ℕ) → i < v j → k < v j →
        (entry (company_table h d) i k ≡ company h d i k) × (entry (opposition_table h d) i k ≡ opposition h d i k)
    -- an object with itself has the number of its blocks, and 0;
    pub tables_of_one : (i : ℕ) → i < v j → (company h d i i ≡ sum_ℕ (b j) (λ k. occ i (left h d k) + occ i (right h d k))) × (opposition h d i i ≡ 0)
    -- a row or a column of no object has zeros
    pub tables_elsewhere : (i k : ℕ) → (v j ≤ i) ⊎ (v j ≤ k) → (entry (company_table h d) i k ≡ 0) × (entry (opposition_table h d) i k ≡ 0)
    -- all T add to 0
    pub totals_cancel : sum (v j) (total h d y) ≡ pos 0

  -- ---- parameters (000, section 2)

  abbrev P : Parameters
  P = parameters_of h d

  pub record PapersParameters : Type 0 where
    -- every two different objects share a side L1 times and oppose L2 times
    pub lambdas : Balanced h d P.l1 P.l2
    -- v, b and p are the head's, ∞ being one object more where the flag is odd; a block has p objects a side
    pub v_is : P.v ≡ h.n + h.flag % 2
    pub b_is : P.b ≡ h.m * h.n
    pub p_is : P.p ≡ h.p
    pub sides : (k : ℕ) → k < b j → (sum_ℕ (v j) (λ i. occ i (left h d k)) ≡ P.p) × (sum_ℕ (v j) (λ i. occ i (right h d k)) ≡ P.p)
    -- beta = L2 - L1 is positive
    pub beta-is : P.l1 + beta h d ≡ P.l2
    pub beta_positive : 0 < beta h d
    -- each object stands in r = beta(v-1) blocks
    pub stands : (i : ℕ) → i < v j → sum_ℕ (b j) (λ k. occ i (left h d k) + occ i (right h d k)) ≡ P.r
    pub r_is : P.r ≡ beta h d * (P.v - 1)
    -- b = beta·v(v-1)/(2p)
    pub size : 2 * P.p * P.b ≡ beta h d * P.v * (P.v - 1)
    -- f = b - v + 1 is never negative
    pub freedom-is : freedom h + P.v ≡ P.b + 1

  -- ---- the value of object i (000, section 3): (t·T(i) - S + v·beta·M) / (t·v·beta), not reduced

  abbrev t : ℕ
  t = members (v j) w

  abbrev top : ℕ → ℤ
  top = numerator_of h d y w M

  abbrev bottom : ℕ
  bottom = denominator_of h d w

  pub record PapersValue (i : ℕ) : Type 0 where
    pub numerator : top i ≡ pos t *ℤ total h d y i -ℤ restrained (v j) w (total h d y) +ℤ pos (v j * beta h d) *ℤ M
    pub denominator : bottom ≡ t * (v j * beta h d)
    pub denominator_positive : 0 < bottom
    -- it is handed out with its hundredths and its f64 (and with its variance factor, of which Uncertainty speaks),
    pub handed_out : value_of h d y w M i ≡ record {
      numerator = top i;
      denominator = bottom;
      hundredths = published h d y w M i;
      value = float (top i) bottom;
      factor = factor h w i;
      factor_value = float (pos (factor h w i)) bottom;
    }
    -- one division of two whole numbers that convert without loss, which is away from the fraction by at most its size over 2 to the 53rd
    pub numerator_converts : nat_abs (top i) < 2 ^ 53
    pub denominator_converts : bottom < 2 ^ 53
    pub near : Near 53 (value_of h d y w M i).value (top i) bottom

  -- ---- the deviation of block k: (v·beta·y(k) less (T over the left minus T over the right)) / (v·beta); it is the one under the exact values

  pub record PapersDeviation (k : ℕ) : Type 0 where
    pub numerator : deviation_of h d y k ≡ pos (v j * beta h d) *ℤ reading y k -ℤ (along (total h d y) (left h d k) -ℤ along (total h d y) (right h d k))
    pub of_exact_values : Same (deviation_under h d y (exact j) k) (record { top = deviation_of h d y k; bottom = vbeta h d })

  -- ---- the spread

  -- the square of the standard deviation: the sum of the squared deviations of the exact values, over the degrees of freedom
  abbrev pub standard_deviation_squared : Fraction
  standard_deviation_squared = divided_by (freedom h) (squares j (exact j))

  abbrev k : ℕ
  k = spread_hundredths_of h d y

  pub record PapersSpread : Type 0 where
    -- Q = v·beta·(sum of y squared) - (sum of T squared) is never negative, and over v·beta it is the sum of the squared deviations
    pub Q_never_negative : q (vbeta h d) (squared_readings h y) (squared_totals h d y) ≡ pos (qOf h d y)
    pub squares_are : Same (squares j (exact j)) (record { top = pos (qOf h d y); bottom = vbeta h d })
    -- if f > 0, k is the largest whole number with k·k·v·beta·f at most 10,000·Q,
    pub largest : 0 < freedom h → (k * k * vbeta h d * freedom h ≤ 10000 * qOf h d y) × (10000 * qOf h d y < (k + 1) * (k + 1) * vbeta h d * freedom h)
    -- so it is the standard deviation cut to hundredths: k hundredths are at most that, and k + 1 are more
    pub deviation_proper : 0 < freedom h → 0 < standard_deviation_squared.bottom
    pub cut_below : 0 < freedom h → squared (hundredths (pos k)) ≤ᶠ standard_deviation_squared
    pub cut_above : 0 < freedom h → standard_deviation_squared <ᶠ squared (hundredths (pos (k + 1)))
    -- it is handed out as the f64 k / 100 with f, with all that it is made from
    pub handed_out : 0 < freedom h → spread_of k (freedom h) ≡ spreads (float (pos k) 100) (freedom h)
    pub hundredths_convert : k < 2 ^ 53
    pub near : Near 53 (float (pos k) 100) (pos k) 100
    -- there is none exactly if f is 0
    pub none_exactly : (spread_of k (freedom h) ≡ no_spread) ↔ (freedom h ≡ 0)

  -- ---- parameters, values and deviations are the paper's whole-number fractions, the spread its standard deviation cut to hundredths, each f64 the one
  -- ---- rounded quotient

  pub record PapersFractions : Type 0 where
    pub design : Developed
    pub parameters : PapersParameters
    pub values : (i : ℕ) → PapersValue i
    -- over the restraint set the numerators add to M times the denominator
    pub numerators_add : restrained (v j) w top ≡ M *ℤ pos bottom
    pub deviations : (k : ℕ) → k < b j → PapersDeviation k
    pub spread : PapersSpread
