-- An accepted job keeps the third demand: the laws of the exact values against any others, and the published values by their distance. Assumes nothing.
use mathlib.Core.Path.{◌≡◌, sym, ap, ap₂, ◌∙◌}
use mathlib.Core.Bool.{Bool, cond, ◌&&◌, ◌||◌}
use mathlib.Core.Logic.{◌⊎◌, inl, inr}
use Prim.Native.Nat.{ℕ, suc, ◌+◌, ◌-◌, ◌*◌, ◌≤◌, ◌<◌}
use native.Mathlib.Nat.{mul-le-mul_left}
use native.Mathlib.Omega.{arith}
use native.Mathlib.Decide.{dec_lt, ℕ_discrete}
use borrow.Author.Tests.{lt-ltb, le-ltb, eq-eqb, ne_eqb}
use lib.Dec.{eqb, ltb}
use lib.IntN.{ℤ, pos, nat_abs, ◌-ℤ◌, ◌*ℤ◌}
use lib.Signed.{◌<ℤ◌}
use Rattle.algebra.proofs.Order.{pos-≤, pos_inj, by_diff-<}
use Rattle.algebra.proofs.Sums.{sumℕ_le}
use Rattle.algebra.proofs.Bounds.{abs-*}
use Rattle.meaning.specs.Design.{objects}
use Rattle.meaning.specs.Analysis.{member, numerator_of, denominator_of}
use Rattle.meaning.specs.Publishing.{before, rank, published}
use Rattle.meaning.specs.Fractions.{◌=ᶠ◌, ◌≤ᶠ◌, ◌<ᶠ◌}
use Rattle.meaning.specs.Refusals.{accepted}
use Rattle.laws.proofs.Chains.{Job as Good, job}
use Rattle.laws.proofs.Analysis.{restraint-kept, job-members, job-denominator}
use Rattle.laws.proofs.Rounding.{twice-apart}
use Rattle.laws.proofs.Column.{shortfall-exact, shortfall-below, as_many_gain, job_member_near, job_other_near, job_other_even, job_adds_up, published-member}
use Rattle.laws.proofs.Fractions.{exact_keeps, exact_proper, squares_proper, least, published_keeps, published-excess}
use Rattle.demands.specs.Job.{Job, verdict_of}
use Rattle.demands.specs.Fractions.{distance, hundredths}
use Rattle.demands.specs.Demand3.{hundredth, half_hundredth, part_of, shortfall_of, LeastSquares}

-- the order of whole numbers
pos-< : (m n : ℕ) → m < n → pos m <ℤ pos n
pos-< m n l = let more : m + suc (n - m - 1) ≡ n = omega arith in by_diff-< (pos m) (pos n) (n - m - 1) (ap pos more)

-- x hundredths and the fraction a / d: what the laws of rounding say of their distance, over whole numbers, said of the fractions
module _ (a x : ℤ) (d : ℕ) where
  abbrev twice : ℕ
  twice = nat_abs (pos 2 *ℤ (pos 100 *ℤ a -ℤ x *ℤ pos d))

  abbrev apart : ℕ
  apart = nat_abs (x *ℤ pos d -ℤ a *ℤ pos 100)

  -- twice the distance is that of twice the difference
  doubled : nat_abs (pos 100 *ℤ a -ℤ x *ℤ pos d) ≡ apart
  doubled = half _ _ (sym (abs-* (pos 2) (pos 100 *ℤ a -ℤ x *ℤ pos d)) ∙ twice-apart a x d)
    where
      half : (m n : ℕ) → 2 * m ≡ 2 * n → m ≡ n
      half m n e = omega arith

  closer : nat_abs (pos 100 *ℤ a -ℤ x *ℤ pos d) < d → distance (hundredths x) (record { top = a; bottom = d }) <ᶠ hundredth
  closer l = pos-< _ _ (scaled apart d _ doubled l)
    where
      scaled : (e d t : ℕ) → t ≡ e → t < d → e * 100 < 1 * (100 * d)
      scaled e d t p l = omega arith

  within : twice ≤ d → distance (hundredths x) (record { top = a; bottom = d }) ≤ᶠ half_hundredth
  within l = pos-≤ _ _ (scaled apart d twice (twice-apart a x d) l)
    where
      scaled : (e d t : ℕ) → t ≡ 2 * e → t ≤ d → e * 200 ≤ 1 * (100 * d)
      scaled e d t p l = omega arith

  just : distance (hundredths x) (record { top = a; bottom = d }) =ᶠ half_hundredth → twice ≡ d
  just e = twice-apart a x d ∙ scaled apart d (pos_inj _ _ e)
    where
      scaled : (e d : ℕ) → e * 200 ≡ 1 * (100 * d) → 2 * e ≡ d
      scaled e d p = omega arith

-- ---- who is served before whom

-- i is served before k: its part is larger, or as large and its number lower
abbrev First : (ℕ → ℕ) → ℕ → ℕ → Type 0
First f i k = (f k < f i) ⊎ ((f k ≡ f i) × (i < k))

-- that is what `before` asks
first_one : (f : ℕ → ℕ) (i k : ℕ) → First f i k → before f i k ≡ 1
first_one f i k (inl l) = ap (λ (t : Bool). cond (t || eqb (f i) (f k) && ltb i k) 1 0) (lt-ltb (f k) (f i) l)
first_one f i k (inr (e, l)) =
    ap₂ (λ (t u : Bool). cond (t || u) 1 0) (le-ltb (f k) (f i) (omega (arith, e)))
    (ap₂ (λ (t u : Bool). t && u) (eq-eqb (f i) (f k) (sym e)) (lt-ltb i k l))

not_first : (f : ℕ → ℕ) (i k : ℕ) → f i ≤ f k → (f k ≡ f i → k ≤ i) → before f i k ≡ 0
not_first f i k l m = go (ℕ_discrete (f i) (f k))
  where
    go : Dec (f i ≡ f k) → before f i k ≡ 0
    go (yes e) = ap₂ (λ (t u : Bool). cond (t || u) 1 0) (le-ltb (f k) (f i) l)
        (ap₂ (λ (t u : Bool). t && u) (eq-eqb (f i) (f k) e) (le-ltb i k (m (sym e))))
    go (no n) = ap₂ (λ (t u : Bool). cond (t || u && ltb i k) 1 0) (le-ltb (f k) (f i) l) (ne_eqb (f i) (f k) n)

-- whoever is served before i is served before k
before_both : (f : ℕ → ℕ) (i k o : ℕ) → First f i k → before f o i ≤ before f o k
before_both f i k o first = go (dec_lt (f i) (f o)) (ℕ_discrete (f o) (f i)) (dec_lt o i)
  where
    none : before f o i ≡ 0 → before f o i ≤ before f o k
    none e = omega (arith, e)

    both : First f o i → First f o k → before f o i ≤ before f o k
    both p q = omega (arith, first_one f o i p, first_one f o k q)

    larger : First f i k → f i < f o → First f o k
    larger (inl l) m = inl (omega arith)
    larger (inr (e, l)) m = inl (omega (arith, e))

    alike : First f i k → f o ≡ f i → o < i → First f o k
    alike (inl l) e m = inl (omega (arith, e))
    alike (inr (same, l)) e m = inr (same ∙ sym e, omega arith)

    go : Dec (f i < f o) → Dec (f o ≡ f i) → Dec (o < i) → before f o i ≤ before f o k
    go (yes l) q m = both (inl l) (larger first l)
    go (no l) (yes e) (yes m) = both (inr (sym e, m)) (alike first e m)
    go (no l) (yes e) (no m) = none (not_first f o i (omega arith) (λ same. omega arith))
    go (no l) (no n) m = none (not_first f o i (omega arith) (λ same. absurd (n (sym same))))

-- so k has no fewer before it, and gains only where i does
served-first : (v w : ℕ) (f : ℕ → ℕ) (s i k : ℕ) → First f i k → cond (ltb (rank v w f k) s) 1 0 ≤ cond (ltb (rank v w f i) s) 1 0
unfolding rank
served-first v w f s i k first = go (dec_lt (rank v w f k) s)
  where
    fewer : rank v w f i ≤ rank v w f k
    fewer = sumℕ_le v _ _ (λ o q. mul-le-mul_left (member w o) (before_both f i k o first))

    bit : Bool → ℕ
    bit t = cond t 1 0

    go : Dec (rank v w f k < s) → cond (ltb (rank v w f k) s) 1 0 ≤ cond (ltb (rank v w f i) s) 1 0
    go (yes l) = omega (arith, ap bit (lt-ltb (rank v w f k) s l), ap bit (lt-ltb (rank v w f i) s (omega (arith, fewer))))
    go (no l) = omega (arith, ap bit (le-ltb (rank v w f k) s (omega arith)))

module _ (j : Job) (e : verdict_of j ≡ accepted) where
  open j use {head as h, initial as d, readings as y, set as w, sum as M}

  good : Good h d y w M
  good = job h d y w M e

  some : 0 < denominator_of h d w
  some = job-denominator h d y w M good

  pub least-squares : LeastSquares j
  least-squares = record {
    exact_keeps = exact_keeps h d y w M e;
    every_other_is_larger = λ u proper keeps (i, l, differs). least h d y w M e u proper keeps i l differs;
    exact_proper = exact_proper h d y w M e;
    squares_proper = squares_proper h d y w M e;
    published_keeps = published_keeps h d y w M e;
    column_adds_up = job_adds_up h d y w M good;
    shortfall_at_least = shortfall-exact (objects h) w M (numerator_of h d y w M) (denominator_of h d w) some (restraint-kept h d y w M);
    shortfall-below = shortfall-below (objects h) w M (numerator_of h d y w M) (denominator_of h d w) some
        (restraint-kept h d y w M) (job-members h d y w M good);
    as_many_gain = as_many_gain (objects h) w M (numerator_of h d y w M) (denominator_of h d w) some (restraint-kept h d y w M) (job-members h d y w M good);
    members_are = published-member h d y w M good;
    larger_part_first = λ i k p q l. served-first (objects h) w (part_of j) (shortfall_of j) i k (inl l);
    lowest_among_equals = λ i k p q same l. served-first (objects h) w (part_of j) (shortfall_of j) i k (inr (same, l));
    members-near = λ i o. closer (numerator_of h d y w M i) (published h d y w M i) (denominator_of h d w) (job_member_near h d y w M good i o);
    others-near = λ i n. within (numerator_of h d y w M i) (published h d y w M i) (denominator_of h d w) (job_other_near h d y w M good i n);
    half_to_even = λ i n p. job_other_even h d y w M good i n (just (numerator_of h d y w M i) (published h d y w M i) (denominator_of h d w) p);
    excess_at_most = (published-excess h d y w M e).1;
    excess_at_least = (published-excess h d y w M e).0;
  }
