-- The numbers of a balanced design, by counting in rows.
--     parameters   r, b, l1, l2 and beta
-- Assumes nothing.
use mathlib.Core.Path.{◌≡◌, ◌∙◌, ap}
use mathlib.Core.Bool.{true}
use mathlib.Core.List.{List}
use Prim.Native.Nat.{ℕ, ◌-◌, ◌*◌, ◌<◌}
use native.Mathlib.Nat.{mul-pos}
use native.Mathlib.Omega.{arith}
use Rattle.records.specs.declared.Head.{Head}
use Rattle.meaning.specs.Design.{objects, blocks, company, opposition, balanced, beta}
use Rattle.laws.proofs.Chains.{Sound}
use Rattle.laws.proofs.Incidence.{Counts, times, counts}
use Rattle.laws.proofs.Counting.{Numbers, balanced-is, on_left, on_right, incidence, company_self, balance_even}

-- what counting says of a sound design that is balanced
design-counts : (h : Head) (d : List ℕ) → Sound h d → balanced h d ≡ true →
    Counts (blocks h) (objects h) h.p (company h d 1 0) (opposition h d 1 0) (times (blocks h) (on_left h d) (on_right h d))
design-counts h d s e =
    counts (blocks h) (objects h) h.p (on_left h d) (on_right h d) (incidence h d s) (company h d 1 0) (opposition h d 1 0)
    (balance_even h d (company h d 1 0) (opposition h d 1 0) (balanced-is h d e)) (omega (arith, s.sizes.p_least))
    (mul-pos s.sizes.m_least (omega (arith, s.sizes.n_least)))

-- the parameters of a sound design that is balanced
pub parameters : (h : Head) (d : List ℕ) → Sound h d → balanced h d ≡ true → Numbers h d
unfolding beta
parameters h d s e = record {
  less = c.less;
  beta-is = omega (arith, c.less);
  positive = c.positive;
  repeats = λ i l. company_self h d s i l ∙ c.repeats i l;
  stands = c.repeats;
  size = c.size;
  shares = c.company 0 some ∙ ap (λ (z : ℕ). z * (h.p - 1)) (c.repeats 0 some);
  opposes = c.opposition 0 some ∙ ap (λ (z : ℕ). z * h.p) (c.repeats 0 some);
  enough = c.enough;
}
  where
    c : Counts (blocks h) (objects h) h.p (company h d 1 0) (opposition h d 1 0) (times (blocks h) (on_left h d) (on_right h d))
    c = design-counts h d s e

    some : 0 < objects h
    some = omega (arith, s.sizes.n_least)
