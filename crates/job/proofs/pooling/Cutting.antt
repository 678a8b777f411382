-- Jobs cut from the bytes by their lengths, one at a time. Assumes nothing.
use Prim.Native.Nat.{ℕ, suc, ◌+◌, ◌-◌, ◌<◌}
use mathlib.Core.Path.{◌≡◌, refl, sym, ap, ap₂, ◌∙◌}
use mathlib.Core.Bool.{true, ◌&&◌}
use mathlib.Core.List.{List, [], ◌∷◌}
use native.Mathlib.Omega.{arith}
use borrow.Author.Tests.{eqb-true, ltb-true, leb-true}
use lib.Dec.{eqb, ltb, leb}
use lib.ListN.{length, get_or, take, drop}
use lib.Seq.{drop-cons, drop-drop, drop-length}
use Rattle.algebra.proofs.Tests.{and_left, and_right}
use Rattle.meaning.specs.Pooled.{pool_limit, lengths_sum, jobs_in}
use Rattle.job.specs.Taking.{adds_up, EndToEnd}

-- ---- the lengths

-- what is left of the lengths from number i on: that one, and what is left after it
pub sum_on : (lengths : List ℕ) (i : ℕ) → i < length lengths → lengths_sum (drop i lengths) ≡ get_or lengths i 0 + lengths_sum (drop (suc i) lengths)
unfolding lengths_sum
sum_on lengths i l = ap lengths_sum (drop-cons lengths i 0 l)

-- the same, by the number after it
pub sum-next : (lengths : List ℕ) (i : ℕ) → i < length lengths → lengths_sum (drop i lengths) ≡ get_or lengths i 0 + lengths_sum (drop (i + 1) lengths)
sum-next lengths i l =
    let next : suc i ≡ i + 1 = omega arith in
    sum_on lengths i l ∙ ap (λ (n : ℕ). get_or lengths i 0 + lengths_sum (drop n lengths)) next

-- nothing is left after the last
pub sum-end : (lengths : List ℕ) (i : ℕ) → i ≡ length lengths → lengths_sum (drop i lengths) ≡ 0
unfolding lengths_sum
sum-end lengths i e = ap (λ (n : ℕ). lengths_sum (drop n lengths)) e ∙ ap lengths_sum (drop-length lengths)

-- the three tests, as facts and back
pub adds_up_lem : (total : ℕ) (lengths : List ℕ) → adds_up total lengths ≡ true → EndToEnd total lengths
adds_up_lem total lengths e =
    let n = length lengths in
    let a = and_left (ltb 0 n && leb n pool_limit) (eqb (lengths_sum lengths) total) e in
    record {
      some = ltb-true _ _ (and_left (ltb 0 n) (leb n pool_limit) a);
      most = leb-true _ _ (and_right (ltb 0 n) (leb n pool_limit) a);
      sum = eqb-true _ _ (and_right (ltb 0 n && leb n pool_limit) (eqb (lengths_sum lengths) total) e);
    }

-- ---- the jobs

-- the jobs from number i on, which start at a byte: the one that ends at another, and those after it
pub jobs_on : (bytes lengths : List ℕ) (i start end : ℕ) → i < length lengths → end ≡ start + get_or lengths i 0
    → jobs_in (drop start bytes) (drop i lengths) ≡ take (end - start) (drop start bytes) ∷ jobs_in (drop end bytes) (drop (suc i) lengths)
unfolding jobs_in
jobs_on bytes lengths i start end l e =
    let len = get_or lengths i 0 in
    let long : len ≡ end - start = omega arith in
    ap (jobs_in (drop start bytes)) (drop-cons lengths i 0 l)
    ∙ ap₂ (λ (c : ℕ) (rest : List ℕ). take c (drop start bytes) ∷ jobs_in rest (drop (suc i) lengths)) long
    (drop-drop len start bytes ∙ ap (λ (n : ℕ). drop n bytes) (sym e))

-- none is left after the last
pub jobs_end : (bytes lengths : List ℕ) (i : ℕ) → i ≡ length lengths → jobs_in bytes (drop i lengths) ≡ []
unfolding jobs_in
jobs_end bytes lengths i e = ap (λ (n : ℕ). jobs_in bytes (drop n lengths)) e ∙ ap (jobs_in bytes) (drop-length lengths)

-- there are as many jobs as lengths
pub jobs_count : (bytes lengths : List ℕ) → length (jobs_in bytes lengths) ≡ length lengths
unfolding jobs_in
jobs_count bytes [] = refl
jobs_count bytes (len ∷ lengths) = ap suc (jobs_count (drop len bytes) lengths)
