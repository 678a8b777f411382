-- The verdicts of totals, taken apart and put together, and what stands where the blocks are accepted. Assumes nothing.
use Rattle.std.proofs.Common.{Ok, Err}
use mathlib.Core.Path.{◌≡◌, refl, sym, ap, ap₂, ◌∙◌}
use mathlib.Core.Bool.{true, false}
use mathlib.Core.List.{List, replicate}
use Prim.Native.Nat.{ℕ, ◌*◌, ◌≤◌, ◌<◌}
use native.Mathlib.Omega.{arith}
use borrow.Author.Tests.{le-leb, lt-ltb, le-ltb}
use lib.Dec.{leb, ltb}
use lib.IntN.{ℤ, pos}
use lib.ListN.{get_or, length, get_or-replicate}
use Rattle.algebra.proofs.Filling.{get_d_over, length_over}
use Rattle.records.specs.declared.Head.{Head}
use Rattle.records.specs.declared.ObjectTotal.{ObjectTotal}
use Rattle.meaning.specs.Design.{objects, blocks}
use Rattle.meaning.specs.Analysis.{total}
use Rattle.meaning.specs.Refusals.{Verdict, ◌⨾◌, accepted, refused, number, place, clean, in_reach}
use Rattle.meaning.specs.Calls.{
  given,
  written,
  slices,
  develop_verdict,
  words_under,
  square_sum,
  squared_totals_verdict,
  squared_totals_answer,
  total_verdict,
  total_answer,
}
use Rattle.laws.proofs.Chains.{Sound, opened, goes_on, accepts, refused_stays, test_yes, test_no, accepted-last, given_yes, sliced, slices_sound}
use Rattle.verdicts.proofs.Told.{refusing}
use Rattle.weighing.proofs.Slices.{design-clean}
use Rattle.weighing.specs.Verdicts.{weigh_verdict}
use Rattle.weighing.specs.Developed.{total_in, squared_totals_in}
use Rattle.weighing.proofs.Developing.{Laid, laid, laid-squares}
use Rattle.weighing.proofs.Refusing.{weigh_reach}
use Rattle.verdicts.specs.Zeros.{no_total}

-- ---- the words

-- past the lengths, with room for 2600 words, the block list decides
pub develops_clean : (h : Head) (d : List ℕ) (y : List ℤ) {len : ℕ} → len ≡ 2600 → slices h d y ≡ accepted → develop_verdict h d len ≡ slices h d y ⨾ clean h d
unfolding develop_verdict
develops_clean h d y {len} m e =
    let f = (sliced h d y e).sizes in
    ap₂ ◌⨾◌ (design-clean h d y e) (test_yes (leb (2 * blocks h) len) 10 0 (le-leb (2 * blocks h) len (omega arith))) ∙ accepted-last (clean h d)
    ∙ sym (goes_on _ e)

module _ (h : Head) (d : List ℕ) (y : List ℤ) (l words : List ℕ) (m : length l ≡ 2600) (w : words ≡ words_under (slices h d y ⨾ clean h d) h d l) where
  -- whatever the verdict, there are 2600 of them
  pub words_long : 2600 ≡ length words
  words_long = sym (ap length w ∙ by (slices h d y ⨾ clean h d) ∙ m)
    where
      by : (v : Verdict) → length (words_under v h d l) ≡ length l
      by (Ok done) = length_over (2 * blocks h) _ l
      by (Err why) = refl

  module _ (e : slices h d y ⨾ clean h d ≡ accepted) where
    -- accepted blocks are a sound design, and their words its development
    stands : Sound h d
    stands = let a = opened _ _ e in slices_sound h d y (sliced h d y a.0) a.1

    pub lay : Laid h d words
    lay = laid h d l words stands (let f = stands.sizes in omega (arith, m)) (w ∙ given_yes _ _ _ e)

    -- so only the readings can still be refused
    pub reached : weigh_verdict h words y 50 ≡ in_reach y
    reached = weigh_reach h words y 50 d lay (sliced h d y (opened _ _ e).0).readings-long stands.sizes.objects-most

-- ---- the squared totals

module _ (h : Head) (d : List ℕ) (y : List ℤ) where
  -- the blocks are refused
  pub squared-refused : (v : Verdict) → given v false true ≡ true → slices h d y ⨾ clean h d ≡ v → squared_totals_verdict h d y ≡ v
  unfolding squared_totals_verdict
  squared-refused v r e = refused_stays _ _ _ (e ∙ refusing v r) ∙ sym (refusing v r)

  -- accepted blocks: the sum is that of their words
  pub squared-weighed : (words : List ℕ) → slices h d y ⨾ clean h d ≡ accepted → Laid h d words → weigh_verdict h words y 50 ≡ in_reach y →
      square_sum (weigh_verdict h words y 50) (squared_totals_in words y (blocks h) (objects h)) ≡ squared_totals_answer h d y
  unfolding squared_totals_verdict
  squared-weighed words e l r = ap₂ square_sum (r ∙ sym (goes_on _ e)) (laid-squares h d y words l)

-- ---- one total

-- what stands at place i of a room that was written under a verdict
written_at : (verdict : Verdict) (v : ℕ) (f : ℕ → ℤ) (i : ℕ) → i < v → v ≤ 50 →
    get_or (written verdict v f (replicate 50 (pos 0))) i (pos 0) ≡ given verdict (f i) (pos 0)
written_at (Ok done) v f i l m = get_d_over v f (replicate 50 (pos 0)) (pos 0) i l m
written_at (Err why) v f i l m = get_or-replicate 50 i (pos 0) (pos 0) (omega arith)

module _ (h : Head) (d : List ℕ) (y : List ℤ) (i : ℕ) where
  -- the blocks are refused
  pub total-refused : (k at : ℕ) → slices h d y ⨾ clean h d ≡ refused k at → total_verdict h d y i ≡ refused k at
  unfolding total_verdict
  total-refused k at e = refused_stays _ k at (refused_stays _ k at e)

  -- a refusal holds 0
  pub no_total_is : (v : Verdict) → given v false true ≡ true → total_verdict h d y i ≡ refused (number v) (place v) → no_total v ≡ total_answer h d y i
  no_total_is v r e = ap no_total (refusing v r) ∙ sym (ap (λ (v : Verdict). record { verdict = v; total = given v (total h d y i) (pos 0) }) e)

  module _ (e : slices h d y ⨾ clean h d ≡ accepted) where
    -- there is no such object
    pub total_no_object : objects h ≤ i → total_verdict h d y i ≡ refused 5 i
    unfolding total_verdict
    total_no_object l = refused_stays _ 5 i (goes_on _ e ∙ test_no (ltb i (objects h)) 5 i (le-ltb _ _ l))

    -- the readings decide
    total-reach : i < objects h → total_verdict h d y i ≡ in_reach y
    unfolding total_verdict
    total-reach l = goes_on _ (accepts e (test_yes (ltb i (objects h)) 5 i (lt-ltb _ _ l)))

    -- the verdict of the weighing and what stands at the object's place are the answer
    pub total-weighed : (words : List ℕ) → Laid h d words → weigh_verdict h words y 50 ≡ in_reach y → i < objects h →
        ◌≡◌ {A = ObjectTotal} (record {
          verdict = weigh_verdict h words y 50;
          total =
              get_or (written (weigh_verdict h words y 50) (objects h) (total_in words y (blocks h)) (replicate 50 (pos 0))) i (pos 0);
        }) (total_answer h d y i)
    total-weighed words w r l =
        ap (λ (z : ℤ). record { verdict = weigh_verdict h words y 50; total = z })
        (written_at (weigh_verdict h words y 50) (objects h) _ i l w.sizes.objects-most)
        ∙ ap₂ (λ (v : Verdict) (z : ℤ). record { verdict = v; total = given v z (pos 0) }) (r ∙ sym (total-reach l)) (w.totals y i)
