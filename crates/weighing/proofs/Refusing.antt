-- The verdict on words and readings, taken apart and put together.
--     Weighable, weighable             what stands where they are weighed
--     weigh_reach                      over the words of a design the readings decide
-- Assumes nothing.
use mathlib.Core.Path.{◌≡◌, sym, ap, ◌∙◌}
use mathlib.Core.List.{List}
use Prim.Native.Nat.{ℕ, ◌*◌, ◌≤◌}
use native.Mathlib.Nat.{le_of_eq}
use native.Mathlib.Omega.{arith}
use borrow.Author.Tests.{eq-eqb, eqb-true, le-leb, leb-true}
use lib.Dec.{eqb, leb}
use lib.IntN.{ℤ}
use lib.ListN.{length}
use Rattle.records.specs.declared.Head.{Head}
use Rattle.meaning.specs.Design.{objects, blocks, sized}
use Rattle.meaning.specs.Refusals.{Verdict, accepted, ◌⨾◌, in_reach, room}
use Rattle.laws.specs.Fits.{Fits}
use Rattle.laws.proofs.Chains.{opened, held, accepts, goes_on, test_yes, accepted-last, fits, sized_yes, readings-near}
use Rattle.weighing.specs.Verdicts.{stray_word, weigh_verdict}
use Rattle.weighing.proofs.weighable.Refusing.{stray-none, stray-within}
use Rattle.weighing.specs.Developed.{Weighed, Within}
use Rattle.weighing.proofs.Developing.{Laid}

-- words and readings that are weighed
pub record Weighable (h : Head) (words : List ℕ) (y : List ℤ) (len : ℕ) : Type 0 where
  pub fit : Fits h
  pub weighed : Weighed words y (blocks h)
  pub within : Within words (blocks h) (objects h)
  pub roomy : objects h ≤ len

module _ (h : Head) (words : List ℕ) (y : List ℤ) (len : ℕ) where
  -- accepted ones are so
  pub weighable : weigh_verdict h words y len ≡ accepted → Weighable h words y len
  unfolding weigh_verdict
  weighable e =
      let a = opened _ _ e in
      let b = opened _ _ a.0 in
      let c = opened _ _ b.0 in
      let d = opened _ _ c.0 in
      let f = opened _ _ d.0 in
      let s = fits h (held _ _ _ f.0) in
      let long : length y ≡ blocks h = eqb-true _ _ (held _ _ _ d.1) in
      record {
        fit = s;
        weighed = record {
          blocks-most = s.blocks-most;
          words_long = leb-true _ _ (held _ _ _ f.1);
          readings-long = le_of_eq (sym long);
          readings-most = λ k l. readings-near y b.1 k (omega arith);
        };
        within = record { below = stray-within words (2 * blocks h) (objects h) c.1 };
        roomy = leb-true _ _ (held _ _ _ a.1);
      }

  -- where the words hold a development and there is room, the readings decide
  pub weigh_reach : (d : List ℕ) → Laid h d words → length y ≡ blocks h → objects h ≤ len → weigh_verdict h words y len ≡ in_reach y
  unfolding weigh_verdict
  weigh_reach d w m r =
      ap (λ (v : Verdict). v ⨾ room len (objects h))
      (goes_on (in_reach y) (accepts (accepts
      (accepts (test_yes (sized h) 4 0 (sym (sized_yes h w.sizes))) (test_yes (leb (2 * blocks h) (length words)) 3 0 (le-leb _ _ w.long)))
      (test_yes (eqb (length y) (blocks h)) 3 0 (eq-eqb _ _ m)))
      (test_yes (eqb (stray_word words (2 * blocks h) (objects h)) (2 * blocks h)) 5 _
      (eq-eqb _ _ (stray-none words (2 * blocks h) (objects h) w.within.below)))))
      ∙ ap (λ (v : Verdict). in_reach y ⨾ v) (test_yes (leb (objects h) len) 10 0 (le-leb _ _ r)) ∙ accepted-last (in_reach y)
