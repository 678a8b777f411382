-- A sound design is balanced where the differences of its initial blocks are even, and only there. So it is judged by these alone.
--     even-balanced, balanced-even    the two properties are one, with the same two numbers
--     even_is, is-even                the test of even differences decides them
--     tests_agree                     it is the test of balance
--     one-zero                        l1 and l2 are how often the difference 1 arises
--     within-negative                 a difference arises as often as its negative
--     zero_decides                    a design is balanced where every object meets 0 alike
--     differences_judge               the judgement by differences is the judgement, for every head and block list
-- Assumes nothing.
use Rattle.std.proofs.Common.{Ok, Err}
use mathlib.Core.Path.{◌≡◌, refl, sym, ◌∙◌, ap, subst}
use mathlib.Core.Bool.{Bool, true, false, cond, ◌&&◌}
use mathlib.Core.List.{List}
use Prim.Native.Nat.{ℕ, suc, ◌-◌, ◌%◌, ◌<◌}
use native.Mathlib.Omega.{arith}
use native.Mathlib.Decide.{ℕ_discrete, dec_lt}
use lib.Dec.{eqb}
use borrow.Author.Tests.{eq-eqb, ne_eqb, eqb-true}
use Rattle.algebra.specs.Ranges.{all}
use Rattle.algebra.proofs.Tests.{and_left, and_right, and_both, all-at, all-each}
use Rattle.records.specs.declared.Head.{Head}
use Rattle.records.specs.declared.Judged.{Judged}
use Rattle.records.specs.declared.Parameters.{Parameters}
use Rattle.meaning.specs.Design.{objects, with_fixed, plus, company, opposition, Balanced, balanced, beta, parameters_of}
use Rattle.meaning.specs.Refusals.{Verdict, ◌⨾◌, test}
use Rattle.meaning.specs.Calls.{given, no_parameters, design_verdict, judge_verdict, judged}
use Rattle.laws.proofs.Chains.{Sound, sound, refused_stays, given_no}
use Rattle.laws.proofs.Counting.{company_symmetric, opposition_symmetric, balanced_from, balanced-is, is-balanced}
use Rattle.algebra.specs.Groups.{Group}
use Rattle.laws.specs.Differences.{
  within,
  across,
  beside_fixed,
  against_fixed,
  EvenDifferences,
  even_differences,
  differences_verdict,
  differences_parameters,
  differences_judged,
}
use Rattle.algebra.proofs.Groups.{less, less-closed, reaches, neutral-left}
use Rattle.laws.proofs.Differences.{
  addition,
  company-within,
  opposition-across,
  company_fixed,
  opposition_fixed,
  company-zero,
  opposition-zero,
}

-- ---- tests

-- two tests that imply each other are one
same_tests : (a b : Bool) → (a ≡ true → b ≡ true) → (b ≡ true → a ≡ true) → a ≡ b
same_tests true b f k = sym (f refl)
same_tests false true f k = k refl
same_tests false false f k = refl

-- two numbers are two others
two-numbers : (a b c o : ℕ) → eqb a c && eqb b o ≡ true → (a ≡ c) × (b ≡ o)
two-numbers a b c o t = (eqb-true a c (and_left (eqb a c) (eqb b o) t), eqb-true b o (and_right (eqb a c) (eqb b o) t))

-- the test of even differences, taken apart
pub even_is : (h : Head) (d : List ℕ) → even_differences h d ≡ true → EvenDifferences h d (within h d 1) (across h d 1)
unfolding even_differences
even_is h d t = record {
  inside = λ e z l. (every e z l).0;
  between = λ e z l. (every e z l).1;
  beside = λ f. (fixed f).0;
  opposite = λ f. (fixed f).1;
}
  where
    even_at : ℕ → Bool
    even_at e = eqb (within h d (suc e)) (within h d 1) && eqb (across h d (suc e)) (across h d 1)

    fixed_even : Bool
    fixed_even = cond (with_fixed h) (eqb (beside_fixed h d) (within h d 1) && eqb (against_fixed h d) (across h d 1)) true

    every : (e : ℕ) → 0 < e → e < h.n → (within h d e ≡ within h d 1) × (across h d e ≡ across h d 1)
    every e z l =
        let q : suc (e - 1) ≡ e = omega arith in
        subst (λ (k : ℕ). (within h d k ≡ within h d 1) × (across h d k ≡ across h d 1)) q
        (two-numbers _ _ _ _ (all-at (h.n - 1) even_at (and_left (all (h.n - 1) even_at) fixed_even t) (e - 1) (omega arith)))

    fixed : h.flag % 2 ≡ 1 → (beside_fixed h d ≡ within h d 1) × (against_fixed h d ≡ across h d 1)
    fixed f = two-numbers _ _ _ _
        (subst (λ (u : Bool). cond u (eqb (beside_fixed h d) (within h d 1) && eqb (against_fixed h d) (across h d 1)) true ≡ true) (eq-eqb (h.flag % 2) 1 f)
        (and_right (all (h.n - 1) even_at) fixed_even t))

-- and put together
pub is-even : (h : Head) (d : List ℕ) (l1 l2 : ℕ) → 1 < h.n → EvenDifferences h d l1 l2 → even_differences h d ≡ true
unfolding even_differences
is-even h d l1 l2 two v = and_both
    (all-each (h.n - 1) _ (λ e l. and_both (eq-eqb _ _ (v.inside (suc e) (omega arith) (omega arith) ∙ sym (v.inside 1 (omega arith) two)))
    (eq-eqb _ _ (v.between (suc e) (omega arith) (omega arith) ∙ sym (v.between 1 (omega arith) two)))))
    (go (ℕ_discrete (h.flag % 2) 1))
  where
    go : Dec (h.flag % 2 ≡ 1) → cond (with_fixed h) (eqb (beside_fixed h d) (within h d 1) && eqb (against_fixed h d) (across h d 1)) true ≡ true
    go (yes f) =
        ap (λ (u : Bool). cond u (eqb (beside_fixed h d) (within h d 1) && eqb (against_fixed h d) (across h d 1)) true) (eq-eqb (h.flag % 2) 1 f)
        ∙ and_both (eq-eqb _ _ (v.beside f ∙ sym (v.inside 1 (omega arith) two))) (eq-eqb _ _ (v.opposite f ∙ sym (v.between 1 (omega arith) two)))
    go (no f) = ap (λ (u : Bool). cond u (eqb (beside_fixed h d) (within h d 1) && eqb (against_fixed h d) (across h d 1)) true) (ne_eqb (h.flag % 2) 1 f)

-- ---- balance
module _ (h : Head) (d : List ℕ) (s : Sound h d) where
  abbrev g : Group h.n (plus h)
  g = addition h d s

  -- there are elements 0 and 1
  two : 1 < h.n
  two = omega (arith, s.sizes.n_least)

  -- the numbers of the objects 1 and 0 are those of the difference 1
  pub one-zero : (company h d 1 0 ≡ within h d 1) × (opposition h d 1 0 ≡ across h d 1)
  one-zero = (company-zero h d s 1 two, opposition-zero h d s 1 two)

  -- a difference arises as often as its negative
  pub within-negative : (e : ℕ) → e < h.n → within h d (g.negative e) ≡ within h d e
  within-negative e l =
      ap (within h d) (sym (neutral-left h.n (plus h) g (g.negative e) (g.negative-closed e l)))
      ∙ sym (company-within h d s 0 e (omega arith) l) ∙ company_symmetric h d 0 e ∙ company-zero h d s e l

  -- also across
  pub across-negative : (e : ℕ) → e < h.n → across h d (g.negative e) ≡ across h d e
  across-negative e l =
      ap (across h d) (sym (neutral-left h.n (plus h) g (g.negative e) (g.negative-closed e l)))
      ∙ sym (opposition-across h d s 0 e (omega arith) l) ∙ opposition_symmetric h d 0 e ∙ opposition-zero h d s e l

  -- where the design is balanced, differences are even
  pub balanced-even : (l1 l2 : ℕ) → Balanced h d l1 l2 → EvenDifferences h d l1 l2
  balanced-even l1 l2 b = record {
    inside = λ e z l. sym (company-zero h d s e l) ∙ b.together e 0 (omega arith) (omega arith) (λ q. omega arith);
    between = λ e z l. sym (opposition-zero h d s e l) ∙ b.against e 0 (omega arith) (omega arith) (λ q. omega arith);
    beside = λ f. sym (company_fixed h d s 0 some) ∙ b.together 0 h.n (omega (arith, some)) (omega arith) (λ q. omega (arith, some));
    opposite = λ f. sym (opposition_fixed h d s 0 some) ∙ b.against 0 h.n (omega (arith, some)) (omega arith) (λ q. omega (arith, some));
  }
    where
      some : 0 < h.n
      some = omega (arith, two)

  -- where differences are even, the design is balanced
  pub even-balanced : (l1 l2 : ℕ) → EvenDifferences h d l1 l2 → Balanced h d l1 l2
  even-balanced l1 l2 v = balanced_from h d l1 l2 (λ i j l m. go i j l m (dec_lt i h.n))
    where
      -- two elements that differ have a difference but 0
      apart : (i j : ℕ) → i < h.n → j < h.n → (i ≡ j → ⊥) → 0 < less h.n (plus h) g i j
      apart i j l m ne = some (λ e. ne (sym (reaches h.n (plus h) g i j l m) ∙ ap (plus h j) e ∙ g.neutral j m))
        where
          some : (less h.n (plus h) g i j ≡ 0 → ⊥) → 0 < less h.n (plus h) g i j
          some z = omega arith

      go : (i j : ℕ) → i < objects h → j < i → Dec (i < h.n) → (company h d i j ≡ l1) × (opposition h d i j ≡ l2)
      go i j l m (yes q) =
          let n : j < h.n = omega arith in
          let e = apart i j q n (λ e. omega arith) in
          let f = less-closed h.n (plus h) g i j q n in
          (company-within h d s i j q n ∙ v.inside _ e f, opposition-across h d s i j q n ∙ v.between _ e f)
      go i j l m (no q) =
          let top : i ≡ h.n = omega (arith, s.sizes.flag-most) in
          let there : h.flag % 2 ≡ 1 = omega (arith, s.sizes.flag-most) in
          let n : j < h.n = omega arith in (
            ap (λ (z : ℕ). company h d z j) top ∙ company_symmetric h d h.n j ∙ company_fixed h d s j n ∙ v.beside there,
            ap (λ (z : ℕ). opposition h d z j) top ∙ opposition_symmetric h d h.n j ∙ opposition_fixed h d s j n ∙ v.opposite there,
          )

  -- the two tests are one
  pub tests_agree : balanced h d ≡ even_differences h d
  tests_agree = same_tests (balanced h d) (even_differences h d)
      (λ t. is-even h d _ _ two (balanced-even _ _ (balanced-is h d t)))
      (λ t. is-balanced h d _ _ (omega (arith, two)) (even-balanced _ _ (even_is h d t)))

  -- where every object but 0 meets 0 alike, the design is balanced
  pub zero-balanced : (l1 l2 : ℕ) → ((e : ℕ) → 0 < e → e < objects h → (company h d e 0 ≡ l1) × (opposition h d e 0 ≡ l2)) → Balanced h d l1 l2
  zero-balanced l1 l2 a = even-balanced l1 l2 (record {
    inside = λ e z l. sym (company-zero h d s e l) ∙ (a e z (omega arith)).0;
    between = λ e z l. sym (opposition-zero h d s e l) ∙ (a e z (omega arith)).1;
    beside = λ f. sym (company_fixed h d s 0 some) ∙ company_symmetric h d 0 h.n ∙ (a h.n some (omega arith)).0;
    opposite = λ f. sym (opposition_fixed h d s 0 some) ∙ opposition_symmetric h d 0 h.n ∙ (a h.n some (omega arith)).1;
  })
    where
      some : 0 < h.n
      some = omega (arith, two)

  -- so the test of the other objects against 0 is the test of balance
  pub zero_decides : balanced h d ≡ all (objects h - 1)
      (λ e. eqb (company h d (suc e) 0) (company h d 1 0) && eqb (opposition h d (suc e) 0) (opposition h d 1 0))
  zero_decides = same_tests _ _ there back
    where
      there : balanced h d ≡ true → all (objects h - 1)
          (λ e. eqb (company h d (suc e) 0) (company h d 1 0) && eqb (opposition h d (suc e) 0) (opposition h d 1 0)) ≡ true
      there t =
          let b = balanced-is h d t in
          all-each (objects h - 1) _ (λ e l. and_both
          (eq-eqb _ _ (b.together (suc e) 0 (omega arith) (omega arith) (λ q. omega arith)))
          (eq-eqb _ _ (b.against (suc e) 0 (omega arith) (omega arith) (λ q. omega arith))))

      back : all (objects h - 1)
          (λ e. eqb (company h d (suc e) 0) (company h d 1 0) && eqb (opposition h d (suc e) 0) (opposition h d 1 0)) ≡ true → balanced h d ≡ true
      back t = is-balanced h d _ _ (omega (arith, two)) (zero-balanced (company h d 1 0) (opposition h d 1 0) each)
        where
          each : (e : ℕ) → 0 < e → e < objects h → (company h d e 0 ≡ company h d 1 0) × (opposition h d e 0 ≡ opposition h d 1 0)
          each e z l =
              let q : suc (e - 1) ≡ e = omega arith in
              subst (λ (k : ℕ). (company h d k 0 ≡ company h d 1 0) × (opposition h d k 0 ≡ opposition h d 1 0)) q
              (two-numbers _ _ _ _ (all-at (objects h - 1) _ t (e - 1) (omega arith)))

-- ---- the judgement
module _ (h : Head) (d : List ℕ) where
  -- the verdict by differences is the verdict
  pub differences_verdict_lem : differences_verdict h d ≡ judge_verdict h d
  unfolding differences_verdict judge_verdict
  differences_verdict_lem = go (design_verdict h d) refl
    where
      go : (a : Verdict) → design_verdict h d ≡ a → design_verdict h d ⨾ test (even_differences h d) 6 0 ≡ design_verdict h d ⨾ test (balanced h d) 6 0
      go (Ok done) e = ap (λ (t : Bool). design_verdict h d ⨾ test t 6 0) (sym (tests_agree h d (sound h d e)))
      go (Err why) e = refused_stays _ why.number why.place e ∙ sym (refused_stays _ why.number why.place e)

  -- so are the parameters of a sound design
  pub differences_parameters_lem : Sound h d → differences_parameters h d ≡ parameters_of h d
  unfolding differences_parameters beta
  differences_parameters_lem s = let one = one-zero h d s in rw (one.0, one.1)

  -- under the verdict they are the same
  numbers : (a : Verdict) → design_verdict h d ≡ a →
      given (judge_verdict h d) (differences_parameters h d) no_parameters ≡ given (judge_verdict h d) (parameters_of h d) no_parameters
  unfolding judge_verdict
  numbers (Ok done) e = ap (λ (x : Parameters). given (judge_verdict h d) x no_parameters) (differences_parameters_lem (sound h d e))
  numbers (Err why) e = let r = refused_stays (test (balanced h d) 6 0) why.number why.place e in given_no _ _ _ why.number why.place r ∙ sym (given_no _ _ _ why.number why.place r)

  -- a verdict with its parameters
  abbrev told : Verdict → Parameters → Judged
  told verdict parameters = record { verdict = verdict; parameters = parameters }

  -- and the whole judgement, whatever the head and the list
  pub differences_judge : differences_judged h d ≡ judged h d
  differences_judge =
      ap (λ (x : Verdict). told x (given x (differences_parameters h d) no_parameters)) differences_verdict_lem
      ∙ ap (told (judge_verdict h d)) (numbers (design_verdict h d) refl)
