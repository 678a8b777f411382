-- FASTER BALANCE CHECK (02, P14). Long designs are checked while the chemist waits. A check is added that counts differences of the initial blocks, with
-- ∞'s counts, and never develops; its verdict, L1 and L2 are equal to the full pair table's for every design within the sizes, cyclic or field. No new
-- refusal.
-- Elements i and j are at distance e where i is j + e. `within h d e` is how often e is the difference of two elements of one side of an initial block,
-- `across h d e` of two on opposite sides, each two taken in both orders; `beside_fixed h d` and `against_fixed h d` are how many elements the initial blocks
-- have beside ∞ and against it. These are sums over the bytes of the initial blocks, by the addition `plus h` of either kind, with no block developed
-- (laws, specs/Differences). `differences_judged h d` is the judgement by them alone; `judged h d` is what `judge` answers, by the two tables of the
-- developed design. The call `judge_by_differences` promises `judged h d`, in the same words as `judge`, and all calls that need balance go by it.
-- Assumes nothing.
use Rattle.std.specs.Prelude.{true, false, List, ◌≡◌, ℕ, ◌<◌}
use Rattle.records.specs.declared.Head.{Head}
use Rattle.meaning.specs.Design.{plus, company, opposition, balanced, parameters_of}
use Rattle.meaning.specs.Refusals.{accepted, refused}
use Rattle.meaning.specs.Calls.{no_parameters, design_verdict, judge_verdict, judged}
use Rattle.laws.specs.Differences.{
  within,
  across,
  beside_fixed,
  against_fixed,
  even_differences,
  differences_verdict,
  differences_parameters,
  differences_judged,
}

module _ (h : Head) (d : List ℕ) where
  -- a design within the sizes, whose block list is as it should be
  abbrev Clean : Type 0
  Clean = design_verdict h d ≡ accepted

  pub record FasterCheck : Type 0 where
    -- counts differences of the initial blocks: two elements are at one distance, whichever they are,
    pub apart : Clean → (i j : ℕ) → i < h.n → j < h.n → (e : ℕ) × (e < h.n) × (plus h j e ≡ i)
    -- each pair at distance e meets as often as e arises within sides,
    pub meet : Clean → (e j : ℕ) → e < h.n → j < h.n → company h d (plus h j e) j ≡ within h d e
    -- and opposes as often as e arises across,
    pub oppose : Clean → (e j : ℕ) → e < h.n → j < h.n → opposition h d (plus h j e) j ≡ across h d e
    -- with ∞'s counts: it meets each element as often as elements stand beside it,
    pub meet-∞ : Clean → (i : ℕ) → i < h.n → company h d i h.n ≡ beside_fixed h d
    -- and opposes each as often as they stand against it
    pub oppose-∞ : Clean → (i : ℕ) → i < h.n → opposition h d i h.n ≡ against_fixed h d
    -- so a design is balanced just where these counts are even
    pub even : Clean → even_differences h d ≡ balanced h d
    -- its verdict is equal to the full pair table's, for every head and block list,
    pub verdict : differences_verdict h d ≡ judge_verdict h d
    -- L1 and L2 are,
    pub l1 : Clean → (differences_parameters h d).l1 ≡ company h d 1 0
    pub l2 : Clean → (differences_parameters h d).l2 ≡ opposition h d 1 0
    -- and so is the whole answer, for every head and block list: all parameters where the design is balanced,
    pub answer : differences_judged h d ≡ judged h d
    pub balanced-answer : Clean → balanced h d ≡ true → differences_judged h d ≡ record { verdict = accepted; parameters = parameters_of h d }
    -- 6 and zeros where it is not,
    pub unbalanced-answer : Clean → balanced h d ≡ false → differences_judged h d ≡ record { verdict = refused 6 0; parameters = no_parameters }
    -- and no new refusal: a block list that is refused is refused by its own number, at its own place
    pub refused-answer : (k at : ℕ) → design_verdict h d ≡ refused k at → differences_judged h d ≡ record { verdict = refused k at; parameters = no_parameters }
