-- What is counted of the initial blocks alone (02, P14): how often a difference arises on a side and between the sides, and how many elements ∞ meets; and
-- the judgement of a design by these counts, with no block developed. Assumes nothing.
use Rattle.std.specs.Prelude.{ℕ, suc, ◌+◌, ◌-◌, ◌*◌, ◌%◌, ◌<◌, Bool, true, cond, ◌&&◌, List, [], ◌∷◌, ◌≡◌, take, drop, eqb}
use Rattle.algebra.specs.Ranges.{sum_ℕ, all}
use Rattle.records.specs.declared.Head.{Head}
use Rattle.records.specs.declared.Parameters.{Parameters}
use Rattle.records.specs.declared.Judged.{Judged}
use Rattle.meaning.specs.Design.{objects, blocks, with_fixed, occ, plus}
use Rattle.meaning.specs.Refusals.{Verdict, ◌⨾◌, test}
use Rattle.meaning.specs.Calls.{given, no_parameters, design_verdict}

-- the bytes of the left of initial block q
abbrev pub initial_left : Head → List ℕ → ℕ → List ℕ
initial_left h d q = take h.p (drop (2 * h.p * q) d)

-- and those of its right
abbrev pub initial_right : Head → List ℕ → ℕ → List ℕ
initial_right h d q = take h.p (drop (2 * h.p * q + h.p) d)

-- the sum of f over the elements of a list: 255 is ∞ and no element
unfoldable pub over_elements : (ℕ → ℕ) → List ℕ → ℕ
over_elements f [] = 0
over_elements f (x ∷ xs) = cond (eqb x 255) 0 (f x) + over_elements f xs

-- how many elements a list has
abbrev pub elements : List ℕ → ℕ
elements xs = over_elements (λ x. 1) xs

-- how many x of xs and elements y of ys have x = y + e, that is, the difference e
abbrev pub arises : (ℕ → ℕ → ℕ) → ℕ → List ℕ → List ℕ → ℕ
arises add e xs ys = over_elements (λ y. occ (add y e) xs) ys

-- how often e is the difference of two elements of one side of an initial block, each two taken in both orders
unfoldable pub within : Head → List ℕ → ℕ → ℕ
within h d e = sum_ℕ h.m (λ q. arises (plus h) e (initial_left h d q) (initial_left h d q) + arises (plus h) e (initial_right h d q) (initial_right h d q))

-- how often e is the difference of two elements on opposite sides of an initial block, each two taken in both orders
unfoldable pub across : Head → List ℕ → ℕ → ℕ
across h d e = sum_ℕ h.m (λ q. arises (plus h) e (initial_left h d q) (initial_right h d q) + arises (plus h) e (initial_right h d q) (initial_left h d q))

-- how many elements stand on the side of ∞, in all initial blocks
unfoldable pub beside_fixed : Head → List ℕ → ℕ
beside_fixed h d = sum_ℕ h.m (λ q. occ 255 (initial_left h d q) * elements (initial_left h d q) + occ 255 (initial_right h d q) * elements (initial_right h d q))

-- how many elements stand on the side opposite to ∞
unfoldable pub against_fixed : Head → List ℕ → ℕ
against_fixed h d = sum_ℕ h.m (λ q. occ 255 (initial_right h d q) * elements (initial_left h d q) + occ 255 (initial_left h d q) * elements (initial_right h d q))

-- even: every difference but 0 arises l1 times within and l2 times across, and where ∞ takes part it has l1 elements beside it and l2 against it
pub record EvenDifferences (h : Head) (d : List ℕ) (l1 l2 : ℕ) : Type 0 where
  pub inside : (e : ℕ) → 0 < e → e < h.n → within h d e ≡ l1
  pub between : (e : ℕ) → 0 < e → e < h.n → across h d e ≡ l2
  pub beside : h.flag % 2 ≡ 1 → beside_fixed h d ≡ l1
  pub opposite : h.flag % 2 ≡ 1 → against_fixed h d ≡ l2

-- the same as a test, with l1 and l2 read off the difference 1
unfoldable pub even_differences : Head → List ℕ → Bool
even_differences h d =
    all (h.n - 1) (λ e. eqb (within h d (suc e)) (within h d 1) && eqb (across h d (suc e)) (across h d 1))
    && cond (with_fixed h) (eqb (beside_fixed h d) (within h d 1) && eqb (against_fixed h d) (across h d 1)) true

-- the verdict on a design by its differences
unfoldable pub differences_verdict : Head → List ℕ → Verdict
differences_verdict h d = design_verdict h d ⨾ test (even_differences h d) 6 0

-- the parameters of a design by its differences
unfoldable pub differences_parameters : Head → List ℕ → Parameters
differences_parameters h d = let v = objects h in let l1 = within h d 1 in let l2 = across h d 1 in
    record { v = v; b = blocks h; r = (l2 - l1) * (v - 1); p = h.p; l1 = l1; l2 = l2 }

-- the judgement of a design by its differences
abbrev pub differences_judged : Head → List ℕ → Judged
differences_judged h d = let verdict = differences_verdict h d in
    record { verdict = verdict; parameters = given verdict (differences_parameters h d) no_parameters }
