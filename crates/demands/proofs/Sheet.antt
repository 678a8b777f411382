-- What checking a sheet answers: the search for the first difference by its laws, and, where the sheet agrees, the claimed column is the published one, so that
-- demand 3 speaks of it. Assumes nothing.
use Rattle.std.proofs.Common.{Some, Option, Ok, None, Err}
use mathlib.Core.Bool.{Bool, true, false, cond, false≢true}
use mathlib.Core.List.{List, [], ◌∷◌}
use mathlib.Core.Path.{◌≡◌, refl, sym, ap, ap₂, subst, ◌∙◌}
use Prim.Native.Nat.{ℕ, zero, suc, ◌≤◌, ◌<◌}
use native.Mathlib.Omega.{arith}
use borrow.Author.Tests.{ltb-true, ltb-false, eqb-true, eq-eqb, ne_eqb}
use lib.Dec.{eqb, ltb}
use lib.Ieee.{eq}
use lib.IntN.{ℤ, pos, ◌*ℤ◌}
use lib.ListN.{length}
use Rattle.algebra.proofs.Sums.{sum_cong}
use Rattle.algebra.proofs.Tests.{and_left, and_right, and_both}
use Rattle.records.specs.declared.Agreement.TheVariants.{Agrees, Differs}
use Rattle.records.specs.declared.Head.{Head}
use Rattle.records.specs.declared.Spread.{Spread}
use Rattle.meaning.specs.Design.{objects, blocks, left, right}
use Rattle.meaning.specs.Analysis.{reading, member, restrained, freedom, spread_hundredths_of}
use Rattle.meaning.specs.Publishing.{float, spread_of}
use Rattle.meaning.specs.Fractions.{Fraction, ◌+ᶠ◌, ◌-ᶠ◌, ◌≤ᶠ◌, ◌<ᶠ◌, whole, squared, summed, values_along, deviation_under, squares_under}
use Rattle.meaning.specs.Refusals.{Verdict, ◌⨾◌, accepted, refused, test}
use Rattle.meaning.specs.File.{read_verdict}
use Rattle.meaning.specs.Edition2.{four_of, read_verdict2}
use Rattle.meaning.specs.Sheet.{Checked, agrees, differs, unchecked, claim, same_spread, differs_at, against, checked_under, checked_verdict}
use Rattle.laws.proofs.Chains.{Sound, job, opened, held, goes_on, accepts, refused_stays, test_yes, test_no}
use Rattle.laws.proofs.Occurrences.{Each, each-head, each_tail}
use Rattle.laws.proofs.Clean.{left-objects, right-objects}
use Rattle.laws.proofs.Files.{file-job}
use Rattle.laws.proofs.Edition2.{file_job2}
use Rattle.claims.proofs.Sheets.{right-before, differs_at_lem, all_right, first_off, against-object, against-spread}
use Rattle.demands.specs.Job.{Job, job_in, v, verdict_of, exact, published, squares}
use Rattle.demands.specs.Fractions.{distance, hundredths}
use Rattle.demands.specs.Demand3.{hundredth, half_hundredth, excess, LeastSquares}
use Rattle.demands.specs.Sheet.{RightSpread, Right, claimed_values, Carried, Taken, SheetChecked, SheetOfParts, SheetOfFile, SheetOfSecond}
use Rattle.demands.proofs.Published.{least-squares}

-- ---- answers

-- two answers that differ
agrees_is_not : {A : Type 0} (i : ℕ) → differs i ≡ agrees → A
agrees_is_not i e = absurd (false≢true (ap agreeing e))
  where
    agreeing : Checked → Bool
    agreeing (Ok Agrees) = true
    agreeing (Ok (Differs at)) = false
    agreeing (Err why) = false

-- the place of a difference
same_place : (i o : ℕ) → differs i ≡ differs o → i ≡ o
same_place i o e = ap at e
  where
    at : Checked → ℕ
    at (Ok Agrees) = 0
    at (Ok (Differs i)) = i
    at (Err why) = why.place

-- ---- claims against hundredths and a spread

module _ (n : ℕ) (f : ℕ → ℤ) (spread : Option Spread) (claims : List ℤ) (claimed : Option Spread) where
  abbrev found : ℕ
  found = differs_at n f claims

  abbrev compared : Checked
  compared = against n f spread claims claimed

  -- the two ways: an object differs, or the spread decides
  by_object : found < n → differs found ≡ compared
  by_object l = against-object n f spread claims claimed found refl l

  by_spread : n ≤ found → cond (same_spread claimed spread) agrees (differs n) ≡ compared
  by_spread l = against-spread n f spread claims claimed found refl l (same_spread claimed spread) refl

  -- past the objects every claim is right
  past_right : n ≤ found → (i : ℕ) → i < n → claim claims i ≡ f i
  past_right l i m = right-before n f claims i (omega (arith, l, m))

  compared-agrees : compared ≡ agrees → ((i : ℕ) → i < n → claim claims i ≡ f i) × (same_spread claimed spread ≡ true)
  compared-agrees e = go (ltb found n) refl
    where
      same : (t : Bool) → same_spread claimed spread ≡ t → n ≤ found → same_spread claimed spread ≡ true
      same true p l = p
      same false p l = agrees_is_not n (sym (ap (λ (b : Bool). cond b agrees (differs n)) p) ∙ by_spread l ∙ e)

      go : (t : Bool) → ltb found n ≡ t → ((i : ℕ) → i < n → claim claims i ≡ f i) × (same_spread claimed spread ≡ true)
      go true p = agrees_is_not found (by_object (ltb-true found n p) ∙ e)
      go false p = let l = ltb-false found n p in (past_right l, same (same_spread claimed spread) refl l)

  agrees-compared : ((i : ℕ) → i < n → claim claims i ≡ f i) → same_spread claimed spread ≡ true → compared ≡ agrees
  agrees-compared e s = sym (by_spread (omega (arith, all_right n f claims e))) ∙ ap (λ (b : Bool). cond b agrees (differs n)) s

  -- where it names a place: the object that is found, or, past the objects, the spread's
  named_object : (i : ℕ) → compared ≡ differs i → found < n → i ≡ found
  named_object i e l = same_place i found (sym e ∙ sym (by_object l))

  named_spread : (i : ℕ) → compared ≡ differs i → n ≤ found → (i ≡ n) × (same_spread claimed spread ≡ false)
  named_spread i e l = go (same_spread claimed spread) refl
    where
      go : (t : Bool) → same_spread claimed spread ≡ t → (i ≡ n) × (same_spread claimed spread ≡ false)
      go true p = agrees_is_not i (sym e ∙ sym (by_spread l) ∙ ap (λ (b : Bool). cond b agrees (differs n)) p)
      go false p = (same_place i n (sym e ∙ sym (by_spread l) ∙ ap (λ (b : Bool). cond b agrees (differs n)) p), p)

  object-differs : (i : ℕ) → i < n → compared ≡ differs i → ((o : ℕ) → o < i → claim claims o ≡ f o) × (claim claims i ≡ f i → ⊥)
  object-differs i m e = go (ltb found n) refl
    where
      go : (t : Bool) → ltb found n ≡ t → ((o : ℕ) → o < i → claim claims o ≡ f o) × (claim claims i ≡ f i → ⊥)
      go true p =
          let l = ltb-true found n p in
          let is = named_object i e l in
          (λ o k. right-before n f claims o (omega (arith, is, k)), subst (λ (x : ℕ). claim claims x ≡ f x → ⊥) (sym is) (differs_at_lem n f claims l))
      go false p = absurd (omega (arith, m, (named_spread i e (ltb-false found n p)).0))

  spread-differs : compared ≡ differs n → ((i : ℕ) → i < n → claim claims i ≡ f i) × (same_spread claimed spread ≡ false)
  spread-differs e = go (ltb found n) refl
    where
      go : (t : Bool) → ltb found n ≡ t → ((i : ℕ) → i < n → claim claims i ≡ f i) × (same_spread claimed spread ≡ false)
      go true p = let l = ltb-true found n p in absurd (omega (arith, l, named_object n e l))
      go false p = let l = ltb-false found n p in (past_right l, (named_spread n e l).1)

  named_most : (i : ℕ) → compared ≡ differs i → i ≤ n
  named_most i e = go (ltb found n) refl
    where
      go : (t : Bool) → ltb found n ≡ t → i ≤ n
      go true p = let l = ltb-true found n p in omega (arith, l, named_object i e l)
      go false p = omega (arith, (named_spread i e (ltb-false found n p)).0)

  -- and back
  differs-object : (i : ℕ) → i < n → ((o : ℕ) → o < i → claim claims o ≡ f o) → (claim claims i ≡ f i → ⊥) → compared ≡ differs i
  differs-object i m e d = let is : found ≡ i = first_off n f claims i m e d in sym (by_object (omega (arith, is, m))) ∙ ap differs is

  differs-spread : ((i : ℕ) → i < n → claim claims i ≡ f i) → same_spread claimed spread ≡ false → compared ≡ differs n
  differs-spread e s = sym (by_spread (omega (arith, all_right n f claims e))) ∙ ap (λ (b : Bool). cond b agrees (differs n)) s

-- ---- under the verdict on the job

-- an answer that is no refusal stands under acceptance
no_refusal : (verdict : Verdict) (answer : Checked) → checked_verdict (checked_under verdict answer) ≡ accepted → verdict ≡ accepted
no_refusal (Ok done) answer e = refl
no_refusal (Err why) answer e = e

module _ (verdict : Verdict) (n : ℕ) (claims : List ℤ) (answer : Checked) where
  abbrev fit : Verdict
  fit = test (eqb (length claims) n) 15 0

  abbrev under : Checked
  under = checked_under (verdict ⨾ fit) answer

  -- what is answered where the job is taken
  taken : verdict ≡ accepted → length claims ≡ n → under ≡ answer
  taken e l = ap (λ (u : Verdict). checked_under u answer) (accepts e (test_yes (eqb (length claims) n) 15 0 (eq-eqb (length claims) n l)))

  -- where it is no refusal the job is taken
  was_taken : (a : Checked) → checked_verdict a ≡ accepted → under ≡ a → (verdict ≡ accepted) × (length claims ≡ n) × (answer ≡ a)
  was_taken a k e =
      let all : verdict ⨾ fit ≡ accepted = no_refusal (verdict ⨾ fit) answer (ap checked_verdict e ∙ k) in
      let both = opened verdict fit all in
      let long = eqb-true (length claims) n (held (eqb (length claims) n) 15 0 both.1) in
      (both.0, long, sym (taken both.0 long) ∙ e)

  refusal_stays : (k at : ℕ) → verdict ≡ refused k at → under ≡ unchecked k at
  refusal_stays k at e = ap (λ (u : Verdict). checked_under u answer) (refused_stays fit k at e)

  wrong_length : verdict ≡ accepted → (length claims ≡ n → ⊥) → under ≡ unchecked 15 0
  wrong_length e d =
      ap (λ (u : Verdict). checked_under u answer) (goes_on fit e ∙ test_no (eqb (length claims) n) 15 0 (ne_eqb (length claims) n d))

-- ---- a right spread

module _ (j : Job) where
  abbrev k : ℕ
  k = spread_hundredths_of j.head j.initial j.readings

  abbrev own : Option Spread
  own = spread_of k (freedom j.head)

  right-spread : (claimed : Option Spread) → same_spread claimed own ≡ true → RightSpread j claimed
  right-spread claimed e = go claimed (freedom j.head) refl e
    where
      go : (claimed : Option Spread) (f : ℕ) → freedom j.head ≡ f → same_spread claimed (spread_of k f) ≡ true → RightSpread j claimed
      go (Some spread) zero p e = absurd (false≢true e)
      go (Some spread) (suc f) p e =
          let same = eqb-true spread.freedom (suc f) (and_right (eq spread.value (float (pos k) 100)) (eqb spread.freedom (suc f)) e) in
          (omega (arith, p), same ∙ sym p, and_left (eq spread.value (float (pos k) 100)) (eqb spread.freedom (suc f)) e)
      go None zero p e = p
      go None (suc f) p e = absurd (false≢true e)

  spread-right : (claimed : Option Spread) → RightSpread j claimed → same_spread claimed own ≡ true
  spread-right claimed r = go claimed (freedom j.head) refl r
    where
      go : (claimed : Option Spread) (f : ℕ) → freedom j.head ≡ f → RightSpread j claimed → same_spread claimed (spread_of k f) ≡ true
      go (Some spread) zero p (some, same, number) = absurd (omega (arith, p, some))
      go (Some spread) (suc f) p (some, same, number) = and_both number (eq-eqb spread.freedom (suc f) (same ∙ p))
      go None zero p r = refl
      go None (suc f) p r = absurd (omega (arith, p, r))

  wrong_spread : (claimed : Option Spread) → same_spread claimed own ≡ false → RightSpread j claimed → ⊥
  wrong_spread claimed e r = false≢true (sym e ∙ spread-right claimed r)

  spread_wrong : (claimed : Option Spread) → (RightSpread j claimed → ⊥) → same_spread claimed own ≡ false
  spread_wrong claimed n = go (same_spread claimed own) refl
    where
      go : (t : Bool) → same_spread claimed own ≡ t → same_spread claimed own ≡ false
      go true e = absurd (n (right-spread claimed e))
      go false e = e

-- ---- two sets of values that agree over the objects

module _ (u x : ℕ → Fraction) where
  along_agree : (n : ℕ) (xs : List ℕ) → ((i : ℕ) → i < n → u i ≡ x i) → Each (λ i. i < n) xs → values_along u xs ≡ values_along x xs
  unfolding values_along
  along_agree n [] e o = refl
  along_agree n (i ∷ xs) e o =
      ap₂ ◌+ᶠ◌ (e i (each-head (λ i. i < n) i xs o)) (along_agree n xs e (each_tail (λ i. i < n) i xs o))

summed_agree : (n : ℕ) (f g : ℕ → Fraction) → ((i : ℕ) → i < n → f i ≡ g i) → summed n f ≡ summed n g
unfolding summed
summed_agree zero f g e = refl
summed_agree (suc n) f g e = ap₂ ◌+ᶠ◌ (summed_agree n f g (λ i l. e i (omega arith))) (e n (omega arith))

module _ (h : Head) (d : List ℕ) (s : Sound h d) (y : List ℤ) (u x : ℕ → Fraction) (e : (i : ℕ) → i < objects h → u i ≡ x i) where
  deviations_agree : (k : ℕ) → k < blocks h → deviation_under h d y u k ≡ deviation_under h d y x k
  unfolding deviation_under
  deviations_agree k l =
      ap₂ (λ (a b : Fraction). whole (reading y k) -ᶠ (a -ᶠ b)) (along_agree u x (objects h) (left h d k) e (left-objects h d s k l))
      (along_agree u x (objects h) (right h d k) e (right-objects h d s k l))

  squares_agree : squares_under h d y u ≡ squares_under h d y x
  unfolding squares_under
  squares_agree = summed_agree (blocks h) _ _ (λ k l. ap squared (deviations_agree k l))

-- ---- what agreement carries over

module _ (j : Job) (claims : List ℤ) (e : verdict_of j ≡ accepted) (right : (i : ℕ) → i < v j → Right j claims i) where
  open j use {head as h, initial as d, readings as y, set as w, sum as M}

  keeps : LeastSquares j
  keeps = least-squares j e

  value-is : (i : ℕ) → i < v j → claimed_values j claims i ≡ published j i
  value-is i l = ap hundredths (right i l)

  squares-same : squares j (claimed_values j claims) ≡ squares j (published j)
  squares-same = squares_agree h d (job h d y w M e).measures.design y (claimed_values j claims) (published j) value-is

  adds : restrained (v j) w (claim claims) ≡ restrained (v j) w (λ i. (published j i).top)
  unfolding restrained
  adds = sum_cong (v j) _ _ (λ i l. ap (λ (x : ℤ). pos (member w i) *ℤ x) (right i l))

  kept : summed (v j) (λ i. record { top = pos (member w i) *ℤ (claimed_values j claims i).top; bottom = (claimed_values j claims i).bottom })
      ≡ summed (v j) (λ i. record { top = pos (member w i) *ℤ (published j i).top; bottom = (published j i).bottom })
  kept = summed_agree (v j) _ _ (λ i l. (λ k. record { top = pos (member w i) *ℤ right i l k; bottom = 100 }))

  pub carried : Carried j claims
  carried = record {
    column_adds_up = adds ∙ keeps.column_adds_up;
    claimed_keeps = subst (λ (x : Fraction). x.top *ℤ pos 1 ≡ M *ℤ pos x.bottom) (sym kept) keeps.published_keeps;
    members-near = λ i l m. subst (λ (x : Fraction). distance x (exact j i) <ᶠ hundredth) (sym (value-is i l)) (keeps.members-near i m);
    others-near = λ i l m. subst (λ (x : Fraction). distance x (exact j i) ≤ᶠ half_hundredth) (sym (value-is i l)) (keeps.others-near i m);
    excess_at_most = subst (λ (x : Fraction). x ≤ᶠ squares j (exact j) +ᶠ excess j) (sym squares-same) keeps.excess_at_most;
    excess_at_least = subst (λ (x : Fraction). squares j (exact j) ≤ᶠ x) (sym squares-same) keeps.excess_at_least;
  }

-- ---- the sheet

module _ (verdict : Verdict) (j : Job) (claims : List ℤ) (claimed : Option Spread) (direct : verdict ≡ accepted → verdict_of j ≡ accepted) where
  abbrev f : ℕ → ℤ
  f i = (published j i).top

  abbrev comparison : Checked
  comparison = against (v j) f (own j) claims claimed

  abbrev answer : Checked
  answer = under verdict (v j) claims comparison

  agreeing : (answer ≡ agrees) → (Taken verdict j claims claimed answer × ((i : ℕ) → i < v j → Right j claims i) × RightSpread j claimed)
  agreeing e =
      let t = was_taken verdict (v j) claims comparison agrees refl e in
      let r = compared-agrees (v j) f (own j) claims claimed t.2 in
      ((t.0, t.1), r.0, right-spread j claimed r.1)

  sheet_checked : SheetChecked verdict j claims claimed answer
  sheet_checked = record {
    own-refusal = refusal_stays verdict (v j) claims comparison;
    wrong_length = wrong_length verdict (v j) claims comparison;
    agrees_exactly = (
      agreeing,
      λ ((e, l), r, s).
          taken verdict (v j) claims comparison e l ∙ agrees-compared (v j) f (own j) claims claimed r (spread-right j claimed s),
    );
    first-object = λ i m. (
      λ e.
          let t = was_taken verdict (v j) claims comparison (differs i) refl e in
          let r = object-differs (v j) f (own j) claims claimed i m t.2 in
          ((t.0, t.1), r.0, r.1),
      λ ((e, l), r, n). taken verdict (v j) claims comparison e l ∙ differs-object (v j) f (own j) claims claimed i m r n,
    );
    v_for_the_spread = (
      λ e.
          let t = was_taken verdict (v j) claims comparison (differs (v j)) refl e in
          let r = spread-differs (v j) f (own j) claims claimed t.2 in
          ((t.0, t.1), r.0, wrong_spread j claimed r.1),
      λ ((e, l), r, n). taken verdict (v j) claims comparison e l ∙ differs-spread (v j) f (own j) claims claimed r (spread_wrong j claimed n),
    );
    none_beyond = λ i e. named_most (v j) f (own j) claims claimed i (was_taken verdict (v j) claims comparison (differs i) refl e).2;
    carries = λ e. let a = agreeing e in carried j claims (direct a.0.0) a.1;
  }

pub sheet_of_parts : (j : Job) (claims : List ℤ) (claimed : Option Spread) → SheetOfParts j claims claimed
sheet_of_parts j claims claimed = sheet_checked (verdict_of j) j claims claimed (λ e. e)

pub sheet_of_file : (s : List ℕ) (claims : List ℤ) (claimed : Option Spread) → SheetOfFile s claims claimed
sheet_of_file s claims claimed = sheet_checked (read_verdict s) (job_in s) claims claimed (λ e. (file-job s e).1)

pub sheet_of_second : (s : List ℕ) (claims : List ℤ) (claimed : Option Spread) → SheetOfSecond s claims claimed
sheet_of_second s claims claimed =
    sheet_checked (read_verdict2 s) (job_in (four_of s)) claims claimed (λ e. (file-job (four_of s) (file_job2 s e).1).1)
