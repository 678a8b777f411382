-- The judgement, by what its tests gave: the test over two tables is the test of balance, and each way out of the call has its answer.
--     tables_tell, first-most, side-size      what the tables and the words of an accepted block list say
--     judged-refused, judged-accepted         the answer of the call
-- Assumes nothing.
use Prim.Native.Nat.{ℕ, ◌+◌, ◌*◌, ◌≤◌, ◌<◌}
use mathlib.Core.Path.{◌≡◌, sym, ap, ap₂, ◌∙◌}
use mathlib.Core.Bool.{Bool, true, false, ◌&&◌}
use mathlib.Core.List.{List}
use native.Mathlib.Nat.{add-le-add, mul-le-mul}
use native.Mathlib.Omega.{arith}
use lib.Dec.{eqb}
use lib.ListN.{length, get_or}
use Rattle.algebra.specs.Ranges.{sum_ℕ}
use Rattle.algebra.specs.Buffers.{over}
use Rattle.algebra.proofs.Filling.{get_d_over}
use Rattle.algebra.proofs.Sums.{sumℕ_le_const}
use Rattle.algebra.proofs.Tests.{all_cong}
use Rattle.records.specs.declared.Head.{Head}
use Rattle.meaning.specs.Design.{objects, blocks, occ, left, right, company, opposition, balanced, beta}
use Rattle.meaning.specs.Refusals.{Verdict, accepted}
use Rattle.meaning.specs.Calls.{given, word_at, design_verdict, judge_verdict, judged, table_of, company_table, opposition_table}
use Rattle.laws.proofs.Tables.{entry_of}
use Rattle.laws.proofs.Chains.{Sound, sound, given_yes}
use Rattle.laws.proofs.Clean.{block-once, left-objects, left-length}
use Rattle.verdicts.specs.Zeros.{no_judgement}
use Rattle.verdicts.proofs.Told.{refusing}
use Rattle.meaning.specs.Analysis.{member}
use Rattle.words.proofs.Members.{ones_word}
use Rattle.algebra.specs.Tables.{entry}
use Rattle.balance.specs.Tables.{tables_even, judged_by}

-- ---- the tables of a sound design

module _ (h : Head) (d : List ℕ) (s : Sound h d) where
  -- a row is tested from its first column on
  first : (j : ℕ) → j + 0 ≡ j
  first j = omega arith

  -- an entry is that of the objects 1 and 0 just where the counts are
  same : (f : ℕ → ℕ → ℕ) (i j : ℕ) → i < objects h → j < i →
      eqb (entry (table_of (objects h) f) i (j + 0)) (entry (table_of (objects h) f) 1 0) ≡ eqb (f i j) (f 1 0)
  same f i j l m =
      let fit = s.sizes in
      ap₂ eqb (ap (entry (table_of (objects h) f) i) (first j) ∙ entry_of (objects h) f i j (omega arith) l (omega arith))
      (entry_of (objects h) f 1 0 (omega arith) (omega arith) (omega arith))

  -- the test over the two tables of a sound design is the test of balance
  pub tables_balanced : (let c = table_of (objects h) (company h d) in let o = table_of (objects h) (opposition h d) in
      tables_even c o (entry c 1 0) (entry o 1 0) (objects h)) ≡ balanced h d
  unfolding tables_even balanced
  tables_balanced = all_cong (objects h) _ _ (λ i l. all_cong i _ _ (λ j m. ap₂ ◌&&◌ (same (company h d) i j l m) (same (opposition h d) i j l m)))

-- ---- how large an entry is

module _ (h : Head) (d : List ℕ) where
  -- no two objects oppose more often than twice a block
  pub opposition-most : Sound h d → (i j : ℕ) → opposition h d i j ≤ blocks h * 2
  unfolding opposition
  opposition-most s i j = sumℕ_le_const (blocks h) 2 _
      (λ k l. add-le-add (mul-le-mul (left-once k l i) (right-once k l j)) (mul-le-mul (right-once k l i) (left-once k l j)))
    where
      left-once : (k : ℕ) → k < blocks h → (x : ℕ) → occ x (left h d k) ≤ 1
      left-once k l x = omega (arith, block-once h d s k l x)

      right-once : (k : ℕ) → k < blocks h → (x : ℕ) → occ x (right h d k) ≤ 1
      right-once k l x = omega (arith, block-once h d s k l x)

-- ---- an accepted block list, by the words and the two tables that were left
module _ (h : Head) (d : List ℕ) (e : design_verdict h d ≡ accepted) where
  -- the ones of the first word are the size of a side
  pub side-size : (z : List ℕ) {ws : List ℕ} → length z ≡ 2600 → ws ≡ over (2 * blocks h) (word_at h d) z → sum_ℕ 64 (member (get_or ws 0 0)) ≡ h.p
  unfolding word_at
  side-size z whole w =
      let s = sound h d e in
      let fit = s.sizes in
      let some : 1 ≤ h.n = omega arith in
      let first : 0 < blocks h = mul-le-mul fit.m_least some in
      ap (λ (t : List ℕ). sum_ℕ 64 (member (get_or t 0 0))) w
      ∙ ap (λ (x : ℕ). sum_ℕ 64 (member x)) (get_d_over (2 * blocks h) (word_at h d) z 0 0 (omega arith) (omega arith))
      ∙ ones_word (left h d 0) (λ x. omega (arith, block-once h d s 0 first x)) (λ k l. omega (arith, left-objects h d s 0 first k l))
      ∙ left-length h d s 0 first

  module _ {c o : List (List ℕ)} (p : c ≡ company_table h d) (q : o ≡ opposition_table h d) where
    company-is : c ≡ table_of (objects h) (company h d)
    company-is = p ∙ given_yes (design_verdict h d) _ _ e

    opposition-is : o ≡ table_of (objects h) (opposition h d)
    opposition-is = q ∙ given_yes (design_verdict h d) _ _ e

    -- the test over them is the test of balance
    pub tables_tell : tables_even c o (entry c 1 0) (entry o 1 0) (objects h) ≡ balanced h d
    tables_tell = ap₂ (λ (x y : List (List ℕ)). tables_even x y (entry x 1 0) (entry y 1 0) (objects h)) company-is opposition-is
        ∙ tables_balanced h d (sound h d e)

    -- the company of the objects 1 and 0
    pub company-first : entry c 1 0 ≡ company h d 1 0
    company-first =
        let fit = (sound h d e).sizes in
        ap (λ (t : List (List ℕ)). entry t 1 0) company-is ∙ entry_of (objects h) (company h d) 1 0 (omega arith) (omega arith) (omega arith)

    -- their opposition
    pub opposition-first : entry o 1 0 ≡ opposition h d 1 0
    opposition-first =
        let fit = (sound h d e).sizes in
        ap (λ (t : List (List ℕ)). entry t 1 0) opposition-is ∙ entry_of (objects h) (opposition h d) 1 0 (omega arith) (omega arith) (omega arith)

    -- it is small
    pub first-most : entry o 1 0 ≤ 2600
    first-most = let fit = (sound h d e).sizes in omega (arith, opposition-first, opposition-most h d (sound h d e) 1 0)

-- ---- the answers

-- the block list is refused
pub judged-refused : (h : Head) (d : List ℕ) (v : Verdict) → v ≡ design_verdict h d → given v false true ≡ true → no_judgement v ≡ judged h d
unfolding judge_verdict
judged-refused h d v e r = rw (sym e ∙ refusing v r) (ap no_judgement (refusing v r))

-- it is accepted: the judgement is by a test over the objects that is that of balance, and by the two counts of the objects 1 and 0
pub judged-accepted : (h : Head) (d : List ℕ) (even : ℕ → Bool) (v p l1 l2 : ℕ) → design_verdict h d ≡ accepted → v ≡ objects h
    → even (objects h) ≡ balanced h d → p ≡ h.p → l1 ≡ company h d 1 0 → l2 ≡ opposition h d 1 0 → judged_by (even v) v (blocks h) p l1 l2 ≡ judged h d
unfolding judge_verdict judged_by beta
judged-accepted h d even v p l1 l2 e ev f ep e1 e2 = rw (e, ev, f, ep, e1, e2)
