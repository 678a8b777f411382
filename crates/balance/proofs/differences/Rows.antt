-- The row of object 0 in each pair table, as it is counted by differences.
--     one-most        the objects 1 and 0 oppose few times
--     rows_tell       the test of every other object is the test of balance
--     rows-judged     the judgement over the rows is that of the design
-- Assumes nothing.
use Prim.Native.Nat.{ℕ, ◌+◌, ◌-◌, ◌≤◌, ◌<◌}
use mathlib.Core.Path.{◌≡◌, refl, sym, ap, ap₂, ◌∙◌}
use mathlib.Core.Bool.{◌&&◌}
use mathlib.Core.List.{List}
use native.Mathlib.Numerals.{add-one}
use native.Mathlib.Omega.{arith}
use lib.Dec.{eqb}
use lib.ListN.{get_or}
use Rattle.algebra.proofs.Filling.{get_d_over}
use Rattle.algebra.proofs.Tests.{all_cong}
use Rattle.records.specs.declared.Head.{Head}
use Rattle.records.specs.declared.Differences.{Differences}
use Rattle.meaning.specs.Design.{objects, blocks, company, opposition, balanced}
use Rattle.meaning.specs.Refusals.{accepted}
use Rattle.meaning.specs.Calls.{design_verdict, judged}
use Rattle.laws.proofs.Chains.{sound, given_yes}
use Rattle.laws.proofs.DifferencesBalance.{zero_decides}
use Rattle.design.specs.Differences.{no_row, row_of, differences_of}
use Rattle.balance.specs.Tables.{row_even, rows_judged}
use Rattle.balance.proofs.verdict.Tables.{opposition-most, judged-accepted}

-- an entry of a row
row_at : (f : ℕ → ℕ) (e : ℕ) → e < 50 → get_or (row_of f) e 0 ≡ f e
row_at f e l = get_d_over 50 f no_row 0 e l (omega arith)

-- an accepted block list, by its differences
module _ (h : Head) (d : List ℕ) (e : design_verdict h d ≡ accepted) {counted : Differences} (p : counted ≡ differences_of h d) where
  within-is : counted.within ≡ row_of (λ i. company h d i 0)
  within-is = ap (λ (x : Differences). x.within) p ∙ given_yes (design_verdict h d) _ _ e

  across-is : counted.across ≡ row_of (λ i. opposition h d i 0)
  across-is = ap (λ (x : Differences). x.across) p ∙ given_yes (design_verdict h d) _ _ e

  -- how often object i meets object 0
  company-entry : (i : ℕ) → i < 50 → get_or counted.within i 0 ≡ company h d i 0
  company-entry i l = ap (λ (r : List ℕ). get_or r i 0) within-is ∙ row_at (λ j. company h d j 0) i l

  opposition-entry : (i : ℕ) → i < 50 → get_or counted.across i 0 ≡ opposition h d i 0
  opposition-entry i l = ap (λ (r : List ℕ). get_or r i 0) across-is ∙ row_at (λ j. opposition h d j 0) i l

  -- that of the object 1 with it
  company-one : get_or counted.within 1 0 ≡ company h d 1 0
  company-one = company-entry 1 (omega arith)

  opposition-one : get_or counted.across 1 0 ≡ opposition h d 1 0
  opposition-one = opposition-entry 1 (omega arith)

  -- it is small
  pub one-most : get_or counted.across 1 0 ≤ 2600
  one-most = let fit = (sound h d e).sizes in omega (arith, opposition-one, opposition-most h d (sound h d e) 1 0)

  -- the test of every other object is the test of balance
  rows_tell : row_even counted.within counted.across (get_or counted.within 1 0) (get_or counted.across 1 0) 1 (objects h - 1) ≡ balanced h d
  rows_tell =
      let fit = (sound h d e).sizes in
      all_cong (objects h - 1) _ _ (λ k l. ap₂ ◌&&◌ (ap₂ eqb (company-entry (k + 1) (omega arith) ∙ ap (λ (i : ℕ). company h d i 0) (add-one k)) company-one)
      (ap₂ eqb (opposition-entry (k + 1) (omega arith) ∙ ap (λ (i : ℕ). opposition h d i 0) (add-one k)) opposition-one))
      ∙ sym (zero_decides h d (sound h d e))

  -- the judgement
  pub rows-judged : (v : ℕ) → v ≡ objects h → rows_judged v (blocks h) h.p counted.within counted.across ≡ judged h d
  rows-judged v ev =
      let within = counted.within in
      let across = counted.across in
      judged-accepted h d (λ v. row_even within across (get_or within 1 0) (get_or across 1 0) 1 (v - 1)) v h.p _ _ e ev rows_tell refl company-one opposition-one
