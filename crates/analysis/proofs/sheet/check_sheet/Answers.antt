-- `check_sheet`: the job worked out in rooms of its own decides, then the number of the claims; the column that is compared is the published one. Assumes
-- nothing.
use Rattle.std.proofs.Common.{◌≡◌, ℕ, ◌<◌, Option, List, ℤ, pos, length, refl, sym, ap, ap₂, ◌∙◌, eqb, eq-eqb, ne_eqb, to_z-of_z, rules}
use mathlib.Core.List.{replicate}
use Rattle.algebra.specs.Buffers.{over}
use Rattle.records.specs.declared.Head.{Head}
use Rattle.records.specs.declared.Spread.{Spread}
use Rattle.records.specs.declared.Solved.{Solved}
use Rattle.records.specs.declared.Spreading.{Spreading}
use Rattle.meaning.specs.Design.{objects}
use Rattle.meaning.specs.Analysis.{numerator_of, denominator_of, freedom, spread_hundredths_of}
use Rattle.meaning.specs.Publishing.{published, spread_of}
use Rattle.meaning.specs.Refusals.{Verdict, ◌⨾◌, accepted, refused}
use Rattle.meaning.specs.Calls.{job_verdict, analyse_verdict, spreading_of, no_spreading}
use Rattle.meaning.specs.Sheet.{unchecked, claim, against, claims_fit, checked_under, comparison}
use Rattle.laws.proofs.Chains.{job, given_yes, goes_on, refused_stays, accepts, test_yes, test_no}
use Rattle.design.proofs.Within.{within-sizes}
use Rattle.claims.proofs.Sheets.{against_ext, under_refused, under_accepted}
use Rattle.analysis.specs.Column.{column_of}
use Rattle.analysis.proofs.Column.{column-published}
use Rattle.analysis.proofs.values.Refusing.{job-verdict}
use Rattle.analysis.proofs.sheet.check_sheet.Goals as goal

-- the answers under the verdict of a job
module _ (h : Head) (d : List ℕ) (y : List ℤ) (w : ℕ) (M : ℤ) (claims : List ℤ) (claimed : Option Spread) where
  abbrev verdict : Verdict
  verdict = job_verdict h d y w M ⨾ claims_fit h claims

  -- a refused job
  refused-job : (k at : ℕ) → job_verdict h d y w M ≡ refused k at → unchecked k at ≡ checked_under verdict (comparison h d y w M claims claimed)
  refused-job k at e = sym (ap (λ (v : Verdict). checked_under v (comparison h d y w M claims claimed)) (refused_stays (claims_fit h claims) k at e))

  -- an accepted one with claims of another number
  wrong_length : job_verdict h d y w M ≡ accepted → (length claims ≡ objects h → ⊥) →
      unchecked 15 0 ≡ checked_under verdict (comparison h d y w M claims claimed)
  wrong_length e n =
      sym (ap (λ (v : Verdict). checked_under v (comparison h d y w M claims claimed))
      (goes_on (claims_fit h claims) e ∙ test_no (eqb (length claims) (objects h)) 15 0 (ne_eqb _ _ n)))

  -- one with a claim for each object, against a column that agrees with the published one
  compared : job_verdict h d y w M ≡ accepted → length claims ≡ objects h → (column : List ℤ) (spread : Option Spread) →
      ((i : ℕ) → i < objects h → claim column i ≡ published h d y w M i) → spread ≡ spread_of (spread_hundredths_of h d y) (freedom h) →
      against (length claims) (claim column) spread claims claimed ≡ checked_under verdict (comparison h d y w M claims claimed)
  compared e long column spread same s =
      ap₂ (λ (v : ℕ) (x : Option Spread). against v (claim column) x claims claimed) long s
      ∙ against_ext (objects h) (claim column) (published h d y w M) (spread_of (spread_hundredths_of h d y) (freedom h)) claims claimed same
      ∙ sym (ap (λ (v : Verdict). checked_under v (comparison h d y w M claims claimed))
      (accepts e (test_yes (eqb (length claims) (objects h)) 15 0 (eq-eqb _ _ long))))

pub returns-in_err-under : goal.returns-in_err-under
returns-in_err-under c =
    let a = c.args in
    let why = c.in_err-under.field-0.0 in
    let told = ap (λ (r : Solved). r.verdict) (rw (to_z-of_z c.ranges.sum) at c.analyse-solved.ensures.value) ∙ job-verdict a.head a.blocks.now a.readings.now a.set a.sum in
    let e = refused-job a.head a.blocks.now a.readings.now a.set a.sum a.claims.now a.claimed why.number why.place (sym told ∙ under_refused _ _ why (sym c.under.ensures ∙ c.in_err-under.was)) in
    rw (← e) (search rules)

pub returns-then-claims-v : goal.returns-then-claims-v
returns-then-claims-v c =
    let a = c.args in
    let told = ap (λ (r : Solved). r.verdict) (rw (to_z-of_z c.ranges.sum) at c.analyse-solved.ensures.value) ∙ job-verdict a.head a.blocks.now a.readings.now a.set a.sum in
    let e = sym told ∙ under_accepted _ _ _ (sym c.under.ensures ∙ c.in_ok-under.was) in
    let v : c.objects-v.result ≡ objects a.head = c.objects-v.ensures ∙ within-sizes _ _ (job a.head a.blocks.now a.readings.now a.set a.sum e).measures.design.sizes in
    wrong_length a.head a.blocks.now a.readings.now a.set a.sum a.claims.now a.claimed e (λ q. c.if-claims-v.true (q ∙ sym v))

pub returns : goal.returns
returns c =
    let a = c.args in
    let h = a.head in
    let d = a.blocks.now in
    let y = a.readings.now in
    let w = a.set in
    let M = a.sum in
    let record-is = rw (to_z-of_z c.ranges.sum) at c.analyse-solved.ensures.value in
    let rooms = job-verdict h d y w M in
    let e : job_verdict h d y w M ≡ accepted = sym (ap (λ (r : Solved). r.verdict) record-is ∙ rooms) ∙ under_accepted _ _ _ (sym c.under.ensures ∙ c.in_ok-under.was) in
    let first : analyse_verdict h d y w M 2600 50 1300 ≡ accepted = rooms ∙ e in
    let denominator = ap (λ (r : Solved). r.denominator) record-is ∙ given_yes (analyse_verdict h d y w M 2600 50 1300) (denominator_of h d w) 0 first in
    let spread = ap (λ (r : Solved). r.spreading.spread) record-is
    ∙ ap (λ (s : Spreading). s.spread) (given_yes (analyse_verdict h d y w M 2600 50 1300) (spreading_of h d y) no_spreading first) in
    let filled : c.analyse-solved.new.values ≡ over (objects h) (numerator_of h d y w M) (replicate 50 (pos 0)) =
    (rw (to_z-of_z c.ranges.sum) at c.analyse-solved.ensures.values_after) ∙ given_yes (analyse_verdict h d y w M 2600 50 1300) _ _ first in
    let v : c.objects-v.result ≡ objects h = c.objects-v.ensures ∙ within-sizes _ _ (job h d y w M e).measures.design.sizes in
    let column : (i : ℕ) → i < objects h → claim c.column-column.result i ≡ published h d y w M i =
    λ i l. ap (λ (z : List ℤ). claim z i) (c.column-column.ensures ∙ ap (λ (d : ℕ). column_of c.analyse-solved.new.values d w) denominator)
    ∙ column-published _ _ _ _ _ (job h d y w M e) _ _ refl filled i l in
    c.compare.ensures ∙ compared h d y w M a.claims.now a.claimed e (c.if-claims-v.false ∙ v) c.column-column.result c.analyse-solved.result.spreading.spread column spread
