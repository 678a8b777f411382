-- The numbers of an accepted job are in the range of a standard uncertainty, so what is made from them is the definition's. Assumes nothing.
use Rattle.std.proofs.Common.{Option, None}
use mathlib.Core.Path.{◌≡◌, sym, ap, ◌∙◌}
use mathlib.Core.Bool.{true, false}
use mathlib.Core.List.{List}
use Prim.Native.Nat.{ℕ}
use lib.IntN.{ℤ}
use Rattle.records.specs.declared.Head.{Head}
use Rattle.records.specs.declared.JobSpread.{JobSpread}
use Rattle.records.specs.declared.ObjectValue.{ObjectValue}
use Rattle.records.specs.declared.ObjectUncertainty.{ObjectUncertainty}
use Rattle.records.specs.declared.Uncertainty.{Uncertainty}
use Rattle.meaning.specs.Design.{objects}
use Rattle.meaning.specs.Analysis.{qOf, vbeta, denominator_of, factor, freedom}
use Rattle.meaning.specs.Publishing.{value_of, no_value}
use Rattle.meaning.specs.Certificate.{uncertainty_of, uncertainty_answer}
use Rattle.meaning.specs.Wide.{value, wide}
use Rattle.meaning.specs.Refusals.{Verdict, ◌⨾◌, accepted, number, place, clean, exists, in_balance, restraint, in_reach}
use Rattle.meaning.specs.Calls.{
  given,
  slices,
  job_verdict,
  contents,
  readings_verdict,
  value_verdict,
  value_answer,
  spreading_of,
  no_spreading,
  spread_answer,
}
use Rattle.laws.proofs.Chains.{Job, opened, accepts, given_yes, given_no, job}
use Rattle.verdicts.proofs.Told.{refusing, accepting}
use Rattle.arithmetic.specs.Uncertainties.{uncertainty_in}
use Rattle.arithmetic.proofs.Spreads.{q_words}
use Rattle.arithmetic.proofs.Uncertainties.{uncertainty_is, job_in_range}

module _ (h : Head) (d : List ℕ) (y : List ℤ) (w : ℕ) (M : ℤ) (i : ℕ) where
  -- where the value of an object is accepted, the job is, and its spread
  pub value-accepted : value_verdict h d y w M i ≡ accepted → (job_verdict h d y w M ≡ accepted) × (readings_verdict h d y ≡ accepted)
  unfolding value_verdict job_verdict contents readings_verdict
  value-accepted e =
      let own = slices h d y ⨾ clean h d ⨾ exists i (objects h) in
      let a = opened (own ⨾ in_balance h d ⨾ restraint h w M) (in_reach y) e in
      let b = opened (own ⨾ in_balance h d) (restraint h w M) a.0 in
      let c = opened own (in_balance h d) b.0 in
      let f = opened (slices h d y) (clean h d) (opened (slices h d y ⨾ clean h d) (exists i (objects h)) c.0).0 in
      (accepts f.0 (accepts (accepts (accepts f.1 c.1) b.1) a.1), accepts (accepts (accepts f.0 f.1) c.1) a.1)

  module _ (j : Job h d y w M) where
    pub uncertainty_of_job : uncertainty_in (value (wide (qOf h d y))) (denominator_of h d w) (vbeta h d) (freedom h) (factor h w i) ≡ uncertainty_of h d y w i
    unfolding uncertainty_of
    uncertainty_of_job = let m = j.measures in
        ap (λ (q : ℕ). uncertainty_in q (denominator_of h d w) (vbeta h d) (freedom h) (factor h w i)) (q_words h d m.design m.even y m.readings)
        ∙ uncertainty_is _ _ _ _ _ (job_in_range h d y w M j i)

  -- ---- what the call answers

  -- a refusal states nothing
  pub states_nothing : (v : Verdict) → given v false true ≡ true → v ≡ value_verdict h d y w M i →
      ◌≡◌ {A = ObjectUncertainty} (record { verdict = v; uncertainty = None }) (uncertainty_answer h d y w M i)
  states_nothing v r e =
      (λ z. record { verdict = v; uncertainty = sym (given_no v (uncertainty_of h d y w i) None (number v) (place v) (refusing v r)) z })
      ∙ ap (λ (v : Verdict). record { verdict = v; uncertainty = given v (uncertainty_of h d y w i) None }) e

  -- an acceptance states what is made from the value and the spread that were handed out
  module _ (a : ObjectValue) (s : JobSpread) (p : a ≡ value_answer h d y w M i) (q : s ≡ spread_answer h d y) (r : given a.verdict false true ≡ false) where
    valued : value_verdict h d y w M i ≡ accepted
    valued = sym (ap (λ (o : ObjectValue). o.verdict) p) ∙ accepting a.verdict r

    own : a.value ≡ value_of h d y w M i
    own = ap (λ (o : ObjectValue). o.value) p ∙ given_yes (value_verdict h d y w M i) (value_of h d y w M i) no_value valued

    spread : s.spreading ≡ spreading_of h d y
    spread = ap (λ (o : JobSpread). o.spreading) q ∙ given_yes (readings_verdict h d y) (spreading_of h d y) no_spreading (value-accepted valued).1

    pub states : (u : Option Uncertainty) →
        u ≡ uncertainty_in (value s.spreading.q) a.value.denominator s.spreading.vbeta s.spreading.freedom a.value.factor →
        ◌≡◌ {A = ObjectUncertainty} (record { verdict = accepted; uncertainty = u }) (uncertainty_answer h d y w M i)
    states u e =
        ap (λ (u : Option Uncertainty). record { verdict = accepted; uncertainty = u })
        (e ∙ (λ z. uncertainty_in (value (spread z).q) (own z).denominator (spread z).vbeta (spread z).freedom (own z).factor)
        ∙ uncertainty_of_job (job h d y w M (value-accepted valued).0))
        ∙ sym (ap (λ (v : Verdict). record { verdict = v; uncertainty = given v (uncertainty_of h d y w i) None }) valued)
