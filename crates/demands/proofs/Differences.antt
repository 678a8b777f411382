-- What the page says of the faster balance check: from the laws of differences. Assumes nothing.
use mathlib.Core.Bool.{true, false}
use mathlib.Core.List.{List}
use mathlib.Core.Path.{◌≡◌, sym, ◌∙◌, ap}
use Prim.Native.Nat.{ℕ}
use Rattle.algebra.proofs.Groups.{less, less-closed, reaches}
use Rattle.records.specs.declared.Head.{Head}
use Rattle.records.specs.declared.Parameters.{Parameters}
use Rattle.meaning.specs.Design.{plus, balanced, parameters_of}
use Rattle.meaning.specs.Refusals.{accepted, refused}
use Rattle.meaning.specs.Calls.{no_parameters, design_verdict, judge_verdict, judged}
use Rattle.laws.proofs.Chains.{sound}
use Rattle.laws.proofs.Differences.{addition, company-at, opposition-at, company_fixed, opposition_fixed}
use Rattle.laws.proofs.DifferencesBalance.{tests_agree, differences_verdict_lem, differences_parameters_lem, differences_judge}
use Rattle.demands.specs.Differences.{FasterCheck}

module _ (h : Head) (d : List ℕ) where
  -- what `judge` answers, by the verdict on the list and by the test of balance
  accepts : design_verdict h d ≡ accepted → balanced h d ≡ true → judged h d ≡ record { verdict = accepted; parameters = parameters_of h d }
  unfolding judge_verdict
  accepts e b = rw (e, b)

  unbalances : design_verdict h d ≡ accepted → balanced h d ≡ false → judged h d ≡ record { verdict = refused 6 0; parameters = no_parameters }
  unfolding judge_verdict
  unbalances e b = rw (e, b)

  refuses : (k at : ℕ) → design_verdict h d ≡ refused k at → judged h d ≡ record { verdict = refused k at; parameters = no_parameters }
  unfolding judge_verdict
  refuses k at e = rw e

  pub faster_check : FasterCheck h d
  faster_check = record {
    apart = λ e i j l m. let g = addition h d (sound h d e) in
        (less h.n (plus h) g i j, less-closed h.n (plus h) g i j l m, reaches h.n (plus h) g i j l m);
    meet = λ e. company-at h d (sound h d e);
    oppose = λ e. opposition-at h d (sound h d e);
    meet-∞ = λ e. company_fixed h d (sound h d e);
    oppose-∞ = λ e. opposition_fixed h d (sound h d e);
    even = λ e. sym (tests_agree h d (sound h d e));
    verdict = differences_verdict_lem h d;
    l1 = λ e. ap (λ (x : Parameters). x.l1) (differences_parameters_lem h d (sound h d e));
    l2 = λ e. ap (λ (x : Parameters). x.l2) (differences_parameters_lem h d (sound h d e));
    answer = differences_judge h d;
    balanced-answer = λ e b. differences_judge h d ∙ accepts e b;
    unbalanced-answer = λ e b. differences_judge h d ∙ unbalances e b;
    refused-answer = λ k at e. differences_judge h d ∙ refuses k at e;
  }
