use Rattle.std.proofs.Common.{sym, ◌∙◌}
use Rattle.laws.proofs.Chains.{sound}
use Rattle.verdicts.proofs.Told.{accepting}
use Rattle.design.proofs.differences.count_differences.Goals as goal

pub card_of-card-requires : goal.card_of-card-requires
card_of-card-requires c = (sound _ _ (sym c.pairs_refusal-verdict.ensures ∙ accepting _ (sym c.is_refused.ensures ∙ c.if-is_refused.false))).sizes

pub invariant_of-addition : goal.invariant_of-addition
invariant_of-addition c = record {
  fits = (sound _ _ (sym c.pairs_refusal-verdict.ensures ∙ accepting _ (sym c.is_refused.ensures ∙ c.if-is_refused.false))).sizes;
  sums = c.card_of-card.ensures;
}
