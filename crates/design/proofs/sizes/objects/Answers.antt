use Rattle.std.proofs.Common.{sym, ◌∙◌}
use Rattle.laws.proofs.Chains.{fits}
use Rattle.design.proofs.sizes.objects.Goals as goal

pub counted-requires : goal.counted-requires
counted-requires c = (fits _ (sym c.sized.ensures ∙ c.if-sized.true)).n_most
