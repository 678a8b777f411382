-- `size_of`: what a filter keeps is as many as stand there. Assumes nothing.
use Rattle.std.proofs.Common.{◌∙◌, eqb, rules, tests}
use Rattle.std.proofs.lemmas.Iterator.{YieldsList-from_slice}
use Rattle.std.proofs.lemmas.Iterator.Consumers.{YieldsList-from_filter, count_from_yields_List}
use Rattle.groups.proofs.labels.Sizes.{kept}
use Rattle.groups.proofs.labels.size_of.Goals as goal

pub returns : goal.returns
returns c =
    count_from_yields_List c.filter.result _ c.count.ensures.ran
    (YieldsList-from_filter _ (λ y. eqb y c.args.label) (YieldsList-from_slice c.args.groups.now cc) c.filter.ensures.closure (λ x b q k. search (rules, tests)))
    ∙ kept c.args.label c.args.groups.now
