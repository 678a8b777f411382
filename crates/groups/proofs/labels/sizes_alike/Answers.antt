-- `sizes_alike`: by what the test of every object says. Assumes nothing.
use Rattle.std.proofs.Common.{◌≡◌, rules, tests}
use Rattle.std.proofs.lemmas.Iterator.{cases_from_all, YieldsList-from_slice}
use Rattle.meaning.specs.Design.{occ}
use Rattle.groups.proofs.labels.Sizes.{alike-all}
use Rattle.groups.proofs.labels.sizes_alike.Goals as goal

pub returns : goal.returns
returns c =
    alike-all c.args.groups.now c.args.size c.all.result
    (cases_from_all _ _ _ (λ x. occ x c.args.groups.now ≡ c.args.size) (λ x. occ x c.args.groups.now ≡ c.args.size → ⊥) c.all.ensures.ran
    (YieldsList-from_slice c.args.groups.now cc) (λ x q k. search (rules, tests)) (λ x q k. search (rules, tests)))
