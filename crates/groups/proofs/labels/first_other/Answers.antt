-- `first_other`: by what the search after object 0 found. Assumes nothing.
use Rattle.std.proofs.Common.{◌≡◌, true, false, get_or, drop, rules, tests}
use Rattle.std.proofs.lemmas.Iterator.{IsFirst-from_position, YieldsList-from_slice}
use Rattle.std.proofs.lemmas.List.{take_rest}
use Rattle.groups.proofs.labels.Sizes.{sought, other_at, other_none}
use Rattle.groups.proofs.labels.first_other.Goals as goal

pub returns-in-Some : goal.returns-in-Some
returns-in-Some c =
    let first = get_or c.args.groups.now 0 0 in
    let known = IsFirst-from_position _ _ _ (λ x. sought first c.args.alike x ≡ true) (λ x. sought first c.args.alike x ≡ false) c.position.ensures.ran
    (YieldsList-from_slice (drop 1 c.args.groups.now) (cc (take_rest c.args.groups.now 1))) (λ x q k. search (rules, tests)) (λ x q k. search (rules, tests)) in
    other_at c.args.groups.now c.args.alike c.requires _ _ known c.in-Some.is

pub returns-in-None : goal.returns-in-None
returns-in-None c =
    let first = get_or c.args.groups.now 0 0 in
    let known = IsFirst-from_position _ _ _ (λ x. sought first c.args.alike x ≡ true) (λ x. sought first c.args.alike x ≡ false) c.position.ensures.ran
    (YieldsList-from_slice (drop 1 c.args.groups.now) (cc (take_rest c.args.groups.now 1))) (λ x q k. search (rules, tests)) (λ x q k. search (rules, tests)) in
    other_none c.args.groups.now c.args.alike c.requires _ known c.in-None.is
