-- `cards::taking::take_member`: an object of the restraint is below 64, and is not yet in it.
use Rattle.std.proofs.Common.{arith, sym, ◌∙◌}
use Rattle.cards.proofs.Keeping.{member-most}
use Rattle.cards.proofs.taking.take_member.Goals as goal

pub with_object-requires : goal.with_object-requires
with_object-requires c =
    (omega (arith, member-most c.args.card.head c.args.word.now _ (sym c.in-Some.is ∙ c.member_of.ensures)), sym c.holds.ensures ∙ c.if-holds-ne0.false)
