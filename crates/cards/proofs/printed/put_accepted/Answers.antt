-- `cards::printed::put_accepted`: the four fields, the names, the other fields.
use Rattle.std.proofs.Common.{◌∙◌, arith, rules}
use Rattle.algebra.proofs.Writing.{◌then◌, named}
use Rattle.cards.proofs.printed.Whole.{within-most, counted}
use Rattle.cards.proofs.printed.put_accepted.Goals as goal

pub put_names-names_end-requires : goal.put_names-names_end-requires
put_names-names_end-requires c = (c.requires.2, omega (arith, c.objects-count.ensures, within-most c.held-held.result.head))

pub returns : goal.returns
returns c =
    named (c.put_four-four_end.ensures then c.put_names-names_end.ensures then c.put_others.ensures)
    (rw (c.objects-count.ensures ∙ counted c.args.four.now c.held-held.result c.held-held.ensures c.requires.0) (search rules))
