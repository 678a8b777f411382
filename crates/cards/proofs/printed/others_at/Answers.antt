-- `cards::printed::others_at`: there are at most 50 names.
use Rattle.std.proofs.Common.{arith}
use Rattle.cards.proofs.printed.Whole.{within-most}
use Rattle.cards.proofs.printed.others_at.Goals as goal

pub overflow_mul-result : goal.overflow_mul-result
overflow_mul-result c = omega (arith, c.objects.ensures, within-most c.args.head)

pub overflow_add-result : goal.overflow_add-result
overflow_add-result c = omega (arith, c.objects.ensures, within-most c.args.head)
