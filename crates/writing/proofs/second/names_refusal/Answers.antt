-- A design has at most 50 objects.
use Rattle.std.proofs.Common.{arith}
use Rattle.laws.proofs.Chains.{fits}
use Rattle.writing.proofs.second.names_refusal.Goals as goal

pub overflow_mul-objects : goal.overflow_mul-objects
overflow_mul-objects c = grind (arith, (fits c.args.head c.requires).objects-most)
