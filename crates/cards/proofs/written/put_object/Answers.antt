-- `cards::written::put_object`: an object is a byte; a word that is none gives nothing.
use Rattle.std.proofs.Common.{arith, sym, ◌∙◌}
use Rattle.algebra.proofs.Writing.{named, nothing}
use Rattle.cards.proofs.Giving.{object-none}
use Rattle.cards.proofs.Keeping.{object-most}
use Rattle.cards.proofs.written.put_object.Goals as goal

pub overflow_cast-object : goal.overflow_cast-object
overflow_cast-object c = omega (arith, object-most c.args.word.now _ (sym c.in-Some.is ∙ c.object_of.ensures))

pub returns-in-None : goal.returns-in-None
returns-in-None c = named (nothing _ _) (object-none c.args.card c.args.word.now (sym c.in-None.is ∙ c.object_of.ensures))
