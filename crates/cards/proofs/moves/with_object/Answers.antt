-- `cards::moves::with_object`: a bit that is not yet set is added with no carry.
use native.Mathlib.Omega.{arith}
use Rattle.words.proofs.Bits.{shl_one}
use Rattle.cards.proofs.moves.Bits.{bit-room}
use Rattle.cards.proofs.moves.with_object.Goals as goal

pub overflow_add-result : goal.overflow_add-result
overflow_add-result c = omega (arith, shl_one c.args.object (omega arith), bit-room c.args.set c.args.object c.requires.0 (omega arith) c.requires.1)
