-- The start of the field, then the names.
use Rattle.std.proofs.Common.{arith, sym}
use Rattle.algebra.proofs.Writing.{◌then◌, named, nothing}
use Rattle.laws.proofs.Edition2.{names-none, names-some}
use Rattle.writing.proofs.second.put_names.Goals as goal

pub returns-then-is_empty : goal.returns-then-is_empty
returns-then-is_empty c = named (nothing c.args.out.now c.args.at) (sym (names-none c.args.names.now (grind arith)))

pub returns : goal.returns
returns c = named (c.put_start-body.ensures then c.put_text.ensures) (sym (names-some c.args.names.now (grind arith)))
