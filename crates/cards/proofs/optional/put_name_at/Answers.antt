-- `cards::optional::put_name_at`: the name up to the end of the file is what stands there.
use Rattle.std.proofs.Common.{rules}
use Rattle.algebra.proofs.Writing.{named, ◌then◌}
use Rattle.cards.proofs.optional.Parts.{part-within}
use Rattle.cards.proofs.optional.put_name_at.Goals as goal

pub returns : goal.returns
returns c = named (c.put_byte-next.ensures then c.put_name.ensures) (rw (← part-within c.args.file.now c.args.place 8) (search rules))
