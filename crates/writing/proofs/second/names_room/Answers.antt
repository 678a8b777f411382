-- A field has three bytes before its body.
use Rattle.std.proofs.Common.{arith, length, length-append, ◌<◌}
use Rattle.meaning.specs.Writing.{bytes_of}
use Rattle.laws.proofs.Bytes.{bytes-long}
use Rattle.laws.proofs.Edition2.{names-some}
use Rattle.writing.proofs.second.names_room.Goals as goal

pub returns-else-is_empty : goal.returns-else-is_empty
returns-else-is_empty c =
    let names = c.args.names.now in
    let some : 0 < length names = grind arith in
    rw (names-some names some, length-append (bytes_of 2 (length names)) names) (omega (arith, bytes-long 2 (length names)))
