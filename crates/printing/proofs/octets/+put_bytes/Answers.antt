-- What `printing::octets::put_bytes` returns: nothing is put for no bytes, else the higher bytes and then the last one.
use Rattle.std.proofs.Common.{rules, arith}
use Rattle.algebra.proofs.Writing.{◌then◌, named, nothing}
use Rattle.printing.proofs.octets.Numbers.{bytes-end, bytes-last}
use Rattle.printing.proofs.octets.+put_bytes.Goals as goal

pub returns-then-count-eq0 : goal.returns-then-count-eq0
returns-then-count-eq0 t c = named (nothing _ _) (rw (bytes-end c.args.count c.args.x (omega arith)) (search rules))

pub returns : goal.returns
returns t c =
    named (c.put_bytes-next.ensures then c.put_byte.ensures) (rw (bytes-last c.args.count c.args.x (λ e. omega arith)) (search rules))
