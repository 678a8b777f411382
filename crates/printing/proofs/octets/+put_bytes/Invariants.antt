-- `printing::octets::put_bytes` calls itself on the higher bytes, as `bytes_of` does; the measure is the count.
use Rattle.printing.proofs.octets.+put_bytes.Given as goal

abbrev pub decreases-put_bytes : goal.decreases-put_bytes
decreases-put_bytes l = l.count
