-- `printing::decimals::put_digits` calls itself on a tenth, as `digits` does; the measure is n.
use Rattle.printing.proofs.decimals.+put_digits.Given as goal

abbrev pub decreases-put_digits : goal.decreases-put_digits
decreases-put_digits l = l.n
