-- `printing::decimals::put_wide_digits` calls itself on a tenth, as `digits` does; the measure is the number.
use Rattle.printing.proofs.decimals.Tenths.{size}
use Rattle.printing.proofs.decimals.+put_wide_digits.Given as goal

abbrev pub decreases-put_wide_digits : goal.decreases-put_wide_digits
decreases-put_wide_digits l = size l.x
