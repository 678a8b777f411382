-- Under the mask of one place the bit is left; a place past the word has none.
use Rattle.std.proofs.Common.{sym, arith, ◌∙◌}
use Rattle.words.proofs.Bits.{bit_past}
use Rattle.words.proofs.sides.Masks.{place-left}
use Rattle.words.proofs.sides.holds.Goals as goal

pub returns-then-i-gt63 : goal.returns-then-i-gt63
returns-then-i-gt63 c = sym (bit_past 64 c.args.word c.args.i c.ranges.word.fits (omega arith))

pub returns : goal.returns
returns c = c.from.ensures ∙ place-left c.args.word c.args.i (omega arith)
