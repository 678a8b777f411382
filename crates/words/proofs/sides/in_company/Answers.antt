-- Every one of the pair is left in the word just where both bits are 1; a place past the word has none.
use Rattle.std.proofs.Common.{arith, ◌∙◌}
use Rattle.words.proofs.Bits.{bit_past}
use Rattle.words.proofs.sides.Masks.{pair_byte}
use Rattle.words.proofs.sides.in_company.Goals.{then-i-gt63-via-then-i-gt63, then-i-gt63-via-else-i-gt63+then-j-gt63}
use Rattle.words.proofs.sides.in_company.Goals as goal

pub returns-then-i-gt63 : goal.returns-then-i-gt63
returns-then-i-gt63 c = elim c.then-i-gt63.branch [
  | then-i-gt63-via-then-i-gt63 w ↦ rw (bit_past 64 c.args.word c.args.i c.ranges.word.fits (omega arith)) (omega arith)
  | then-i-gt63-via-else-i-gt63+then-j-gt63 w ↦ rw (bit_past 64 c.args.word c.args.j c.ranges.word.fits (omega arith)) (omega arith)
]

pub returns : goal.returns
returns c = c.from.ensures ∙ pair_byte c.args.word c.args.i c.args.j (omega arith) (omega arith)
