-- The loop of `sheets::numerals::number`: what is asked of the word is asked of the digits that are left, after the number so far.
use Rattle.std.proofs.Common.{◌≡◌, ◌≤◌, drop}
use Rattle.meaning.specs.SheetText.{digital, decimal}
use Rattle.sheets.proofs.numerals.number.Given as goal

abbrev pub invariant-loop-byte : goal.invariant-loop-byte
invariant-loop-byte l = record {
  small : l.n ≤ l.limit;
  digits : digital l.word ≡ digital (drop l.byte-index l.word);
  value : decimal 0 l.word ≡ decimal l.n (drop l.byte-index l.word);
}
