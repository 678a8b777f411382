-- The loop of `sheets::sheet::read_lines`: after the first lines, what is read of them and what they claim.
use Rattle.std.proofs.Common.{◌≡◌, length}
use Rattle.meaning.specs.SheetText.{read_to, claims_to, laid}
use Rattle.sheets.proofs.sheet.read_lines.Given as goal

abbrev pub invariant-loop-k : goal.invariant-loop-k
invariant-loop-k l = record {
  read : l.read ≡ read_to (length l.yielded) l.bytes;
  claimed : l.claims ≡ laid (claims_to (length l.yielded) l.bytes) l.fn.claims;
}
